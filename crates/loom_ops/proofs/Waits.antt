-- A wait's answer, and the posts of a journal.
use Rattle.std.proofs.Common.{ℕ, ◌<◌, ◌≤◌, ◌≡◌, true, false, List, Option, Some, None, refl, sym, ◌∙◌, subst, arith}
use Rattle.std.specs.List.{count_by}
use Rattle.loom_trace.specs.declared.entry.Entry.{Entry}
use Rattle.loom_law.specs.Filter.{Plan, is_some, before_in}
use Rattle.loom_law.specs.Control.{is_post}
use Rattle.loom_law.specs.Lawful.{Front, plans, Lacks, HasPosts}
use Rattle.loom_ops.specs.declared.answer.OpAnswer.{OpAnswer}
use Rattle.loom_ops.specs.declared.answer.OpAnswer.TheVariants as a
use Rattle.loom_ops.specs.Ops.{posts_at}
use Rattle.loom_ops.specs.Answer.{AnswersWait, is_short}
use Rattle.loom_ops.specs.Laws.{HasOrderWaits}
use Rattle.loom_ops.proofs.LockReplay.{same_words}

pub lacks : (f : Front) (k : ℕ) (b : Option (ℕ × ℕ)) (posted : ℕ → ℕ) (r : OpAnswer) → ((m : ℕ) → posted m ≡ count_by (is_post k m) f.entries)
    → AnswersWait b posted r → is_short r ≡ true → Lacks f k b
lacks f k None posted a.Granted same told short = absurd cc
lacks f k None posted (a.Held m by) same told short = absurd cc
lacks f k None posted (a.Short m n) same told short = told
lacks f k (Some x) posted a.Granted same told short = absurd cc
lacks f k (Some x) posted (a.Held m by) same told short = absurd cc
lacks f k (Some x) posted (a.Short m n) same told short = subst (λ z. z < x.1) (told.1.0 ∙ same x.0) told.1.1

pub lacks_nothing : (f : Front) (k : ℕ) (b : Option (ℕ × ℕ)) (posted : ℕ → ℕ) (r : OpAnswer) → ((m : ℕ) → posted m ≡ count_by (is_post k m) f.entries)
    → AnswersWait b posted r → is_short r ≡ false → Lacks f k b → ⊥
lacks_nothing f k None posted r same told over less = less
lacks_nothing f k (Some x) posted a.Granted same told over less = omega (arith, told, same x.0, less)
lacks_nothing f k (Some x) posted (a.Held m by) same told over less = told
lacks_nothing f k (Some x) posted (a.Short m n) same told over less = absurd cc

-- where another event stands before this one
enough_posts : (es : List Entry) (k : ℕ) (b : Option (ℕ × ℕ)) (posted : ℕ → ℕ) (r : OpAnswer) → ((m : ℕ) → posted m ≡ count_by (is_post k m) es)
    → AnswersWait b posted r → is_short r ≡ false → is_some b ≡ true → HasPosts es k b
enough_posts es k None posted r same told over behind = absurd cc
enough_posts es k (Some x) posted a.Granted same told over behind = subst (λ z. x.1 ≤ z) (same x.0) told
enough_posts es k (Some x) posted (a.Held m by) same told over behind = absurd told
enough_posts es k (Some x) posted (a.Short m n) same told over behind = absurd cc

wait_over : (es : List Entry) (k : ℕ) (b : Option (ℕ × ℕ)) (posted : ℕ → ℕ) (r : OpAnswer) → ((m : ℕ) → posted m ≡ count_by (is_post k m) es)
    → AnswersWait b posted r → HasPosts es k b → is_short r ≡ false
wait_over es k None posted r same told has = absurd has
wait_over es k (Some x) posted a.Granted same told has = refl
wait_over es k (Some x) posted (a.Held m by) same told has = absurd told
wait_over es k (Some x) posted (a.Short m n) same told has = absurd (omega (arith, told.1.0, told.1.1, same x.0, has))

pub order_waits : HasOrderWaits
order_waits = record {
  clause = λ s f o k n is. sym is.holders;
  event = λ s f o k n is are there low high. (same_words.before (plans s) f.control o k n is there low high, λ m. are k m there);
  short = λ s f o k n r told says short.
      lacks f k (before_in n (Plan.rulings (plans s k))) (posts_at o.posts k) r told.1 (subst (λ (b : Option (ℕ × ℕ)). AnswersWait b (posts_at o.posts k) r) told.0 says) short;
  enough = λ s f o k n r told says no behind.
      enough_posts f.entries k (before_in n (Plan.rulings (plans s k))) (posts_at o.posts k) r told.1 (subst (λ (b : Option (ℕ × ℕ)). AnswersWait b (posts_at o.posts k) r) told.0 says) no behind;
  over = λ s f o k n r told says has.
      wait_over f.entries k (before_in n (Plan.rulings (plans s k))) (posts_at o.posts k) r told.1 (subst (λ (b : Option (ℕ × ℕ)). AnswersWait b (posts_at o.posts k) r) told.0 says) has;
}
