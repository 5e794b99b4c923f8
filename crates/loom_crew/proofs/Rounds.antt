-- Choices one behind another.
use Rattle.std.proofs.Common.{ℕ, suc, ◌+◌, ◌-◌, ◌≤◌, ◌≡◌, List, [], ◌∷◌, ◌++◌, refl, sym, ap, ◌∙◌, subst, arith}
use Rattle.loom_trace.specs.Limits.{thread_limit}
use Rattle.loom_world.specs.declared.choice.Choice.{Choice}
use Rattle.loom_world.specs.declared.choice.Choice.TheVariants as c
use Rattle.loom_world.specs.Book.{Book}
use Rattle.loom_world.specs.World.{Lead}
use Rattle.loom_crew.specs.Round.{threads_from, round, two_rounds, rounds}

pub lead_on : (a b d : Book) (xs ys : List Choice) → Lead a xs b → Lead b ys d → Lead a (xs ++ ys) d
lead_on a b d [] ys first second = subst (λ z. Lead z ys d) first second
lead_on a b d (x ∷ xs) ys first second = (first.0, first.1, lead_on first.0 b d xs ys first.2 second)

append_append : (xs ys zs : List Choice) → (xs ++ ys) ++ zs ≡ xs ++ (ys ++ zs)
append_append [] ys zs = refl
append_append (x ∷ xs) ys zs = ap (λ us. x ∷ us) (append_append xs ys zs)

-- so many rounds, and two more
pub two_more : (a b d : Book) (n : ℕ) → Lead a (rounds n) b → Lead b two_rounds d → Lead a (rounds (suc (suc n))) d
two_more a b d n first second = subst (λ xs. Lead a xs d) (sym (append_append (rounds n) round round)) (lead_on a b d (rounds n) two_rounds first second)

-- Thread t comes before the threads behind it, and behind the last one there is none.
pub threads_next : (t : ℕ) → t ≤ thread_limit → threads_from t (thread_limit + 1 - t) ≡ c.Thread t ∷ threads_from (t + 1) (thread_limit + 1 - (t + 1))
threads_next t last =
    let one : thread_limit + 1 - t ≡ suc (thread_limit + 1 - (t + 1)) = omega (arith, last) in
    let next : suc t ≡ t + 1 = omega arith in
    ap (threads_from t) one ∙ ap (λ u. c.Thread t ∷ threads_from u (thread_limit + 1 - (t + 1))) next

pub threads_end : (t n : ℕ) → n ≡ 0 → threads_from t n ≡ []
threads_end t n none = ap (threads_from t) none
