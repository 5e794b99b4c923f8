-- A request has at most one answer, and what has a cause is answered by it.
use Rattle.std.proofs.Common.{ℕ, suc, ◌≡◌, ℤ, pos, negsuc, true, false, slice_get, Option, Some, None, refl, sym, ap, ◌∙◌, subst, arith}
use Rattle.loom_trace.specs.declared.entry.What.{What}
use Rattle.loom_trace.specs.declared.entry.What.TheVariants as w
use Rattle.loom_trace.specs.declared.request.Request.{Request}
use Rattle.loom_trace.specs.declared.request.Request.TheVariants as r
use Rattle.loom_lang.specs.Trace.{trap, reason}
use Rattle.loom_lang.specs.Acts.{Deed}
use Rattle.loom_syntax.specs.File.{sema_limit}
use Rattle.loom_event.specs.Replay.{ThreadState, Store, thread_at, IsRunning, IsDisabled}
use Rattle.loom_event.specs.Answer.{asks_begin, trap_deed, request_for}
use Rattle.loom_store.specs.declared.answer.Answer.TheVariants as a
use Rattle.loom_store.specs.Answer.{IsGiven, IsGranted, IsTrap, IsTrapped}
use Rattle.loom_store.specs.Laws.{HasOneAnswer, HasExactWaits, is_own_trap, HasExactTraps}
use Rattle.loom_store.proofs.PartAnswers.{running}

-- Disabled requests

-- What is granted isn't disabled.
granted_enabled : (s : Store) (t : ℕ) (q : Request) (v : ℤ) (new : Store) (l : ℕ) (what : What) → IsGranted s t q v new → request_for l what ≡ Some q → IsDisabled s what → ⊥
granted_enabled s t q v new l (w.Lock m) h is d =
    let same : q ≡ r.Lock l m = cc in
    let g : IsGranted s t (r.Lock l m) v new = subst (λ (z : Request). IsGranted s t z v new) same h in
    let by : slice_get s.holders m ≡ Some (Some d.0) = d.1 in
    let free : slice_get s.holders m ≡ Some None = g.0.1 in
    cc
granted_enabled s t q v new l (w.Down k) h is d =
    let same : q ≡ r.Down l k = cc in
    let g : IsGranted s t (r.Down l k) v new = subst (λ (z : Request). IsGranted s t z v new) same h in
    let empty : slice_get s.semas k ≡ Some 0 = d in
    let more : slice_get s.semas k ≡ Some (suc g.0.1.0) = g.0.1.1 in
    cc
granted_enabled s t q v new l (w.Join c) h is d =
    let same : q ≡ r.Join l (pos c) = cc in
    let g : IsGranted s t (r.Join l (pos c)) v new = subst (λ (z : Request). IsGranted s t z v new) same h in
    let found : thread_at s c ≡ Some d.0 = d.1 in
    let there : thread_at s c ≡ Some g.0.1.state = g.0.1.is in
    let one : d.0 ≡ g.0.1.state = cc in
    let both : false ≡ true = sym d.2 ∙ ap (λ (x : ThreadState). x.ended) one ∙ g.0.1.ended in
    cc
granted_enabled s t q v new l (w.Enter k c) h is d = d
granted_enabled s t q v new l (w.Wait k n) h is d = d

-- What is disabled has no cause for a trap.
disabled_untrapped : (s : Store) (t : ℕ) (q : Request) (n l : ℕ) (what : What) → IsTrapped s t q n → request_for l what ≡ Some q → IsDisabled s what → ⊥
disabled_untrapped s t q n l (w.Lock m) h is d = let same : q ≡ r.Lock l m = cc in subst (λ (z : Request). IsTrapped s t z n) same h
disabled_untrapped s t q n l (w.Down k) h is d = let same : q ≡ r.Down l k = cc in subst (λ (z : Request). IsTrapped s t z n) same h
disabled_untrapped s t q n l (w.Join c) h is d =
    let same : q ≡ r.Join l (pos c) = cc in
    let k : IsTrapped s t (r.Join l (pos c)) n = subst (λ (z : Request). IsTrapped s t z n) same h in
    let found : thread_at s c ≡ Some d.0 = d.1 in
    let none : thread_at s c ≡ None = k.1.1 c refl in
    cc
disabled_untrapped s t q n l (w.Enter k c) h is d = d
disabled_untrapped s t q n l (w.Wait k i) h is d = d

-- what a thread waits for, where its request can be disabled
abbrev what_of : Request → Option What
what_of (r.Lock l m) = Some (w.Lock m)
what_of (r.Down l k) = Some (w.Down k)
what_of (r.Join l (pos c)) = Some (w.Join c)
what_of _ = None

what_back : (l : ℕ) (what : What) (q : Request) → request_for l what ≡ Some q → what_of q ≡ Some what
what_back l (w.Lock m) q h = let same : q ≡ r.Lock l m = cc in ap what_of same
what_back l (w.Down k) q h = let same : q ≡ r.Down l k = cc in ap what_of same
what_back l (w.Join c) q h = let same : q ≡ r.Join l (pos c) = cc in ap what_of same
what_back l (w.Enter k c) q h = cc
what_back l (w.Wait k n) q h = cc

one_what : (l m : ℕ) (what that : What) (q : Request) → request_for l what ≡ Some q → request_for m that ≡ Some q → what ≡ that
one_what l m what that q h k =
    let same : ◌≡◌ {A = Option What} (Some what) (Some that) = sym (what_back l what q h) ∙ what_back m that q k in
    cc

-- Traps and values

-- What is granted has no cause for a trap.
granted_untrapped : (s : Store) (t : ℕ) (q : Request) (v : ℤ) (new : Store) (n : ℕ) → IsGranted s t q v new → IsTrapped s t q n → ⊥
granted_untrapped s t (r.Unlock l m) v new n h k = k.1.1 h.0.1
granted_untrapped s t (r.Up l x) v new n h k =
    let count : ℕ = h.0.1.0 in
    let here : slice_get s.semas x ≡ Some count = h.0.1.1 in
    let full : slice_get s.semas x ≡ Some sema_limit = k.1.1 in
    let most : count ≡ sema_limit = cc in
    omega (arith, most, h.0.1.2)
granted_untrapped s t (r.Spawn l f vs) (pos c) new n h k = omega (arith, h.0.1.0, h.0.1.1, k.1.1)
granted_untrapped s t (r.Spawn l f vs) (negsuc c) new n h k = h
granted_untrapped s t (r.Join l (pos c)) v new n h k =
    let none : thread_at s c ≡ None = k.1.1 c refl in
    let there : thread_at s c ≡ Some h.0.1.state = h.0.1.is in
    cc
granted_untrapped s t (r.Join l (negsuc c)) v new n h k = h
granted_untrapped s t q v new n h k = k

-- It is granted with one value.
one_value : (s : Store) (t : ℕ) (q : Request) (v u : ℤ) (new other : Store) → IsGiven q v → IsGranted s t q v new → IsGiven q u → IsGranted s t q u other → v ≡ u
one_value s t (r.Read l x) v u new other g h e k =
    let one : slice_get s.words x ≡ Some v = h.0.1 in
    let two : slice_get s.words x ≡ Some u = k.0.1 in
    cc
one_value s t (r.Spawn l f vs) (pos c) (pos d) new other g h e k = ap pos (h.0.1.0 ∙ sym k.0.1.0)
one_value s t (r.Spawn l f vs) (pos c) (negsuc d) new other g h e k = absurd k
one_value s t (r.Spawn l f vs) (negsuc c) u new other g h e k = absurd h
one_value s t q v u new other g h e k = g ∙ sym e

-- One trap stands in its place.
one_reason : (s : Store) (t : ℕ) (q : Request) (n m : ℕ) → IsTrapped s t q n → IsTrapped s t q m → n ≡ m
one_reason s t (r.Unlock l x) n m h k = h.0 ∙ sym k.0
one_reason s t (r.Up l x) n m h k = h.0 ∙ sym k.0
one_reason s t (r.Spawn l f vs) n m h k = h.0 ∙ sym k.0
one_reason s t (r.Join l v) n m h k = h.0 ∙ sym k.0
one_reason s t q n m h k = absurd h

pub one_answer : HasOneAnswer
one_answer s t q (a.Granted v) (a.Granted u) new other h k = ap a.Granted (one_value s t q v u new other h.0 h.1 k.0 k.1)
one_answer s t q (a.Granted v) (a.Disabled what) new other h k = absurd (granted_enabled s t q v new k.0.0 what h.1 k.0.1 k.1.0)
one_answer s t q (a.Granted v) (a.Trapped n) new other h k = absurd (granted_untrapped s t q v new n h.1 k.0)
one_answer s t q (a.Disabled what) (a.Granted u) new other h k = absurd (granted_enabled s t q u other h.0.0 what k.1 h.0.1 h.1.0)
one_answer s t q (a.Disabled what) (a.Disabled that) new other h k = ap a.Disabled (one_what h.0.0 k.0.0 what that q h.0.1 k.0.1)
one_answer s t q (a.Disabled what) (a.Trapped n) new other h k = absurd (disabled_untrapped s t q n h.0.0 what k.0 h.0.1 h.1.0)
one_answer s t q (a.Trapped n) (a.Granted u) new other h k = absurd (granted_untrapped s t q u other n k.1 h.0)
one_answer s t q (a.Trapped n) (a.Disabled what) new other h k = absurd (disabled_untrapped s t q n k.0.0 what h.0 k.0.1 k.1.0)
one_answer s t q (a.Trapped n) (a.Trapped m) new other h k = ap a.Trapped (one_reason s t q n m h.0 k.0)

-- Causes

pub exact_waits : HasExactWaits
exact_waits s t q x new h l what is d = one_answer s t q x (a.Disabled what) new s h ((l, is), (d, refl))

trapped_by : (s : Store) (t : ℕ) (q : Request) (n : ℕ) → is_own_trap q ≡ false → IsTrap s t (trap_deed q) n → IsTrapped s t q n
trapped_by s t (r.Trap l k) n own h = cc
trapped_by s t q n own h = h

no_begin : (q : Request) (d : Deed) → trap_deed q ≡ Some d → asks_begin q ≡ false
no_begin (r.Begin l) d h = cc
no_begin q d h = refl

pub exact_traps : HasExactTraps
exact_traps s t q x new may h own l c is caused =
    let runs : IsRunning s t = running s t q (no_begin q (record { line = l; act = trap c }) is) may in
    let told : IsTrap s t (trap_deed q) (reason c) = subst (λ o. IsTrap s t o (reason c)) (sym is) (refl, (runs, caused)) in
    one_answer s t q x (a.Trapped (reason c)) new s h (trapped_by s t q (reason c) own told, refl)
