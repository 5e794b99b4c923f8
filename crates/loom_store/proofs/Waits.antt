-- Whether what a thread waits for is disabled.
use Rattle.std.proofs.Common.{ℕ, zero, suc, ◌<◌, ◌≡◌, Bool, true, false, nat_eq, length, get_or, slice_get, Option, Some, None, is_some, refl, sym, subst, arith}
use Rattle.std.proofs.lemmas.Bool.{eqb-true}
use Rattle.std.proofs.lemmas.Option.{slice_get_read}
use Rattle.loom_trace.specs.declared.entry.What.{What}
use Rattle.loom_trace.specs.declared.entry.What.TheVariants as w
use Rattle.loom_event.specs.Replay.{Store, IsDisabled}
use Rattle.loom_store.specs.Answer.{CanWait}

-- The test tells it.
abbrev pub Tells : Bool → Store → What → Type 0
Tells b s what = (b ≡ true → IsDisabled s what) × (b ≡ false → IsDisabled s what → ⊥)

tells_same : (b : Bool) (s old : Store) (v what : What) → s ≡ old → what ≡ v → CanWait old what → (CanWait s v → Tells b s v) → Tells b old what
tells_same b s old v what store is can h =
    let may : CanWait s v = subst (λ (z : Store). CanWait z v) (sym store) (subst (CanWait old) is can) in
    subst (λ (z : What). Tells b old z) (sym is) (subst (λ (z : Store). Tells b z v) store (h may))

held_here : (s : Store) (m : ℕ) (o : Option ℕ) → slice_get s.holders m ≡ Some o → Tells (is_some o) s (w.Lock m)
held_here s m None is = (λ h. cc, λ h d. let e = d.1 in cc)
held_here s m (Some t) is = (λ h. (t, is), λ h d. cc)

pub held : (s old : Store) (what : What) (m : ℕ) (o : Option ℕ) → s ≡ old → what ≡ w.Lock m → CanWait old what → o ≡ get_or s.holders m o
    → Tells (is_some o) old what
held s old what m o store is can at =
    tells_same (is_some o) s old (w.Lock m) what store is can (λ (few : m < length s.holders). held_here s m o (slice_get_read s.holders (length s.holders) m o refl few at))

empty_here : (s : Store) (k n : ℕ) → slice_get s.semas k ≡ Some n → Tells (nat_eq n 0) s (w.Down k)
empty_here s k zero is = (λ h. is, λ h d. cc)
empty_here s k (suc n) is = (λ h. let none : suc n ≡ 0 = eqb-true (suc n) 0 h in absurd (omega (arith, none)), λ h d. cc)

pub empty : (s old : Store) (what : What) (k n : ℕ) → s ≡ old → what ≡ w.Down k → CanWait old what → n ≡ get_or s.semas k n
    → Tells (nat_eq n 0) old what
empty s old what k n store is can at =
    tells_same (nat_eq n 0) s old (w.Down k) what store is can (λ (few : k < length s.semas). empty_here s k n (slice_get_read s.semas (length s.semas) k n refl few at))
