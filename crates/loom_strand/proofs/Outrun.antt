-- Whether a version outruns the last one that was taken.
use Rattle.std.proofs.Common.{ℕ, ◌-◌, ◌≡◌, ◌<◌, List, [], ◌∷◌, length, Some, slice_get, sym, subst, arith}
use Rattle.loom_law.specs.Walk.{Version}
use Rattle.loom_strand.specs.Strand.{IsOutrun}

same_version : (u x : Version) → Some u ≡ Some x → u ≡ x
same_version u x e = cc

outruns_at : (x : Version) (vs : List Version) (u v : Version) → Some u ≡ slice_get (x ∷ vs) (length vs) → u.number < v.number → IsOutrun (x ∷ vs) v
outruns_at x [] u v e h = subst (λ (w : Version). w.number < v.number) (same_version u x e) h
outruns_at x (y ∷ vs) u v e h = outruns_at y vs u v e h

at_outrun : (x : Version) (vs : List Version) (u v : Version) → Some u ≡ slice_get (x ∷ vs) (length vs) → IsOutrun (x ∷ vs) v → u.number < v.number
at_outrun x [] u v e h = subst (λ (w : Version). w.number < v.number) (sym (same_version u x e)) h
at_outrun x (y ∷ vs) u v e h = at_outrun y vs u v e h

last_at : (x : Version) (vs : List Version) (u : Version) → Some u ≡ slice_get (x ∷ vs) (length (x ∷ vs) - 1) → Some u ≡ slice_get (x ∷ vs) (length vs)
last_at x vs u e =
    let same : length (x ∷ vs) - 1 ≡ length vs = omega arith in
    subst (λ (n : ℕ). Some u ≡ slice_get (x ∷ vs) n) same e

-- It does so exactly where its number is greater.
pub outruns_last : (vs : List Version) (u v : Version) → Some u ≡ slice_get vs (length vs - 1) → u.number < v.number → IsOutrun vs v
outruns_last [] u v e h = cc
outruns_last (x ∷ vs) u v e h = outruns_at x vs u v (last_at x vs u e) h

pub last_outrun : (vs : List Version) (u v : Version) → Some u ≡ slice_get vs (length vs - 1) → IsOutrun vs v → u.number < v.number
last_outrun [] u v e h = absurd h
last_outrun (x ∷ vs) u v e h = at_outrun x vs u v (last_at x vs u e) h
