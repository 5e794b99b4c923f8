-- Digits that were written into cells from their end.
use Rattle.std.proofs.Common.{ℕ, ◌+◌, ◌-◌, ◌≤◌, ◌≡◌, List, ◌++◌, take, drop, length, refl, sym, ap, subst, ◌∙◌, arith}
use Rattle.std.proofs.lemmas.List.{take_at, take-append-drop, length-append, length-drop, length-take-le}
use Rattle.std.proofs.Math.Seq.{take-add}

-- what stands before the end
pub written_text : (old new ds : List ℕ) (at end : ℕ) → at + length ds ≡ end → take at new ≡ take at old → drop at new ≡ ds ++ drop end old → take end new ≡ take at old ++ ds
written_text old new ds at end e before behind =
    ap (λ (k : ℕ). take k new) (sym e)
    ∙ take-add at (length ds) new
    ∙ ap (λ (z : List ℕ). z ++ take (length ds) (drop at new)) before
    ∙ ap (λ (z : List ℕ). take at old ++ take (length ds) z) behind
    ∙ ap (λ (z : List ℕ). take at old ++ z) (take_at ds (drop end old) (length ds) refl)

-- the cells are as many as before
pub written_length : (old new ds : List ℕ) (at end : ℕ) → at + length ds ≡ end → end ≤ length old → take at new ≡ take at old → drop at new ≡ ds ++ drop end old → length new ≡ length old
written_length old new ds at end e low before behind =
    let whole = ap length (take-append-drop at new) in
    let parts = length-append (take at new) (drop at new) in
    let front : length (take at new) ≡ at = ap length before ∙ length-take-le at old (omega (arith, e, low)) in
    let rest : length (drop at new) ≡ length ds + (length old - end) = ap length behind ∙ length-append ds (drop end old) ∙ ap (λ (k : ℕ). length ds + k) (length-drop end old) in
    omega (arith, whole, parts, front, rest, e, low)
