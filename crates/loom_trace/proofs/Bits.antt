-- A bit set in a row of words.
use Rattle.std.proofs.Common.{◌≡◌, ℕ, zero, suc, ◌*◌, ◌/◌, ◌%◌, ◌^◌, ◌<◌, ◌==◌, eq-eqb, ne_eqb, Bool, true, false, if◌then◌else◌, List, length, get_or, set, replicate, sym, refl, ap, subst, ◌∙◌, arith, get_or-set_same, get_or-set_other}
use Rattle.std.specs.Int.{w64}
use Rattle.std.specs.Int.RustNames.{bit_or}
use Rattle.std.proofs.lemmas.Nat.Bits.{bit_at_set_same, bit_at_set_other, bit_at-zero}
use mathlib.Core.Logic.{dite}
use native.Mathlib.Decide.{ℕ_discrete}
use Rattle.loom_trace.specs.Places.{has_bit, has_place}

zeros : (k i : ℕ) → ◌≡◌ {A = ℕ} (get_or (replicate k 0) i 0) 0
zeros zero i = refl
zeros (suc k) zero = refl
zeros (suc k) (suc i) = zeros k i

pub has_none : (k p : ℕ) → has_place (replicate k 0) p ≡ false
has_none k p = ap (λ (w : ℕ). has_bit w p) (zeros k (p / 64)) ∙ ap (λ (b : ℕ). b == 1) (bit_at-zero (p % 64))

-- the word w with bit i set
abbrev with_bit : ℕ → ℕ → ℕ
with_bit w i = bit_or w (1 * 2 ^ i % 2 ^ 64)

pub has_put : (ws : List ℕ) (p q : ℕ) → p / 64 < length ws
    → has_place (set ws (p / 64) (with_bit (get_or ws (p / 64) 0) (p % 64))) q ≡ (if q == p then true else has_place ws q)
has_put ws p q low =
    let new : ℕ = with_bit (get_or ws (p / 64) 0) (p % 64) in
    dite (ℕ_discrete q p)
    (λ e. ap (λ (x : ℕ). has_place (set ws (p / 64) new) x) e
    ∙ (ap (λ (w : ℕ). has_bit w p) (get_or-set_same ws (p / 64) new 0 low)
    ∙ (ap (λ (b : ℕ). b == 1) (bit_at_set_same w64 (get_or ws (p / 64) 0) (p % 64) (omega arith))
    ∙ sym (ap (λ (b : Bool). if b then true else has_place ws q) (eq-eqb q p e)))))
    (λ other. dite (ℕ_discrete (q / 64) (p / 64))
    (λ e. ap (λ (x : ℕ). has_bit (get_or (set ws (p / 64) new) x 0) q) e
    ∙ (ap (λ (w : ℕ). has_bit w q) (get_or-set_same ws (p / 64) new 0 low)
    ∙ (ap (λ (b : ℕ). b == 1) (bit_at_set_other w64 (get_or ws (p / 64) 0) (p % 64) (omega arith) (q % 64) (λ same. other (omega arith)))
    ∙ ap (λ (x : ℕ). has_bit (get_or ws x 0) q) (sym e))))
    (λ far. ap (λ (w : ℕ). has_bit w q) (get_or-set_other ws (p / 64) (q / 64) new 0 far))
    ∙ sym (ap (λ (b : Bool). if b then true else has_place ws q) (ne_eqb q p other)))

pub has_put_at : (ws : List ℕ) (p q i : ℕ) → i ≡ p / 64 → p / 64 < length ws
    → has_place (set ws i (with_bit (get_or ws i 0) (p % 64))) q ≡ (if q == p then true else has_place ws q)
has_put_at ws p q i e low = subst (λ (j : ℕ). has_place (set ws j (with_bit (get_or ws j 0) (p % 64))) q ≡ (if q == p then true else has_place ws q)) (sym e) (has_put ws p q low)
