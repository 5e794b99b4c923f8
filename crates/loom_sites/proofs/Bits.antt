-- Sets of functions, bit by bit.
use Rattle.std.proofs.Common.{ℕ, ◌+◌, ◌%◌, ◌^◌, ◌<◌, ◌≡◌, ◌==◌, Bool, true, false, not, ◌&&◌, ◌||◌, max, min, refl, sym, ap, subst, ◌∙◌, arith, eq-eqb, ne_eqb}
use Rattle.std.specs.Int.{w64, bit_at, trailing_zeros}
use Rattle.std.specs.Int.RustNames.{bit_or, bit_xor}
use Rattle.std.specs.Prelude.{bit_and}
use Rattle.std.proofs.lemmas.Nat.Bits.{bit_at_or, bit_at_xor, bit_at_and, bit_at-zero, bit_at-lt, bit_at-pow_same, bit_at-pow_other, bit_at-trailing_zeros, same_from_bits}
use Rattle.std.proofs.lemmas.Bool.{eqb-false}
use Rattle.std.proofs.lemmas.Bool.Decides.{nat_tests}
use Rattle.std.proofs.Math.Decide.{ℕ_discrete}
use Rattle.loom_sites.specs.Functions.{has_function}

either : (x y : ℕ) → x < 2 → y < 2 → (max x y == 1) ≡ ((x == 1) || (y == 1))
either x y a b = grind (arith, nat_tests)

both : (x y : ℕ) → x < 2 → y < 2 → (min x y == 1) ≡ ((x == 1) && (y == 1))
both x y a b = grind (arith, nat_tests)

one : (x y : ℕ) → x < 2 → y < 2 → ((x + y) % 2 == 1) ≡ (((x == 1) && not (y == 1)) || (not (x == 1) && (y == 1)))
one x y a b = grind (arith, nat_tests)

pub has_either : (a b g : ℕ) → has_function (bit_or a b) g ≡ (has_function a g || has_function b g)
has_either a b g = ap (λ (x : ℕ). x == 1) (bit_at_or a b g) ∙ either (bit_at a g) (bit_at b g) (bit_at-lt a g) (bit_at-lt b g)

pub has_both : (a b g : ℕ) → has_function (bit_and a b) g ≡ (has_function a g && has_function b g)
has_both a b g = ap (λ (x : ℕ). x == 1) (bit_at_and a b g) ∙ both (bit_at a g) (bit_at b g) (bit_at-lt a g) (bit_at-lt b g)

pub has_other : (a b g : ℕ) → has_function (bit_xor a b) g ≡ ((has_function a g && not (has_function b g)) || (not (has_function a g) && has_function b g))
has_other a b g = ap (λ (x : ℕ). x == 1) (bit_at_xor a b g) ∙ one (bit_at a g) (bit_at b g) (bit_at-lt a g) (bit_at-lt b g)

pub has_one : (f g : ℕ) → has_function (2 ^ f) g ≡ (f == g)
has_one f g =
    elim (ℕ_discrete g f) [
      | yes e ↦ (let P : ℕ → Type 0 = λ z. has_function (2 ^ f) z ≡ (f == z) in subst P (sym e) (ap (λ (x : ℕ). x == 1) (bit_at-pow_same f) ∙ sym (eq-eqb f f refl)))
      | no d ↦ ap (λ (x : ℕ). x == 1) (bit_at-pow_other f g d) ∙ sym (ne_eqb f g (λ e. d (sym e)))
    ]

pub with_bit : (bits b f g : ℕ) → b ≡ 2 ^ f → has_function (bit_or bits b) g ≡ (has_function bits g || (f == g))
with_bit bits b f g e = ap (λ (z : ℕ). has_function (bit_or bits z) g) e ∙ (has_either bits (2 ^ f) g ∙ ap (λ (t : Bool). has_function bits g || t) (has_one f g))

or_nothing : (b : Bool) → b ≡ (b || false)
or_nothing true = refl
or_nothing false = refl

pub no_call : (bits g : ℕ) → has_function bits g ≡ (has_function bits g || false)
no_call bits g = or_nothing (has_function bits g)

pub none_of_zero : (g : ℕ) → has_function 0 g ≡ false
none_of_zero g = ap (λ (x : ℕ). x == 1) (bit_at-zero g)

pub least : (bits : ℕ) → 0 < bits → bits < 2 ^ 64 → (has_function bits (trailing_zeros w64 bits) ≡ true) × (trailing_zeros w64 bits < 64)
least bits low high = let h = bit_at-trailing_zeros w64 bits low high in (ap (λ (x : ℕ). x == 1) h.1, h.0)

-- a set that has none is 0
bit_of : (bits g : ℕ) → has_function bits g ≡ false → bit_at bits g ≡ bit_at 0 g
bit_of bits g h =
    let low = bit_at-lt bits g in
    let zero = bit_at-zero g in
    let other : bit_at bits g ≡ 1 → ⊥ = eqb-false (bit_at bits g) 1 h in
    omega arith

pub empty : (bits : ℕ) → ((g : ℕ) → has_function bits g ≡ false) → bits ≡ 0
empty bits h = same_from_bits bits 0 (λ g. bit_of bits g (h g))
