-- A number in decimal tells the number.
use Rattle.std.proofs.Common.{ℕ, zero, suc, ◌+◌, ◌-◌, ◌*◌, ◌/◌, ◌%◌, ◌≤◌, ◌≡◌, List, [], ◌∷◌, ◌++◌, inl, inr, refl, sym, ap, ◌∙◌, arith}
use Rattle.std.proofs.lemmas.Bool.{lt-ltb, le-ltb, cases_lt}
use Rattle.loom_tree.specs.Decimal.{digits_within, decimal}
use Rattle.loom_lexer.specs.Tokens.{value_from}

value_behind : (v d : ℕ) (ds : List ℕ) → value_from v (ds ++ d ∷ []) ≡ 10 * value_from v ds + (d - 48)
value_behind v d [] = refl
value_behind v d (c ∷ ds) = value_behind (10 * v + (c - 48)) d ds

value_within : (most n : ℕ) → n ≤ most → value_from 0 (digits_within (suc most) n) ≡ n
value_within zero n h = let z : n ≡ 0 = omega (arith, h) in rw z refl
value_within (suc most) n h = behind (value_within most (n / 10))
  where
    behind : (n / 10 ≤ most → value_from 0 (digits_within (suc most) (n / 10)) ≡ n / 10) → value_from 0 (digits_within (suc (suc most)) n) ≡ n
    behind again = elim (cases_lt n 10) [
      | inl l ↦ rw (lt-ltb n 10 l) (omega arith)
      | inr l ↦
          rw (le-ltb n 10 l)
          (value_behind 0 (48 + n % 10) (digits_within (suc most) (n / 10)) ∙ rw (again (omega (arith, h, l))) (omega arith))
    ]

pub value_decimal : (n : ℕ) → value_from 0 (decimal n) ≡ n
unfolding decimal
value_decimal n = value_within n n (omega arith)

pub one_decimal : (n m : ℕ) → decimal n ≡ decimal m → n ≡ m
one_decimal n m e = sym (value_decimal n) ∙ ap (value_from 0) e ∙ value_decimal m
