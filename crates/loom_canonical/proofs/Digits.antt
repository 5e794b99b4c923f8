-- The digits of a number in decimal.
use Rattle.std.proofs.Common.{ℕ, zero, suc, ◌+◌, ◌-◌, ◌*◌, ◌/◌, ◌%◌, ◌≤◌, ◌<◌, ◌≡◌, true, List, [], ◌∷◌, ◌++◌, inl, inr, refl, ◌∙◌, arith}
use Rattle.std.proofs.lemmas.Bool.{lt-ltb, le-ltb, cases_lt, le-leb}
use Rattle.loom_tree.specs.Decimal.{digits_within, decimal}
use Rattle.loom_lexer.specs.Lexeme.{is_digit, Each}
use Rattle.loom_lexer.specs.Tokens.{value_from}

-- one digit at least, and nothing else
abbrev pub AreDigits : List ℕ → Type 0
AreDigits [] = ⊥
AreDigits (d ∷ ds) = (is_digit d ≡ true) × Each is_digit ds

value_behind : (v d : ℕ) (ds : List ℕ) → value_from v (ds ++ d ∷ []) ≡ 10 * value_from v ds + (d - 48)
value_behind v d [] = refl
value_behind v d (c ∷ ds) = value_behind (10 * v + (c - 48)) d ds

value_within : (most n : ℕ) → n ≤ most → value_from 0 (digits_within (suc most) n) ≡ n
value_within zero n h = let z : n ≡ 0 = omega (arith, h) in rw z refl
value_within (suc most) n h = behind (value_within most (n / 10))
  where
    behind : (n / 10 ≤ most → value_from 0 (digits_within (suc most) (n / 10)) ≡ n / 10) → value_from 0 (digits_within (suc (suc most)) n) ≡ n
    behind again = elim (cases_lt n 10) [
      | inl l ↦ rw (lt-ltb n 10 l) (omega arith)
      | inr l ↦
          rw (le-ltb n 10 l)
          (value_behind 0 (48 + n % 10) (digits_within (suc most) (n / 10)) ∙ rw (again (omega (arith, h, l))) (omega arith))
    ]

pub value_decimal : (n : ℕ) → value_from 0 (decimal n) ≡ n
unfolding decimal
value_decimal n = value_within n n (omega arith)

digit : (d : ℕ) → d < 10 → is_digit (48 + d) ≡ true
digit d l = rw (le-leb 48 (48 + d) (omega arith), le-leb (48 + d) 57 (omega (arith, l))) refl

each_behind : (d : ℕ) (ds : List ℕ) → is_digit d ≡ true → Each is_digit ds → Each is_digit (ds ++ d ∷ [])
each_behind d [] h k = (h, tt)
each_behind d (c ∷ ds) h k = (k.0, each_behind d ds h k.1)

digits_behind : (d : ℕ) (ds : List ℕ) → is_digit d ≡ true → AreDigits ds → AreDigits (ds ++ d ∷ [])
digits_behind d [] h k = absurd k
digits_behind d (c ∷ ds) h k = (k.0, each_behind d ds h k.1)

digits_of : (most n : ℕ) → n ≤ most → AreDigits (digits_within (suc most) n)
digits_of zero n h = let z : n ≡ 0 = omega (arith, h) in rw z (refl, tt)
digits_of (suc most) n h = behind (digits_of most (n / 10))
  where
    behind : (n / 10 ≤ most → AreDigits (digits_within (suc most) (n / 10))) → AreDigits (digits_within (suc (suc most)) n)
    behind again = elim (cases_lt n 10) [
      | inl l ↦ rw (lt-ltb n 10 l) (digit n l, tt)
      | inr l ↦ rw (le-ltb n 10 l) (digits_behind (48 + n % 10) (digits_within (suc most) (n / 10)) (digit (n % 10) (omega arith)) (again (omega (arith, h, l))))
    ]

pub decimal_digits : (n : ℕ) → AreDigits (decimal n)
unfolding decimal
decimal_digits n = digits_of n n (omega arith)
