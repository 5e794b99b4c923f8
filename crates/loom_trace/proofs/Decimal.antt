-- Decimal numbers: their digits one by one, and that the library writes them.
use Rattle.std.proofs.Common.{ℕ, zero, suc, ◌+◌, ◌/◌, ◌%◌, ◌^◌, ◌<◌, ◌≤◌, ◌≡◌, ℤ, pos, negsuc, FitsSigned, w64, List, [], ◌∷◌, ◌++◌, length, length-append, int_le, unsigned_abs, true, false, true≢false, refl, sym, ap, subst, ◌∙◌, inl, inr, arith}
use Rattle.std.proofs.lemmas.Bool.{lt-ltb, le-ltb, cases_lt}
use Rattle.std.proofs.lemmas.Fmt as fmt
use Rattle.std.proofs.lemmas.Fmt.{length-decimal-le}
use lib.Dec.{leb-zero}
use Rattle.std.specs.Fmt as std
use Rattle.loom_tree.specs.Decimal.{digits_within, decimal, signed_decimal}

digits_small : (k n : ℕ) → n < 10 → digits_within (suc k) n ≡ (48 + n) ∷ []
digits_small k n h = rw (lt-ltb n 10 h) refl

digits_large : (k n : ℕ) → 10 ≤ n → digits_within (suc k) n ≡ digits_within k (n / 10) ++ (48 + n % 10) ∷ []
digits_large k n h = rw (le-ltb n 10 h) refl

digits_enough : (j k n : ℕ) → n < j → n < k → digits_within j n ≡ digits_within k n
digits_enough zero k n a b = absurd (omega (arith, a))
digits_enough (suc j) zero n a b = absurd (omega (arith, b))
digits_enough (suc j) (suc k) n a b =
    elim (cases_lt n 10) [
      | inl l ↦ digits_small j n l ∙ sym (digits_small k n l)
      | inr l ↦ digits_large j n l ∙ ap (λ ds. ds ++ (48 + n % 10) ∷ []) (digits_enough j k (n / 10) (omega (arith, a, l)) (omega (arith, b, l))) ∙ sym (digits_large k n l)
    ]

pub decimal_digit : (n : ℕ) → n < 10 → decimal n ≡ (48 + n) ∷ []
unfolding decimal
decimal_digit n h = digits_small n n h

pub decimal_step : (n : ℕ) → 10 ≤ n → decimal n ≡ decimal (n / 10) ++ (48 + n % 10) ∷ []
unfolding decimal
decimal_step n h = digits_large n n h ∙ ap (λ ds. ds ++ (48 + n % 10) ∷ []) (digits_enough n (suc (n / 10)) (n / 10) (omega (arith, h)) (omega arith))

-- the library's text of a number is this one
pub same_decimal : (n : ℕ) → n < 2 ^ 64 → std.decimal n ≡ decimal n
same_decimal n h =
    fmt.decimal_by_steps (λ m ds. ds ≡ decimal m)
    (λ m l. sym (decimal_digit m l))
    (λ m ds l e. ap (λ z. z ++ (48 + m % 10) ∷ []) e ∙ sym (decimal_step m l))
    n h

pub same_signed : (z : ℤ) → FitsSigned w64 z → std.signed_decimal z ≡ signed_decimal z
same_signed (pos n) h = same_decimal n (omega (arith, h.sfits))
same_signed (negsuc n) h = ap (λ ds. 45 ∷ ds) (same_decimal (suc n) (omega (arith, h.sfits)))

-- how many digits there are

length_step : (n : ℕ) → 10 ≤ n → length (decimal n) ≡ length (decimal (n / 10)) + 1
length_step n h = ap length (decimal_step n h) ∙ length-append (decimal (n / 10)) ((48 + n % 10) ∷ [])

pub one_digit : (n : ℕ) → n < 10 → length (decimal n) ≡ 1
one_digit n h = ap length (decimal_digit n h)

pub two_digits : (n : ℕ) → 10 ≤ n → n < 100 → length (decimal n) ≡ 2
two_digits n lo hi = length_step n lo ∙ ap (λ (k : ℕ). k + 1) (one_digit (n / 10) (omega (arith, hi)))

pub three_digits : (n : ℕ) → 100 ≤ n → n < 1000 → length (decimal n) ≡ 3
three_digits n lo hi = length_step n (omega (arith, lo)) ∙ ap (λ (k : ℕ). k + 1) (two_digits (n / 10) (omega (arith, lo)) (omega (arith, hi)))

pub four_digits : (n : ℕ) → 1000 ≤ n → n < 10000 → length (decimal n) ≡ 4
four_digits n lo hi = length_step n (omega (arith, lo)) ∙ ap (λ (k : ℕ). k + 1) (three_digits (n / 10) (omega (arith, lo)) (omega (arith, hi)))

pub ruleset short_lengths = (one_digit, two_digits, three_digits, four_digits)

same_length : (m n : ℕ) → m ≡ n → length (decimal m) ≡ length (decimal n)
same_length m n e = ap (λ (k : ℕ). length (decimal k)) e

pub four_more : (n : ℕ) → 10000 ≤ n → length (decimal n) ≡ 4 + length (decimal (n / 10000))
four_more n h =
    let a = length_step n (omega (arith, h)) in
    let b = length_step (n / 10) (omega (arith, h)) in
    let c = length_step (n / 10 / 10) (omega (arith, h)) in
    let d = length_step (n / 10 / 10 / 10) (omega (arith, h)) in
    let e = same_length (n / 10 / 10 / 10 / 10) (n / 10000) (omega arith) in
    omega (arith, a, b, c, d, e)

pub eight_more : (n : ℕ) → 100000000 ≤ n → length (decimal n) ≡ 8 + length (decimal (n / 100000000))
eight_more n h =
    let a = four_more n (omega (arith, h)) in
    let b = four_more (n / 10000) (omega (arith, h)) in
    let e = same_length (n / 10000 / 10000) (n / 100000000) (omega arith) in
    omega (arith, a, b, e)

pub twelve_more : (n : ℕ) → 1000000000000 ≤ n → length (decimal n) ≡ 12 + length (decimal (n / 1000000000000))
twelve_more n h =
    let a = eight_more n (omega (arith, h)) in
    let b = four_more (n / 100000000) (omega (arith, h)) in
    let e = same_length (n / 100000000 / 10000) (n / 1000000000000) (omega arith) in
    omega (arith, a, b, e)

pub sixteen_more : (n : ℕ) → 10000000000000000 ≤ n → length (decimal n) ≡ 16 + length (decimal (n / 10000000000000000))
sixteen_more n h =
    let a = eight_more n (omega (arith, h)) in
    let b = eight_more (n / 100000000) (omega (arith, h)) in
    let e = same_length (n / 100000000 / 100000000) (n / 10000000000000000) (omega arith) in
    omega (arith, a, b, e)

pub ruleset shifted_lengths = (four_more, eight_more, twelve_more, sixteen_more)

length_most : (k n : ℕ) → 0 < k → n < 10 ^ k → n < 2 ^ 64 → length (decimal n) ≤ k
length_most k n z h w = subst (λ (ds : List ℕ). length ds ≤ k) (same_decimal n w) (length-decimal-le k n z h w)

pub length_u8 : (n : ℕ) → n < 2 ^ 8 → length (decimal n) ≤ 3
length_u8 n h = length_most 3 n (omega arith) (omega (arith, h)) (omega (arith, h))

pub length_u16 : (n : ℕ) → n < 2 ^ 16 → length (decimal n) ≤ 5
length_u16 n h = length_most 5 n (omega arith) (omega (arith, h)) (omega (arith, h))

pub length_u32 : (n : ℕ) → n < 2 ^ 32 → length (decimal n) ≤ 10
length_u32 n h = length_most 10 n (omega arith) (omega (arith, h)) (omega (arith, h))

-- of a value without its sign
pub length_size : (n : ℕ) → n ≤ 2 ^ 63 → length (decimal n) ≤ 19
length_size n h = length_most 19 n (omega arith) (omega (arith, h)) (omega (arith, h))

-- a value's sign and size

pub plain_value : (z : ℤ) → int_le (pos 0) z ≡ true → decimal (unsigned_abs z) ≡ signed_decimal z
plain_value (pos n) e = refl
plain_value (negsuc n) e = absurd (true≢false (sym e))

pub minus_value : (z : ℤ) → int_le (pos 0) z ≡ false → 45 ∷ decimal (unsigned_abs z) ≡ signed_decimal z
minus_value (pos n) e = absurd (true≢false (sym (leb-zero n) ∙ e))
minus_value (negsuc n) e = refl
