-- The number that digits write.
use Rattle.std.proofs.Common.{ℕ, zero, suc, ◌+◌, ◌-◌, ◌*◌, ◌/◌, ◌%◌, ◌<◌, ◌≤◌, ◌≡◌, nat_eq, if◌then◌else◌, ℤ, pos, negsuc, neg_ℤ, List, [], ◌∷◌, ◌++◌, map, refl, ap, ◌∙◌, inl, inr, arith}
use Rattle.std.proofs.lemmas.Bool.{lt-ltb, ne_eqb, cases_lt}
use Rattle.loom_tree.specs.Decimal.{decimal, signed_decimal}
use Rattle.loom_trace.proofs.Cut.{Each, above}
use Rattle.loom_trace.proofs.Decimal.{decimal_digit, decimal_step}

abbrev pub number_after : ℕ → List ℕ → ℕ
number_after n [] = n
number_after n (d ∷ ds) = number_after (n * 10 + (d - 48)) ds

abbrev pub number : List ℕ → ℕ
number ds = number_after 0 ds

-- each byte is a digit
abbrev pub Digits : List ℕ → Type 0
Digits [] = Unit {0}
Digits (b ∷ bs) = (48 ≤ b) × (b ≤ 57) × Digits bs

number_append : (n : ℕ) (xs ys : List ℕ) → number_after n (xs ++ ys) ≡ number_after (number_after n xs) ys
number_append n [] ys = refl
number_append n (x ∷ xs) ys = number_append (n * 10 + (x - 48)) xs ys

digits_append : (xs ys : List ℕ) → Digits xs → Digits ys → Digits (xs ++ ys)
digits_append [] ys h k = k
digits_append (x ∷ xs) ys h k = (h.0, h.1, digits_append xs ys h.2 k)

number_below : (k n : ℕ) → n < k → number (decimal n) ≡ n
number_below zero n h = absurd (omega (arith, h))
number_below (suc k) n h =
    elim (cases_lt n 10) [
      | inl l ↦ rw (decimal_digit n l) (omega arith)
      | inr l ↦
          let i = number_below k (n / 10) (omega (arith, h, l)) in
          rw (decimal_step n l, number_append 0 (decimal (n / 10)) ((48 + n % 10) ∷ []), i) (omega arith)
    ]

pub number_told : (n : ℕ) → number (decimal n) ≡ n
number_told n = number_below (suc n) n (omega arith)

digits_below : (k n : ℕ) → n < k → Digits (decimal n)
digits_below zero n h = absurd (omega (arith, h))
digits_below (suc k) n h =
    elim (cases_lt n 10) [
      | inl l ↦ rw (decimal_digit n l) (omega (arith, l), omega (arith, l), tt)
      | inr l ↦ rw (decimal_step n l) (digits_append (decimal (n / 10)) ((48 + n % 10) ∷ []) (digits_below k (n / 10) (omega (arith, h, l))) (omega arith, omega arith, tt))
    ]

pub digits_told : (n : ℕ) → Digits (decimal n)
digits_told n = digits_below (suc n) n (omega arith)

-- the number that digits write, or a minus and digits
abbrev pub signed_number : List ℕ → ℤ
signed_number [] = pos 0
signed_number (b ∷ bs) = if nat_eq b 45 then neg_ℤ (pos (number bs)) else pos (number (b ∷ bs))

signed_digits : (ds : List ℕ) → Digits ds → signed_number ds ≡ pos (number ds)
signed_digits [] h = refl
signed_digits (b ∷ bs) h = rw (ne_eqb b 45 (λ e. omega (arith, e, h.0))) refl

pub signed_told : (z : ℤ) → signed_number (signed_decimal z) ≡ z
signed_told (pos n) = signed_digits (decimal n) (digits_told n) ∙ ap pos (number_told n)
signed_told (negsuc n) = ap (λ (k : ℕ). neg_ℤ (pos k)) (number_told (suc n))

pub numbers_told : (ns : List ℕ) → map number (map decimal ns) ≡ ns
numbers_told [] = refl
numbers_told (n ∷ ns) = rw (number_told n, numbers_told ns) refl

pub values_told : (zs : List ℤ) → map signed_number (map signed_decimal zs) ≡ zs
values_told [] = refl
values_told (z ∷ zs) = rw (signed_told z, values_told zs) refl

pub each_digit : (n : ℕ) (ds : List ℕ) → n < 48 → Digits ds → Each (above n) ds
each_digit n [] l h = tt
each_digit n (b ∷ bs) l h = (lt-ltb n b (omega (arith, l, h.0)), each_digit n bs l h.2)

pub each_decimal : (m n : ℕ) → m < 48 → Each (above m) (decimal n)
each_decimal m n l = each_digit m (decimal n) l (digits_told n)

pub each_signed : (m : ℕ) (z : ℤ) → m < 45 → Each (above m) (signed_decimal z)
each_signed m (pos n) l = each_decimal m n (omega (arith, l))
each_signed m (negsuc n) l = (lt-ltb m 45 l, each_decimal m (suc n) (omega (arith, l)))
