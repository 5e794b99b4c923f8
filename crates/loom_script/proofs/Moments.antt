-- A number is read where it is written in decimal.
use Rattle.std.proofs.Common.{ℕ, zero, suc, ◌+◌, ◌-◌, ◌*◌, ◌/◌, ◌%◌, ◌<◌, ◌≤◌, ◌≡◌, Bool, true, false, nat_eq, nat_le, nat_lt, if◌then◌else◌, List, [], ◌∷◌, ◌++◌, Some, None, inl, inr, refl, sym, ap, subst, ◌∙◌, append-nil, append_assoc, arith}
use Rattle.std.proofs.lemmas.Bool.{lt-ltb, le-ltb, ltb-false, le-leb, leb-true, ne_eqb, eqb-false, and_parts, cases_lt}
use Rattle.loom_tree.specs.Decimal.{digits_within, decimal}
use Rattle.loom_lexer.specs.Lexeme.{is_digit}
use Rattle.loom_command.specs.Script.{latest}
use Rattle.loom_script.specs.Words.{moment_from, has_leading_zero, moment_by}

-- Digits of a number

digits_small : (k n : ℕ) → n < 10 → digits_within (suc k) n ≡ (48 + n) ∷ []
digits_small k n h = rw (lt-ltb n 10 h) refl

digits_large : (k n : ℕ) → 10 ≤ n → digits_within (suc k) n ≡ digits_within k (n / 10) ++ (48 + n % 10) ∷ []
digits_large k n h = rw (le-ltb n 10 h) refl

digits_enough : (j k n : ℕ) → n < j → n < k → digits_within j n ≡ digits_within k n
digits_enough zero k n a b = absurd (omega (arith, a))
digits_enough (suc j) zero n a b = absurd (omega (arith, b))
digits_enough (suc j) (suc k) n a b =
    elim (cases_lt n 10) [
      | inl l ↦ digits_small j n l ∙ sym (digits_small k n l)
      | inr l ↦ digits_large j n l ∙ ap (λ ds. ds ++ (48 + n % 10) ∷ []) (digits_enough j k (n / 10) (omega (arith, a, l)) (omega (arith, b, l))) ∙ sym (digits_large k n l)
    ]

pub decimal_digit : (n : ℕ) → n < 10 → decimal n ≡ (48 + n) ∷ []
unfolding decimal
decimal_digit n h = digits_small n n h

pub decimal_step : (n : ℕ) → 10 ≤ n → decimal n ≡ decimal (n / 10) ++ (48 + n % 10) ∷ []
unfolding decimal
decimal_step n h = digits_large n n h ∙ ap (λ ds. ds ++ (48 + n % 10) ∷ []) (digits_enough n (suc (n / 10)) (n / 10) (omega (arith, h)) (omega arith))

-- one more digit
decimal_more : (v d : ℕ) → 1 ≤ v → d < 10 → decimal (10 * v + d) ≡ decimal v ++ (48 + d) ∷ []
decimal_more v d l h =
    let front : (10 * v + d) / 10 ≡ v = omega (arith, h) in
    let last : (10 * v + d) % 10 ≡ d = omega (arith, h) in
    decimal_step (10 * v + d) (omega (arith, l)) ∙ ap (λ z. decimal z ++ (48 + (10 * v + d) % 10) ∷ []) front ∙ ap (λ z. decimal v ++ (48 + z) ∷ []) last

-- bytes that are digits
pub record IsDigitByte (b : ℕ) : Type 0 where
  pub least : 48 ≤ b
  pub most : b ≤ 57

digit_told : (b : ℕ) → is_digit b ≡ true → IsDigitByte b
digit_told b h = let p = and_parts (nat_le 48 b) (nat_le b 57) h in record { least = leb-true 48 b p.0; most = leb-true b 57 p.1 }

digit_read : (d : ℕ) → d < 10 → is_digit (48 + d) ≡ true
digit_read d l = rw (le-leb 48 (48 + d) (omega arith), le-leb (48 + d) 57 (omega (arith, l))) refl

decimal_behind : (v b : ℕ) → 1 ≤ v → is_digit b ≡ true → decimal (10 * v + (b - 48)) ≡ decimal v ++ b ∷ []
decimal_behind v b l h =
    let r = digit_told b h in
    let low = r.least in
    let high = r.most in
    let same : 48 + (b - 48) ≡ b = omega (arith, low) in
    decimal_more v (b - 48) l (omega (arith, high)) ∙ ap (λ z. decimal v ++ z ∷ []) same

-- What is read is written so

behind_told : (v : ℕ) (bs : List ℕ) (n : ℕ) → 1 ≤ v → moment_from v bs ≡ Some n → decimal v ++ bs ≡ decimal n
behind_told v [] n l h = let e : v ≡ n = cc in append-nil (decimal v) ∙ ap decimal e
behind_told v (b ∷ bs) n l h = go (is_digit b) (nat_lt latest (10 * v + (b - 48))) refl (behind_told (10 * v + (b - 48)) bs n (omega (arith, l))) h
  where
    go : (d m : Bool) → is_digit b ≡ d → (moment_from (10 * v + (b - 48)) bs ≡ Some n → decimal (10 * v + (b - 48)) ++ bs ≡ decimal n)
        → (if d then (if m then None else moment_from (10 * v + (b - 48)) bs) else None) ≡ Some n → decimal v ++ (b ∷ bs) ≡ decimal n
    go true false e again g = sym (append_assoc (decimal v) (b ∷ []) bs) ∙ ap (λ z. z ++ bs) (sym (decimal_behind v b l e)) ∙ again g
    go true true e again g = absurd cc
    go false m e again g = absurd cc

pub moment_small : (v : ℕ) (bs : List ℕ) (n : ℕ) → v ≤ latest → moment_from v bs ≡ Some n → n ≤ latest
moment_small v [] n l h = let e : v ≡ n = cc in omega (arith, e, l)
moment_small v (b ∷ bs) n l h = go (is_digit b) (nat_lt latest (10 * v + (b - 48))) refl (moment_small (10 * v + (b - 48)) bs n) h
  where
    go : (d m : Bool) → nat_lt latest (10 * v + (b - 48)) ≡ m → (10 * v + (b - 48) ≤ latest → moment_from (10 * v + (b - 48)) bs ≡ Some n → n ≤ latest)
        → (if d then (if m then None else moment_from (10 * v + (b - 48)) bs) else None) ≡ Some n → n ≤ latest
    go true false e again g = again (ltb-false latest (10 * v + (b - 48)) e) g
    go true true e again g = absurd cc
    go false m e again g = absurd cc

-- the first byte is a digit, and what is behind it is read from its value on
pub record BeginsRead (b : ℕ) (bs : List ℕ) (n : ℕ) : Type 0 where
  pub digit : is_digit b ≡ true
  pub behind : moment_from (b - 48) bs ≡ Some n

first_told : (v b : ℕ) (bs : List ℕ) (n : ℕ) → v ≡ 0 → moment_from v (b ∷ bs) ≡ Some n → BeginsRead b bs n
first_told v b bs n z h = go (is_digit b) (nat_lt latest (10 * v + (b - 48))) refl h
  where
    go : (d m : Bool) → is_digit b ≡ d → (if d then (if m then None else moment_from (10 * v + (b - 48)) bs) else None) ≡ Some n → BeginsRead b bs n
    go true false e g = let same : 10 * v + (b - 48) ≡ b - 48 = omega (arith, z) in record { digit = e; behind = ap (λ y. moment_from y bs) (sym same) ∙ g }
    go true true e g = absurd cc
    go false m e g = absurd cc

one_digit : (b : ℕ) → is_digit b ≡ true → b ∷ [] ≡ decimal (b - 48)
one_digit b h =
    let r = digit_told b h in
    let low = r.least in
    let high = r.most in
    let same : b ≡ 48 + (b - 48) = omega (arith, low) in
    ap (λ z. z ∷ []) same ∙ sym (decimal_digit (b - 48) (omega (arith, high)))

single_told : (b n : ℕ) → BeginsRead b [] n → b ∷ [] ≡ decimal n
single_told b n h = let g = h.behind in let e : b - 48 ≡ n = cc in one_digit b h.digit ∙ ap decimal e

-- where the first digit isn't `0`
high_told : (b : ℕ) (bs : List ℕ) (n : ℕ) → nat_eq b 48 ≡ false → BeginsRead b bs n → b ∷ bs ≡ decimal n
high_told b bs n z h =
    let r = digit_told b h.digit in
    let low = r.least in
    let other : b ≡ 48 → ⊥ = eqb-false b 48 z in
    ap (λ y. y ++ bs) (one_digit b h.digit) ∙ behind_told (b - 48) bs n (omega (arith, low, other)) h.behind

pub moment_told : (bs : List ℕ) (n : ℕ) → moment_by bs ≡ Some n → bs ≡ decimal n
moment_told [] n h = absurd cc
moment_told (b ∷ []) n h = single_told b n (first_told 0 b [] n refl h)
moment_told (b ∷ c ∷ bs) n h = go (nat_eq b 48) refl h
  where
    go : (z : Bool) → nat_eq b 48 ≡ z → (if z then None else moment_from 0 (b ∷ c ∷ bs)) ≡ Some n → b ∷ c ∷ bs ≡ decimal n
    go true e g = absurd cc
    go false e g = high_told b (c ∷ bs) n e (first_told 0 b (c ∷ bs) n refl g)

pub moment_most : (bs : List ℕ) (n : ℕ) → moment_by bs ≡ Some n → n ≤ latest
moment_most [] n h = absurd cc
moment_most (b ∷ bs) n h = go (has_leading_zero (b ∷ bs)) h
  where
    go : (z : Bool) → (if z then None else moment_from 0 (b ∷ bs)) ≡ Some n → n ≤ latest
    go true g = absurd cc
    go false g = moment_small 0 (b ∷ bs) n (omega arith) g

-- What is written so is read

more_read : (v : ℕ) (ds : List ℕ) (m d : ℕ) → moment_from v ds ≡ Some m → is_digit d ≡ true → 10 * m + (d - 48) ≤ latest → moment_from v (ds ++ d ∷ []) ≡ Some (10 * m + (d - 48))
more_read v [] m d h e l =
    let same : v ≡ m = cc in
    let few : 10 * v + (d - 48) ≤ latest = omega (arith, same, l) in
    rw (e, le-ltb latest (10 * v + (d - 48)) few) (ap (λ z. Some (10 * z + (d - 48))) same)
more_read v (b ∷ ds) m d h e l = go (is_digit b) (nat_lt latest (10 * v + (b - 48))) (λ g. more_read (10 * v + (b - 48)) ds m d g e l) h
  where
    go : (x y : Bool) → (moment_from (10 * v + (b - 48)) ds ≡ Some m → moment_from (10 * v + (b - 48)) (ds ++ d ∷ []) ≡ Some (10 * m + (d - 48)))
        → (if x then (if y then None else moment_from (10 * v + (b - 48)) ds) else None) ≡ Some m
        → (if x then (if y then None else moment_from (10 * v + (b - 48)) (ds ++ d ∷ [])) else None) ≡ Some (10 * m + (d - 48))
    go true false again g = again g
    go true true again g = absurd cc
    go false y again g = absurd cc

-- one digit behind nothing
digit_first : (v d n : ℕ) → is_digit d ≡ true → 10 * v + (d - 48) ≡ n → n ≤ latest → moment_from v (d ∷ []) ≡ Some n
digit_first v d n e same l = rw (e, le-ltb latest (10 * v + (d - 48)) (omega (arith, same, l))) (ap (λ z. Some z) same)

digits_read : (k n : ℕ) → n < k → n ≤ latest → moment_from 0 (decimal n) ≡ Some n
digits_read zero n h l = absurd (omega (arith, h))
digits_read (suc k) n h l =
    elim (cases_lt n 10) [
      | inl s ↦ ap (moment_from 0) (decimal_digit n s) ∙ digit_first 0 (48 + n) n (digit_read n s) (omega arith) l
      | inr s ↦
          let front : moment_from 0 (decimal (n / 10)) ≡ Some (n / 10) = digits_read k (n / 10) (omega (arith, h, s)) (omega (arith, l)) in
          let same : 10 * (n / 10) + ((48 + n % 10) - 48) ≡ n = omega arith in
          let both = more_read 0 (decimal (n / 10)) (n / 10) (48 + n % 10) front (digit_read (n % 10) (omega arith)) (omega (arith, same, l)) in
          ap (moment_from 0) (decimal_step n s) ∙ both ∙ ap (λ z. Some z) same
    ]

-- the first digit isn't `0`
abbrev pub BeginsHigh : List ℕ → Type 0
BeginsHigh [] = ⊥
BeginsHigh (b ∷ bs) = nat_eq b 48 ≡ false

high_append : (xs ys : List ℕ) → BeginsHigh xs → BeginsHigh (xs ++ ys)
high_append [] ys h = absurd h
high_append (x ∷ xs) ys h = h

decimal_high : (k n : ℕ) → n < k → 1 ≤ n → BeginsHigh (decimal n)
decimal_high zero n h l = absurd (omega (arith, h))
decimal_high (suc k) n h l =
    elim (cases_lt n 10) [
      | inl s ↦ subst BeginsHigh (sym (decimal_digit n s)) (ne_eqb (48 + n) 48 (λ e. omega (arith, e, l)))
      | inr s ↦ subst BeginsHigh (sym (decimal_step n s)) (high_append (decimal (n / 10)) ((48 + n % 10) ∷ []) (decimal_high k (n / 10) (omega (arith, h, s)) (omega (arith, s))))
    ]

no_zero : (bs : List ℕ) → BeginsHigh bs → has_leading_zero bs ≡ false
no_zero [] h = absurd h
no_zero (b ∷ []) h = refl
no_zero (b ∷ c ∷ bs) h = h

high_read : (bs : List ℕ) (n : ℕ) → BeginsHigh bs → moment_from 0 bs ≡ Some n → moment_by bs ≡ Some n
high_read [] n h e = absurd h
high_read (b ∷ bs) n h e = go (has_leading_zero (b ∷ bs)) (no_zero (b ∷ bs) h)
  where
    go : (z : Bool) → z ≡ false → (if z then None else moment_from 0 (b ∷ bs)) ≡ Some n
    go true f = absurd cc
    go false f = e

pub moment_read : (n : ℕ) → n ≤ latest → moment_by (decimal n) ≡ Some n
moment_read n l =
    elim (cases_lt n 1) [
      | inl s ↦ let z : n ≡ 0 = omega (arith, s) in rw z (ap moment_by (decimal_digit 0 (omega arith)))
      | inr s ↦ high_read (decimal n) n (decimal_high (suc n) n (omega arith) s) (digits_read (suc n) n (omega arith) l)
    ]

pub decimal_some : (n : ℕ) → n ≤ latest → decimal n ≡ [] → ⊥
decimal_some n l e = let f : Some n ≡ None = sym (moment_read n l) ∙ ap moment_by e in cc
