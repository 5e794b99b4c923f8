-- Sets of numbers and their lists.
use Rattle.std.proofs.Common.{ℕ, zero, suc, ◌≡◌, ◌≢◌, ◌<◌, ◌≤◌, ◌+◌, ◌-◌, ◌*◌, ◌^◌, ◌%◌, ◌/◌, ◌==◌, Bool, true, false, ◌&&◌, ◌||◌, not, if◌then◌else◌, List, [], ◌∷◌, ◌⊎◌, inl, inr, refl, sym, ap, ◌∙◌, arith, min, max, eqb-true, eq-eqb, ne_eqb, ◌↔◌}
use Rattle.std.specs.List.{list_any, filter}
use Rattle.std.specs.Int.{w32, bit_at, bit_not, trailing_zeros}
use Rattle.std.specs.Int.RustNames.{bit_or}
use Rattle.std.specs.Prelude.{bit_and}
use Rattle.std.proofs.lemmas.Nat.Bits.{bit_at_set_same, bit_at_set_other, bit_at_clear_same, bit_at_clear_other, bit_at-zero, bit_at_and, bit_at_or, bit_at-lt, bit_at-trailing_zeros, same_from_bits_below}
use Rattle.std.proofs.lemmas.Bool.{cases_eq, cases_lt, eqb-false}
use Rattle.std.proofs.lemmas.Bool.Decides.{nat_tests}
use Rattle.loom_law.specs.Filter.{has}
use Rattle.loom_plan.specs.Numbers.{select, is_bit, numbers_of}

-- Lists that a test selects

pub select_alike : (f g : ℕ → Bool) (k i : ℕ) → ((j : ℕ) → i ≤ j → j < i + k → f j ≡ g j) → select f k i ≡ select g k i
unfolding select
select_alike f g zero i h = refl
select_alike f g (suc k) i h =
    ap (λ (b : Bool). if b then suc i ∷ select f k (suc i) else select f k (suc i)) (h i (omega arith) (omega arith))
    ∙ ap (λ (xs : List ℕ). if g i then suc i ∷ xs else xs) (select_alike f g k (suc i) (λ j low high. h j (omega arith) (omega arith)))

pub select_none : (f : ℕ → Bool) (k i : ℕ) → ((j : ℕ) → i ≤ j → j < i + k → f j ≡ false) → select f k i ≡ []
unfolding select
select_none f zero i h = refl
select_none f (suc k) i h =
    ap (λ (b : Bool). if b then suc i ∷ select f k (suc i) else select f k (suc i)) (h i (omega arith) (omega arith))
    ∙ select_none f k (suc i) (λ j low high. h j (omega arith) (omega arith))

has_if : (b : Bool) (x m : ℕ) (xs : List ℕ) → has (if b then x ∷ xs else xs) m ≡ ((b && (x == m)) || has xs m)
has_if true x m xs = refl
has_if false x m xs = refl

pub has_low : (f : ℕ → Bool) (k i m : ℕ) → m ≤ i → has (select f k i) m ≡ false
unfolding select
has_low f zero i m h = refl
has_low f (suc k) i m h =
    let other : (suc i == m) ≡ false = ne_eqb (suc i) m (λ e. omega arith) in
    let rest : has (select f k (suc i)) m ≡ false = has_low f k (suc i) m (omega arith) in
    has_if (f i) (suc i) m (select f k (suc i)) ∙ shown (f i) (suc i == m) (has (select f k (suc i)) m) other rest
  where
    shown : (a b c : Bool) → b ≡ false → c ≡ false → ((a && b) || c) ≡ false
    shown true b c p q = cc
    shown false b c p q = q

pub has_high : (f : ℕ → Bool) (k i m : ℕ) → i + k < m → has (select f k i) m ≡ false
unfolding select
has_high f zero i m h = refl
has_high f (suc k) i m h =
    let other : (suc i == m) ≡ false = ne_eqb (suc i) m (λ e. omega arith) in
    let rest : has (select f k (suc i)) m ≡ false = has_high f k (suc i) m (omega arith) in
    has_if (f i) (suc i) m (select f k (suc i)) ∙ shown (f i) (suc i == m) (has (select f k (suc i)) m) other rest
  where
    shown : (a b c : Bool) → b ≡ false → c ≡ false → ((a && b) || c) ≡ false
    shown true b c p q = cc
    shown false b c p q = q

abbrev shown_here : (a b c : Bool) → b ≡ true → c ≡ false → ((a && b) || c) ≡ a
shown_here true b c p q = cc
shown_here false b c p q = q

abbrev shown_there : (a b c d : Bool) → b ≡ false → c ≡ d → ((a && b) || c) ≡ d
shown_there true b c d p q = cc
shown_there false b c d p q = q

pub has_in : (f : ℕ → Bool) (k i j : ℕ) → i ≤ j → j < i + k → has (select f k i) (suc j) ≡ f j
unfolding select
has_in f zero i j low high = absurd (omega arith)
has_in f (suc k) i j low high =
    has_if (f i) (suc i) (suc j) (select f k (suc i))
    ∙ by (cases_eq i j) (λ ne. has_in f k (suc i) j (omega arith) (omega arith))
  where
    by : (i ≡ j) ⊎ (i ≢ j) → (i ≢ j → has (select f k (suc i)) (suc j) ≡ f j) → ((f i && (suc i == suc j)) || has (select f k (suc i)) (suc j)) ≡ f j
    by (inl e) rest = shown_here (f i) (suc i == suc j) (has (select f k (suc i)) (suc j)) (eq-eqb (suc i) (suc j) (ap suc e)) (has_low f k (suc i) (suc j) (omega arith)) ∙ ap f e
    by (inr ne) rest = shown_there (f i) (suc i == suc j) (has (select f k (suc i)) (suc j)) (f j) (ne_eqb (suc i) (suc j) (λ e. ne (omega arith))) (rest ne)

pub filter_select : (f g : ℕ → Bool) (k i : ℕ) → filter g (select f k i) ≡ select (λ j. f j && g (suc j)) k i
unfolding select
filter_select f g zero i = refl
filter_select f g (suc k) i = by (f i) ∙ ap (λ (xs : List ℕ). if f i && g (suc i) then suc i ∷ xs else xs) (filter_select f g k (suc i))
  where
    by : (b : Bool) → filter g (if b then suc i ∷ select f k (suc i) else select f k (suc i)) ≡ (if b && g (suc i) then suc i ∷ filter g (select f k (suc i)) else filter g (select f k (suc i)))
    by true = refl
    by false = refl

-- the first number that is selected
pub select_first : (f g : ℕ → Bool) (k i t : ℕ) → i ≤ t → t < i + k → f t ≡ true → g t ≡ false
    → ((j : ℕ) → j < t → f j ≡ false) → ((j : ℕ) → j < i + k → j ≢ t → g j ≡ f j) → select f k i ≡ suc t ∷ select g k i
unfolding select
select_first f g zero i t low high met gone before same = absurd (omega arith)
select_first f g (suc k) i t low high met gone before same =
    by (cases_eq i t) (λ ne. select_first f g k (suc i) t (omega arith) (omega arith) met gone before (λ j h ne2. same j (omega arith) ne2))
  where
    cut : (b : Bool) (x : ℕ) (xs : List ℕ) → b ≡ true → (if b then x ∷ xs else xs) ≡ x ∷ xs
    cut b x xs e = ap (λ (c : Bool). if c then x ∷ xs else xs) e

    past : (b : Bool) (x : ℕ) (xs : List ℕ) → b ≡ false → (if b then x ∷ xs else xs) ≡ xs
    past b x xs e = ap (λ (c : Bool). if c then x ∷ xs else xs) e

    by : (i ≡ t) ⊎ (i ≢ t) → (i ≢ t → select f k (suc i) ≡ suc t ∷ select g k (suc i))
        → (if f i then suc i ∷ select f k (suc i) else select f k (suc i)) ≡ suc t ∷ (if g i then suc i ∷ select g k (suc i) else select g k (suc i))
    by (inl e) rest =
        cut (f i) (suc i) (select f k (suc i)) (ap f e ∙ met)
        ∙ (ap (λ (x : ℕ). suc x ∷ select f k (suc i)) e
        ∙ ap (λ (xs : List ℕ). suc t ∷ xs) (select_alike f g k (suc i) (λ j a b. sym (same j (omega arith) (λ q. omega arith)))
        ∙ sym (past (g i) (suc i) (select g k (suc i)) (ap g e ∙ gone))))
    by (inr ne) rest =
        past (f i) (suc i) (select f k (suc i)) (before i (omega arith))
        ∙ (rest ne
        ∙ ap (λ (xs : List ℕ). suc t ∷ xs) (sym (past (g i) (suc i) (select g k (suc i)) (same i (omega arith) ne ∙ before i (omega arith)))))

-- Which numbers are in them

-- none, one of the first k, or one behind them
data Where (k m : ℕ) : Type 0 where
  lowest : m ≡ 0 → Where k m
  among : (j : ℕ) → m ≡ suc j → j < k → Where k m
  behind : k < m → Where k m

where_is : (k m : ℕ) → Where k m
where_is k zero = lowest refl
where_is k (suc j) = by (cases_lt j k)
  where
    by : (j < k) ⊎ (k ≤ j) → Where k (suc j)
    by (inl h) = among j refl h
    by (inr h) = behind (omega arith)

has_zero : (f : ℕ → Bool) (k m : ℕ) → m ≡ 0 → has (select f k 0) m ≡ false
has_zero f k m e = has_low f k 0 m (omega arith)

has_suc : (f : ℕ → Bool) (k m j : ℕ) → m ≡ suc j → j < k → has (select f k 0) m ≡ f j
has_suc f k m j e h = ap (λ (x : ℕ). has (select f k 0) x) e ∙ has_in f k 0 j (omega arith) (omega arith)

has_behind : (f : ℕ → Bool) (k m : ℕ) → k < m → has (select f k 0) m ≡ false
has_behind f k m h = has_high f k 0 m (omega arith)

pub has_put : (f g : ℕ → Bool) (k i : ℕ) → i < k → g i ≡ true → ((j : ℕ) → j < k → j ≢ i → g j ≡ f j)
    → (m : ℕ) → has (select g k 0) m ≡ (if m == suc i then true else has (select f k 0) m)
has_put f g k i low met same m = by (where_is k m)
  where
    other : (b x y : Bool) → b ≡ false → x ≡ y → x ≡ (if b then true else y)
    other true x y e h = cc
    other false x y e h = h

    one : (b x y : Bool) → b ≡ true → x ≡ true → x ≡ (if b then true else y)
    one true x y e h = h
    one false x y e h = cc

    by : Where k m → has (select g k 0) m ≡ (if m == suc i then true else has (select f k 0) m)
    by (lowest e) = other (m == suc i) _ _ (ne_eqb m (suc i) (λ q. omega arith)) (has_zero g k m e ∙ sym (has_zero f k m e))
    by (behind h) = other (m == suc i) _ _ (ne_eqb m (suc i) (λ q. omega arith)) (has_behind g k m h ∙ sym (has_behind f k m h))
    by (among j e h) = at (cases_eq j i)
      where
        at : (j ≡ i) ⊎ (j ≢ i) → has (select g k 0) m ≡ (if m == suc i then true else has (select f k 0) m)
        at (inl q) = one (m == suc i) _ _ (eq-eqb m (suc i) (omega arith)) (has_suc g k m j e h ∙ (ap g q ∙ met))
        at (inr ne) = other (m == suc i) _ _ (ne_eqb m (suc i) (λ q. ne (omega arith))) (has_suc g k m j e h ∙ (same j h ne ∙ sym (has_suc f k m j e h)))

pub has_either : (f g h : ℕ → Bool) (k : ℕ) → ((j : ℕ) → j < k → h j ≡ (f j || g j))
    → (m : ℕ) → has (select h k 0) m ≡ (has (select f k 0) m || has (select g k 0) m)
has_either f g h k each m = by (where_is k m)
  where
    apart : (x y z : Bool) → x ≡ false → y ≡ false → z ≡ false → x ≡ (y || z)
    apart x y z p q r = grind arith

    by : Where k m → has (select h k 0) m ≡ (has (select f k 0) m || has (select g k 0) m)
    by (lowest e) = apart _ _ _ (has_zero h k m e) (has_zero f k m e) (has_zero g k m e)
    by (behind e) = apart _ _ _ (has_behind h k m e) (has_behind f k m e) (has_behind g k m e)
    by (among j e low) =
        has_suc h k m j e low
        ∙ (each j low
        ∙ (ap (λ (b : Bool). b || g j) (sym (has_suc f k m j e low))
        ∙ ap (λ (b : Bool). has (select f k 0) m || b) (sym (has_suc g k m j e low))))

-- Bits

pub has_nothing : numbers_of (record { bits = 0 }) ≡ []
unfolding numbers_of
has_nothing = select_none (is_bit 0) 32 0 (λ j a b. ap (λ (x : ℕ). x == 1) (bit_at-zero j))

pub put_bit : (w n : ℕ) → 0 < n → n ≤ 32 → (m : ℕ)
    → has (numbers_of (record { bits = bit_or w (1 * 2 ^ (n - 1) % 2 ^ 32) })) m ≡ (if m == n then true else has (numbers_of (record { bits = w })) m)
unfolding numbers_of
put_bit w n low high m =
    let new : ℕ = bit_or w (1 * 2 ^ (n - 1) % 2 ^ 32) in
    has_put (is_bit w) (is_bit new) 32 (n - 1) (omega arith)
    (ap (λ (x : ℕ). x == 1) (bit_at_set_same w32 w (n - 1) (omega arith)))
    (λ j h ne. ap (λ (x : ℕ). x == 1) (bit_at_set_other w32 w (n - 1) (omega arith) j ne)) m
    ∙ ap (λ (x : ℕ). if m == x then true else has (select (is_bit w) 32 0) m) (let e : suc (n - 1) ≡ n = omega arith in e)

pub has_bit : (w n : ℕ) → 0 < n → n ≤ 32 → has (numbers_of (record { bits = w })) n ≡ (w / 2 ^ (n - 1) % 2 == 1)
unfolding numbers_of
has_bit w n low high = has_suc (is_bit w) 32 n (n - 1) (omega arith) (omega arith)

two : (x y : ℕ) → x < 2 → y < 2 → (min x y == 1) ≡ ((x == 1) && (y == 1))
two x y a b = grind (arith, nat_tests)

twice : (x y : ℕ) → x < 2 → y < 2 → (max x y == 1) ≡ ((x == 1) || (y == 1))
twice x y a b = grind (arith, nat_tests)

pub both_bits : (a b : ℕ) → numbers_of (record { bits = bit_and a b }) ≡ filter (has (numbers_of (record { bits = b }))) (numbers_of (record { bits = a }))
unfolding numbers_of
both_bits a b =
    select_alike (is_bit (bit_and a b)) (λ j. is_bit a j && has (select (is_bit b) 32 0) (suc j)) 32 0
    (λ j low high.
    ap (λ (x : ℕ). x == 1) (bit_at_and a b j)
    ∙ (two (bit_at a j) (bit_at b j) (bit_at-lt a j) (bit_at-lt b j)
    ∙ ap (λ (x : Bool). is_bit a j && x) (sym (has_in (is_bit b) 32 0 j low high))))
    ∙ sym (filter_select (is_bit a) (has (select (is_bit b) 32 0)) 32 0)

pub either_bit : (a b m : ℕ) → has (numbers_of (record { bits = bit_or a b })) m ≡ (has (numbers_of (record { bits = a })) m || has (numbers_of (record { bits = b })) m)
unfolding numbers_of
either_bit a b m =
    has_either (is_bit a) (is_bit b) (is_bit (bit_or a b)) 32
    (λ j h. ap (λ (x : ℕ). x == 1) (bit_at_or a b j) ∙ twice (bit_at a j) (bit_at b j) (bit_at-lt a j) (bit_at-lt b j)) m

pub no_bit : numbers_of (record { bits = 0 }) ≡ []
no_bit = has_nothing

-- Where a list is empty

zero_bit : (w j : ℕ) → is_bit w j ≡ false → bit_at w j ≡ 0
zero_bit w j h = let low = bit_at-lt w j in let other : bit_at w j ≡ 1 → ⊥ = eqb-false (bit_at w j) 1 h in omega arith

pub nothing_there : (w : ℕ) → w < 2 ^ 32 → numbers_of (record { bits = w }) ≡ [] → w ≡ 0
unfolding numbers_of
nothing_there w low e =
    same_from_bits_below 32 w 0 low (omega arith)
    (λ j h. zero_bit w j (sym (has_in (is_bit w) 32 0 j (omega arith) (omega arith)) ∙ ap (λ (xs : List ℕ). has xs (suc j)) e) ∙ sym (bit_at-zero j))

pub first_bit : (w : ℕ) → 0 < w → w < 2 ^ 32
    → numbers_of (record { bits = w }) ≡ suc (trailing_zeros w32 w) ∷ numbers_of (record { bits = bit_and w (bit_not w32 (1 * 2 ^ trailing_zeros w32 w % 2 ^ 32)) })
unfolding numbers_of
first_bit w low high =
    let t : ℕ = trailing_zeros w32 w in
    let h = bit_at-trailing_zeros w32 w low high in
    select_first (is_bit w) (is_bit (bit_and w (bit_not w32 (1 * 2 ^ t % 2 ^ 32)))) 32 0 t (omega arith) (omega (arith, h.0))
    (ap (λ (x : ℕ). x == 1) h.1)
    (ap (λ (x : ℕ). x == 1) (bit_at_clear_same w32 w t h.0))
    (λ j k. ap (λ (x : ℕ). x == 1) (h.2 j k))
    (λ j k ne. ap (λ (x : ℕ). x == 1) (bit_at_clear_other w32 w t h.0 j (omega arith) ne))

-- a list of which nothing is left has no such number
any_step : (b t a : Bool) (x : ℕ) (ys : List ℕ) → ((b ≡ true) ↔ ((if t then x ∷ ys else ys) ≡ [])) → (((b ≡ true) ↔ (ys ≡ [])) → not b ≡ a) → not b ≡ (t || a)
any_step true true a x ys h rest = let e = h.0 refl in cc
any_step false true a x ys h rest = refl
any_step b false a x ys h rest = rest h

pub any_left : (g : ℕ → Bool) (xs : List ℕ) (b : Bool) → ((b ≡ true) ↔ (filter g xs ≡ [])) → not b ≡ list_any g xs
any_left g [] b h = ap not (h.1 refl)
any_left g (x ∷ xs) b h = any_step b (g x) (list_any g xs) x (filter g xs) h (any_left g xs b)

pub empty_bits : (w : ℕ) → w < 2 ^ 32 → ((w == 0) ≡ true) ↔ (numbers_of (record { bits = w }) ≡ [])
empty_bits w low = (λ e. ap (λ (x : ℕ). numbers_of (record { bits = x })) (eqb-true w 0 e) ∙ has_nothing, λ e. eq-eqb w 0 (nothing_there w low e))

pub put_first : (w n : ℕ) → 0 < n → n ≤ 32 → ((m : ℕ) → m ≤ n → has (numbers_of (record { bits = w })) m ≡ false)
    → numbers_of (record { bits = bit_or w (1 * 2 ^ (n - 1) % 2 ^ 32) }) ≡ n ∷ numbers_of (record { bits = w })
unfolding numbers_of
put_first w n low high none =
    let new : ℕ = bit_or w (1 * 2 ^ (n - 1) % 2 ^ 32) in
    let gone : (j : ℕ) → j < n → is_bit w j ≡ false = λ j h. sym (has_in (is_bit w) 32 0 j (omega arith) (omega arith)) ∙ none (suc j) (omega arith) in
    select_first (is_bit new) (is_bit w) 32 0 (n - 1) (omega arith) (omega arith)
    (ap (λ (x : ℕ). x == 1) (bit_at_set_same w32 w (n - 1) (omega arith)))
    (gone (n - 1) (omega arith))
    (λ j h. ap (λ (x : ℕ). x == 1) (bit_at_set_other w32 w (n - 1) (omega arith) j (λ e. omega arith)) ∙ gone j (omega arith))
    (λ j h ne. sym (ap (λ (x : ℕ). x == 1) (bit_at_set_other w32 w (n - 1) (omega arith) j ne)))
    ∙ ap (λ (x : ℕ). x ∷ select (is_bit w) 32 0) (let e : suc (n - 1) ≡ n = omega arith in e)

pub has_none_at : (w n : ℕ) → (n ≡ 0) ⊎ (32 < n) → has (numbers_of (record { bits = w })) n ≡ false
unfolding numbers_of
has_none_at w n (inl e) = has_zero (is_bit w) 32 n e
has_none_at w n (inr h) = has_behind (is_bit w) 32 n h
