-- Loops that put numbers into sets, row by row or place by place.
use Rattle.std.proofs.Common.{ℕ, suc, ◌-◌, ◌<◌, ◌≤◌, ◌≡◌, ◌==◌, nat_lt, Bool, true, false, ◌&&◌, ◌||◌, if◌then◌else◌, List, length, drop, get_or, refl, sym, ap, subst, ◌∙◌, arith, eq-eqb, ne_eqb}
use Rattle.std.specs.Int.RustNames.{bit_or}
use Rattle.std.proofs.lemmas.Bool.{ltb-true, ltb-false}
use Rattle.std.proofs.lemmas.Bool.Decides.{nat_tests}
use Rattle.std.proofs.lemmas.Option.{slice_get-get_or, slice_get_past}
use Rattle.std.proofs.Math.Decide.{ℕ_discrete}
use Rattle.loom_trace.specs.Limits.{place_limit}
use Rattle.loom_sites.specs.declared.area.Area.{Area}
use Rattle.loom_sites.specs.declared.links.PlaceLinks.{PlaceLinks}
use Rattle.loom_sites.specs.Rows.{RowTest, test_if, meets_at}
use Rattle.loom_sites.specs.Functions.{has_function}
use Rattle.loom_sites.specs.Events.{is_between}
use Rattle.loom_sites.specs.Areas.{any_calls}
use Rattle.loom_sites.proofs.Bits.{has_either}
use Rattle.loom_sites.proofs.Passes.{drop_row, more_of, so_far, lt_suc, lt_next, lt_same, put_here, meets_on}

-- what is put where a test is met, and where it isn't

on_if : (b t s : Bool) → t ≡ true → (if b then true else s) ≡ (if b && t then true else s)
on_if true true s h = refl
on_if true false s h = cc
on_if false t s h = refl

off_if : (b t s : Bool) → t ≡ false → s ≡ (if b && t then true else s)
off_if true true s h = cc
off_if true false s h = refl
off_if false t s h = refl

pub row_at : (test : RowTest) (rows : List PlaceLinks) (i : ℕ) (d : PlaceLinks) → i < length rows → meets_at test rows i ≡ test i (get_or rows i d)
row_at test rows i d low = ap (test_if test i) (slice_get-get_or rows i d low)

pub meets_then : (old set new : ℕ → Bool) (test : RowTest) (rows : List PlaceLinks) (i j : ℕ) (d : PlaceLinks) → j ≡ suc i → i < length rows → test i (get_or rows i d) ≡ true
    → ((k : ℕ) → new k ≡ (if k == i then true else set k)) → ((k : ℕ) → set k ≡ so_far old test rows i k) → (k : ℕ) → new k ≡ so_far old test rows j k
meets_then old set new test rows i j d e low met h g =
    meets_on old set new test rows i j (get_or rows i d) e (slice_get-get_or rows i d low) (λ k. h k ∙ on_if (k == i) (test i (get_or rows i d)) (set k) met) g

pub meets_else : (old set new : ℕ → Bool) (test : RowTest) (rows : List PlaceLinks) (i j : ℕ) (d : PlaceLinks) → j ≡ suc i → i < length rows → test i (get_or rows i d) ≡ false
    → ((k : ℕ) → new k ≡ set k) → ((k : ℕ) → set k ≡ so_far old test rows i k) → (k : ℕ) → new k ≡ so_far old test rows j k
meets_else old set new test rows i j d e low met h g =
    meets_on old set new test rows i j (get_or rows i d) e (slice_get-get_or rows i d low) (λ k. h k ∙ off_if (k == i) (test i (get_or rows i d)) (set k) met) g

-- numbers of any test, below the one that is reached

abbrev pub below : (ℕ → Bool) → (ℕ → Bool) → ℕ → ℕ → Bool
below old more i k = old k || (nat_lt k i && more k)

number_on : (old set new more : ℕ → Bool) (i j : ℕ) → j ≡ suc i → ((k : ℕ) → new k ≡ (if (k == i) && more i then true else set k)) → ((k : ℕ) → set k ≡ below old more i k)
    → (k : ℕ) → new k ≡ below old more j k
number_on old set new more i j e h g k =
    subst (λ (m : ℕ). new k ≡ below old more m k) (sym e)
    (elim (ℕ_discrete k i) [
      | yes same ↦ (let P : ℕ → Type 0 = λ z. new z ≡ below old more (suc i) z in
          subst P (sym same)
          (put_here (more i) (set i) (new i) (old i) (nat_lt i i) (nat_lt i (suc i)) (more i) (h i ∙ ap (λ (b : Bool). if b && more i then true else set i) (eq-eqb i i refl)) (g i) (lt_same i) (lt_next i) refl))
      | no other ↦ h k ∙ (ap (λ (b : Bool). if b && more i then true else set k) (ne_eqb k i other) ∙ (g k ∙ ap (λ (b : Bool). old k || (b && more k)) (sym (lt_suc k i other))))
    ])

pub number_then : (old set new more : ℕ → Bool) (i j : ℕ) → j ≡ suc i → more i ≡ true → ((k : ℕ) → new k ≡ (if k == i then true else set k)) → ((k : ℕ) → set k ≡ below old more i k)
    → (k : ℕ) → new k ≡ below old more j k
number_then old set new more i j e met h g = number_on old set new more i j e (λ k. h k ∙ on_if (k == i) (more i) (set k) met) g

pub number_else : (old set new more : ℕ → Bool) (i j : ℕ) → j ≡ suc i → more i ≡ false → ((k : ℕ) → new k ≡ set k) → ((k : ℕ) → set k ≡ below old more i k) → (k : ℕ) → new k ≡ below old more j k
number_else old set new more i j e met h g = number_on old set new more i j e (λ k. h k ∙ off_if (k == i) (more i) (set k) met) g

-- the place before a row that meets a test

abbrev pub before_rows : (ℕ → Bool) → RowTest → List PlaceLinks → ℕ → ℕ → Bool
before_rows old test rows i k = old k || (nat_lt (suc k) i && meets_at test rows (suc k))

lt_down : (k i p : ℕ) → i ≡ suc p → nat_lt (suc k) i ≡ nat_lt k p
lt_down k i p e = grind (arith, nat_tests)

abbrev behind_row : RowTest → List PlaceLinks → ℕ → Bool
behind_row test rows k = meets_at test rows (suc k)

down : (old : ℕ → Bool) (test : RowTest) (rows : List PlaceLinks) (i p k : ℕ) → i ≡ suc p → before_rows old test rows i k ≡ below old (behind_row test rows) p k
down old test rows i p k e = ap (λ (b : Bool). old k || (b && meets_at test rows (suc k))) (lt_down k i p e)

row_behind : (test : RowTest) (rows : List PlaceLinks) (i p : ℕ) (d : PlaceLinks) → i ≡ suc p → i < length rows → behind_row test rows p ≡ test i (get_or rows i d)
row_behind test rows i p d e low = ap (λ (m : ℕ). meets_at test rows m) (sym e) ∙ row_at test rows i d low

pub before_then : (old set new : ℕ → Bool) (test : RowTest) (rows : List PlaceLinks) (i j p : ℕ) (d : PlaceLinks) → j ≡ suc i → i ≡ suc p → i < length rows → test i (get_or rows i d) ≡ true
    → ((k : ℕ) → new k ≡ (if k == p then true else set k)) → ((k : ℕ) → set k ≡ before_rows old test rows i k) → (k : ℕ) → new k ≡ before_rows old test rows j k
before_then old set new test rows i j p d e f low met h g k =
    number_then old set new (behind_row test rows) p i f (row_behind test rows i p d f low ∙ met) h (λ m. g m ∙ down old test rows i p m f) k ∙ sym (down old test rows j i k e)

before_other : (old set new : ℕ → Bool) (test : RowTest) (rows : List PlaceLinks) (i j p : ℕ) (d : PlaceLinks) → j ≡ suc i → i ≡ suc p → i < length rows → test i (get_or rows i d) ≡ false
    → ((k : ℕ) → new k ≡ set k) → ((k : ℕ) → set k ≡ before_rows old test rows i k) → (k : ℕ) → new k ≡ before_rows old test rows j k
before_other old set new test rows i j p d e f low met h g k =
    number_else old set new (behind_row test rows) p i f (row_behind test rows i p d f low ∙ met) h (λ m. g m ∙ down old test rows i p m f) k ∙ sym (down old test rows j i k e)

lt_low : (k i j : ℕ) → i ≡ 0 → j ≡ suc i → nat_lt (suc k) i ≡ nat_lt (suc k) j
lt_low k i j e f = grind (arith, nat_tests)

-- the first row has none before it
pub before_first : (old set new : ℕ → Bool) (test : RowTest) (rows : List PlaceLinks) (i j : ℕ) → j ≡ suc i → i ≡ 0 → ((k : ℕ) → new k ≡ set k) → ((k : ℕ) → set k ≡ before_rows old test rows i k)
    → (k : ℕ) → new k ≡ before_rows old test rows j k
before_first old set new test rows i j e f h g k = h k ∙ (g k ∙ ap (λ (b : Bool). old k || (b && meets_at test rows (suc k))) (lt_low k i j f e))

pub before_else : (old set new : ℕ → Bool) (test : RowTest) (rows : List PlaceLinks) (i j : ℕ) (d : PlaceLinks) → j ≡ suc i → 0 < i → i < length rows → test i (get_or rows i d) ≡ false
    → ((k : ℕ) → new k ≡ set k) → ((k : ℕ) → set k ≡ before_rows old test rows i k) → (k : ℕ) → new k ≡ before_rows old test rows j k
before_else old set new test rows i j d e low high met h g = before_other old set new test rows i j (i - 1) d e (omega arith) high met h g

past : (test : RowTest) (rows : List PlaceLinks) (i k : ℕ) → length rows ≤ i → (nat_lt k i && meets_at test rows k) ≡ meets_at test rows k
past test rows i k h = by_test (nat_lt k i) refl
  where
    by_test : (b : Bool) → nat_lt k i ≡ b → (b && meets_at test rows k) ≡ meets_at test rows k
    by_test true e = refl
    by_test false e = let low = ltb-false k i e in sym (ap (test_if test k) (slice_get_past rows k (omega (arith, low, h))))

pub before_done : (old set : ℕ → Bool) (test : RowTest) (rows : List PlaceLinks) (i : ℕ) → length rows ≤ i → ((k : ℕ) → set k ≡ before_rows old test rows i k)
    → (k : ℕ) → set k ≡ (old k || meets_at test rows (suc k))
before_done old set test rows i low g k = g k ∙ ap (λ (b : Bool). old k || b) (past test rows i (suc k) low)

-- a run of places, as far as it was put
pub run_all : (first k end j : ℕ) → end ≤ k → (first ≤ end → k ≤ end) → (end ≤ first → k ≡ first) → is_between first k j ≡ is_between first end j
run_all first k end j low high none = by_test (nat_lt end first) refl
  where
    nothing : (m : ℕ) → m ≤ first → is_between first m j ≡ false
    nothing m h = grind (arith, nat_tests)

    by_test : (b : Bool) → nat_lt end first ≡ b → is_between first k j ≡ is_between first end j
    by_test true e =
        let less = ltb-true end first e in
        let same = none (omega (arith, less)) in
        nothing k (omega (arith, same)) ∙ sym (nothing end (omega (arith, less)))
    by_test false e =
        let more = ltb-false end first e in
        let most = high more in
        let same : k ≡ end = omega (arith, low, most) in
        ap (λ (m : ℕ). is_between first m j) same

-- one place that is put, by a test of its number
pub put_one : (a : Bool) (j r n : ℕ) → r ≡ n → (if j == r then true else a) ≡ (a || (n == j))
put_one a j r n e =
    elim (ℕ_discrete j r) [
      | yes same ↦ ap (λ (b : Bool). if b then true else a) (eq-eqb j r same) ∙ sym (or_true a (n == j) (eq-eqb n j (sym e ∙ sym same)))
      | no other ↦ ap (λ (b : Bool). if b then true else a) (ne_eqb j r other) ∙ sym (or_none a (n == j) (ne_eqb n j (λ f. other (sym f ∙ sym e))))
    ]
  where
    or_true : (x y : Bool) → y ≡ true → (x || y) ≡ true
    or_true true y h = refl
    or_true false y h = h

    or_none : (x y : Bool) → y ≡ false → (x || y) ≡ x
    or_none true y h = refl
    or_none false y h = h

pub low_place : (n m count : ℕ) → n ≡ m → m < count → count ≤ place_limit → n < place_limit
low_place n m count e h g = omega arith

-- the calls of areas
pub calls_on : (xs : List Area) (i j g bits : ℕ) (d : Area) (all : Bool) → j ≡ suc i → i < length xs → (has_function bits g || any_calls (drop i xs) g) ≡ all
    → (has_function (bit_or bits (get_or xs i d).contents.calls) g || any_calls (drop j xs) g) ≡ all
calls_on xs i j g bits d all e low h =
    ap (λ (m : ℕ). has_function (bit_or bits (get_or xs i d).contents.calls) g || any_calls (drop m xs) g) e
    ∙ more_of (has_function bits g) (has_function (bit_or bits (get_or xs i d).contents.calls) g) (has_function (get_or xs i d).contents.calls g) (any_calls (drop (suc i) xs) g) all
    (has_either bits (get_or xs i d).contents.calls g) (ap (λ (ys : List Area). has_function bits g || any_calls ys g) (sym (drop_row xs i d low)) ∙ h)
