-- Passes over a table, row by row.
use Rattle.std.proofs.Common.{ℕ, zero, suc, ◌+◌, ◌-◌, ◌<◌, ◌≤◌, ◌≡◌, ◌==◌, nat_lt, Bool, true, false, ◌&&◌, ◌||◌, if◌then◌else◌, List, [], ◌∷◌, length, drop, get_or, slice_get, Some, refl, sym, ap, subst, ◌∙◌, arith, eq-eqb, ne_eqb}
use Rattle.std.proofs.lemmas.Bool.{ltb-false}
use Rattle.std.proofs.lemmas.Bool.Decides.{nat_tests}
use Rattle.std.proofs.lemmas.Option.{slice_get_past}
use Rattle.std.proofs.Math.Decide.{ℕ_discrete}
use Rattle.loom_law.proofs.Holdings.{either_of, or_cases, or_left, or_right}
use Rattle.loom_sites.specs.declared.links.PlaceLinks.{PlaceLinks}
use Rattle.loom_sites.specs.Rows.{RowTest, test_if, meets_at, any_meets, any_run}

pub drop_row : {A : Type 0} (xs : List A) (i : ℕ) (d : A) → i < length xs → drop i xs ≡ get_or xs i d ∷ drop (suc i) xs
drop_row [] i d low = absurd (omega arith)
drop_row (x ∷ xs) zero d low = refl
drop_row (x ∷ xs) (suc i) d low = drop_row xs i d (omega arith)

drop_all : {A : Type 0} (xs : List A) → drop (length xs) xs ≡ []
drop_all [] = refl
drop_all (x ∷ xs) = drop_all xs

-- One of the rows meets a test.

pub any_found : (test : RowTest) (k : ℕ) (rows : List PlaceLinks) → any_meets test k rows ≡ true
    → (i : ℕ) × ((row : PlaceLinks) × ((slice_get rows i ≡ Some row) × (test (k + i) row ≡ true)))
any_found test k [] h = cc
any_found test k (row ∷ rows) h =
    either_of (or_cases (test k row) (any_meets test (suc k) rows) h)
    (λ e. let at : k ≡ k + 0 = omega arith in (0, (row, (refl, subst (λ z. test z row ≡ true) at e))))
    (λ e. let ih = any_found test (suc k) rows e in
    let at : suc k + ih.0 ≡ k + suc ih.0 = omega arith in
    (suc ih.0, (ih.1.0, (ih.1.1.0, subst (λ z. test z ih.1.0 ≡ true) at ih.1.1.1))))

pub any_there : (test : RowTest) (k : ℕ) (rows : List PlaceLinks) (i : ℕ) (row : PlaceLinks) → slice_get rows i ≡ Some row → test (k + i) row ≡ true → any_meets test k rows ≡ true
any_there test k [] i row e h = cc
any_there test k (r ∷ rows) zero row e h =
    let same : r ≡ row = cc in
    let at : k + 0 ≡ k = omega arith in
    or_left (test k r) (any_meets test (suc k) rows) (subst (λ z. test k z ≡ true) (sym same) (subst (λ z. test z row ≡ true) at h))
any_there test k (r ∷ rows) (suc i) row e h =
    let at : k + suc i ≡ suc k + i = omega arith in
    or_right (test k r) (any_meets test (suc k) rows) (any_there test (suc k) rows i row e (subst (λ z. test z row ≡ true) at h))

-- from the first row on
pub any_found_all : (test : RowTest) (rows : List PlaceLinks) → any_meets test 0 rows ≡ true → (i : ℕ) × ((row : PlaceLinks) × ((slice_get rows i ≡ Some row) × (test i row ≡ true)))
any_found_all test rows h =
    let found = any_found test 0 rows h in
    let at : 0 + found.0 ≡ found.0 = omega arith in
    (found.0, (found.1.0, (found.1.1.0, subst (λ z. test z found.1.0 ≡ true) at found.1.1.1)))

pub any_there_all : (test : RowTest) (rows : List PlaceLinks) (i : ℕ) (row : PlaceLinks) → slice_get rows i ≡ Some row → test i row ≡ true → any_meets test 0 rows ≡ true
any_there_all test rows i row e h = let at : i ≡ 0 + i = omega arith in any_there test 0 rows i row e (subst (λ z. test z row ≡ true) at h)

-- A loop over the rows that gathers where a test is met.

pub more_of : (a b t rest all : Bool) → b ≡ (a || t) → (a || (t || rest)) ≡ all → (b || rest) ≡ all
more_of true b t rest all e h = grind arith
more_of false b t rest all e h = grind arith

pub any_on : (test : RowTest) (rows : List PlaceLinks) (i j : ℕ) (d : PlaceLinks) (a b all : Bool) → j ≡ suc i → i < length rows
    → b ≡ (a || test i (get_or rows i d)) → (a || any_meets test i (drop i rows)) ≡ all → (b || any_meets test j (drop j rows)) ≡ all
any_on test rows i j d a b all e low h g =
    ap (λ (m : ℕ). b || any_meets test m (drop m rows)) e
    ∙ more_of a b (test i (get_or rows i d)) (any_meets test (suc i) (drop (suc i) rows)) all h (ap (λ rs. a || any_meets test i rs) (sym (drop_row rows i d low)) ∙ g)

or_false : (a : Bool) → a ≡ (a || false)
or_false true = refl
or_false false = refl

-- at the end
pub any_done : (test : RowTest) (rows : List PlaceLinks) (i : ℕ) (a all : Bool) → length rows ≤ i → (a || any_meets test i (drop i rows)) ≡ all → a ≡ all
any_done test rows i a all low g = or_false a ∙ (ap (λ rs. a || any_meets test i rs) (sym (dropped rows i low)) ∙ g)
  where
    dropped : {A : Type 0} (xs : List A) (m : ℕ) → length xs ≤ m → drop m xs ≡ []
    dropped [] zero h = refl
    dropped [] (suc m) h = refl
    dropped (x ∷ xs) zero h = absurd (omega arith)
    dropped (x ∷ xs) (suc m) h = dropped xs m (omega arith)

-- A loop that puts the numbers of rows that meet a test into a set.

abbrev pub so_far : (ℕ → Bool) → RowTest → List PlaceLinks → ℕ → ℕ → Bool
so_far old test rows i k = old k || (nat_lt k i && meets_at test rows k)

pub lt_suc : (k i : ℕ) → (k ≡ i → ⊥) → nat_lt k (suc i) ≡ nat_lt k i
lt_suc k i d = grind (arith, nat_tests)

pub lt_next : (i : ℕ) → nat_lt i (suc i) ≡ true
lt_next i = grind (arith, nat_tests)

pub lt_same : (i : ℕ) → nat_lt i i ≡ false
lt_same i = grind (arith, nat_tests)

pub put_here : (t p q old l u m : Bool) → q ≡ (if t then true else p) → p ≡ (old || (l && m)) → l ≡ false → u ≡ true → m ≡ t → q ≡ (old || (u && m))
put_here true p q old l u m e h a b c = grind arith
put_here false p q old l u m e h a b c = grind arith

pub meets_on : (old set new : ℕ → Bool) (test : RowTest) (rows : List PlaceLinks) (i j : ℕ) (row : PlaceLinks) → j ≡ suc i → slice_get rows i ≡ Some row
    → ((k : ℕ) → new k ≡ (if (k == i) && test i row then true else set k)) → ((k : ℕ) → set k ≡ so_far old test rows i k) → (k : ℕ) → new k ≡ so_far old test rows j k
meets_on old set new test rows i j row e is h g k =
    subst (λ (m : ℕ). new k ≡ so_far old test rows m k) (sym e)
    (elim (ℕ_discrete k i) [
      | yes same ↦ (let P : ℕ → Type 0 = λ z. new z ≡ so_far old test rows (suc i) z in
          subst P (sym same)
          (put_here (test i row) (set i) (new i) (old i) (nat_lt i i) (nat_lt i (suc i)) (meets_at test rows i)
          (h i ∙ ap (λ (b : Bool). if b && test i row then true else set i) (eq-eqb i i refl)) (g i) (lt_same i) (lt_next i) (ap (test_if test i) is)))
      | no other ↦ h k ∙ (ap (λ (b : Bool). if b && test i row then true else set k) (ne_eqb k i other) ∙ (g k ∙ ap (λ (b : Bool). old k || (b && meets_at test rows k)) (sym (lt_suc k i other))))
    ])

within : (test : RowTest) (rows : List PlaceLinks) (k i : ℕ) → length rows ≤ i → (nat_lt k i && meets_at test rows k) ≡ meets_at test rows k
within test rows k i h = by_test (nat_lt k i) refl
  where
    by_test : (b : Bool) → nat_lt k i ≡ b → (b && meets_at test rows k) ≡ meets_at test rows k
    by_test true e = refl
    by_test false e = let low = ltb-false k i e in sym (ap (test_if test k) (slice_get_past rows k (omega (arith, low, h))))

pub meets_done : (old set : ℕ → Bool) (test : RowTest) (rows : List PlaceLinks) (i : ℕ) → length rows ≤ i → ((k : ℕ) → set k ≡ so_far old test rows i k) → (k : ℕ) → set k ≡ (old k || meets_at test rows k)
meets_done old set test rows i low g k = g k ∙ ap (λ (b : Bool). old k || b) (within test rows k i low)

-- A run of rows.

pub run_found : (test : RowTest) (rows : List PlaceLinks) (k n : ℕ) → any_run test rows k n ≡ true → (j : ℕ) × (((k ≤ j) × (j < k + n)) × (meets_at test rows j ≡ true))
run_found test rows k zero h = cc
run_found test rows k (suc n) h =
    either_of (or_cases (meets_at test rows k) (any_run test rows (suc k) n) h)
    (λ e. (k, ((omega arith, omega arith), e)))
    (λ e. let ih = run_found test rows (suc k) n e in
    let low = ih.1.0.0 in
    let high = ih.1.0.1 in
    (ih.0, ((omega (arith, low), omega (arith, high)), ih.1.1)))

pub run_there : (test : RowTest) (rows : List PlaceLinks) (k n j : ℕ) → k ≤ j → j < k + n → meets_at test rows j ≡ true → any_run test rows k n ≡ true
run_there test rows k zero j low high h = absurd (omega arith)
run_there test rows k (suc n) j low high h =
    elim (ℕ_discrete k j) [
      | yes e ↦ or_left (meets_at test rows k) (any_run test rows (suc k) n) (let P : ℕ → Type 0 = λ z. meets_at test rows z ≡ true in subst P (sym e) h)
      | no d ↦ or_right (meets_at test rows k) (any_run test rows (suc k) n) (run_there test rows (suc k) n j (omega arith) (omega arith) h)
    ]

-- a loop over a run
pub run_on : (test : RowTest) (rows : List PlaceLinks) (k j end : ℕ) (a b all : Bool) → j ≡ suc k → k < end → b ≡ (a || meets_at test rows k)
    → (a || any_run test rows k (end - k)) ≡ all → (b || any_run test rows j (end - j)) ≡ all
run_on test rows k j end a b all e low h g =
    let left : end - k ≡ suc (end - j) = omega arith in
    ap (λ (m : ℕ). b || any_run test rows m (end - j)) e
    ∙ more_of a b (meets_at test rows k) (any_run test rows (suc k) (end - j)) all h (ap (λ (n : ℕ). a || any_run test rows k n) (sym left) ∙ g)

pub run_done : (test : RowTest) (rows : List PlaceLinks) (k end : ℕ) (a all : Bool) → end ≤ k → (a || any_run test rows k (end - k)) ≡ all → a ≡ all
run_done test rows k end a all low g =
    let left : 0 ≡ end - k = omega arith in
    or_false a ∙ (ap (λ (n : ℕ). a || any_run test rows k n) left ∙ g)

-- where a place is one of those, and where it isn't
pub on_test : (a t b c : Bool) → c ≡ (a || t) → b ≡ true → c ≡ (a || (b && t))
on_test a t true c h e = h
on_test a t false c h e = cc

pub off_test : (a t b c : Bool) → c ≡ a → b ≡ false → c ≡ (a || (b && t))
off_test a t false c h e = h ∙ or_false a
off_test a t true c h e = cc
