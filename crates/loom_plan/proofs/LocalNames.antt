-- Locals by their numbers, and counts of events.
use Rattle.std.proofs.Common.{ℕ, zero, suc, ◌≡◌, ◌<◌, ◌==◌, Bool, true, false, ◌||◌, if◌then◌else◌, List, [], ◌∷◌, length, map, flat_map, ℤ, Option, Some, None, refl, ap, ◌∙◌, arith, length-append, ne_eqb}
use Rattle.std.specs.Prelude.{slice_get, option_map}
use Rattle.std.specs.Cmp.Lexicographic.{pointwise}
use Rattle.loom_tree.specs.Tree.{Source}
use Rattle.loom_lang.specs.Numbers.{index_of}
use Rattle.loom_lang.specs.Trace.{value_in}
use Rattle.loom_flow.specs.State.{named}
use Rattle.loom_command.specs.Filter.{OrderStep, Region, between, whole, Clause, order, exclusive, unilateral, Filter}
use Rattle.loom_law.specs.Filter.{has, watch_of, watches_of_region, watches_of_clause, numbers}
use Rattle.loom_plan.specs.Numbers.{consecutive}
use Rattle.loom_filter.specs.Fault.{region_events, regions_events, clause_events}
use Rattle.loom_plan.specs.Counts.{filter_events}
use Rattle.loom_plan.proofs.ElementNumbers.{length_map}

-- the value of a name is that of its number

abbrev value_at : List ℤ → Option ℕ → Option ℤ
value_at vs None = None
value_at vs (Some i) = slice_get vs i

behind_one : (v : ℤ) (vs : List ℤ) (o : Option ℕ) → value_at (v ∷ vs) (option_map suc o) ≡ value_at vs o
behind_one v vs None = refl
behind_one v vs (Some i) = refl

no_value : (o : Option ℕ) → value_at [] o ≡ None
no_value None = refl
no_value (Some zero) = refl
no_value (Some (suc i)) = refl

pub value_is : (x : List ℕ) (names : List (List ℕ)) (vs : List ℤ) → value_at vs (index_of x names) ≡ value_in (named names vs) x
value_is x [] vs = refl
value_is x (y ∷ ys) [] = no_value (index_of x (y ∷ ys))
value_is x (y ∷ ys) (v ∷ vs) = by (pointwise ◌==◌ y x) (behind_one v vs (index_of x ys) ∙ value_is x ys vs)
  where
    by : (b : Bool) → value_at (v ∷ vs) (option_map suc (index_of x ys)) ≡ value_in (named ys vs) x
        → value_at (v ∷ vs) (if b then Some 0 else option_map suc (index_of x ys)) ≡ (if b then Some v else value_in (named ys vs) x)
    by true h = refl
    by false h = h

pub value_of_number : (x : List ℕ) (names : List (List ℕ)) (i : ℕ) → Some i ≡ index_of x names → (vs : List ℤ) → slice_get vs i ≡ value_in (named names vs) x
value_of_number x names i e vs = ap (value_at vs) e ∙ value_is x names vs

pub value_of_none : (x : List ℕ) (names : List (List ℕ)) → None ≡ index_of x names → (vs : List ℤ) → None ≡ value_in (named names vs) x
value_of_none x names e vs = ap (value_at vs) e ∙ value_is x names vs

-- counts

pub as_many_in_region : (p : Source) (r : Region) → length (watches_of_region p r) ≡ region_events r
as_many_in_region p (between es xs) =
    let first : length (map watch_of es) ≡ length es = length_map watch_of es in
    let second : length (map watch_of xs) ≡ length xs = length_map watch_of xs in
    length-append (map watch_of es) (map watch_of xs) ∙ omega arith
as_many_in_region p (whole f test) = refl

pub as_many_in_regions : (p : Source) (rs : List Region) → length (flat_map (watches_of_region p) rs) ≡ regions_events rs
as_many_in_regions p [] = refl
as_many_in_regions p (r ∷ rs) =
    let first : length (watches_of_region p r) ≡ region_events r = as_many_in_region p r in
    let rest : length (flat_map (watches_of_region p) rs) ≡ regions_events rs = as_many_in_regions p rs in
    length-append (watches_of_region p r) (flat_map (watches_of_region p) rs) ∙ omega arith

pub as_many_in_clause : (p : Source) (c : Clause) → length (watches_of_clause p c) ≡ clause_events c
as_many_in_clause p (order ss) = length_map (λ (s : OrderStep). watch_of s.event) ss
as_many_in_clause p (exclusive rs) = as_many_in_regions p rs
as_many_in_clause p (unilateral r) = as_many_in_region p r

pub as_many_in_filter : (p : Source) (f : Filter) → length (flat_map (watches_of_clause p) f) ≡ filter_events f
as_many_in_filter p [] = refl
as_many_in_filter p (c ∷ cs) =
    let first : length (watches_of_clause p c) ≡ clause_events c = as_many_in_clause p c in
    let rest : length (flat_map (watches_of_clause p) cs) ≡ filter_events cs = as_many_in_filter p cs in
    length-append (watches_of_clause p c) (flat_map (watches_of_clause p) cs) ∙ omega arith

pub numbers_run : {A : Type 0} (n : ℕ) (xs : List A) → numbers n xs ≡ consecutive n (length xs)
numbers_run n [] = refl
numbers_run n (x ∷ xs) = ap (λ ns. n ∷ ns) (numbers_run (suc n) xs)

pub run_low : (n k m : ℕ) → m < n → has (consecutive n k) m ≡ false
run_low n zero m low = refl
run_low n (suc k) m low = other (n == m) (has (consecutive (suc n) k) m) (ne_eqb n m (λ e. omega arith)) (run_low (suc n) k m (omega arith))
  where
    other : (a b : Bool) → a ≡ false → b ≡ false → (a || b) ≡ false
    other true b e h = cc
    other false b e h = h
