-- The numbers of a set of events, taken out one after another.
use Rattle.std.proofs.Common.{ℕ, zero, suc, ◌≡◌, ◌≤◌, ◌<◌, Bool, true, false, List, [], ◌∷◌, ◌++◌, if◌then◌else◌, length, length-append, append_assoc, append-nil, sym, ap, ◌∙◌, arith}
use Rattle.loom_trace.specs.Limits.{event_limit}
use Rattle.loom_plan.specs.declared.sets.EventSet.{EventSet}
use Rattle.loom_plan.specs.Numbers.{select, is_bit, numbers_of, most_numbers}
use Rattle.loom_plan.specs.Sets.{event_numbers}

-- There are few.

few_if : (b : Bool) (x k : ℕ) (xs : List ℕ) → length xs ≤ k → length (if b then x ∷ xs else xs) ≤ suc k
few_if true x k xs h = omega (arith, h)
few_if false x k xs h = omega (arith, h)

few_selected : (test : ℕ → Bool) (k i : ℕ) → length (select test k i) ≤ k
unfolding select
few_selected test zero i = omega arith
few_selected test (suc k) i = few_if (test i) (suc i) k (select test k (suc i)) (few_selected test k (suc i))

pub few_events : (s : EventSet) → length (event_numbers s) ≤ event_limit
unfolding numbers_of
few_events s = few_selected (is_bit s.numbers.bits) most_numbers 0

-- Each goes from the set to the row.

pub one_more : (row new left rest all : List ℕ) (n : ℕ) → new ≡ row ++ n ∷ [] → left ≡ n ∷ rest → row ++ left ≡ all → new ++ rest ≡ all
one_more row new left rest all n put taken h =
    ap (λ (xs : List ℕ). xs ++ rest) put ∙ (append_assoc row (n ∷ []) rest ∙ (ap (λ (xs : List ℕ). row ++ xs) (sym taken) ∙ h))

pub room_for_one : (row left rest all : List ℕ) (n most : ℕ) → left ≡ n ∷ rest → row ++ left ≡ all → length all ≤ most → length row < most
room_for_one row left rest all n most taken h few =
    let long : length left ≡ suc (length rest) = ap length taken in
    let both : length (row ++ left) ≡ length all = ap length h in
    let sum = length-append row left in
    omega (arith, long, both, sum, few)

pub none_left : (row left all : List ℕ) → left ≡ [] → row ++ left ≡ all → row ≡ all
none_left row left all none h = sym (append-nil row) ∙ (ap (λ (xs : List ℕ). row ++ xs) (sym none) ∙ h)
