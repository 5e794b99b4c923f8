-- Regions by their numbers.
use Rattle.std.proofs.Common.{ℕ, suc, ◌≡◌, ◌<◌, ◌≤◌, ◌+◌, ◌==◌, Bool, true, false, ◌&&◌, ◌||◌, not, if◌then◌else◌, List, [], ◌∷◌, ◌++◌, length, map, flat_map, refl, sym, ap, ◌∙◌, arith, eq-eqb, ne_eqb}
use Rattle.std.specs.List.{filter}
use Rattle.loom_command.specs.FilterFault.{most_clauses}
use Rattle.loom_law.specs.Filter.{Range, Ruling, Plan, has, share, entry_events, exit_events, ranges_of, clauses, numbered_from}
use Rattle.loom_law.specs.Walk.{Inside, entered_ranges, entered_regions, is_left_with, is_inside_clause}
use Rattle.loom_plan.specs.declared.sets.RegionSet.{RegionSet}
use Rattle.loom_plan.specs.Sets.{region_numbers}
use Rattle.loom_plan.specs.ElementNumbers.{numbers_where}
use Rattle.loom_plan.specs.PlanParts.{clause_regions, plan_regions, AreOfClauses}
use Rattle.loom_plan.specs.Operations.{insides_from, insides, is_entered, is_staying, is_region_among}
use Rattle.loom_plan.proofs.ElementNumbers.{chosen_low}

abbrev inside_of : ℕ → (ℕ × Range) → Inside
inside_of k x = record { filter = k; clause = x.0; range = x.1 }

-- those that meet a test
abbrev kept : (ℕ → (ℕ × Range) → Bool) → ℕ → ℕ → List (ℕ × Range) → List Inside
kept test k n [] = []
kept test k n (x ∷ xs) = if test n x then inside_of k x ∷ kept test k (suc n) xs else kept test k (suc n) xs

insides_alike : (k n : ℕ) (rs ss : List ℕ) (xs : List (ℕ × Range)) → ((m : ℕ) → n ≤ m → has rs m ≡ has ss m) → insides_from k n rs xs ≡ insides_from k n ss xs
insides_alike k n rs ss [] h = refl
insides_alike k n rs ss (x ∷ xs) h =
    ap (λ (b : Bool). if b then inside_of k x ∷ insides_from k (suc n) rs xs else insides_from k (suc n) rs xs) (h n (omega arith))
    ∙ ap (λ (is : List Inside). if has ss n then inside_of k x ∷ is else is) (insides_alike k (suc n) rs ss xs (λ m low. h m (omega arith)))

first_is : (b : Bool) (n : ℕ) (ns : List ℕ) → has ns n ≡ false → has (if b then n ∷ ns else ns) n ≡ b
first_is true n ns h = ap (λ (c : Bool). c || has ns n) (eq-eqb n n refl)
first_is false n ns h = h

later_is : (b : Bool) (n m : ℕ) (ns : List ℕ) → (n == m) ≡ false → has (if b then n ∷ ns else ns) m ≡ has ns m
later_is true n m ns h = ap (λ (c : Bool). c || has ns m) h
later_is false n m ns h = refl

pub kept_chosen : (test : ℕ → (ℕ × Range) → Bool) (k n : ℕ) (xs : List (ℕ × Range)) → insides_from k n (numbers_where test n xs) xs ≡ kept test k n xs
kept_chosen test k n [] = refl
kept_chosen test k n (x ∷ xs) =
    let all : List ℕ = numbers_where test n (x ∷ xs) in
    let more : List ℕ = numbers_where test (suc n) xs in
    ap (λ (b : Bool). if b then inside_of k x ∷ insides_from k (suc n) all xs else insides_from k (suc n) all xs)
    (first_is (test n x) n more (chosen_low test (suc n) xs n (omega arith)))
    ∙ ap (λ (is : List Inside). if test n x then inside_of k x ∷ is else is)
    (insides_alike k (suc n) all more xs (λ m low. later_is (test n x) n m more (ne_eqb n m (λ e. omega arith))) ∙ kept_chosen test k (suc n) xs)

-- entered

put_on : (b : Bool) (i : Inside) (is js : List Inside) → (if b then i ∷ (is ++ js) else is ++ js) ≡ (if b then i ∷ is else is) ++ js
put_on true i is js = refl
put_on false i is js = refl

ranges_entered : (ns : List ℕ) (k c n : ℕ) (rs : List Range) (xs : List (ℕ × Range)) (js : List Inside)
    → ((m : ℕ) → kept (is_entered ns) k m xs ≡ js) → kept (is_entered ns) k n (map (λ (x : Range). (c, x)) rs ++ xs) ≡ entered_ranges k ns c rs ++ js
ranges_entered ns k c n [] xs js h = h n
ranges_entered ns k c n (r ∷ rs) xs js h =
    ap (λ (is : List Inside). if share (entry_events r) ns then inside_of k (c, r) ∷ is else is) (ranges_entered ns k c (suc n) rs xs js h)
    ∙ put_on (share (entry_events r) ns) (inside_of k (c, r)) (entered_ranges k ns c rs) js

regions_entered : (ns : List ℕ) (k n : ℕ) (cs : List (ℕ × Ruling))
    → kept (is_entered ns) k n (flat_map clause_regions cs) ≡ flat_map (λ (c : ℕ × Ruling). entered_ranges k ns c.0 (ranges_of c.1)) cs
regions_entered ns k n [] = refl
regions_entered ns k n (c ∷ cs) =
    ranges_entered ns k c.0 n (ranges_of c.1) (flat_map clause_regions cs) (flat_map (λ (c : ℕ × Ruling). entered_ranges k ns c.0 (ranges_of c.1)) cs)
    (λ m. regions_entered ns k m cs)

pub entered_are : (f : Plan) (k : ℕ) (ns : List ℕ) (found : RegionSet) → region_numbers found ≡ numbers_where (is_entered ns) 1 (plan_regions f)
    → entered_regions f k ns ≡ insides f k found
entered_are f k ns found e =
    sym (regions_entered ns k 1 (clauses f))
    ∙ (sym (kept_chosen (is_entered ns) k 1 (plan_regions f)) ∙ ap (λ (rs : List ℕ). insides_from k 1 rs (plan_regions f)) (sym e))

-- not left

stays : (h s : Bool) (i : Inside) (is : List Inside) (p : Inside → Bool) → p i ≡ not s → filter p (if h then i ∷ is else is) ≡ (if h && not s then i ∷ filter p is else filter p is)
stays true s i is p e = ap (λ (b : Bool). if b then i ∷ filter p is else filter p is) e
stays false s i is p e = refl

pub staying_kept : (k : ℕ) (ns rs : List ℕ) (n : ℕ) (xs : List (ℕ × Range))
    → filter (λ (i : Inside). not (is_left_with k ns i)) (insides_from k n rs xs) ≡ kept (is_staying (has rs) ns) k n xs
staying_kept k ns rs n [] = refl
staying_kept k ns rs n (x ∷ xs) =
    stays (has rs n) (share (exit_events x.1) ns) (inside_of k x) (insides_from k (suc n) rs xs) (λ (i : Inside). not (is_left_with k ns i))
    (ap (λ (b : Bool). not (b && share (exit_events x.1) ns)) (eq-eqb k k refl))
    ∙ ap (λ (is : List Inside). if has rs n && not (share (exit_events x.1) ns) then inside_of k x ∷ is else is) (staying_kept k ns rs (suc n) xs)

pub staying_are : (f : Plan) (k : ℕ) (ns : List ℕ) (among found : RegionSet) → region_numbers found ≡ numbers_where (is_staying (has (region_numbers among)) ns) 1 (plan_regions f)
    → filter (λ (i : Inside). not (is_left_with k ns i)) (insides f k among) ≡ insides f k found
staying_are f k ns among found e =
    staying_kept k ns (region_numbers among) 1 (plan_regions f)
    ∙ (sym (kept_chosen (is_staying (has (region_numbers among)) ns) k 1 (plan_regions f)) ∙ ap (λ (rs : List ℕ). insides_from k 1 rs (plan_regions f)) (sym e))

-- the clauses

inside_if : (h : Bool) (k c : ℕ) (x : ℕ × Range) (is : List Inside)
    → is_inside_clause (if h then inside_of k x ∷ is else is) k c ≡ ((h && (x.0 == c)) || is_inside_clause is k c)
inside_if true k c x is = ap (λ (b : Bool). (b && (x.0 == c)) || is_inside_clause is k c) (eq-eqb k k refl)
inside_if false k c x is = refl

among_is : (k c : ℕ) (rs : List ℕ) (n : ℕ) (xs : List (ℕ × Range)) → is_inside_clause (insides_from k n rs xs) k c ≡ is_region_among (has rs) c n xs
among_is k c rs n [] = refl
among_is k c rs n (x ∷ xs) =
    inside_if (has rs n) k c x (insides_from k (suc n) rs xs) ∙ ap (λ (b : Bool). (has rs n && (x.0 == c)) || b) (among_is k c rs (suc n) xs)

pub inside_is : (f : Plan) (k c : ℕ) (among : RegionSet) → is_inside_clause (insides f k among) k c ≡ is_region_among (has (region_numbers among)) c 1 (plan_regions f)
inside_is f k c among = among_is k c (region_numbers among) 1 (plan_regions f)

of_clause : (n : ℕ) (rs : List Range) (xs : List (ℕ × Range)) → 0 < n → n ≤ most_clauses → AreOfClauses xs → AreOfClauses (map (λ (x : Range). (n, x)) rs ++ xs)
of_clause n [] xs low high h = h
of_clause n (r ∷ rs) xs low high h = ((low, high), of_clause n rs xs low high h)

of_clauses : (n : ℕ) (rs : List Ruling) → 0 < n → n + length rs ≤ suc most_clauses → AreOfClauses (flat_map clause_regions (numbered_from n rs))
of_clauses n [] low high = tt
of_clauses n (r ∷ rs) low high = of_clause n (ranges_of r) _ low (omega arith) (of_clauses (suc n) rs (omega arith) (omega arith))

pub have_clauses : (f : Plan) → length f.rulings ≤ most_clauses → AreOfClauses (plan_regions f)
have_clauses f few = of_clauses 1 f.rulings (omega arith) (omega arith)
