-- The clauses and regions of a filter, one more at a time.
use Rattle.std.proofs.Common.{ℕ, suc, ◌≡◌, ◌<◌, ◌≤◌, ◌+◌, List, [], ◌∷◌, ◌++◌, length, drop, get_or, sym, ap, ◌∙◌, arith, append_assoc}
use Rattle.std.proofs.lemmas.List.{map-append}
use Rattle.std.proofs.Math.Seq.{drop-cons}
use Rattle.loom_tree.specs.Tree.{Source}
use Rattle.loom_command.specs.Filter as tree
use Rattle.loom_filter.specs.declared.filter.Event.{Event}
use Rattle.loom_filter.specs.declared.filter.Region.{Region}
use Rattle.loom_filter.specs.declared.filter.Clause.{Clause}
use Rattle.loom_filter.specs.View.{event_of, events_of, region_of, regions_of, clause_of, clauses_of}
use Rattle.loom_law.specs.Filter.{Range, Ruling, numbers, range_from, ranges_from, ruling_from, rulings_from, watches_of_region, watches_of_clause}
use Rattle.loom_plan.specs.declared.plan.RegionSpan.{RegionSpan}
use Rattle.loom_plan.specs.declared.plan.Rule.{Rule}
use Rattle.loom_plan.specs.Numbers.{consecutive}
use Rattle.loom_filter.specs.Fault.{region_events, regions_events, clause_events}
use Rattle.loom_plan.specs.Counts.{filter_events}
use Rattle.loom_plan.specs.PlanView.{range_of, span_ranges, ruling_of, rulings_of}
use Rattle.loom_plan.proofs.LocalNames.{as_many_in_region, as_many_in_clause, numbers_run}
use Rattle.loom_plan.proofs.ElementNumbers.{length_map}

pub run_more : (a b k j : ℕ) → b ≡ suc a → j ≡ suc k → a ∷ consecutive b k ≡ consecutive a j
run_more a b k j e h = ap (λ (m : ℕ). a ∷ consecutive m k) e ∙ ap (consecutive a) (sym h)

pub next_region : (xs : List Region) (i : ℕ) (d : Region) → i < length xs → regions_of (drop i xs) ≡ region_of (get_or xs i d) ∷ regions_of (drop (suc i) xs)
next_region xs i d low = ap regions_of (drop-cons xs i d low)

pub next_clause : (xs : List Clause) (i : ℕ) (d : Clause) → i < length xs → clauses_of (drop i xs) ≡ clause_of (get_or xs i d) ∷ clauses_of (drop (suc i) xs)
next_clause xs i d low = ap clauses_of (drop-cons xs i d low)

pub as_many_events : (xs : List Event) → length (events_of xs) ≡ length xs
as_many_events xs = length_map event_of xs

pub events_run : (n : ℕ) (xs : List Event) → consecutive n (length xs) ≡ numbers n (events_of xs)
events_run n xs = ap (consecutive n) (sym (as_many_events xs)) ∙ sym (numbers_run n (events_of xs))

pub spans_more : (p : Source) (old : List RegionSpan) (x : RegionSpan) (xs : List Region) (i j n k : ℕ) (d : Region) → j ≡ suc i → i < length xs
    → range_of x ≡ range_from n (region_of (get_or xs i d)) → k ≡ region_events (region_of (get_or xs i d))
    → span_ranges (old ++ x ∷ []) ++ ranges_from p (n + k) (regions_of (drop j xs)) ≡ span_ranges old ++ ranges_from p n (regions_of (drop i xs))
spans_more p old x xs i j n k d next low is count =
    let r : tree.Region = region_of (get_or xs i d) in
    ap (λ (ys : List Range). ys ++ ranges_from p (n + k) (regions_of (drop j xs))) (map-append range_of old (x ∷ []))
    ∙ (append_assoc (span_ranges old) (range_of x ∷ []) (ranges_from p (n + k) (regions_of (drop j xs)))
    ∙ (ap (λ (y : Range). span_ranges old ++ (y ∷ ranges_from p (n + k) (regions_of (drop j xs)))) is
    ∙ (ap (λ (m : ℕ). span_ranges old ++ (range_from n r ∷ ranges_from p (n + m) (regions_of (drop j xs)))) (count ∙ sym (as_many_in_region p r))
    ∙ (ap (λ (m : ℕ). span_ranges old ++ (range_from n r ∷ ranges_from p (n + length (watches_of_region p r)) (regions_of (drop m xs)))) next
    ∙ ap (λ (rs : List tree.Region). span_ranges old ++ ranges_from p n rs) (sym (next_region xs i d low))))))

pub rules_more : (p : Source) (old : List Rule) (x : Rule) (xs : List Clause) (i j n k : ℕ) (d : Clause) → j ≡ suc i → i < length xs
    → ruling_of x ≡ ruling_from p n (clause_of (get_or xs i d)) → k ≡ clause_events (clause_of (get_or xs i d))
    → rulings_of (old ++ x ∷ []) ++ rulings_from p (n + k) (clauses_of (drop j xs)) ≡ rulings_of old ++ rulings_from p n (clauses_of (drop i xs))
rules_more p old x xs i j n k d next low is count =
    let r : tree.Clause = clause_of (get_or xs i d) in
    ap (λ (ys : List Ruling). ys ++ rulings_from p (n + k) (clauses_of (drop j xs))) (map-append ruling_of old (x ∷ []))
    ∙ (append_assoc (rulings_of old) (ruling_of x ∷ []) (rulings_from p (n + k) (clauses_of (drop j xs)))
    ∙ (ap (λ (y : Ruling). rulings_of old ++ (y ∷ rulings_from p (n + k) (clauses_of (drop j xs)))) is
    ∙ (ap (λ (m : ℕ). rulings_of old ++ (ruling_from p n r ∷ rulings_from p (n + m) (clauses_of (drop j xs)))) (count ∙ sym (as_many_in_clause p r))
    ∙ (ap (λ (m : ℕ). rulings_of old ++ (ruling_from p n r ∷ rulings_from p (n + length (watches_of_clause p r)) (clauses_of (drop m xs)))) next
    ∙ ap (λ (rs : List tree.Clause). rulings_of old ++ rulings_from p n rs) (sym (next_clause xs i d low))))))

pub region_fits : (xs : List Region) (i j n k : ℕ) (d : Region) → j ≡ suc i → i < length xs → k ≡ region_events (region_of (get_or xs i d))
    → n + regions_events (regions_of (drop i xs)) ≤ 33 → (n + k) + regions_events (regions_of (drop j xs)) ≤ 33
region_fits xs i j n k d next low count h =
    let e = ap regions_events (next_region xs i d low) in
    let f = ap (λ (m : ℕ). regions_events (regions_of (drop m xs))) next in
    omega arith

pub clause_fits : (xs : List Clause) (i j n k : ℕ) (d : Clause) → j ≡ suc i → i < length xs → k ≡ clause_events (clause_of (get_or xs i d))
    → n + filter_events (clauses_of (drop i xs)) ≤ 33 → (n + k) + filter_events (clauses_of (drop j xs)) ≤ 33
clause_fits xs i j n k d next low count h =
    let e = ap filter_events (next_clause xs i d low) in
    let f = ap (λ (m : ℕ). filter_events (clauses_of (drop m xs))) next in
    omega arith
