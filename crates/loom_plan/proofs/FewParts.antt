-- How much a filter can have.
use Rattle.std.proofs.Common.{ℕ, suc, ◌≡◌, ◌<◌, ◌≤◌, ◌+◌, ◌==◌, inl, inr, Bool, true, false, ◌&&◌, ◌||◌, List, [], ◌∷◌, length, map, flat_map, refl, sym, ap, subst, ◌∙◌, arith, eq-eqb, le-leb, lt-ltb, length-append}
use Rattle.std.specs.Prelude.{nat_le, nat_lt}
use Rattle.loom_tree.specs.Tree.{Source}
use Rattle.loom_command.specs.Filter as tree
use Rattle.loom_command.specs.FilterForm.{StepForm, RegionForm, between, whole, ClauseForm, order, exclusive, unilateral, event_tree, events_tree, step_tree, region_tree, clause_tree, filter_tree}
use Rattle.loom_command.specs.FilterFault as fault
use Rattle.loom_command.specs.FilterFault.{FilterFault, HasFault, IsFaultOf, IsFilter, is_too_much}
use Rattle.loom_law.specs.Filter.{Range, Ruling, numbered_from, ranges_from, ruling_from, rulings_from, ranges_of, watches_of_region, watches_of_clause}
use Rattle.loom_filter.specs.Fault.{region_events, regions_events, clause_events}
use Rattle.loom_plan.specs.Counts.{filter_events, clause_region_count, filter_regions, IsSmallFilter}
use Rattle.loom_plan.specs.declared.plan.EventWatch.{EventWatch}
use Rattle.loom_plan.specs.declared.plan.Rule.{Rule}
use Rattle.loom_plan.specs.PlanView.{event_watch_of, watches_of, ruling_of, rulings_of, plan_of_rows}
use Rattle.loom_plan.specs.PlanParts as fitting
use Rattle.loom_plan.specs.PlanParts.{IsSmallPlan}
use Rattle.loom_plan.proofs.LocalNames.{as_many_in_filter}
use Rattle.loom_plan.proofs.ElementNumbers.{length_map}

-- as many events as are written

as_many_at_region : (r : RegionForm) → region_events (region_tree r) ≡ fault.region_events r
as_many_at_region (between e es x xs) =
    let first : length (events_tree (e ∷ es)) ≡ length (e ∷ es) = length_map (λ (s : StepForm). event_tree s.event) (e ∷ es) in
    let second : length (events_tree (x ∷ xs)) ≡ length (x ∷ xs) = length_map (λ (s : StepForm). event_tree s.event) (x ∷ xs) in
    omega arith
as_many_at_region (whole f test) = refl

as_many_at_regions : (rs : List RegionForm) → regions_events (map region_tree rs) ≡ fault.regions_events rs
as_many_at_regions [] = refl
as_many_at_regions (r ∷ rs) = let first = as_many_at_region r in let rest = as_many_at_regions rs in omega arith

as_many_at_clause : (c : ClauseForm) → clause_events (clause_tree c) ≡ fault.clause_events c
as_many_at_clause (order a b ss) = let rest : length (map step_tree ss) ≡ length ss = length_map step_tree ss in omega arith
as_many_at_clause (exclusive r rs) = let first = as_many_at_region r in let rest = as_many_at_regions rs in omega arith
as_many_at_clause (unilateral r) = as_many_at_region r

-- no clause is too much

is_ninth : (n before e : ℕ) → n ≡ 9 → ((n == 9) || (nat_le before 32 && nat_lt 32 (before + e))) ≡ true
is_ninth n before e h = ap (λ (b : Bool). b || (nat_le before 32 && nat_lt 32 (before + e))) (eq-eqb n 9 h)

or_true : (a b : Bool) → b ≡ true → (a || b) ≡ true
or_true true b e = refl
or_true false b e = e

is_full : (n before e : ℕ) → before ≤ 32 → 32 < before + e → ((n == 9) || (nat_le before 32 && nat_lt 32 (before + e))) ≡ true
is_full n before e h low =
    or_true (n == 9) (nat_le before 32 && nat_lt 32 (before + e))
    (ap (λ (b : Bool). b && nat_lt 32 (before + e)) (le-leb before 32 h) ∙ lt-ltb 32 (before + e) low)

pub record HasRoom (n before : ℕ) (cs : List ClauseForm) : Type 0 where
  pub clauses : n + length cs ≤ 9
  pub events : before + filter_events (filter_tree cs) ≤ 32

too_much : (n before : ℕ) (c : ClauseForm) (cs : List ClauseForm) → is_too_much n before c ≡ true → IsFaultOf n before (c ∷ cs) (record { clause = n; number = 13 })
too_much n before c cs e = inl (refl, inr (inr (refl, e)))

has_room : (n before : ℕ) (cs : List ClauseForm) → n ≤ 9 → before ≤ 32 → ((x : FilterFault) → IsFaultOf n before cs x → ⊥) → HasRoom n before cs
has_room n before [] a b h = record { clauses = omega arith; events = omega arith }
has_room n before (c ∷ cs) a b h =
    let ninth : n ≡ 9 → ⊥ = λ e. h (record { clause = n; number = 13 }) (too_much n before c cs (is_ninth n before (fault.clause_events c) e)) in
    let full : 32 < before + fault.clause_events c → ⊥ = λ e. h (record { clause = n; number = 13 }) (too_much n before c cs (is_full n before (fault.clause_events c) b e)) in
    let rest : HasRoom (suc n) (before + fault.clause_events c) cs = has_room (suc n) (before + fault.clause_events c) cs (omega arith) (omega arith) (λ x k. h x (inr k)) in
    let same = as_many_at_clause c in
    let events = rest.events in
    let clauses = rest.clauses in
    record { clauses = omega arith; events = omega arith }

-- a region has an event

region_has_one : (r : RegionForm) → 1 ≤ region_events (region_tree r)
region_has_one (between e es x xs) = omega arith
region_has_one (whole f test) = omega arith

regions_have : (rs : List RegionForm) → length (map region_tree rs) ≤ regions_events (map region_tree rs)
regions_have [] = omega arith
regions_have (r ∷ rs) = let first = region_has_one r in let rest = regions_have rs in omega arith

clause_has : (c : ClauseForm) → clause_region_count (clause_tree c) ≤ clause_events (clause_tree c)
clause_has (order a b ss) = omega arith
clause_has (exclusive r rs) = let first = region_has_one r in let rest = regions_have rs in omega arith
clause_has (unilateral r) = region_has_one r

filter_has : (cs : List ClauseForm) → filter_regions (filter_tree cs) ≤ filter_events (filter_tree cs)
filter_has [] = omega arith
filter_has (c ∷ cs) = let first = clause_has c in let rest = filter_has cs in omega arith

small_form : (cs : List ClauseForm) → HasRoom 1 0 cs → IsSmallFilter (filter_tree cs)
small_form cs h =
    let clauses = h.clauses in
    let events = h.events in
    let same : length (filter_tree cs) ≡ length cs = length_map clause_tree cs in
    let regions = filter_has cs in
    record { clauses = omega arith; events = omega arith; regions = omega arith }

pub small_filter : (f : tree.Filter) → (bytes : List ℕ) × IsFilter bytes f → IsSmallFilter f
small_filter f h =
    let is : IsFilter h.0 f = h.1 in
    subst IsSmallFilter (sym is.tree) (small_form (is.first ∷ is.others) (has_room 1 0 (is.first ∷ is.others) (omega arith) (omega arith) is.faultless))

-- as many rulings and regions as clauses and regions

pub as_many_rulings : (p : Source) (n : ℕ) (f : tree.Filter) → length (rulings_from p n f) ≡ length f
as_many_rulings p n [] = refl
as_many_rulings p n (c ∷ cs) = ap suc (as_many_rulings p (n + length (watches_of_clause p c)) cs)

as_many_ranges : (p : Source) (n : ℕ) (rs : List tree.Region) → length (ranges_from p n rs) ≡ length rs
as_many_ranges p n [] = refl
as_many_ranges p n (r ∷ rs) = ap suc (as_many_ranges p (n + length (watches_of_region p r)) rs)

as_many_in_ruling : (p : Source) (n : ℕ) (c : tree.Clause) → length (ranges_of (ruling_from p n c)) ≡ clause_region_count c
as_many_in_ruling p n (tree.order ss) = refl
as_many_in_ruling p n (tree.exclusive rs) = as_many_ranges p n rs
as_many_in_ruling p n (tree.unilateral r) = refl

pub as_many_regions : (p : Source) (n m : ℕ) (f : tree.Filter) → length (flat_map fitting.clause_regions (numbered_from m (rulings_from p n f))) ≡ filter_regions f
as_many_regions p n m [] = refl
as_many_regions p n m (c ∷ cs) =
    let k : ℕ = n + length (watches_of_clause p c) in
    let more : List (ℕ × Range) = flat_map fitting.clause_regions (numbered_from (suc m) (rulings_from p k cs)) in
    let first : length (fitting.clause_regions (m, ruling_from p n c)) ≡ clause_region_count c = length_map (λ (x : Range). (m, x)) (ranges_of (ruling_from p n c)) ∙ as_many_in_ruling p n c in
    let rest : length more ≡ filter_regions cs = as_many_regions p k (suc m) cs in
    length-append (fitting.clause_regions (m, ruling_from p n c)) more ∙ omega arith

pub few_rules : (p : Source) (f : tree.Filter) (rs : List Rule) → rulings_of rs ≡ rulings_from p 1 f → length f ≤ 8 → length rs ≤ 8
few_rules p f rs e h =
    let one : length (rulings_of rs) ≡ length rs = length_map ruling_of rs in
    let two = ap length e in
    let three : length (rulings_from p 1 f) ≡ length f = as_many_rulings p 1 f in
    omega arith

pub few_events : (p : Source) (f : tree.Filter) (es : List EventWatch) → watches_of es ≡ flat_map (watches_of_clause p) f → filter_events f ≤ 32 → length es ≤ 32
few_events p f es e h =
    let one : length (watches_of es) ≡ length es = length_map event_watch_of es in
    let two = ap length e in
    let three : length (flat_map (watches_of_clause p) f) ≡ filter_events f = as_many_in_filter p f in
    omega arith

pub small_plan : (p : Source) (f : tree.Filter) (es : List EventWatch) (rs : List Rule) → watches_of es ≡ flat_map (watches_of_clause p) f → rulings_of rs ≡ rulings_from p 1 f
    → IsSmallFilter f → IsSmallPlan (plan_of_rows es rs)
small_plan p f es rs e g h =
    let events = few_events p f es e h.events in
    let clauses = few_rules p f rs g h.clauses in
    let regions = h.regions in
    let one : length (watches_of es) ≡ length es = length_map event_watch_of es in
    let two : length (rulings_of rs) ≡ length rs = length_map ruling_of rs in
    let three : length (flat_map fitting.clause_regions (numbered_from 1 (rulings_of rs))) ≡ filter_regions f
    = ap (λ (xs : List Ruling). length (flat_map fitting.clause_regions (numbered_from 1 xs))) g ∙ as_many_regions p 1 1 f in
    record { events = omega arith; clauses = omega arith; regions = omega arith }
