-- What the parts of a filter in a program have to do with each other.
use Rattle.std.specs.Prelude.{ℕ, suc, ◌≡◌, ◌<◌, ◌≤◌, Bool, true, false, List, [], ◌∷◌, length, flat_map, map, Option, Some, None, if◌then◌else◌}
use Rattle.loom_tree.specs.Tree.{Source}
use Rattle.loom_lang.specs.Places.{places}
use Rattle.loom_command.specs.FilterFault.{most_clauses, most_events}
use Rattle.loom_law.specs.Filter.{Range, Ruling, exclusive, Plan, has, ranges_of, clauses, waits, posts}
use Rattle.loom_plan.specs.declared.sets.EventSet.{EventSet}
use Rattle.loom_plan.specs.declared.plan.RegionRow.{RegionRow}
use Rattle.loom_plan.specs.declared.plan.WatchRow.{WatchRow}
use Rattle.loom_plan.specs.Sets.{event_numbers}
use Rattle.loom_plan.specs.PlanView.{regions_in}
use Rattle.loom_plan.specs.PlaceEvents.{place_names, AreRows}

-- the regions of a plan with the numbers of their clauses, in the order of the text
abbrev pub of_clause : ℕ → List Range → List (ℕ × Range)
of_clause c xs = map (λ (x : Range). (c, x)) xs

abbrev pub clause_regions : ℕ × Ruling → List (ℕ × Range)
clause_regions c = of_clause c.0 (ranges_of c.1)

abbrev pub plan_regions : Plan → List (ℕ × Range)
plan_regions f = flat_map clause_regions (clauses f)

-- An exclusion says of its regions that one thread at most is inside of them.
abbrev pub is_exclusion : Ruling → Bool
is_exclusion (exclusive xs) = true
is_exclusion _ = false

-- the number of the first of these clauses that is no exclusion; the first one has the number n
abbrev pub first_other : ℕ → List Ruling → Option ℕ
first_other n [] = None
first_other n (r ∷ rs) = if is_exclusion r then first_other (suc n) rs else Some n

-- No more than a set of events, of clauses or of regions can have.
pub record IsSmallPlan (f : Plan) : Type 0 where
  pub events : length f.watches ≤ most_events
  pub clauses : length f.rulings ≤ most_clauses
  pub regions : length (plan_regions f) ≤ most_events

-- the set has the events with this property
abbrev pub IsSetOf : EventSet → (ℕ → Bool) → Type 0
IsSetOf s test = (n : ℕ) → 0 < n → n ≤ most_events → has (event_numbers s) n ≡ test n

pub record IsFitting (p : Source) (f : Plan) (waiting posting : EventSet) (areas : List RegionRow) (table : List WatchRow) : Type 0 where
  pub small : IsSmallPlan f
  pub waits : IsSetOf waiting (waits f)
  pub posts : IsSetOf posting (posts f)
  pub regions : regions_in areas ≡ plan_regions f
  pub rows : AreRows f (place_names p) (places p) table

-- each region's clause has a number that a set can have
abbrev pub AreOfClauses : List (ℕ × Range) → Type 0
AreOfClauses [] = Unit {0}
AreOfClauses (x ∷ xs) = ((0 < x.0) × (x.0 ≤ most_clauses)) × AreOfClauses xs
