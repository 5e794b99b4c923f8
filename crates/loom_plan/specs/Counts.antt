-- How many events and regions a filter has.
use Rattle.std.specs.Prelude.{ℕ, ◌+◌, ◌≤◌, [], ◌∷◌, length}
use Rattle.loom_command.specs.Filter.{Clause, order, exclusive, unilateral, Filter}
use Rattle.loom_command.specs.FilterFault.{most_clauses, most_events}
use Rattle.loom_filter.specs.Fault.{clause_events}

abbrev pub filter_events : Filter → ℕ
filter_events [] = 0
filter_events (c ∷ cs) = clause_events c + filter_events cs

-- and how many regions

abbrev pub clause_region_count : Clause → ℕ
clause_region_count (order ss) = 0
clause_region_count (exclusive rs) = length rs
clause_region_count (unilateral r) = 1

abbrev pub filter_regions : Filter → ℕ
filter_regions [] = 0
filter_regions (c ∷ cs) = clause_region_count c + filter_regions cs

-- A filter that no fault of its text refuses has no more.
pub record IsSmallFilter (f : Filter) : Type 0 where
  pub clauses : length f ≤ most_clauses
  pub events : filter_events f ≤ most_events
  pub regions : filter_regions f ≤ most_events
