-- Sets of events, of clauses and of regions, by their numbers in a plan, each counted from 1.
use Rattle.std.specs.Prelude.{ℕ, List}
use Rattle.loom_plan.specs.declared.sets.EventSet.{EventSet}
use Rattle.loom_plan.specs.declared.sets.ClauseSet.{ClauseSet}
use Rattle.loom_plan.specs.declared.sets.RegionSet.{RegionSet}
use Rattle.loom_plan.specs.Numbers.{numbers_of}

-- their numbers, ascending

abbrev pub event_numbers : EventSet → List ℕ
event_numbers s = numbers_of s.numbers

abbrev pub clause_numbers : ClauseSet → List ℕ
clause_numbers s = numbers_of s.numbers

abbrev pub region_numbers : RegionSet → List ℕ
region_numbers s = numbers_of s.numbers
