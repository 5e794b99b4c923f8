use Rattle.std.proofs.Common.{ℕ, ◌≡◌, take}
use Rattle.std.specs.List.{list_any}
use Rattle.loom_law.specs.Filter.{has}
use Rattle.loom_plan.specs.Sets.{event_numbers, clause_numbers}
use Rattle.loom_walk.specs.RegionSteps.{is_inside_behind}
use Rattle.loom_walk.proofs.region_notes.clauses_in.Given as goal

abbrev pub invariant-notes : goal.invariant-notes
invariant-notes l = (m : ℕ) → has (clause_numbers l.clauses) m ≡ list_any (is_inside_behind l.c.plan l.k l.depth (event_numbers l.events) m) (take l.note-index l.notes)
