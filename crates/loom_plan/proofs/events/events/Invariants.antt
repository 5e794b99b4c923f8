use Rattle.std.proofs.Common.{◌≡◌, ◌++◌, drop, flat_map}
use Rattle.loom_law.specs.Filter.{watches_of_clause}
use Rattle.loom_filter.specs.View.{clauses_of}
use Rattle.loom_plan.specs.PlanView.{watches_of}
use Rattle.loom_plan.proofs.events.events.Given as goal

abbrev pub invariant-put : goal.invariant-put
invariant-put l = watches_of l.events.items ++ flat_map (watches_of_clause l.program) (clauses_of (drop l.clause-index l.clauses)) ≡ flat_map (watches_of_clause l.program) (clauses_of l.clauses)
