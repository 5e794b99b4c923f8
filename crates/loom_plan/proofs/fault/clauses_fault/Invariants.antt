use Rattle.std.proofs.Common.{◌≡◌, ◌+◌, drop}
use Rattle.loom_filter.specs.View.{clauses_of}
use Rattle.loom_plan.specs.Fault.{first_from}
use Rattle.loom_plan.proofs.fault.clauses_fault.Given as goal

abbrev pub invariant-clauses : goal.invariant-clauses
invariant-clauses l = first_from l.program l.file (l.i + 1) (clauses_of (drop l.i l.clauses)) ≡ first_from l.program l.file 1 (clauses_of l.clauses)
