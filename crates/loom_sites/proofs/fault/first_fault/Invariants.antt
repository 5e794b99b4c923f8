use Rattle.std.proofs.Common.{◌≡◌, ◌-◌, suc}
use Rattle.loom_sites.specs.Faults.{first_among}
use Rattle.loom_sites.proofs.fault.first_fault.Given as goal

abbrev pub invariant-clauses : goal.invariant-clauses
invariant-clauses l = first_among l.areas (suc l.i) (l.clauses - l.i) ≡ first_among l.areas 1 l.clauses
