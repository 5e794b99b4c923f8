use Rattle.std.proofs.Common.{◌-◌, ◌≤◌, drop, Option}
use Rattle.loom_command.specs.FilterFault.{FilterFault}
use Rattle.loom_filter.specs.ReaderView.{clauses_with}
use Rattle.loom_filter.specs.Fault.{TellsFault}
use Rattle.loom_filter.proofs.fault.first_fault.Given as goal

abbrev pub invariant-clauses : goal.invariant-clauses
invariant-clauses l = record {
  number : l.number ≤ 9;
  room : l.room ≤ 32;
  tells : (x : Option FilterFault) → TellsFault l.number (32 - l.room) (clauses_with (drop l.read-index l.clauses)) x → TellsFault 1 0 (clauses_with l.clauses) x;
}
