use Rattle.std.proofs.Common.{◌≡◌, ◌≤◌, drop}
use Rattle.loom_command.specs.Script.{latest}
use Rattle.loom_script.specs.Words.{moment_from}
use Rattle.loom_script.proofs.word.moment_from.Given as goal

abbrev pub invariant-digits : goal.invariant-digits
invariant-digits l = record {
  same : moment_from l.value (drop l.b-index l.digits) ≡ moment_from 0 l.digits;
  small : l.value ≤ latest;
}
