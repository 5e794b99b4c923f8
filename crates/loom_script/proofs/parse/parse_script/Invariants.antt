use Rattle.std.proofs.Common.{length, ◌≤◌, ◌+◌, ◌-◌}
use Rattle.loom_script.specs.View.{commands_of}
use Rattle.loom_script.proofs.ScriptReading.{HasCommands}
use Rattle.loom_script.proofs.parse.parse_script.Given as goal

abbrev pub invariant-lines : goal.invariant-lines
invariant-lines l = record {
  within : l.at ≤ length l.bytes + 1;
  small : l.number ≤ l.at + 1;
  read : HasCommands l.bytes l.at l.number (commands_of l.commands.items);
}

abbrev pub decreases-lines : goal.decreases-lines
decreases-lines l = length l.bytes + 1 - l.at
