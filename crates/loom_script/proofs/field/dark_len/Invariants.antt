use Rattle.std.proofs.Common.{length, ◌-◌, ◌≡◌, ◌≤◌, ◌+◌, drop}
use Rattle.loom_lexer.specs.Scan.{run_len}
use Rattle.loom_command.specs.Script.{is_dark}
use Rattle.loom_script.proofs.field.dark_len.Given as goal

abbrev pub invariant-run : goal.invariant-run
invariant-run l = record {
  within : l.len ≤ length l.bytes;
  same : l.len + run_len is_dark (drop l.len l.bytes) ≡ run_len is_dark l.bytes;
}

abbrev pub decreases-run : goal.decreases-run
decreases-run l = length l.bytes - l.len
