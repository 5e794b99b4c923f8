use Rattle.std.proofs.Common.{length, ◌-◌, ◌≡◌, ◌≤◌, ◌+◌, drop}
use Rattle.loom_lexer.specs.Scan.{run_len}
use Rattle.loom_command.specs.FilterText.{is_blank}
use Rattle.loom_script.proofs.field.blanks_len.Given as goal

abbrev pub invariant-run : goal.invariant-run
invariant-run l = record {
  within : l.len ≤ length l.bytes;
  same : l.len + run_len is_blank (drop l.len l.bytes) ≡ run_len is_blank l.bytes;
}

abbrev pub decreases-run : goal.decreases-run
decreases-run l = length l.bytes - l.len
