use Rattle.std.proofs.Common.{length, ◌-◌, ◌≡◌, ◌≤◌, ◌+◌, drop}
use Rattle.loom_lexer.specs.Scan.{run_len}
use Rattle.loom_command.specs.FilterText.{is_blank}
use Rattle.loom_filter.proofs.word.blanks_end.Given as goal

abbrev pub invariant-run : goal.invariant-run
invariant-run l = record {
  within : l.end ≤ length l.bytes;
  same : l.end + run_len is_blank (drop l.end l.bytes) ≡ l.fn.at + run_len is_blank (drop l.fn.at l.bytes);
}

abbrev pub decreases-run : goal.decreases-run
decreases-run l = length l.bytes - l.end
