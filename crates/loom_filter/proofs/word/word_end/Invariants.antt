use Rattle.std.proofs.Common.{length, ◌-◌, ◌≡◌, ◌≤◌, ◌+◌, drop}
use Rattle.loom_lexer.specs.Scan.{run_len}
use Rattle.loom_command.specs.FilterForm.{is_file_part}
use Rattle.loom_filter.proofs.word.word_end.Given as goal

abbrev pub invariant-run : goal.invariant-run
invariant-run l = record {
  within : l.end ≤ length l.bytes;
  same : l.end + run_len is_file_part (drop l.end l.bytes) ≡ l.fn.at + run_len is_file_part (drop l.fn.at l.bytes);
}

abbrev pub decreases-run : goal.decreases-run
decreases-run l = length l.bytes - l.end
