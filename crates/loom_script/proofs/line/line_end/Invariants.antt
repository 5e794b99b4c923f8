use Rattle.std.proofs.Common.{length, ◌-◌, ◌≡◌, ◌≤◌, ◌+◌, drop}
use Rattle.loom_lexer.specs.Scan.{run_len}
use Rattle.loom_script.specs.Lines.{is_inside_line}
use Rattle.loom_script.proofs.line.line_end.Given as goal

abbrev pub invariant-run : goal.invariant-run
invariant-run l = record {
  within : l.end ≤ length l.bytes;
  same : l.end + run_len is_inside_line (drop l.end l.bytes) ≡ l.fn.at + run_len is_inside_line (drop l.fn.at l.bytes);
}

abbrev pub decreases-run : goal.decreases-run
decreases-run l = length l.bytes - l.end
