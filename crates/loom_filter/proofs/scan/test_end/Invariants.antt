use Rattle.std.proofs.Common.{length, ◌-◌, ◌≡◌, ◌≤◌, drop}
use Rattle.loom_filter.specs.Words.{closing, place_behind}
use Rattle.loom_filter.proofs.scan.test_end.Given as goal

abbrev pub invariant-scan : goal.invariant-scan
invariant-scan l = record {
  within : l.end ≤ length l.bytes;
  few : l.depth ≤ l.end;
  same : place_behind l.end (closing l.depth (drop l.end l.bytes)) ≡ place_behind l.fn.at (closing 0 (drop l.fn.at l.bytes));
}

abbrev pub decreases-scan : goal.decreases-scan
decreases-scan l = length l.bytes - l.end
