use Rattle.std.proofs.Common.{length, ◌≤◌, ◌-◌}
use Rattle.loom_filter.specs.ReaderView.{filter_reader}
use Rattle.loom_filter.proofs.ClauseReading.{HasRead}
use Rattle.loom_filter.proofs.parse.read_clauses.Given as goal

abbrev pub invariant-read : goal.invariant-read
invariant-read l = record {
  within : l.at ≤ length l.bytes;
  read : HasRead l.bytes l.at (filter_reader l.filter);
}

abbrev pub decreases-read : goal.decreases-read
decreases-read l = length l.bytes - l.at
