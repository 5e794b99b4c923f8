use Rattle.std.proofs.Common.{◌≡◌, ◌≤◌, ◌+◌, length, drop}
use Rattle.std.specs.List.{filter}
use Rattle.loom_law.specs.Filter.{has}
use Rattle.loom_walk.proofs.new_filters.count_staying.Given as goal

abbrev pub invariant-down : goal.invariant-down
invariant-down l = record {
  within : l.n ≤ length l.ks;
  few : l.count + l.n ≤ length l.ks;
  is : l.count ≡ length (filter (has l.version.active) (drop l.n l.ks));
}

abbrev pub decreases-down : goal.decreases-down
decreases-down l = l.n
