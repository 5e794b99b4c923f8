use Rattle.std.proofs.Common.{◌≡◌, ◌≤◌, ◌+◌, ◌-◌}
use Rattle.loom_plan.specs.Sets.{event_numbers}
use Rattle.loom_plan.specs.Numbers.{consecutive}
use Rattle.loom_plan.proofs.clauses.run.Given as goal

abbrev pub invariant-down : goal.invariant-down
invariant-down l = record {
  within : l.n ≤ l.count;
  is : event_numbers l.found ≡ consecutive (l.first + l.n) (l.count - l.n);
}

abbrev pub decreases-down : goal.decreases-down
decreases-down l = l.n
