use Rattle.std.proofs.Common.{◌-◌, ◌≡◌, ◌≤◌, length, take}
use Rattle.loom_ops.specs.Ops.{befores_in}
use Rattle.loom_ops.specs.Rows.{befores_of}
use Rattle.loom_ops.proofs.rows.events_before.Given as goal

abbrev pub invariant-events : goal.invariant-events
invariant-events l = record {
  low : l.n ≤ l.count;
  few : length l.befores.items ≤ l.n;
  are : befores_of l.befores.items ≡ take l.n (befores_in l.c.plan);
}

abbrev pub decreases-events : goal.decreases-events
decreases-events l = l.count - l.n
