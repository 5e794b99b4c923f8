use Rattle.std.proofs.Common.{◌≡◌, ◌-◌, ◌<◌, length, drop}
use Rattle.loom_law.specs.Filter.{event_before}
use Rattle.loom_plan.specs.PlanView.{order_of}
use Rattle.loom_plan.proofs.rules.event_before.Given as goal

abbrev pub invariant-scan : goal.invariant-scan
invariant-scan l = record {
  begun : 0 < l.i;
  is : event_before l.n (order_of (drop (l.i - 1) l.steps)) ≡ event_before l.n (order_of l.steps);
}

abbrev pub decreases-scan : goal.decreases-scan
decreases-scan l = length l.steps - l.i
