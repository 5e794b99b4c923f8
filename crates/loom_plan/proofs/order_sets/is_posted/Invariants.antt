use Rattle.std.proofs.Common.{◌≡◌, ◌-◌, ◌<◌, length, drop}
use Rattle.loom_law.specs.Filter.{has, all_but_last}
use Rattle.loom_plan.specs.PlanView.{order_of}
use Rattle.loom_plan.proofs.order_sets.is_posted.Given as goal

abbrev pub invariant-scan : goal.invariant-scan
invariant-scan l = record {
  begun : 0 < l.i;
  is : has (all_but_last (order_of (drop (l.i - 1) l.steps))) l.n ≡ has (all_but_last (order_of l.steps)) l.n;
}

abbrev pub decreases-scan : goal.decreases-scan
decreases-scan l = length l.steps - l.i
