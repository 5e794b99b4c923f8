use Rattle.std.proofs.Common.{◌≡◌, ◌+◌, ◌++◌, drop}
use Rattle.loom_law.specs.Filter.{counted}
use Rattle.loom_filter.specs.View.{steps_of}
use Rattle.loom_plan.specs.PlanView.{order_of}
use Rattle.loom_plan.proofs.clauses.counted.Given as goal

abbrev pub invariant-put : goal.invariant-put
invariant-put l = order_of l.rows.items ++ counted (l.first + l.i) (steps_of (drop l.i l.steps)) ≡ counted l.first (steps_of l.steps)
