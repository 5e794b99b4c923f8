use Rattle.std.proofs.Common.{◌≡◌, drop}
use Rattle.loom_law.specs.Filter.{before_in}
use Rattle.loom_plan.specs.PlanView.{rulings_of}
use Rattle.loom_plan.proofs.rules.before_in.Given as goal

abbrev pub invariant-scan : goal.invariant-scan
invariant-scan l = before_in l.n (rulings_of (drop l.rule-index l.rules)) ≡ before_in l.n (rulings_of l.rules)
