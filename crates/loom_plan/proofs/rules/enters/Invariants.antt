use Rattle.std.proofs.Common.{◌≡◌, ◌≤◌, suc, length, drop}
use Rattle.loom_law.specs.Filter.{has}
use Rattle.loom_plan.specs.Sets.{event_numbers, clause_numbers}
use Rattle.loom_plan.specs.ElementNumbers.{numbers_where}
use Rattle.loom_plan.specs.PlanView.{rulings_of}
use Rattle.loom_plan.specs.Operations.{is_to_enter}
use Rattle.loom_plan.proofs.rules.enters.Given as goal

abbrev pub invariant-down : goal.invariant-down
invariant-down l = record {
  within : l.n ≤ length l.rules;
  is : clause_numbers l.found ≡ numbers_where (is_to_enter (event_numbers l.events) (has (clause_numbers l.held))) (suc l.n) (drop l.n (rulings_of l.rules));
}

abbrev pub decreases-down : goal.decreases-down
decreases-down l = l.n
