use Rattle.std.proofs.Common.{◌≡◌, ◌≤◌, ◌+◌, suc, length, drop}
use Rattle.loom_command.specs.FilterFault.{most_clauses}
use Rattle.loom_plan.specs.PlanView.{rulings_of}
use Rattle.loom_plan.specs.PlanParts.{first_other}
use Rattle.loom_plan.proofs.rules.first_other.Given as goal

abbrev pub invariant-clauses : goal.invariant-clauses
invariant-clauses l = record {
  counted : l.n ≡ l.rule-index;
  is : first_other (suc l.n) (rulings_of (drop l.rule-index l.rules)) ≡ first_other 1 (rulings_of l.rules);
}
