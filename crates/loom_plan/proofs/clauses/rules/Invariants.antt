use Rattle.std.proofs.Common.{◌≡◌, ◌<◌, ◌≤◌, ◌+◌, ◌++◌, drop}
use Rattle.loom_tree.specs.Tree.{Source}
use Rattle.loom_law.specs.Filter.{rulings_from}
use Rattle.loom_filter.specs.View.{clauses_of}
use Rattle.loom_plan.specs.Counts.{filter_events}
use Rattle.loom_plan.specs.PlanView.{rulings_of}
use Rattle.loom_plan.proofs.clauses.rules.Given as goal

abbrev pub invariant-put : goal.invariant-put
invariant-put l = record {
  low : 0 < l.n;
  high : l.n + filter_events (clauses_of (drop l.clause-index l.clauses)) ≤ 33;
  is : (p : Source) → rulings_of l.rules.items ++ rulings_from p l.n (clauses_of (drop l.clause-index l.clauses)) ≡ rulings_from p 1 (clauses_of l.clauses);
}
