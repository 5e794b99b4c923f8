use Rattle.std.proofs.Common.{List, ◌+◌, ◌++◌, ap, ◌∙◌, drop, arith}
use Rattle.loom_filter.specs.declared.filter.Clause.{Clause}
use Rattle.loom_filter.specs.View.{clause_of, clauses_of}
use Rattle.loom_law.specs.Filter.{ruling_from, rulings_from}
use Rattle.loom_plan.specs.declared.plan.Rule.{Rule}
use Rattle.loom_filter.specs.Fault.{clause_events}
use Rattle.loom_plan.specs.PlanView.{rulings_of}
use Rattle.loom_plan.proofs.Steps.{rules_more, clause_fits}
use Rattle.loom_plan.proofs.clauses.rules.Goals as goal

pub put-preserved : goal.put-preserved
put-preserved c = record {
  low = let h = c.put.invariant.low in omega arith;
  high = clause_fits c.args.clauses.now c.put.clause-index (c.put.clause-index + 1) c.put.n c.clause_events.result c.clause-item.result (omega arith) c.put-test.true
      (c.clause_events.ensures ∙ ap (λ (x : Clause). clause_events (clause_of x)) c.clause-item.is) c.put.invariant.high;
  is = λ p. ap (λ (rs : List Rule). rulings_of rs ++ rulings_from p (c.put.n + c.clause_events.result) (clauses_of (drop (c.put.clause-index + 1) c.args.clauses.now))) c.in_ok-push.ensures.items
      ∙ (rules_more p c.put.rules.items c.in_ok-rule.field-0 c.args.clauses.now c.put.clause-index (c.put.clause-index + 1) c.put.n c.clause_events.result c.clause-item.result (omega arith) c.put-test.true
      (c.in_ok-rule.ensures p ∙ ap (λ (x : Clause). ruling_from p c.put.n (clause_of x)) c.clause-item.is)
      (c.clause_events.ensures ∙ ap (λ (x : Clause). clause_events (clause_of x)) c.clause-item.is)
      ∙ c.put.invariant.is p);
}
