use Rattle.std.proofs.Common.{◌-◌, arith, sym, ap, ◌∙◌, drop}
use Rattle.loom_law.specs.Filter.{event_before}
use Rattle.loom_plan.specs.PlanView.{order_of}
use Rattle.loom_plan.proofs.Orders.{before_more, before_end}
use Rattle.loom_plan.proofs.rules.event_before.Goals as goal

pub scan-preserved : goal.scan-preserved
scan-preserved c = record {
  begun = omega arith;
  is = ap (λ k. event_before c.args.n (order_of (drop k c.args.steps.now))) (omega arith)
      ∙ (sym (before_more c.args.n c.args.steps.now (c.scan.i - 1) c.scan.i _ (omega arith) c.scan-test.true c.if-steps-i.false) ∙ c.scan.invariant.is);
}

pub returns : goal.returns
returns c = sym (before_end c.args.n c.args.steps.now (c.scan.i - 1) (omega arith)) ∙ c.scan.invariant.is
