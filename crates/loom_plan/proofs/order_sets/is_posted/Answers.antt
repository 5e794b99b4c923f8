use Rattle.std.proofs.Common.{◌-◌, arith, sym, ap, ◌∙◌, drop}
use Rattle.loom_law.specs.Filter.{has, all_but_last}
use Rattle.loom_plan.specs.PlanView.{order_of}
use Rattle.loom_plan.proofs.Orders.{posted_more, posted_here, posted_end}
use Rattle.loom_plan.proofs.order_sets.is_posted.Goals as goal

pub returns-then-steps-i : goal.returns-then-steps-i
returns-then-steps-i c = sym (posted_here c.args.n c.args.steps.now (c.scan.i - 1) _ (omega arith) c.if-steps-i.true) ∙ c.scan.invariant.is

pub scan-preserved : goal.scan-preserved
scan-preserved c = record {
  begun = omega arith;
  is = ap (λ k. has (all_but_last (order_of (drop k c.args.steps.now))) c.args.n) (omega arith)
      ∙ (sym (posted_more c.args.n c.args.steps.now (c.scan.i - 1) c.scan.i _ (omega arith) c.scan-test.true c.if-steps-i.false) ∙ c.scan.invariant.is);
}

pub returns : goal.returns
returns c = sym (posted_end c.args.n c.args.steps.now (c.scan.i - 1) (omega arith)) ∙ c.scan.invariant.is
