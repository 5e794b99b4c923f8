use Rattle.std.proofs.Common.{◌-◌, ◌∙◌, ap, arith}
use Rattle.loom_law.specs.Filter.{has}
use Rattle.loom_plan.specs.Sets.{event_numbers, clause_numbers}
use Rattle.loom_plan.specs.PlanView.{ruling_of}
use Rattle.loom_plan.specs.Operations.{is_to_enter}
use Rattle.loom_plan.proofs.ElementNumbers.{down_more}
use Rattle.loom_plan.proofs.rules.enters.Goals as goal

pub down-preserved : goal.down-preserved
down-preserved c = record {
  within = omega arith;
  is = down_more ruling_of (is_to_enter (event_numbers c.args.events) (has (clause_numbers c.args.held))) c.args.rules.now c.down.n (c.down.n - 1) c.index-rules-n.result c.is_to_enter.result (clause_numbers c.down.found) (clause_numbers c.put_if.new.self) (omega arith) (omega arith) c.down.invariant.is
      (c.is_to_enter.ensures ∙ ap (λ r. is_to_enter (event_numbers c.args.events) (has (clause_numbers c.args.held)) c.down.n (ruling_of r)) c.index-rules-n.is) c.put_if.ensures.first;
}
