use Rattle.std.proofs.Common.{◌-◌, arith}
use Rattle.loom_law.specs.Filter.{has}
use Rattle.loom_plan.specs.Sets.{clause_numbers}
use Rattle.loom_plan.specs.PlanView.{ruling_of, rulings_of}
use Rattle.loom_plan.specs.Operations.{is_to_leave}
use Rattle.loom_plan.proofs.ElementNumbers.{down_any, length_map}
use Rattle.loom_plan.proofs.rules.leaves.Goals as goal

pub down-preserved : goal.down-preserved
down-preserved c = record {
  within = omega arith;
  is = down_any (is_to_leave (has (clause_numbers c.args.held)) (has (clause_numbers c.args.inside))) (rulings_of c.args.rules.now) c.down.n (c.down.n - 1) c.is_to_leave.result (clause_numbers c.down.found) (clause_numbers c.put_if.new.self) (omega arith) (omega (arith, length_map ruling_of c.args.rules.now)) c.down.invariant.is c.is_to_leave.ensures c.put_if.ensures.first;
}
