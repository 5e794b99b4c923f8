use Rattle.std.proofs.Common.{◌-◌, arith}
use Rattle.loom_plan.specs.Sets.{event_numbers, region_numbers}
use Rattle.loom_plan.specs.PlanView.{region_of}
use Rattle.loom_plan.specs.Operations.{is_entered}
use Rattle.loom_plan.proofs.ElementNumbers.{down_more}
use Rattle.loom_plan.proofs.rules.entered.Goals as goal

pub down-preserved : goal.down-preserved
down-preserved c = record {
  within = omega arith;
  is = down_more region_of (is_entered (event_numbers c.args.events)) c.args.regions.now c.down.n (c.down.n - 1) _ c.begins.result (region_numbers c.down.found) (region_numbers c.put_if.new.self) (omega arith) (omega arith) c.down.invariant.is c.begins.ensures c.put_if.ensures.first;
}
