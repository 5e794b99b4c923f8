use Rattle.std.proofs.Common.{◌-◌, arith}
use Rattle.std.specs.Prelude.{slice_index_or}
use Rattle.loom_law.specs.Filter.{has}
use Rattle.loom_plan.specs.declared.plan.RegionSpan.TheVariants.{Whole}
use Rattle.loom_plan.specs.declared.plan.RegionRow.{RegionRow}
use Rattle.loom_plan.specs.Sets.{event_numbers, region_numbers}
use Rattle.loom_plan.specs.PlanView.{region_of}
use Rattle.loom_plan.specs.Operations.{is_staying}
use Rattle.loom_plan.proofs.ElementNumbers.{down_more}
use Rattle.loom_plan.proofs.rules.staying.Goals as goal

none : RegionRow
none = record { clause = 0; span = Whole 0 }

pub down-preserved : goal.down-preserved
down-preserved c = record {
  within = omega arith;
  is = down_more region_of (is_staying (has (region_numbers c.args.among)) (event_numbers c.args.events)) c.args.regions.now c.down.n (c.down.n - 1) _ c.is_staying.result (region_numbers c.down.found) (region_numbers c.put_if.new.self) (omega arith) (omega arith) c.down.invariant.is (c.is_staying.ensures (slice_index_or c.args.regions.now (c.down.n - 1) none).clause) c.put_if.ensures.first;
}
