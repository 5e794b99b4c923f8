use Rattle.std.proofs.Common.{◌≡◌, ◌≤◌, suc, length, drop}
use Rattle.loom_law.specs.Filter.{has}
use Rattle.loom_plan.specs.Sets.{event_numbers, region_numbers}
use Rattle.loom_plan.specs.ElementNumbers.{numbers_where}
use Rattle.loom_plan.specs.PlanView.{regions_in}
use Rattle.loom_plan.specs.Operations.{is_staying}
use Rattle.loom_plan.proofs.rules.staying.Given as goal

abbrev pub invariant-down : goal.invariant-down
invariant-down l = record {
  within : l.n ≤ length l.regions;
  is : region_numbers l.found ≡ numbers_where (is_staying (has (region_numbers l.among)) (event_numbers l.events)) (suc l.n) (drop l.n (regions_in l.regions));
}

abbrev pub decreases-down : goal.decreases-down
decreases-down l = l.n
