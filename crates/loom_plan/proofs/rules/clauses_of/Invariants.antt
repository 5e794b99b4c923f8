use Rattle.std.proofs.Common.{ℕ, ◌≡◌, ◌||◌, suc, drop}
use Rattle.loom_law.specs.Filter.{has}
use Rattle.loom_plan.specs.Sets.{clause_numbers, region_numbers}
use Rattle.loom_plan.specs.PlanView.{regions_in}
use Rattle.loom_plan.specs.Operations.{is_region_among}
use Rattle.loom_plan.specs.PlanParts.{AreOfClauses}
use Rattle.loom_plan.proofs.rules.clauses_of.Given as goal

abbrev pub invariant-rows : goal.invariant-rows
invariant-rows l = record {
  clauses : AreOfClauses (drop l.i (regions_in l.regions));
  is : (c : ℕ) → (has (clause_numbers l.found) c || is_region_among (has (region_numbers l.among)) c (suc l.i) (drop l.i (regions_in l.regions))) ≡ is_region_among (has (region_numbers l.among)) c 1 (regions_in l.regions);
}
