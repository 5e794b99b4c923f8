use Rattle.std.proofs.Common.{◌≡◌, ◌+◌, ◌++◌, drop, flat_map}
use Rattle.loom_law.specs.Filter.{numbered_from}
use Rattle.loom_plan.specs.PlanView.{rulings_of, regions_in}
use Rattle.loom_plan.specs.PlanParts.{clause_regions}
use Rattle.loom_plan.proofs.regions.regions.Given as goal

abbrev pub invariant-put : goal.invariant-put
invariant-put l = regions_in l.rows.items ++ flat_map clause_regions (numbered_from (l.i + 1) (rulings_of (drop l.i l.rules))) ≡ flat_map clause_regions (numbered_from 1 (rulings_of l.rules))
