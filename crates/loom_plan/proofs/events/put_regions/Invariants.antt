use Rattle.std.proofs.Common.{◌≡◌, ◌++◌, drop, flat_map}
use Rattle.loom_law.specs.Filter.{watches_of_region}
use Rattle.loom_filter.specs.View.{regions_of}
use Rattle.loom_plan.specs.PlanView.{watches_of}
use Rattle.loom_plan.proofs.events.put_regions.Given as goal

abbrev pub invariant-put : goal.invariant-put
invariant-put l = watches_of l.events.items ++ flat_map (watches_of_region l.program) (regions_of (drop l.region-index l.regions)) ≡ watches_of l.fn.events.items ++ flat_map (watches_of_region l.program) (regions_of l.regions)
