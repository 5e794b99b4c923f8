use Rattle.std.proofs.Common.{take}
use Rattle.loom_plan.specs.PlanView.{regions_in}
use Rattle.loom_sites.specs.Areas.{AreAreas, IsOwnAmong, AreWith}
use Rattle.loom_sites.proofs.area.areas_of.Given as goal

abbrev pub invariant-regions : goal.invariant-regions
invariant-regions l = record {
  areas : AreAreas l.flow.program l.c.plan (regions_in (take l.row-index l.regions)) l.areas.items;
  places : AreWith (IsOwnAmong l.flow.program l.c.plan (regions_in (take l.row-index l.regions))) l.fn.places l.places;
}
