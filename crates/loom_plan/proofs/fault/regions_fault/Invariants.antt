use Rattle.std.proofs.Common.{◌≡◌, drop, None}
use Rattle.loom_filter.specs.View.{regions_of}
use Rattle.loom_plan.specs.Fault.{behind_regions}
use Rattle.loom_plan.proofs.fault.regions_fault.Given as goal

abbrev pub invariant-regions : goal.invariant-regions
invariant-regions l = behind_regions l.program l.file l.least (regions_of (drop l.region-index l.regions)) ≡ behind_regions l.program l.file None (regions_of l.regions)
