use Rattle.std.proofs.Common.{◌≡◌, drop}
use Rattle.loom_filter.specs.View.{regions_of}
use Rattle.loom_filter.specs.Fault.{regions_events, less}
use Rattle.loom_filter.proofs.fault.room_behind_regions.Given as goal

abbrev pub invariant-regions : goal.invariant-regions
invariant-regions l = less l.left (regions_events (regions_of (drop l.region-index l.regions))) ≡ less l.room (regions_events (regions_of l.regions))
