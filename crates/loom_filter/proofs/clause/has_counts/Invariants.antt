use Rattle.std.proofs.Common.{◌≡◌, drop}
use Rattle.loom_filter.specs.Builders.{has_counts}
use Rattle.loom_filter.specs.ReaderView.{regions_with}
use Rattle.loom_filter.proofs.clause.has_counts.Given as goal

abbrev pub invariant-regions : goal.invariant-regions
invariant-regions l = has_counts (regions_with (drop l.region-index l.regions)) ≡ has_counts (regions_with l.regions)
