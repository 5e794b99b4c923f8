use Rattle.std.proofs.Common.{◌≡◌, ◌++◌}
use Rattle.loom_filter.specs.View.{regions_of}
use Rattle.loom_filter.specs.Builders.{regions_tree}
use Rattle.loom_filter.specs.ReaderView.{regions_with}
use Rattle.loom_filter.proofs.clause.regions_of.Given as goal

abbrev pub invariant-regions : goal.invariant-regions
invariant-regions l = regions_of l.all.items ++ regions_tree (regions_with l.region-iterator.rest.items) ≡ regions_tree (regions_with l.fn.regions.items)
