use Rattle.std.proofs.Common.{◌≡◌, ◌++◌}
use Rattle.loom_filter.specs.View.{events_of}
use Rattle.loom_filter.specs.Builders.{events_tree}
use Rattle.loom_filter.specs.ReaderView.{counts_of}
use Rattle.loom_filter.proofs.region.events_of.Given as goal

abbrev pub invariant-steps : goal.invariant-steps
invariant-steps l = events_of l.events.items ++ events_tree (counts_of l.step-iterator.rest.items) ≡ events_tree (counts_of l.fn.steps.items)
