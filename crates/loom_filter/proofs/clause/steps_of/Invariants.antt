use Rattle.std.proofs.Common.{◌≡◌, ◌++◌}
use Rattle.loom_filter.specs.View.{steps_of}
use Rattle.loom_filter.specs.Builders.{steps_tree}
use Rattle.loom_filter.specs.ReaderView.{counts_of}
use Rattle.loom_filter.proofs.clause.steps_of.Given as goal

abbrev pub invariant-steps : goal.invariant-steps
invariant-steps l = steps_of l.all.items ++ steps_tree (counts_of l.step-iterator.rest.items) ≡ steps_tree (counts_of l.fn.steps.items)
