use Rattle.std.proofs.Common.{drop}
use Rattle.loom_filter.specs.View.{steps_of}
use Rattle.loom_filter.proofs.Twins.{TwinsAreLeft, HasKey}
use Rattle.loom_filter.proofs.fault.has_twins.Given as goal

abbrev pub invariant-steps : goal.invariant-steps
invariant-steps l = TwinsAreLeft (HasKey l.seen) (steps_of (drop l.step-index l.steps)) (steps_of l.steps)
