use Rattle.loom_strand.proofs.RunSteps.{IsOn, way_left}
use Rattle.loom_strand.proofs.execution.Execution.run.Given as goal

abbrev pub invariant-run : goal.invariant-run
invariant-run l = IsOn l.flow l.plans l.flags l.newer l.fn.self l.self

abbrev pub decreases-run : goal.decreases-run
decreases-run l = way_left l.flow l.self
