use Rattle.std.proofs.Common.{sym, subst}
use Rattle.loom_flow.specs.Progress.{of_step}
use Rattle.loom_strand.specs.StepResult.{StepsTo}
use Rattle.loom_strand.proofs.step.step.Goals as goal

pub returns-in-Compute : goal.returns-in-Compute
returns-in-Compute c =
    subst (λ x. StepsTo c.args.flow.now c.args.i.now.place c.args.machine.now c.compute.new.machine c.compute.result (of_step c.args.flow.now c.args.machine.now.state c.args.i.now x)) (sym c.in-Compute.is)
    (c.compute.ensures c.args.flow.now c.args.i.now.place)
