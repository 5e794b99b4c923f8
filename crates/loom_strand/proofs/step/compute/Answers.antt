use Rattle.std.proofs.Common.{sym, subst}
use Rattle.loom_flow.specs.Progress.{of_compute}
use Rattle.loom_strand.specs.StepResult.{StepsTo}
use Rattle.loom_strand.proofs.step.compute.Goals as goal

pub returns-in-Apply : goal.returns-in-Apply
returns-in-Apply c = λ flat place.
    subst (λ x. StepsTo flat place c.args.machine.now c.apply.new.machine c.apply.result (of_compute c.args.machine.now.state c.args.line x)) (sym c.in-Apply.is) (c.apply.ensures flat place)
