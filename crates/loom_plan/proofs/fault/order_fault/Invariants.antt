use Rattle.std.proofs.Common.{◌≡◌, drop, None}
use Rattle.loom_filter.specs.View.{steps_of}
use Rattle.loom_plan.specs.Fault.{behind_steps}
use Rattle.loom_plan.proofs.fault.order_fault.Given as goal

abbrev pub invariant-steps : goal.invariant-steps
invariant-steps l = behind_steps l.program l.file l.least (steps_of (drop l.step-index l.steps)) ≡ behind_steps l.program l.file None (steps_of l.steps)
