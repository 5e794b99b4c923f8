use Rattle.std.proofs.Common.{◌≡◌, ◌++◌, drop, map}
use Rattle.loom_command.specs.Filter.{OrderStep}
use Rattle.loom_law.specs.Filter.{watch_of}
use Rattle.loom_filter.specs.View.{steps_of}
use Rattle.loom_plan.specs.PlanView.{watches_of}
use Rattle.loom_plan.proofs.events.put_steps.Given as goal

abbrev pub invariant-put : goal.invariant-put
invariant-put l = watches_of l.events.items ++ map (λ (s : OrderStep). watch_of s.event) (steps_of (drop l.step-index l.steps)) ≡ watches_of l.fn.events.items ++ map (λ (s : OrderStep). watch_of s.event) (steps_of l.steps)
