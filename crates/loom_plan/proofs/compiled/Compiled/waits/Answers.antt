use Rattle.std.proofs.Common.{ap, ◌∙◌}
use Rattle.std.specs.List.{filter}
use Rattle.loom_law.specs.Filter.{waits}
use Rattle.loom_plan.specs.Compiled.{Compiled}
use Rattle.loom_plan.specs.Sets.{event_numbers}
use Rattle.loom_plan.specs.PlanView.{plan_of_rows}
use Rattle.loom_plan.proofs.Queues.{masked}
use Rattle.loom_plan.proofs.compiled.Compiled.waits.Goals as goal

pub returns : goal.returns
returns c =
    masked c.args.events c.self.inside.waiting c.both.result (waits (plan_of_rows c.self.inside.events.items c.self.inside.rules.items)) c.self.invariant.waits c.both.ensures
    ∙ ap (λ (z : Compiled). filter (waits z.plan) (event_numbers c.args.events)) c.self.view_is
