use Rattle.std.proofs.Common.{ap, ◌∙◌}
use Rattle.std.specs.List.{filter}
use Rattle.loom_law.specs.Filter.{posts}
use Rattle.loom_plan.specs.Compiled.{Compiled}
use Rattle.loom_plan.specs.Sets.{event_numbers}
use Rattle.loom_plan.specs.PlanView.{plan_of_rows}
use Rattle.loom_plan.proofs.Queues.{masked}
use Rattle.loom_plan.proofs.compiled.Compiled.posts.Goals as goal

pub returns : goal.returns
returns c =
    masked c.args.events c.self.inside.posting c.both.result (posts (plan_of_rows c.self.inside.events.items c.self.inside.rules.items)) c.self.invariant.posts c.both.ensures
    ∙ ap (λ (z : Compiled). filter (posts z.plan) (event_numbers c.args.events)) c.self.view_is
