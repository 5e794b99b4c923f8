use Rattle.std.proofs.Common.{ℕ, List, ap, ◌∙◌}
use Rattle.loom_law.specs.Filter.{Range}
use Rattle.loom_plan.specs.Compiled.{Compiled}
use Rattle.loom_plan.specs.declared.plan.RegionRow.{RegionRow}
use Rattle.loom_plan.specs.Sets.{event_numbers}
use Rattle.loom_plan.specs.ElementNumbers.{numbers_where}
use Rattle.loom_plan.specs.PlanView.{regions_in}
use Rattle.loom_plan.specs.PlanParts.{plan_regions}
use Rattle.loom_plan.specs.Operations.{is_entered}
use Rattle.loom_plan.proofs.RegionRows.{entered_are}
use Rattle.loom_plan.proofs.compiled.Compiled.entered.Goals as goal

pub returns-clause-numbers : goal.returns-clause-numbers
returns-clause-numbers c =
    c.entered.ensures
    ∙ (ap (λ (rs : List RegionRow). numbers_where (is_entered (event_numbers c.args.events)) 1 (regions_in rs)) c.deref.ensures.value
    ∙ (ap (λ (xs : List (ℕ × Range)). numbers_where (is_entered (event_numbers c.args.events)) 1 xs) c.self.invariant.regions
    ∙ ap (λ (z : Compiled). numbers_where (is_entered (event_numbers c.args.events)) 1 (plan_regions z.plan)) c.self.view_is))

pub returns-clause-regions : goal.returns-clause-regions
returns-clause-regions c k = entered_are c.args.self.now.plan k (event_numbers c.args.events) c.entered.result (returns-clause-numbers c)
