use Rattle.std.proofs.Common.{ℕ, List, ap, ◌∙◌}
use Rattle.loom_law.specs.Filter.{Range, has}
use Rattle.loom_plan.specs.Compiled.{Compiled}
use Rattle.loom_plan.specs.declared.plan.RegionRow.{RegionRow}
use Rattle.loom_plan.specs.Sets.{event_numbers, region_numbers}
use Rattle.loom_plan.specs.ElementNumbers.{numbers_where}
use Rattle.loom_plan.specs.PlanView.{regions_in}
use Rattle.loom_plan.specs.PlanParts.{plan_regions}
use Rattle.loom_plan.specs.Operations.{is_staying}
use Rattle.loom_plan.proofs.RegionRows.{staying_are}
use Rattle.loom_plan.proofs.compiled.Compiled.staying.Goals as goal

pub returns-clause-numbers : goal.returns-clause-numbers
returns-clause-numbers c =
    c.staying.ensures
    ∙ (ap (λ (rs : List RegionRow). numbers_where (is_staying (has (region_numbers c.args.regions)) (event_numbers c.args.events)) 1 (regions_in rs)) c.deref.ensures.value
    ∙ (ap (λ (xs : List (ℕ × Range)). numbers_where (is_staying (has (region_numbers c.args.regions)) (event_numbers c.args.events)) 1 xs) c.self.invariant.regions
    ∙ ap (λ (z : Compiled). numbers_where (is_staying (has (region_numbers c.args.regions)) (event_numbers c.args.events)) 1 (plan_regions z.plan)) c.self.view_is))

pub returns-clause-regions : goal.returns-clause-regions
returns-clause-regions c k =
    staying_are c.args.self.now.plan k (event_numbers c.args.events) c.args.regions c.staying.result (returns-clause-numbers c)
