use Rattle.std.proofs.Common.{List, refl, ap, ◌∙◌}
use Rattle.std.proofs.lemmas.Bool.{both_ways}
use Rattle.loom_law.specs.Filter.{has}
use Rattle.loom_plan.specs.Compiled.{Compiled}
use Rattle.loom_plan.specs.declared.plan.Rule.{Rule}
use Rattle.loom_plan.specs.Sets.{event_numbers, clause_numbers}
use Rattle.loom_plan.specs.ElementNumbers.{numbers_where}
use Rattle.loom_plan.specs.PlanView.{rulings_of}
use Rattle.loom_plan.specs.Operations.{is_to_enter}
use Rattle.loom_plan.proofs.Queues.{before_is}
use Rattle.loom_plan.proofs.compiled.Compiled.before.Goals as goal

pub returns-clause-queue : goal.returns-clause-queue
returns-clause-queue c hs k l more h =
    before_is c.args.self.now.plan k hs l c.args.events c.args.held _ more (λ e. both_ways c.is_empty.result c.if-is_empty.false (c.is_empty.ensures.1 e)) h c.waits.ensures
    (c.enters.ensures
    ∙ (ap (λ (rs : List Rule). numbers_where (is_to_enter (event_numbers c.args.events) (has (clause_numbers c.args.held))) 1 (rulings_of rs)) c.deref.ensures.value
    ∙ ap (λ (z : Compiled). numbers_where (is_to_enter (event_numbers c.args.events) (has (clause_numbers c.args.held))) 1 z.plan.rulings) c.self.view_is)) refl
