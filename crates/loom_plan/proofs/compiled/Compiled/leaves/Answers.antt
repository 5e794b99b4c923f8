use Rattle.std.proofs.Common.{List, ap, ◌∙◌}
use Rattle.loom_law.specs.Filter.{has}
use Rattle.loom_plan.specs.Compiled.{Compiled}
use Rattle.loom_plan.specs.declared.plan.Rule.{Rule}
use Rattle.loom_plan.specs.Sets.{clause_numbers}
use Rattle.loom_plan.specs.ElementNumbers.{numbers_where}
use Rattle.loom_plan.specs.PlanView.{rulings_of}
use Rattle.loom_plan.specs.Operations.{is_to_leave}
use Rattle.loom_plan.proofs.Queues.{leaves_kept}
use Rattle.loom_plan.proofs.compiled.Compiled.leaves.Goals as goal

pub returns : goal.returns
returns c hs is k l more h i =
    leaves_kept c.args.self.now.plan hs is k l c.args.held c.args.inside c.leaves.result more h i
    (c.leaves.ensures
    ∙ (ap (λ (rs : List Rule). numbers_where (is_to_leave (has (clause_numbers c.args.held)) (has (clause_numbers c.args.inside))) 1 (rulings_of rs)) c.deref.ensures.value
    ∙ ap (λ (z : Compiled). numbers_where (is_to_leave (has (clause_numbers c.args.held)) (has (clause_numbers c.args.inside))) 1 z.plan.rulings) c.self.view_is))
