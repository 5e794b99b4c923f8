use Rattle.std.proofs.Common.{◌-◌, ◌≡◌, length, ap, ◌∙◌, arith}
use Rattle.loom_law.specs.Filter.{is_alone, is_unilateral}
use Rattle.loom_plan.specs.Compiled.{Compiled}
use Rattle.loom_plan.specs.declared.plan.Rule.{Rule}
use Rattle.loom_plan.specs.PlanView.{ruling_of, rulings_of}
use Rattle.loom_plan.proofs.ElementNumbers.{length_map}
use Rattle.loom_plan.proofs.Rows.{alone_at}
use Rattle.loom_plan.proofs.compiled.Compiled.is_alone.Goals as goal

pub returns : goal.returns
returns c =
    let few : length (rulings_of c.self.inside.rules.items) ≡ length c.args.self.now.plan.rulings = ap (λ (z : Compiled). length z.plan.rulings) c.self.view_is in
    c.is_unilateral.ensures
    ∙ (ap (λ (r : Rule). is_unilateral (ruling_of r)) c.index.ensures
    ∙ (alone_at c.self.inside.rules.items 1 (c.args.c - 1) c.args.c c.index.result.now (omega arith) (omega (arith, length_map ruling_of c.self.inside.rules.items))
    ∙ ap (λ (z : Compiled). is_alone z.plan c.args.c) c.self.view_is))
