use Rattle.std.proofs.Common.{ℕ, ◌+◌, ◌≡◌, ◌≤◌, ◌<◌, ◌∙◌, Some, length, ap, sym, subst}
use Rattle.loom_expression.specs.Text.{node_limit}
use Rattle.loom_lang.specs.Limits.{param_limit}
use Rattle.loom_flow.specs.Depth.{depth_before, most_before}
use Rattle.loom_flow.proofs.Deepest.{at_most}
use Rattle.loom_flow.proofs.FlowLaws.{few_values, values_reached}
use Rattle.loom_flow.proofs.flow.Flow.most_values.Goals as goal

pub returns-clause-is : goal.returns-clause-is
returns-clause-is c = c.most_before.ensures ∙ ap (most_before 0) c.code.ensures.code

pub returns-clause-few : goal.returns-clause-few
returns-clause-few c = subst (λ n. n ≤ node_limit + param_limit) (sym (returns-clause-is c)) (few_values c.args.self.now c.code.ensures.lowered)

pub returns-clause-most : goal.returns-clause-most
returns-clause-most c = λ at d l e. subst (λ n. d ≤ n) (sym (returns-clause-is c)) (at_most 0 c.args.self.now.code at d l e)

pub returns-clause-reached : goal.returns-clause-reached
returns-clause-reached c =
    let P : ℕ → Type 0 = λ n. (at : ℕ) × (at < length c.args.self.now.code) × (depth_before c.args.self.now at ≡ Some n) in
    subst P (sym (returns-clause-is c)) (values_reached c.args.self.now c.code.ensures.lowered)
