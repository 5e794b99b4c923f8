use Rattle.std.proofs.Common.{ℕ, ◌≡◌, List, Option, ap, ◌∙◌, subst}
use Rattle.std.specs.Prelude.{option_map}
use Rattle.loom_plan.specs.PlanView.{counted_of}
use Rattle.loom_ops.specs.declared.rows.FilterRow.{FilterRow}
use Rattle.loom_ops.specs.declared.rows.PostRow.{PostRow}
use Rattle.loom_ops.specs.Ops.{Ops, order_before, posts_at}
use Rattle.loom_ops.specs.Rows.{filters_of_rows, tables_of}
use Rattle.loom_ops.specs.Answer.{AnswersWait}
use Rattle.loom_ops.proofs.ops.Ops.wait.Goals as goal

pub returns : goal.returns
returns c =
    let is : option_map counted_of c.order_before-before.result ≡ order_before (filters_of_rows c.self.inside.filters.items) c.args.k c.args.event
    = c.order_before-before.ensures ∙ ap (λ (z : List FilterRow). order_before (filters_of_rows z) c.args.k c.args.event) c.as_slice.ensures.value in
    subst (λ (o : Ops). AnswersWait (order_before o.filters c.args.k c.args.event) (posts_at o.posts c.args.k) c.wait_answer.result) c.self.view_is
    (subst
    (λ (z : List PostRow). AnswersWait (order_before (filters_of_rows c.self.inside.filters.items) c.args.k c.args.event) (posts_at (tables_of z) c.args.k) c.wait_answer.result)
    c.as_slice-2.ensures.value
    (subst (λ (z : Option (ℕ × ℕ)). AnswersWait z (posts_at (tables_of c.as_slice-2.result.now) c.args.k) c.wait_answer.result) is c.wait_answer.ensures))
