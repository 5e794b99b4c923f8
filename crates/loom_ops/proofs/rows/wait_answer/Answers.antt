use Rattle.std.proofs.Common.{Option, sym, subst}
use Rattle.std.specs.Prelude.{option_map}
use Rattle.loom_plan.specs.declared.plan.OrderEvent.{OrderEvent}
use Rattle.loom_plan.specs.PlanView.{counted_of}
use Rattle.loom_ops.specs.Ops.{posts_at}
use Rattle.loom_ops.specs.Rows.{tables_of}
use Rattle.loom_ops.specs.Answer.{AnswersWait}
use Rattle.loom_ops.proofs.rows.wait_answer.Goals as goal

pub returns-in-Some : goal.returns-in-Some
returns-in-Some c =
    subst (λ (z : Option OrderEvent). AnswersWait (option_map counted_of z) (posts_at (tables_of c.args.rows.now) c.args.k) c.count_answer.result) (sym c.in-Some.is)
    (c.count_answer.ensures (posts_at (tables_of c.args.rows.now) c.args.k) c.posts_at.ensures)
