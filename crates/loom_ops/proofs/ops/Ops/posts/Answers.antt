use Rattle.std.proofs.Common.{List, ap, ◌∙◌}
use Rattle.loom_ops.specs.declared.rows.PostRow.{PostRow}
use Rattle.loom_ops.specs.Ops.{Ops, posts_at}
use Rattle.loom_ops.specs.Rows.{tables_of}
use Rattle.loom_ops.proofs.ops.Ops.posts.Goals as goal

pub returns : goal.returns
returns c =
    c.posts_at.ensures
    ∙ (ap (λ (z : List PostRow). posts_at (tables_of z) c.args.k c.args.event) c.as_slice.ensures.value ∙ ap (λ (o : Ops). posts_at o.posts c.args.k c.args.event) c.self.view_is)
