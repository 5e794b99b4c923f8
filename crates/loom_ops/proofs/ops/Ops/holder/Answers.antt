use Rattle.std.proofs.Common.{List, ap, ◌∙◌}
use Rattle.loom_law.specs.Filter.{is_number}
use Rattle.loom_ops.specs.declared.rows.HolderRow.{HolderRow}
use Rattle.loom_ops.specs.Ops.{Ops, is_holder}
use Rattle.loom_ops.specs.Rows.{holders_of_rows, first_holder}
use Rattle.loom_ops.proofs.Holders.{holder_told}
use Rattle.loom_ops.proofs.ops.Ops.holder.Goals as goal

pub returns-clause-is : goal.returns-clause-is
returns-clause-is c t =
    ap (is_number t) (c.holder_in.ensures ∙ ap (λ (z : List HolderRow). first_holder (holders_of_rows z) c.args.k c.args.clause) c.as_slice.ensures.value)
    ∙ (holder_told (holders_of_rows c.self.inside.holders.items) c.args.k c.args.clause t c.self.invariant.one
    ∙ ap (λ (o : Ops). is_holder o.holders c.args.k c.args.clause t) c.self.view_is)
