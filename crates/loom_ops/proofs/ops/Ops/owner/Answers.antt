use Rattle.std.proofs.Common.{List, ap, ◌∙◌}
use Rattle.loom_law.specs.Filter.{is_number}
use Rattle.loom_ops.specs.declared.rows.FilterRow.{FilterRow}
use Rattle.loom_ops.specs.declared.rows.HolderRow.{HolderRow}
use Rattle.loom_ops.specs.Ops.{Ops, owns}
use Rattle.loom_ops.specs.Rows.{filters_of_rows, holders_of_rows, first_owner}
use Rattle.loom_ops.proofs.Holders.{owner_told}
use Rattle.loom_ops.proofs.ops.Ops.owner.Goals as goal

pub returns-clause-is : goal.returns-clause-is
returns-clause-is c t =
    ap (is_number t)
    (c.owner_in.ensures
    ∙ (ap (λ (z : List FilterRow). first_owner (filters_of_rows z) (holders_of_rows c.as_slice-2.result.now)) c.as_slice.ensures.value
    ∙ ap (λ (z : List HolderRow). first_owner (filters_of_rows c.self.inside.filters.items) (holders_of_rows z)) c.as_slice-2.ensures.value))
    ∙ (owner_told (filters_of_rows c.self.inside.filters.items) (holders_of_rows c.self.inside.holders.items) t c.self.invariant.owner
    ∙ ap (λ (o : Ops). owns o t) c.self.view_is)
