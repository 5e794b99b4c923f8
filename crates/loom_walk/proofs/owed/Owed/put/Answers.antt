use Rattle.std.proofs.Common.{◌<◌, [], length, List, ap, sym, subst, ◌∙◌}
use Rattle.std.specs.List.{AllByRecursion}
use Rattle.loom_law.specs.Lawful.{filter_limit}
use Rattle.loom_walk.specs.declared.owed.OwedRow.{OwedRow}
use Rattle.loom_walk.specs.Owed.{Owed, row_of, row_queue, rows_queue, with_row, HasOperations, IsOrHasMore, filters_owed}
use Rattle.loom_walk.proofs.OwedParts.{put_queue, put_all, put_filters}
use Rattle.loom_walk.proofs.owed.Owed.put.Goals as goal

pub put_row-requires : goal.put_row-requires
put_row-requires c = subst (λ (z : Owed). length z.rows < filter_limit) (sym c.self.view_is) c.requires

pub returns-clause-put : goal.returns-clause-put
returns-clause-put c =
    let f : List OwedRow → Owed = λ rs. record { line = c.self.inside.line; tick = c.self.inside.tick; back = c.self.inside.back; rows = rs } in
    ap f c.put_row.ensures ∙ ap (λ (z : Owed). record z { rows = with_row z.rows (row_of c.args.filter c.args.before c.args.behind) }) c.self.view_is

pub returns-clause-queue : goal.returns-clause-queue
returns-clause-queue c l =
    put_queue l c.self.inside.rows.items c.put_row.new.rows.items (row_of c.args.filter c.args.before c.args.behind) c.put_row.ensures
    ∙ ap (λ (z : Owed). row_queue l (row_of c.args.filter c.args.before c.args.behind) (rows_queue l z.rows [])) c.self.view_is

pub returns-clause-rows : goal.returns-clause-rows
returns-clause-rows c h =
    put_all c.self.inside.rows.items c.put_row.new.rows.items (row_of c.args.filter c.args.before c.args.behind) c.put_row.ensures
    (subst (λ (z : Owed). AllByRecursion HasOperations z.rows) (sym c.self.view_is) h)

pub returns-clause-filters : goal.returns-clause-filters
returns-clause-filters c =
    subst (λ (z : Owed). IsOrHasMore (filters_owed z.rows) c.args.filter (filters_owed c.put_row.new.rows.items)) c.self.view_is
    (put_filters c.self.inside.rows.items c.put_row.new.rows.items (row_of c.args.filter c.args.before c.args.behind) c.put_row.ensures)
