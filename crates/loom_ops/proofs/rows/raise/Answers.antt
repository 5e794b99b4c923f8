use Rattle.std.proofs.Common.{ℕ, ◌<◌, [], arith, sym, subst}
use Rattle.loom_ops.specs.Ops.{most_posts}
use Rattle.loom_ops.proofs.PostTables.{posts_there, tables_set, tables_stay}
use Rattle.loom_ops.proofs.rows.raise.Goals as goal

pub returns-then-i-rows : goal.returns-then-i-rows
returns-then-i-rows c = tables_stay c.args.rows.now c.args.k c.args.event (omega (arith, c.table_index-i.ensures))

pub table_with-requires-clause-few : goal.table_with-requires-clause-few
table_with-requires-clause-few c =
    subst (λ (z : ℕ). z < most_posts)
    (sym (posts_there c.args.rows.now c.args.k c.args.event c.table_index-i.result (record { number = 0; counts = [] }) c.table_index-i.ensures c.if-i-rows.false)) c.requires.few

pub returns : goal.returns
returns c =
    tables_set c.args.rows.now c.args.k c.args.event c.table_index-i.result (record { number = 0; counts = [] }) c.table_with.result c.table_index-i.ensures c.if-i-rows.false
    c.table_with.ensures
