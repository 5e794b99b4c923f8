use Rattle.std.proofs.Common.{◌≡◌, ◌+◌, drop}
use Rattle.loom_ops.specs.Rows.{tables_of, table_index}
use Rattle.loom_ops.proofs.rows.table_index.Given as goal

abbrev pub invariant-scan : goal.invariant-scan
invariant-scan l = record {
  count : l.i ≡ l.row-index;
  is : l.i + table_index (tables_of (drop l.row-index l.rows)) l.k ≡ table_index (tables_of l.rows) l.k;
}
