use Rattle.std.proofs.Common.{◌≡◌, ◌+◌, drop}
use Rattle.loom_walk.specs.ClauseRows.{row_index}
use Rattle.loom_walk.proofs.clause_rows.row_index.Given as goal

abbrev pub invariant-scan : goal.invariant-scan
invariant-scan l = record {
  count : l.i ≡ l.row-index;
  is : l.i + row_index (drop l.row-index l.rows) l.k ≡ row_index l.rows l.k;
}
