use Rattle.std.proofs.Common.{◌≡◌, drop}
use Rattle.loom_ops.specs.Ops.{has_alone}
use Rattle.loom_ops.specs.Rows.{filters_of_rows}
use Rattle.loom_ops.proofs.rows.has_alone.Given as goal

abbrev pub invariant-scan : goal.invariant-scan
invariant-scan l = has_alone (filters_of_rows (drop l.row-index l.filters)) l.k l.clause ≡ has_alone (filters_of_rows l.filters) l.k l.clause
