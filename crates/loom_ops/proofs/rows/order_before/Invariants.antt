use Rattle.std.proofs.Common.{◌≡◌, drop}
use Rattle.loom_ops.specs.Ops.{order_before}
use Rattle.loom_ops.specs.Rows.{filters_of_rows}
use Rattle.loom_ops.proofs.rows.order_before.Given as goal

abbrev pub invariant-scan : goal.invariant-scan
invariant-scan l = order_before (filters_of_rows (drop l.row-index l.filters)) l.k l.event ≡ order_before (filters_of_rows l.filters) l.k l.event
