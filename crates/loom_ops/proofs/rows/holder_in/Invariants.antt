use Rattle.std.proofs.Common.{◌≡◌, drop}
use Rattle.loom_ops.specs.Rows.{holders_of_rows, first_holder}
use Rattle.loom_ops.proofs.rows.holder_in.Given as goal

abbrev pub invariant-scan : goal.invariant-scan
invariant-scan l = first_holder (holders_of_rows (drop l.row-index l.holders)) l.k l.clause ≡ first_holder (holders_of_rows l.holders) l.k l.clause
