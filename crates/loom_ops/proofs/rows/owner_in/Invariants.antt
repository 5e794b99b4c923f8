use Rattle.std.proofs.Common.{◌≡◌, drop}
use Rattle.loom_ops.specs.Rows.{filters_of_rows, holders_of_rows, first_owner}
use Rattle.loom_ops.proofs.rows.owner_in.Given as goal

abbrev pub invariant-scan : goal.invariant-scan
invariant-scan l = first_owner (filters_of_rows l.filters) (holders_of_rows (drop l.row-index l.holders)) ≡ first_owner (filters_of_rows l.filters) (holders_of_rows l.holders)
