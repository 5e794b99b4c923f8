use Rattle.std.proofs.Common.{◌≡◌, drop}
use Rattle.loom_walk.specs.ClauseRows.{clauses_at}
use Rattle.loom_walk.proofs.clause_rows.clauses_in.Given as goal

abbrev pub invariant-scan : goal.invariant-scan
invariant-scan l = clauses_at (drop l.row-index l.rows) l.k ≡ clauses_at l.rows l.k
