use Rattle.std.proofs.Common.{◌≡◌, ◌≤◌, ◌++◌, map, length, drop}
use Rattle.loom_walk.specs.ClauseRows.{numbers_in, numbers_for}
use Rattle.loom_walk.proofs.clause_rows.rows_for.Given as goal

abbrev pub invariant-each : goal.invariant-each
invariant-each l = record {
  rows : map numbers_in l.rows.items ++ map (numbers_for l.old) (drop l.k-index l.filters) ≡ map (numbers_for l.old) l.filters;
  count : length l.rows.items ≤ l.k-index;
}
