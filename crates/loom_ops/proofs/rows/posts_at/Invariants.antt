use Rattle.std.proofs.Common.{◌≡◌, drop}
use Rattle.loom_ops.specs.Ops.{posts_at}
use Rattle.loom_ops.specs.Rows.{tables_of}
use Rattle.loom_ops.proofs.rows.posts_at.Given as goal

abbrev pub invariant-scan : goal.invariant-scan
invariant-scan l = posts_at (tables_of (drop l.row-index l.rows)) l.k l.event ≡ posts_at (tables_of l.rows) l.k l.event
