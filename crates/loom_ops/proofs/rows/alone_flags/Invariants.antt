use Rattle.std.proofs.Common.{◌-◌, ◌≡◌, ◌≤◌, map, take}
use Rattle.loom_law.specs.Filter.{is_unilateral}
use Rattle.loom_ops.proofs.rows.alone_flags.Given as goal

abbrev pub invariant-clauses : goal.invariant-clauses
invariant-clauses l = record {
  low : l.n ≤ l.count;
  are : l.flags.items ≡ take l.n (map is_unilateral l.c.plan.rulings);
}

abbrev pub decreases-clauses : goal.decreases-clauses
decreases-clauses l = l.count - l.n
