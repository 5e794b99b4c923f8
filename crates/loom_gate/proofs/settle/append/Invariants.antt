use Rattle.std.proofs.Common.{◌≡◌, ◌≤◌, ◌++◌, take, length}
use Rattle.std.specs.Vec.{vec_capacity}
use Rattle.loom_gate.proofs.settle.append.Given as goal

abbrev pub invariant-rows : goal.invariant-rows
invariant-rows l = (l.rows.items ≡ l.fn.rows.items ++ take l.i l.more) × (vec_capacity l.rows ≡ vec_capacity l.fn.rows) × (l.i ≤ length l.more)
