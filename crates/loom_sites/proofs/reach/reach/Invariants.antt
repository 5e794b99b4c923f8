use Rattle.std.proofs.Common.{length}
use Rattle.loom_sites.specs.Reach.{IsWalked, left_to_do}
use Rattle.loom_sites.proofs.reach.reach.Given as goal

abbrev pub invariant-walk : goal.invariant-walk
invariant-walk l = IsWalked l.links l.starts l.halts (length l.links) l.reached l.todo.items

abbrev pub decreases-walk : goal.decreases-walk
decreases-walk l = left_to_do (length l.links) l.reached l.todo.items
