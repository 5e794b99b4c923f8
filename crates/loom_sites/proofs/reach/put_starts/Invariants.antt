use Rattle.std.proofs.Common.{◌≤◌, List, length}
use Rattle.loom_sites.specs.declared.links.PlaceLinks.{PlaceLinks}
use Rattle.loom_sites.specs.Reach.{IsWalked}
use Rattle.loom_sites.proofs.reach.put_starts.Given as goal

abbrev pub invariant-places : goal.invariant-places
invariant-places l = (rows : List PlaceLinks) → l.count ≤ length rows → IsWalked rows l.starts l.halts 0 l.fn.reached l.fn.todo.items → IsWalked rows l.starts l.halts l.k l.reached l.todo.items
