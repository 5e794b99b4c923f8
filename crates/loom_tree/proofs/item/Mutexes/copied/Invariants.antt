use Rattle.std.proofs.Common.{◌≡◌, ◌++◌, drop}
use Rattle.loom_tree.proofs.item.Mutexes.copied.Given as goal

abbrev pub invariant-copy : goal.invariant-copy
invariant-copy l = l.copies.items ++ drop l.x-index l.self ≡ l.self
