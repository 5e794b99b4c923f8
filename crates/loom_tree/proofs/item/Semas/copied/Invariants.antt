use Rattle.std.proofs.Common.{◌≡◌, ◌++◌, drop}
use Rattle.loom_tree.proofs.item.Semas.copied.Given as goal

abbrev pub invariant-copy : goal.invariant-copy
invariant-copy l = l.copies.items ++ drop l.s-index l.self ≡ l.self
