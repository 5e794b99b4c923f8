use Rattle.std.proofs.Common.{◌≡◌, ◌++◌, drop}
use Rattle.loom_tree.specs.Tree.{functions_of}
use Rattle.loom_tree.proofs.item.Funcs.copied.Given as goal

abbrev pub invariant-copy : goal.invariant-copy
invariant-copy l = functions_of l.copies.items ++ functions_of (drop l.f-index l.self) ≡ functions_of l.self
