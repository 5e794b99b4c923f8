use Rattle.std.proofs.Common.{◌≡◌, ◌++◌, drop}
use Rattle.loom_tree.specs.Tree.{expressions_of}
use Rattle.loom_tree.proofs.expression.Exprs.copied.Given as goal

abbrev pub invariant-copy : goal.invariant-copy
invariant-copy l = expressions_of l.copies.items ++ expressions_of (drop l.e-index l.self) ≡ expressions_of l.self
