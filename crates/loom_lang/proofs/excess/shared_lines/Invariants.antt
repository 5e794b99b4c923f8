use Rattle.std.proofs.Common.{◌≡◌, ◌++◌, drop}
use Rattle.loom_tree.specs.Tree.{items_of}
use Rattle.loom_lang.specs.Refusal.{shared_lines}
use Rattle.loom_lang.proofs.excess.shared_lines.Given as goal

abbrev pub invariant-gather : goal.invariant-gather
invariant-gather l = l.lines.items ++ shared_lines (items_of (drop l.item-index l.items)) ≡ shared_lines (items_of l.items)
