use Rattle.std.proofs.Common.{◌≡◌, ◌++◌, drop}
use Rattle.loom_tree.specs.Tree.{items_of}
use Rattle.loom_lang.specs.Rules.{lines_of}
use Rattle.loom_lang.specs.FileItems.{source_of_items}
use Rattle.loom_lang.proofs.walk.statement_lines.Given as goal

abbrev pub invariant-gather : goal.invariant-gather
invariant-gather l = l.found.items ++ lines_of (source_of_items (items_of (drop l.item-index l.items))) ≡ lines_of (source_of_items (items_of l.items))
