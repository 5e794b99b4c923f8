use Rattle.std.proofs.Common.{◌≡◌, ◌++◌, drop, map}
use Rattle.loom_tree.specs.Tree.{Function, items_of}
use Rattle.loom_lang.specs.FileItems.{source_of_items}
use Rattle.loom_lang.proofs.excess.function_lines.Given as goal

abbrev pub invariant-gather : goal.invariant-gather
invariant-gather l = l.lines.items ++ map (λ (f : Function). f.line) (source_of_items (items_of (drop l.item-index l.items))).funcs ≡ map (λ (f : Function). f.line) (source_of_items (items_of l.items)).funcs
