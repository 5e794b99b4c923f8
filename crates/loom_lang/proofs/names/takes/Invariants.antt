use Rattle.std.proofs.Common.{◌≡◌, drop}
use Rattle.loom_tree.specs.Tree.{items_of}
use Rattle.loom_lang.specs.Rules.{takes}
use Rattle.loom_lang.specs.FileItems.{source_of_items}
use Rattle.loom_lang.proofs.names.takes.Given as goal

abbrev pub invariant-scan : goal.invariant-scan
invariant-scan l = takes (source_of_items (items_of (drop l.item-index l.items))).funcs l.name l.count ≡ takes (source_of_items (items_of l.items)).funcs l.name l.count
