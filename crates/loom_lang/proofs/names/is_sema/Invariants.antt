use Rattle.std.proofs.Common.{◌≡◌, drop}
use Rattle.loom_tree.specs.Tree.{items_of}
use Rattle.loom_lang.specs.Rules.{is_sema}
use Rattle.loom_lang.specs.FileItems.{source_of_items}
use Rattle.loom_lang.proofs.names.is_sema.Given as goal

abbrev pub invariant-scan : goal.invariant-scan
invariant-scan l = is_sema (source_of_items (items_of (drop l.item-index l.items))).semas l.x ≡ is_sema (source_of_items (items_of l.items)).semas l.x
