use Rattle.std.proofs.Common.{◌≡◌, drop}
use Rattle.loom_tree.specs.Tree.{items_of}
use Rattle.loom_lang.specs.Rules.{is_word}
use Rattle.loom_lang.specs.FileItems.{source_of_items}
use Rattle.loom_lang.proofs.names.is_word.Given as goal

abbrev pub invariant-scan : goal.invariant-scan
invariant-scan l = is_word (source_of_items (items_of (drop l.item-index l.items))).words l.x ≡ is_word (source_of_items (items_of l.items)).words l.x
