use Rattle.std.proofs.Common.{◌≡◌, drop}
use Rattle.loom_tree.specs.Tree.{expressions_of, items_of}
use Rattle.loom_lang.specs.Rules.{knows_all}
use Rattle.loom_lang.specs.FileItems.{source_of_items}
use Rattle.loom_lang.specs.Fault.{names_of}
use Rattle.loom_lang.proofs.resolve.knows_all.Given as goal

abbrev pub invariant-scan : goal.invariant-scan
invariant-scan l = knows_all (source_of_items (items_of l.items)) (names_of l.locals) (expressions_of (drop l.e-index l.es)) ≡ knows_all (source_of_items (items_of l.items)) (names_of l.locals) (expressions_of l.es)
