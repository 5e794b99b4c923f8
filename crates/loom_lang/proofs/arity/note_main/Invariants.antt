use Rattle.std.proofs.Common.{◌≡◌, drop}
use Rattle.loom_tree.specs.Tree.{items_of}
use Rattle.loom_lang.specs.declared.refusal.Reason.TheVariants as reason
use Rattle.loom_lang.specs.FileItems.{source_of_items}
use Rattle.loom_lang.specs.Refusal.{main_lines}
use Rattle.loom_lang.specs.Fault.{behind_faults}
use Rattle.loom_lang.proofs.arity.note_main.Given as goal

abbrev pub invariant-scan : goal.invariant-scan
invariant-scan l = behind_faults l.first reason.WrongCount (main_lines (source_of_items (items_of (drop l.item-index l.items)))) ≡ behind_faults l.fn.first reason.WrongCount (main_lines (source_of_items (items_of l.items)))
