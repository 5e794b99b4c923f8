use Rattle.std.proofs.Common.{◌≡◌, [], drop}
use Rattle.loom_tree.specs.Tree.{items_of}
use Rattle.loom_lang.specs.declared.refusal.Reason.TheVariants as reason
use Rattle.loom_lang.specs.Refusal.{twice_lines}
use Rattle.loom_lang.specs.Fault.{behind_faults}
use Rattle.loom_lang.specs.Fault.{names_of}
use Rattle.loom_lang.proofs.duplicates.note_twice.Given as goal

abbrev pub invariant-scan : goal.invariant-scan
invariant-scan l = behind_faults l.first reason.NameTwice (twice_lines l.names (names_of l.locals.items) (items_of (drop l.item-index l.items))) ≡ behind_faults l.fn.first reason.NameTwice (twice_lines [] [] (items_of l.items))
