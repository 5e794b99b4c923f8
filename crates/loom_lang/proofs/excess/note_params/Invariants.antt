use Rattle.std.proofs.Common.{◌≡◌, drop}
use Rattle.loom_tree.specs.Tree.{items_of}
use Rattle.loom_lang.specs.declared.refusal.Reason.TheVariants as reason
use Rattle.loom_lang.specs.declared.refusal.Which.TheVariants as which
use Rattle.loom_lang.specs.Refusal.{lines_of_reason}
use Rattle.loom_lang.specs.Fault.{behind_faults}
use Rattle.loom_lang.proofs.excess.note_params.Given as goal

abbrev pub invariant-scan : goal.invariant-scan
invariant-scan l = behind_faults l.first (reason.TooMany which.Params) (lines_of_reason (items_of (drop l.item-index l.items)) 0 (reason.TooMany which.Params)) ≡ behind_faults l.fn.first (reason.TooMany which.Params) (lines_of_reason (items_of l.items) 0 (reason.TooMany which.Params))
