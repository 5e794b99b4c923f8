use Rattle.std.proofs.Common.{◌≡◌, ◌≤◌, ◌-◌, drop}
use Rattle.loom_tree.specs.Tree.{items_of}
use Rattle.loom_lang.specs.Limits.{cell_limit}
use Rattle.loom_lang.specs.declared.refusal.Reason.TheVariants as reason
use Rattle.loom_lang.specs.declared.refusal.Which.TheVariants as which
use Rattle.loom_lang.specs.Refusal.{cells_over}
use Rattle.loom_lang.specs.Fault.{behind_faults}
use Rattle.loom_lang.proofs.excess.note_cells.Given as goal

abbrev pub invariant-scan : goal.invariant-scan
invariant-scan l = record {
  left : l.left ≤ cell_limit;
  cells : behind_faults l.first (reason.TooMany which.Cells) (cells_over (cell_limit - l.left) (items_of (drop l.item-index l.items))) ≡ behind_faults l.fn.first (reason.TooMany which.Cells) (cells_over 0 (items_of l.items));
}
