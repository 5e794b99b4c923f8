use Rattle.std.proofs.Common.{◌≡◌, ◌++◌, drop}
use Rattle.loom_tree.specs.Tree.{functions_of}
use Rattle.loom_tree.specs.Lines.{ended}
use Rattle.loom_lang.specs.Canonical.{functions_lines}
use Rattle.loom_canonical.proofs.ItemText.{HaveForms}
use Rattle.loom_canonical.proofs.item.put_functions.Given as goal

abbrev pub invariant-each : goal.invariant-each
invariant-each l = record {
  forms : HaveForms (functions_of (drop l.f-index l.f-items));
  text : l.out ++ ended (functions_lines (functions_of (drop l.f-index l.f-items))) ≡ l.fn.out ++ ended (functions_lines (functions_of l.funcs));
}
