use Rattle.std.proofs.Common.{◌≡◌, ◌≤◌}
use Rattle.loom_tree.specs.declared.statement.Stmts.{size-Stmts}
use Rattle.loom_tree.specs.Tree.{body_of, items_of}
use Rattle.loom_lang.specs.declared.refusal.Reason.TheVariants as reason
use Rattle.loom_lang.specs.FileItems.{source_of_items}
use Rattle.loom_lang.specs.Refusal.{unknown_lines}
use Rattle.loom_lang.specs.Fault.{names_of, behind_faults}
use Rattle.loom_lang.proofs.resolve.+unknown.Given as goal

abbrev pub invariant-note_body-walk : goal.invariant-note_body-walk
invariant-note_body-walk l = record {
  within : size-Stmts l.at ≤ size-Stmts l.body;
  noted : behind_faults l.first reason.UnknownName (unknown_lines (source_of_items (items_of l.items)) (names_of l.locals) (body_of l.at)) ≡ behind_faults l.fn.first reason.UnknownName (unknown_lines (source_of_items (items_of l.items)) (names_of l.locals) (body_of l.body));
}
