use Rattle.std.proofs.Common.{◌≡◌, ◌≤◌}
use Rattle.loom_tree.specs.declared.statement.Stmts.{size-Stmts}
use Rattle.loom_tree.specs.Tree.{body_of, items_of}
use Rattle.loom_lang.specs.declared.refusal.Reason.TheVariants as reason
use Rattle.loom_lang.specs.FileItems.{source_of_items}
use Rattle.loom_lang.specs.Refusal.{miscounted_lines}
use Rattle.loom_lang.specs.Fault.{behind_faults}
use Rattle.loom_lang.proofs.arity.+counts.Given as goal

abbrev pub invariant-note_body-walk : goal.invariant-note_body-walk
invariant-note_body-walk l = record {
  within : size-Stmts l.at ≤ size-Stmts l.body;
  noted : behind_faults l.first reason.WrongCount (miscounted_lines (source_of_items (items_of l.items)) (body_of l.at)) ≡ behind_faults l.fn.first reason.WrongCount (miscounted_lines (source_of_items (items_of l.items)) (body_of l.body));
}
