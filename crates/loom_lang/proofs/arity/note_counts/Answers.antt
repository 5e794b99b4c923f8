use Rattle.std.proofs.Common.{sym, ◌∙◌}
use Rattle.loom_tree.specs.Tree.{Source, items_of}
use Rattle.loom_lang.specs.declared.refusal.Reason.TheVariants as reason
use Rattle.loom_lang.specs.FileItems.{source_of_items}
use Rattle.loom_lang.specs.Refusal.{main_lines}
use Rattle.loom_lang.proofs.Faults.{noted_append}
use Rattle.loom_lang.proofs.arity.note_counts.Goals as goal

pub returns : goal.returns
returns c =
    let p : Source = source_of_items (items_of c.args.items.now) in
    c.note_calls.ensures ∙ rw c.note_main.ensures (sym (noted_append c.args.first.now reason.WrongCount (main_lines p) _))
