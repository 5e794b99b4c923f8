use Rattle.std.proofs.Common.{◌∙◌}
use Rattle.loom_tree.specs.Tree.{Function, Source, items_of}
use Rattle.loom_lang.specs.declared.refusal.Reason.TheVariants as reason
use Rattle.loom_lang.specs.FileItems.{source_of_items}
use Rattle.loom_lang.specs.Refusal.{miscounted_lines}
use Rattle.loom_lang.proofs.Faults.{functions_step}
use Rattle.loom_lang.proofs.arity.note_calls.Goals as goal

pub scan-preserved : goal.scan-preserved
scan-preserved c =
    let p : Source = source_of_items (items_of c.args.items.now) in
    functions_step _ _ reason.WrongCount (λ (f : Function). miscounted_lines p f.body) c.args.items.now c.scan.item-index c.item-item.result c.scan-test.true c.item-item.is c.note_calls_in.ensures ∙ c.scan.invariant
