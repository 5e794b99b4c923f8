use Rattle.std.proofs.Common.{ap, ◌∙◌}
use Rattle.loom_tree.specs.Tree.{item_of, items_of}
use Rattle.loom_lang.specs.declared.refusal.Reason.TheVariants as reason
use Rattle.loom_lang.proofs.Faults.{drop_at}
use Rattle.loom_lang.proofs.Repetition.{twice_on}
use Rattle.loom_lang.proofs.duplicates.note_twice.Goals as goal

pub scan-preserved : goal.scan-preserved
scan-preserved c =
    twice_on _ _ reason.NameTwice c.scan.names _ c.scan.locals.items _ (item_of c.item-item.result) _ _ (ap items_of (drop_at c.args.items.now c.scan.item-index c.item-item.result c.scan-test.true c.item-item.is)) c.in_ok-note_item.ensures.names c.in_ok-note_item.ensures.locals c.in_ok-note_item.ensures.first ∙ c.scan.invariant
