use Rattle.std.proofs.Common.{map, ◌∙◌}
use Rattle.loom_tree.specs.Tree.{Function}
use Rattle.loom_lang.specs.Limits.{local_limit}
use Rattle.loom_lang.specs.declared.local.Local.{Local}
use Rattle.loom_lang.specs.declared.refusal.Reason.TheVariants as reason
use Rattle.loom_lang.specs.declared.refusal.Which.TheVariants as which
use Rattle.loom_lang.specs.Refusal.{locals_at, first_excess}
use Rattle.loom_lang.proofs.Faults.{functions_step}
use Rattle.loom_lang.proofs.excess.note_locals.Goals as goal

pub scan-preserved : goal.scan-preserved
scan-preserved c = functions_step _ _ (reason.TooMany which.Locals) (λ (f : Function). first_excess local_limit (map (λ (d : Local). d.line) (locals_at f))) c.args.items.now c.scan.item-index c.item-item.result c.scan-test.true c.item-item.is c.in_ok-note_locals_in.ensures ∙ c.scan.invariant
