use Rattle.std.proofs.Common.{◌∙◌}
use Rattle.loom_lang.specs.Canonical.{sema_line}
use Rattle.loom_canonical.proofs.ItemText.{lines_more}
use Rattle.loom_canonical.proofs.item.put_semas.Goals as goal

pub each-preserved : goal.each-preserved
each-preserved c = lines_more sema_line _ _ c.s-item.result _ _ c.each-test.true c.s-item.is c.in_ok-put_sema_line.ensures ∙ c.each.invariant
