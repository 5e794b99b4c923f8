use Rattle.std.proofs.Common.{◌∙◌}
use Rattle.loom_lang.specs.Canonical.{mutex_line}
use Rattle.loom_canonical.proofs.ItemText.{lines_more}
use Rattle.loom_canonical.proofs.item.put_mutexes.Goals as goal

pub each-preserved : goal.each-preserved
each-preserved c = lines_more mutex_line _ _ c.x-item.result _ _ c.each-test.true c.x-item.is c.in_ok-put_mutex_line.ensures ∙ c.each.invariant
