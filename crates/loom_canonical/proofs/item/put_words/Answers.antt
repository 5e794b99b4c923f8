use Rattle.std.proofs.Common.{◌∙◌}
use Rattle.loom_lang.specs.Canonical.{word_line}
use Rattle.loom_canonical.proofs.ItemText.{lines_more}
use Rattle.loom_canonical.proofs.item.put_words.Goals as goal

pub each-preserved : goal.each-preserved
each-preserved c = lines_more word_line _ _ c.w-item.result _ _ c.each-test.true c.w-item.is c.in_ok-put_word_line.ensures ∙ c.each.invariant
