use Rattle.std.proofs.Common.{ap, ◌∙◌}
use Rattle.loom_lang.specs.declared.refusal.Reason.TheVariants as reason
use Rattle.loom_lang.specs.Refusal.{line_if}
use Rattle.loom_lang.specs.Fault.{behind_faults}
use Rattle.loom_lang.proofs.Repetition.{repeated_on}
use Rattle.loom_lang.proofs.duplicates.note_repeated.Goals as goal

pub scan-preserved : goal.scan-preserved
scan-preserved c =
    repeated_on _ _ reason.NameTwice c.args.names.now c.args.locals.now c.scan.i c.index-locals-i.result c.scan-test.true c.index-locals-i.is (c.note_if.ensures ∙ ap (λ z. behind_faults c.scan.first reason.NameTwice (line_if z c.index-locals-i.result.line)) c.is_taken.ensures) ∙ c.scan.invariant
