use Rattle.std.proofs.Common.{ap, sym, ◌∙◌}
use Rattle.loom_lang.specs.Limits.{local_limit}
use Rattle.loom_lang.specs.declared.local.Local.{Local}
use Rattle.loom_lang.specs.declared.refusal.Reason.TheVariants as reason
use Rattle.loom_lang.specs.declared.refusal.Which.TheVariants as which
use Rattle.loom_lang.specs.Fault.{behind_faults}
use Rattle.loom_lang.proofs.BeyondLimit.{over_more, over_none}
use Rattle.loom_lang.proofs.excess.note_locals_of.Goals as goal

pub returns-then-locals-gt-LOCAL_LIMIT : goal.returns-then-locals-gt-LOCAL_LIMIT
returns-then-locals-gt-LOCAL_LIMIT c = c.note.ensures ∙ ap (behind_faults c.args.first.now (reason.TooMany which.Locals)) (sym (over_more (λ (d : Local). d.line) c.args.locals.now local_limit c.index-locals-32.result c.if-locals-gt-LOCAL_LIMIT.true))

pub returns-else-locals-gt-LOCAL_LIMIT : goal.returns-else-locals-gt-LOCAL_LIMIT
returns-else-locals-gt-LOCAL_LIMIT c = ap (behind_faults c.args.first.now (reason.TooMany which.Locals)) (sym (over_none (λ (d : Local). d.line) c.args.locals.now local_limit c.if-locals-gt-LOCAL_LIMIT.false))
