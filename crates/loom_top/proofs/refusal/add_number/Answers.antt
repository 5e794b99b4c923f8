use Rattle.std.proofs.Common.{◌++◌, ap, ◌∙◌, arith}
use Rattle.loom_trace.proofs.Decimal.{same_decimal}
use Rattle.loom_top.proofs.refusal.add_number.Goals as goal

pub returns-clause-text : goal.returns-clause-text
returns-clause-text c =
    c.add.ensures ∙ ap (λ z. c.args.line.now.items ++ z) (c.as_bytes.ensures.value ∙ (c.format.ensures.text ∙ same_decimal c.args.number (omega (arith, c.ranges.number.fits))))
