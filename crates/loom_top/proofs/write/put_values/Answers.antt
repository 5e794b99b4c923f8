use Rattle.std.proofs.Common.{arith, ◌∙◌}
use Rattle.loom_top.proofs.JournalLines.{at_err, printed_text, printed_parts, one_printed, paged_more, front_more}
use Rattle.loom_top.proofs.write.put_values.Goals as goal

pub returns-in_err-put_value-clause-part : goal.returns-in_err-put_value-clause-part
returns-in_err-put_value-clause-part g c =
    at_err c.from_residual.result
    (front_more printed_text _ _ _ c.args.page.now c.values.page _ c.args.journal.now.entries c.values.i c.get.result printed_parts c.get.ensures (one_printed c.get.result)
    c.values.invariant.paged c.in_err-put_value.ensures.part)

pub values-preserved : goal.values-preserved
values-preserved g c = record {
  later = omega (arith, c.in_ok-put_value.ensures.later, c.values.invariant.later);
  calm = c.in_ok-put_value.ensures.calm ∙ c.values.invariant.calm;
  paged =
      paged_more printed_text _ _ _ c.args.page.now c.values.page c.put_value.new.page _ c.args.journal.now.entries c.values.i c.get.result printed_parts c.get.ensures (one_printed c.get.result)
      c.values.invariant.paged c.in_ok-put_value.ensures.ok;
}
