use Rattle.std.proofs.Common.{arith, refl, ◌∙◌}
use Rattle.loom_top.proofs.JournalLines.{at_err, entries_text, entries_parts, paged_more, front_more}
use Rattle.loom_top.proofs.write.put_entries.Goals as goal

pub returns-in_err-put_one-clause-part : goal.returns-in_err-put_one-clause-part
returns-in_err-put_one-clause-part g c =
    at_err c.from_residual.result
    (front_more entries_text _ _ _ c.args.page.now c.entries.page _ c.args.journal.now.entries c.entries.i c.get.result entries_parts c.get.ensures refl
    c.entries.invariant.paged c.in_err-put_one.ensures.part)

pub entries-preserved : goal.entries-preserved
entries-preserved g c = record {
  later = omega (arith, c.in_ok-put_one.ensures.later, c.entries.invariant.later);
  calm = c.in_ok-put_one.ensures.calm ∙ c.entries.invariant.calm;
  paged =
      paged_more entries_text _ _ _ c.args.page.now c.entries.page c.put_one.new.page _ c.args.journal.now.entries c.entries.i c.get.result entries_parts c.get.ensures refl
      c.entries.invariant.paged c.in_ok-put_one.ensures.ok;
}
