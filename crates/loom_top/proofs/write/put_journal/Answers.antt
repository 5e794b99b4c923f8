use Rattle.loom_io.proofs.Pages.{paged_whole, front_put}
use Rattle.loom_top.proofs.JournalLines.{at_err, then_ok, then_err, front_values, front_dashes, front_entries, paged_journal}
use Rattle.loom_top.proofs.write.put_journal.Goals as goal

pub returns-in_err-put_values-clause-part : goal.returns-in_err-put_values-clause-part
returns-in_err-put_values-clause-part g c =
    at_err c.from_residual.result (front_values _ _ c.new-page.result c.args.journal.now.entries c.new-page.ensures c.in_err-put_values.ensures.part)

pub returns-in_err-put_line-clause-part : goal.returns-in_err-put_line-clause-part
returns-in_err-put_line-clause-part g c =
    at_err c.from_residual-in_err-put_line.result
    (front_dashes _ _ _ c.new-page.result c.put_values.new.page c.args.journal.now.entries c.new-page.ensures c.in_ok-put_values.ensures.ok c.in_err-put_line.ensures.part)

pub returns-in_err-put_entries-clause-part : goal.returns-in_err-put_entries-clause-part
returns-in_err-put_entries-clause-part g c =
    at_err c.from_residual-in_err-put_entries.result
    (front_entries _ _ _ _ c.new-page.result c.put_values.new.page c.put_line.new.page c.args.journal.now.entries c.new-page.ensures
    c.in_ok-put_values.ensures.ok c.in_ok-put_line.ensures.ok c.in_err-put_entries.ensures.part)

pub returns-clause-ok : goal.returns-clause-ok
returns-clause-ok g c =
    then_ok c.put_page.result
    (paged_whole _ _ _ c.put_entries.new.page _
    (paged_journal _ _ _ _ c.new-page.result c.put_values.new.page c.put_line.new.page c.put_entries.new.page c.args.journal.now.entries c.new-page.ensures
    c.in_ok-put_values.ensures.ok c.in_ok-put_line.ensures.ok c.in_ok-put_entries.ensures.ok))
    c.put_page.ensures.ok

pub returns-clause-part : goal.returns-clause-part
returns-clause-part g c =
    then_err c.put_page.result
    (front_put _ _ _ c.put_entries.new.page _
    (paged_journal _ _ _ _ c.new-page.result c.put_values.new.page c.put_line.new.page c.put_entries.new.page c.args.journal.now.entries c.new-page.ensures
    c.in_ok-put_values.ensures.ok c.in_ok-put_line.ensures.ok c.in_ok-put_entries.ensures.ok))
    c.put_page.ensures.part
