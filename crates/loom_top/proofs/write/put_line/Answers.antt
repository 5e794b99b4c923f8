use Rattle.std.proofs.Common.{[], ◌∷◌}
use Rattle.loom_io.proofs.Pages.{paged_then, front_behind}
use Rattle.loom_top.proofs.JournalLines.{then_ok, then_err}
use Rattle.loom_top.proofs.write.put_line.Goals as goal

pub returns-clause-ok : goal.returns-clause-ok
returns-clause-ok g c =
    then_ok c.put_paged-2.result (paged_then _ _ _ c.args.page.now c.put_paged.new.page c.put_paged-2.new.page c.args.line.now (10 ∷ []) c.in_ok-put_paged.ensures.ok) c.put_paged-2.ensures.ok

pub returns-clause-part : goal.returns-clause-part
returns-clause-part g c =
    then_err c.put_paged-2.result (front_behind _ _ _ c.args.page.now c.put_paged.new.page c.args.line.now (10 ∷ []) c.in_ok-put_paged.ensures.ok) c.put_paged-2.ensures.part
