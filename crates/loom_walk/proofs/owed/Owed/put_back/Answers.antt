use Rattle.std.proofs.Common.{not, [], ap, sym, subst, ◌∙◌}
use Rattle.std.specs.List.{AllByRecursion}
use Rattle.loom_law.specs.Walk.{with_back}
use Rattle.loom_walk.specs.Owed.{Owed, rows_queue, tick_queue, HasOperations}
use Rattle.loom_walk.specs.contracts.owed.Owed.{the_view}
use Rattle.loom_walk.proofs.OwedParts.{put_back_queue}
use Rattle.loom_walk.proofs.owed.Owed.put_back.Goals as goal

pub returns-clause-same : goal.returns-clause-same
returns-clause-same c = ap (λ (z : Owed). record z { back = not c.is_empty.result }) c.self.view_is

pub returns-clause-queue : goal.returns-clause-queue
returns-clause-queue c =
    put_back_queue (the_view c.self.inside) (not c.is_empty.result) (subst (λ (z : Owed). AllByRecursion HasOperations z.rows) (sym c.self.view_is) c.requires) (ap not c.is_empty.ensures)
    ∙ ap (λ (z : Owed). tick_queue z.tick (with_back z.line (rows_queue z.line z.rows []))) c.self.view_is
