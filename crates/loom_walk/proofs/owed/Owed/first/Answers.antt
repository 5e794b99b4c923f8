use Rattle.std.proofs.Common.{[], ap, sym, subst, ◌∙◌, List}
use Rattle.std.specs.List.{AllByRecursion}
use Rattle.loom_walk.specs.declared.owed.OwedRow.{OwedRow}
use Rattle.loom_walk.specs.Owed.{Owed, rows_queue, back_queue, queue, HasOperations, IsFirstOf}
use Rattle.loom_walk.specs.contracts.owed.Owed.{the_view}
use Rattle.loom_walk.proofs.OwedParts.{first_at, first_else}
use Rattle.loom_walk.proofs.owed.Owed.first.Goals as goal

pub first_behind-requires : goal.first_behind-requires
first_behind-requires c = subst (AllByRecursion HasOperations) (sym (c.as_slice.ensures.value ∙ ap (λ (z : Owed). z.rows) c.self.view_is)) c.requires

pub returns-in-Some : goal.returns-in-Some
returns-in-Some c = first_at c.args.self.now c.in-Some.tick (ap (λ (z : Owed). z.tick) (sym c.self.view_is) ∙ c.in-Some.is)

pub returns-in-None : goal.returns-in-None
returns-in-None c =
    subst (λ (z : Owed). IsFirstOf (queue z) c.first_behind.result) c.self.view_is
    (first_else (the_view c.self.inside) c.first_behind.result c.in-None.is
    (subst (λ (rs : List OwedRow). IsFirstOf (back_queue c.self.inside.back c.self.inside.line (rows_queue c.self.inside.line rs [])) c.first_behind.result) c.as_slice.ensures.value
    c.first_behind.ensures))
