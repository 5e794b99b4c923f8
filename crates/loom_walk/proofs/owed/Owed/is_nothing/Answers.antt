use Rattle.std.proofs.Common.{◌≡◌, Bool, true, [], ap, sym, subst, ◌∙◌, List}
use Rattle.std.specs.Prelude.{◌↔◌}
use Rattle.std.specs.List.{AllByRecursion}
use Rattle.loom_walk.specs.declared.owed.OwedRow.{OwedRow}
use Rattle.loom_walk.specs.Owed.{Owed, rows_queue, back_queue, HasOperations}
use Rattle.loom_walk.proofs.OwedParts.{nothing_at, nothing_else}
use Rattle.loom_walk.proofs.owed.Owed.is_nothing.Goals as goal

pub is_nothing-requires : goal.is_nothing-requires
is_nothing-requires c = subst (AllByRecursion HasOperations) (sym (c.as_slice.ensures.value ∙ ap (λ (z : Owed). z.rows) c.self.view_is)) c.requires

pub returns-in-Some : goal.returns-in-Some
returns-in-Some c = nothing_at c.args.self.now _ (ap (λ (z : Owed). z.tick) (sym c.self.view_is) ∙ c.in-Some.is)

pub returns-in-None : goal.returns-in-None
returns-in-None c =
    let rows : c.as_slice.result.now ≡ Owed.rows c.args.self.now = c.as_slice.ensures.value ∙ ap (λ (z : Owed). z.rows) c.self.view_is in
    let told : (c.is_nothing.result ≡ true) ↔ (back_queue c.self.inside.back c.args.self.now.line (rows_queue c.args.self.now.line c.args.self.now.rows []) ≡ [])
    = subst (λ (rs : List OwedRow). (c.is_nothing.result ≡ true) ↔ (back_queue c.self.inside.back c.args.self.now.line (rows_queue c.args.self.now.line rs []) ≡ [])) rows
    (c.is_nothing.ensures c.args.self.now.line) in
    nothing_else c.args.self.now c.is_nothing.result (ap (λ (z : Owed). z.tick) (sym c.self.view_is) ∙ c.in-None.is)
    (subst (λ (b : Bool). (c.is_nothing.result ≡ true) ↔ (back_queue b c.args.self.now.line (rows_queue c.args.self.now.line c.args.self.now.rows []) ≡ [])) (ap (λ (z : Owed). z.back) c.self.view_is) told)
