use Rattle.std.proofs.Common.{List, [], ◌∷◌, refl, sym, ap, subst, ◌∙◌, arith}
use Rattle.loom_walk.specs.FilterWalk.{FilterWalk, IsAt, KeepsWalk}
use Rattle.loom_law.specs.Walk.{unborn, after_item}
use Rattle.loom_lang.specs.Trace.{made, begin}
use Rattle.loom_walk.specs.declared.clause_rows.ClauseRow.{ClauseRow}
use Rattle.loom_walk.specs.ClauseRows.{AreHoldings}
use Rattle.loom_walk.proofs.ItemSteps.{begins_to_be}
use Rattle.loom_walk.proofs.WalkCalls.{room_kept, first_keeps}
use Rattle.loom_walk.proofs.filter_walk.FilterWalk.begin.Goals as goal

pub invariant_of-self : goal.invariant_of-self
invariant_of-self c =
    let e = c.self.view_is ∙ c.requires in
    subst (λ (w : FilterWalk). KeepsWalk (record w { version = c.args.version; clauses = c.go_over.new.self }) c.self.inside.regions.room) (sym e)
    (first_keeps c.args.version c.go_over.new.self c.args.self.now.room c.self.inside.regions.room c.go_over.ensures.filters (c.self.invariant.regions ∙ ap (λ (w : FilterWalk). w.room) e))

pub returns-clause-at : goal.returns-clause-at
returns-clause-at c p plans l =
    let e = c.self.view_is ∙ c.requires in
    let none : AreHoldings c.self.inside.clauses [] = subst (λ (rs : List ClauseRow). AreHoldings rs []) (sym (ap (λ (w : FilterWalk). w.clauses) e)) (λ k n. refl) in
    subst (λ (w : FilterWalk). IsAt p plans (record w { version = c.args.version; clauses = c.go_over.new.self }) (after_item p plans (unborn (c.args.version ∷ [])) (made l begin))) (sym e)
    (begins_to_be p plans c.args.version c.go_over.new.self c.args.self.now.room l (c.go_over.ensures.holdings [] none))

pub returns-clause-room : goal.returns-clause-room
returns-clause-room c = room_kept c.args.self.now _ _ c.self.view_is refl (omega arith) (omega arith)
