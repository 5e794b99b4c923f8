use Rattle.std.proofs.Common.{◌≡◌, ℕ, ◌+◌, ◌-◌, List, [], ◌∷◌, ◌++◌, map, length, get_or, arith, ap, sym, subst, ◌∙◌, append-nil, All}
use Rattle.std.specs.Vec.Iter.{into_iter_items}
use Rattle.loom_gate.specs.declared.log.PassRow.{PassRow}
use Rattle.loom_gate.specs.declared.log.SwitchRow.{SwitchRow}
use Rattle.loom_gate.specs.declared.pass.Pass as pass
use Rattle.loom_gate.specs.declared.view.PassView.{PassView}
use Rattle.loom_gate.specs.View.{key_of, start}
use Rattle.loom_gate.specs.Record.{place_from, AreInOrder}
use Rattle.loom_gate.specs.Seats.{view_of_pass, ArePassesFrom, rows_of, ends_of}
use Rattle.loom_gate.proofs.GateSteps.{joins_at, closes}
use Rattle.loom_gate.proofs.GateLogs.{sound, rows_order}
use Rattle.loom_gate.proofs.SeatFacts.{nothing_left}
use Rattle.loom_gate.proofs.settle.settle.Goals as goal

pub join_seat-requires : goal.join_seat-requires
join_seat-requires c =
    let i = c.passes.invariant in
    let s0 = c.args.gate.sized.0 in
    let steps : into_iter_items c.passes.pass-iterator ≡ c.in-Some.pass ∷ into_iter_items c.next.new.self = c.in-Some.ensures.steps.0 in
    let are = subst (λ (ps : List pass.Pass). ArePassesFrom c.args.gate.table.shared.table_id c.args.gate.table.shared.key.threads c.args.gate.table.shared.key.places (length (key_of c.passes.seat.me.0).finals + 1) ps) steps i.are in (
      i.table,
      are.1.0,
      ap (λ m. m.1) are.1.2,
      omega arith,
      joins_at _ _ _ _ c.passes.seat.me.0 c.in-Some.pass.seat.me.0 (key_of c.passes.seat.me.0) c.in-Some.pass.thread (view_of_pass c.in-Some.pass) (ap (λ m. m.0) i.view) (ap (λ m. m.0) are.1.2) (sym are.0),
    )

pub returns-clause-sound : goal.returns-clause-sound
returns-clause-sound c =
    let i = c.passes.invariant in
    let ps : List pass.Pass = c.args.passes.0.items in
    let empty : into_iter_items c.passes.pass-iterator ≡ [] = nothing_left _ (sym i.left ∙ c.in-None.ensures.steps.0) in
    let none : length (into_iter_items c.passes.pass-iterator) ≡ 0 = ap (λ (xs : List pass.Pass). length xs) empty in
    let finals : List PassView = (key_of c.passes.seat.me.0).finals in
    let views : finals ≡ map view_of_pass ps = sym (append-nil finals) ∙ (ap (λ (xs : List pass.Pass). finals ++ map view_of_pass xs) (sym empty) ∙ i.views) in
    let rows : c.passes.rows.items ≡ rows_of ps = sym (append-nil c.passes.rows.items) ∙ (ap (λ (xs : List pass.Pass). c.passes.rows.items ++ rows_of xs) (sym empty) ∙ i.rows) in
    let ends : c.passes.ends.items ≡ ends_of ps = sym (append-nil c.passes.ends.items) ∙ (ap (λ (xs : List pass.Pass). c.passes.ends.items ++ ends_of xs) (sym empty) ∙ i.ends) in
    let k = closes _ _ _ c.passes.seat.me.0 (key_of c.passes.seat.me.0) _ _ (ap (λ m. m.0) i.view) c.close_with.ensures.values.2 in
    let switches : k.0.key.switches ≡ c.args.key.rows.items = ap (λ x. x.switches) k.2 ∙ i.switches in
    let all = c.requires.passes.0 in let count = i.count in
    subst (λ (x : List SwitchRow × List ℕ × List PassRow). All (λ (w : SwitchRow). place_from w.thread w.version (get_or x.1 (w.thread - 1) 0) x.2 ≡ w.place) x.0)
    (λ j. (switches j, sym ends j, sym rows j))
    (sound _ _ _ k.0 k.1 ps c.requires.passes.1 all c.requires.stand (λ t h. k.3 t (omega arith) ∙ ap (λ (vs : List PassView). get_or vs t start) views))

pub returns-clause-order : goal.returns-clause-order
returns-clause-order c =
    let i = c.passes.invariant in
    let ps : List pass.Pass = c.args.passes.0.items in
    let empty : into_iter_items c.passes.pass-iterator ≡ [] = nothing_left _ (sym i.left ∙ c.in-None.ensures.steps.0) in
    let none : length (into_iter_items c.passes.pass-iterator) ≡ 0 = ap (λ (xs : List pass.Pass). length xs) empty in
    let finals : List PassView = (key_of c.passes.seat.me.0).finals in
    let views : finals ≡ map view_of_pass ps = sym (append-nil finals) ∙ (ap (λ (xs : List pass.Pass). finals ++ map view_of_pass xs) (sym empty) ∙ i.views) in
    let rows : c.passes.rows.items ≡ rows_of ps = sym (append-nil c.passes.rows.items) ∙ (ap (λ (xs : List pass.Pass). c.passes.rows.items ++ rows_of xs) (sym empty) ∙ i.rows) in
    let k = closes _ _ _ c.passes.seat.me.0 (key_of c.passes.seat.me.0) _ _ (ap (λ m. m.0) i.view) c.close_with.ensures.values.2 in
    let all = c.requires.passes.0 in let count = i.count in
    subst AreInOrder (sym rows) (rows_order _ _ _ k.0 k.1 1 ps c.requires.passes.1
    (λ t h. ap (λ (x : ℕ). k.0.passes x) (omega arith) ∙ (k.3 t (omega arith) ∙ ap (λ (vs : List PassView). get_or vs t start) views))).0
