use Rattle.std.proofs.Common.{rules, ◌≡◌, [], ◌++◌, ap, arith, ◌∙◌, sym}
use Rattle.std.specs.Prelude.{option_to_list, sum_by}
use Rattle.std.proofs.lemmas.Option.{same_Some, none-some}
use Rattle.loom_turn.specs.Seat.{parts_of}
use Rattle.loom_turn.proofs.Tables.{joins_at}
use Rattle.loom_turn.proofs.Seats.{pops, fewer_parts, joined, closes}
use Rattle.loom_turn.proofs.turn.Turn.close.Goals as goal

pub join-init : goal.join-init
join-init g c =
    let e = c.pop.ensures.items ∙ ap (λ o. c.pop.new.self.items ++ option_to_list o) c.in-Some.is in
    let p = pops _ _ _ _ _ e c.requires.0 in
    let all : sum_by parts_of c.args.seats.0.items ≡ 256 = c.requires.1 in
    let t = fewer_parts _ _ c.in-Some.all 0 e (omega arith) in
    (p.0, p.1, p.2, omega arith)

pub join_seat-requires : goal.join_seat-requires
join_seat-requires g c =
    let l = c.join.invariant in
    let e = c.pop-in-join.ensures.items ∙ ap (λ o. c.pop-in-join.new.self.items ++ option_to_list o) c.in-Some-pop.is in
    let p = pops _ _ _ _ _ e l.0 in
    (l.1.0, p.1.0, p.2.1, (let s = c.args.self.sized.0 in omega arith), joins_at _ _ _ c.join.all.me.0 _ c.in-Some-pop.seat.me.0 l.2.0 p.2.0)

pub join-preserved : goal.join-preserved
join-preserved g c =
    let l = c.join.invariant in
    let e = c.pop-in-join.ensures.items ∙ ap (λ o. c.pop-in-join.new.self.items ++ option_to_list o) c.in-Some-pop.is in
    let p = pops _ _ _ _ _ e l.0 in
    let j = c.join_seat.ensures in
    let t = fewer_parts _ _ c.in-Some-pop.seat _ e l.3 in
    let k = joined _ _ c.join.all c.in-Some-pop.seat c.join_seat.new.seat l.1 l.2 j.0 j.2 in
    let q = k.2 in
    (p.0, k.0, k.1, omega arith)

pub unreachable-requires-in-None : goal.unreachable-requires-in-None
unreachable-requires-in-None g c =
    let l = c.join.invariant in
    let empty : c.join.rest.items ≡ [] = search rules in
    let t : sum_by parts_of c.join.rest.items ≡ 0 = ap (sum_by parts_of) empty in
    let s = l.3 in
    let h = closes g.T.Fits.label _ _ c.join.all.me.0 _ _ c.take-value.result l.2.0 (omega arith) c.close_with-closed.ensures.values.2 c.take-value.ensures.value in
    absurd (none-some h.0 (sym c.in-None.is ∙ h.1))

pub returns : goal.returns
returns g c =
    let l = c.join.invariant in
    let empty : c.join.rest.items ≡ [] = search rules in
    let t : sum_by parts_of c.join.rest.items ≡ 0 = ap (sum_by parts_of) empty in
    let s = l.3 in
    let h = closes g.T.Fits.label _ _ c.join.all.me.0 _ _ c.take-value.result l.2.0 (omega arith) c.close_with-closed.ensures.values.2 c.take-value.ensures.value in
    ap g.T.Fits.label (same_Some _ _ (sym c.in-Some-value.is ∙ h.1)) ∙ h.2
