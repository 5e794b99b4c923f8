use Rattle.std.proofs.Common.{rules, ◌≡◌, ◌<◌, [], ◌∷◌, ap, arith, sym, Some, length-append}
use Rattle.std.specs.Prelude.{sum_by}
use Rattle.std.proofs.lemmas.List.Sums.{sum_by_push}
use Rattle.loom_turn.specs.Seat.{parts_of}
use Rattle.loom_turn.proofs.Tables.{splits_at, begins_at}
use Rattle.loom_turn.proofs.Seats.{pushes, parted}
use Rattle.loom_turn.proofs.turn.Turn.make.Goals as goal

pub new-requires : goal.new-requires
new-requires g c =
    let e : c.push_reserved.new.self.items ≡ Some c.args.value ∷ [] = search rules in
    let same : c.of-about.result.value ≡ c.args.value = search rules in
    rw e (begins_at g.T.Fits.label _ c.args.value (ap g.T.Fits.label (sym same)))

pub split_seat-requires : goal.split_seat-requires
split_seat-requires g c =
    let l = c.split.invariant in
    let a = l.4 in let b = l.7 in let t = c.split-test.true in
    let small : c.args.seats < 256 = c.ranges.seats.fits in
    (l.1.0, omega arith, splits_at _ _ _ c.split.first.me.0 l.2.0 (omega arith))

pub split-preserved : goal.split-preserved
split-preserved g c =
    let l = c.split.invariant in
    let s = c.split_seat.ensures in
    let a = l.4 in let b = l.7 in let t = c.split-test.true in let n = l.5 in let tot = l.3 in
    let small : c.args.seats < 256 = c.ranges.seats.fits in
    let h = parted _ _ c.split.first c.split_seat.new.seat c.split_seat.result l.1 l.2 (omega arith) s.0 s.2 s.3 s.4 in
    let e = c.push_reserved-in-split.ensures.items in
    let q = h.2 in let r = h.4 in
    let t1 = sum_by_push parts_of c.split.list.items c.split_seat.result in
    let t2 = ap (sum_by parts_of) e in
    (rw e (pushes _ _ _ _ l.0 h.3.0 h.3.1), h.0, h.1, omega arith, omega arith, rw e (omega (arith, length-append c.split.list.items (c.split_seat.result ∷ []))), search rules, l.7, l.8, l.9)

pub returns-after-split-clause-seats : goal.returns-after-split-clause-seats
returns-after-split-clause-seats g c =
    let l = c.split.invariant in
    let e = c.push_reserved-in-Ok-new.ensures.items in
    let t1 = sum_by_push parts_of c.split.list.items c.split.first in
    let t2 = ap (sum_by parts_of) e in
    let tot = l.3 in
    (rw e (pushes _ _ _ _ l.0 l.1 l.2), omega arith)
