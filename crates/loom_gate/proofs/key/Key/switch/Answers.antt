use Rattle.std.proofs.Common.{◌≡◌, ◌+◌, length, get_or, arith, ◌∙◌, ap}
use Rattle.std.specs.Prelude.{slice_index}
use Rattle.loom_gate.specs.Seats.{view_of_key}
use Rattle.loom_gate.proofs.GateSteps.{switches_at}
use Rattle.loom_gate.proofs.SeatFacts.{seen_place, rows_more, rows_length, other_default}
use Rattle.loom_gate.proofs.key.Key.switch.Goals as goal

pub store-requires : goal.store-requires
store-requires c =
    let r = c.requires.gate in let s0 = c.args.gate.now.sized.0 in let v = r.4 in let m = r.5 in let a = c.requires.left in let e = c.from.ensures in
    (r.0, omega arith, switches_at _ _ _ _ _ (view_of_key c.args.self.now) _ r.1 (omega arith) (omega arith) c.requires.stood)

pub threads-preserved : goal.threads-preserved
threads-preserved c =
    let i = c.threads.invariant in
    let t = c.threads-test.true in let s2 = c.args.gate.now.sized.2 in
    let found = c.requires.stood (c.threads.t + 1) (omega arith, omega arith) in
    let same = i.4 in
    let wide : length c.threads.self.places.items ≡ length c.args.self.now.places.items = ap (λ v. length v.items) same in
    let all = c.requires.gate.8 in let e = c.from-in-threads.ensures in
    let place : c.index.result.now ≡ slice_index c.args.self.now.places.items (c.threads.t + 1) =
    c.index.ensures ∙ (other_default c.threads.self.places.items c.from-in-threads.result c.index.result.now 0 (omega arith) ∙ (λ j. get_or (same j).items (e j) 0)) in (
      rows_more (c.args.self.now.version + 1) _ c.threads.t c.index.result.now _ _ _ c.push_reserved.ensures.items i.0
          (place ∙ seen_place _ _ found.0 found.1 (c.requires.gate.9 (c.threads.t + 1))),
      c.push_reserved.ensures.capacity ∙ i.1,
      omega arith,
      i.3,
      i.4,
      i.5,
      i.6,
      rows_length _ _ _,
    )
