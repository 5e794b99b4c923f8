use Rattle.std.proofs.Common.{arith}
use Rattle.loom_gate.specs.Seats.{view_of_key}
use Rattle.loom_gate.proofs.GateSteps.{flags_at}
use Rattle.loom_gate.proofs.key.Key.store.Goals as goal

pub store-requires : goal.store-requires
store-requires c =
    let r = c.words.invariant.0 in
    let s0 = c.args.gate.now.sized.0 in let s2 = c.args.gate.now.sized.2 in let s3 = c.args.gate.now.sized.3 in
    let t = c.words-test.true in let f = c.from-first.ensures in
    (r.0, omega arith, flags_at _ _ _ _ c.words.w _ _ (view_of_key c.words.self) _ (omega arith) r.1 r.2 (omega arith))
