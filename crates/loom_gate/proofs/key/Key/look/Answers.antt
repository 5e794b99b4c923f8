use Rattle.std.proofs.Common.{arith}
use Rattle.loom_gate.specs.Seats.{view_of_key}
use Rattle.loom_gate.proofs.GateSteps.{looks_at}
use Rattle.loom_gate.proofs.key.Key.look.Goals as goal

pub load-word-requires : goal.load-word-requires
load-word-requires c =
    let r = c.requires.gate in let s0 = c.args.gate.now.sized.0 in let t = c.requires.thread.1 in let a = c.requires.thread.0 in let e = c.from-thread.ensures in
    (r.0, omega arith, looks_at _ _ _ _ _ (view_of_key c.args.self.now) _ r.1 (omega arith, omega arith))
