use Rattle.std.proofs.Common.{◌<◌, inr, arith, ap, subst}
use Rattle.loom_gate.specs.View.{thread_of}
use Rattle.loom_gate.specs.GateMachine.{Amid}
use Rattle.loom_gate.specs.Seats.{view_of_pass}
use Rattle.loom_gate.proofs.GateSteps.{leaves_at}
use Rattle.loom_gate.proofs.CallFacts.{same_version}
use Rattle.loom_gate.proofs.pass.Pass.leave.Goals as goal

pub store-requires : goal.store-requires
store-requires c =
    let r = c.requires.gate in
    let s = c.args.gate.now.sized.0 in let a = r.1.1 in
    let w = c.requires.place in let e = c.from.ensures in let d = c.from-2.ensures in let b : c.args.place < 65536 = c.ranges.place.fits in
    (r.0, omega arith, leaves_at _ _ _ _ _ _ _ (view_of_pass c.args.self.now) _ e r.2 (omega arith) (inr c.requires.inside))

pub returns-clause-version : goal.returns-clause-version
returns-clause-version c v at = same_version _ v (view_of_pass c.args.self.now) at (subst (λ t. Amid t (view_of_pass c.args.self.now) (λ a. Unit {0})) (ap (λ m. thread_of m.0) c.requires.gate.2) c.store.ensures.2.1)
