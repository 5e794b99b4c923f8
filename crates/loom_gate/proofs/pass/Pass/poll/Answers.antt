use Rattle.std.proofs.Common.{arith, ap, subst}
use Rattle.loom_gate.specs.View.{thread_of}
use Rattle.loom_gate.specs.GateMachine.{Amid}
use Rattle.loom_gate.specs.Seats.{view_of_pass}
use Rattle.loom_gate.proofs.GateSteps.{polls_at}
use Rattle.loom_gate.proofs.CallFacts.{same_version}
use Rattle.loom_gate.proofs.pass.Pass.poll.Goals as goal

pub load-word-requires : goal.load-word-requires
load-word-requires c =
    let r = c.requires.gate in
    let s0 = c.args.gate.now.sized.0 in let s3 = c.args.gate.now.sized.3 in
    let e = c.index_of.ensures.index in let w = c.index_of.ensures.words in
    (r.0, omega arith, polls_at _ _ _ _ _ c.requires.inside.0 c.args.place _ (view_of_pass c.args.self.now) _ e r.2 c.requires.inside.1 (omega arith))

pub returns-clause-version : goal.returns-clause-version
returns-clause-version c v at = same_version _ v (view_of_pass c.args.self.now) at (subst (λ t. Amid t (view_of_pass c.args.self.now) (λ a. Unit {0})) (ap (λ m. thread_of m.0) c.requires.gate.2) c.load-word.ensures.2.1)
