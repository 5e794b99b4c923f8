use Rattle.std.proofs.Common.{◌∙◌}
use Rattle.loom_gate_tests.proofs.Trials.{only_pass, only_rest}
use Rattle.loom_gate_tests.proofs.gate.only.Goals as goal

pub returns-clause-pass : goal.returns-clause-pass
returns-clause-pass c =
    let q = c.requires.passes in let r = q.0 in
    only_pass _ _ _ _ c.pop.new.self.items c.pop.result c.pop.ensures.items (r.0 ∙ q.1) r.1 q.2

pub returns-clause-rest : goal.returns-clause-rest
returns-clause-rest c =
    let q = c.requires.passes in let r = q.0 in
    only_rest _ _ _ _ c.pop.new.self.items c.pop.result c.pop.ensures.items (r.0 ∙ q.1) r.1 q.2
