use Rattle.loom_gate.proofs.GateLaws.{told_is_step}
use Rattle.loom_gate.proofs.laws.told_is_a_step.Goals as goal

pub returns : goal.returns
returns c = told_is_step
