use Rattle.loom_gate.proofs.GateLaws.{stays_out}
use Rattle.loom_gate.proofs.laws.pass_out_until_lowered.Goals as goal

pub returns : goal.returns
returns c = stays_out
