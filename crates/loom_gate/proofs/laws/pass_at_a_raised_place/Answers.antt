use Rattle.loom_gate.proofs.GateLaws.{raised_keeps_out}
use Rattle.loom_gate.proofs.laws.pass_at_a_raised_place.Goals as goal

pub returns : goal.returns
returns c = raised_keeps_out
