use Rattle.loom_gate.proofs.GateLaws.{switch_meets_nobody}
use Rattle.loom_gate.proofs.laws.nobody_inside_at_a_switch.Goals as goal

pub returns : goal.returns
returns c = switch_meets_nobody
