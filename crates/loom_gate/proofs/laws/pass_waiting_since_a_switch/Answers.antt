use Rattle.loom_gate.proofs.GateLaws.{waits_where_found}
use Rattle.loom_gate.proofs.laws.pass_waiting_since_a_switch.Goals as goal

pub returns : goal.returns
returns c = waits_where_found
