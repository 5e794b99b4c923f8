use Rattle.loom_gate.proofs.GateLaws.{inside_has_version}
use Rattle.loom_gate.proofs.laws.version_of_a_pass_inside.Goals as goal

pub returns : goal.returns
returns c = inside_has_version
