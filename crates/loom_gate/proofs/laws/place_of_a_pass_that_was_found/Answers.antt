use Rattle.loom_gate.proofs.GateLaws.{found_is_at}
use Rattle.loom_gate.proofs.laws.place_of_a_pass_that_was_found.Goals as goal

pub returns : goal.returns
returns c = found_is_at
