use Rattle.loom_law.proofs.Lawful.{control_turns}
use Rattle.loom_law.proofs.laws.control_turns.Goals as goal

pub returns : goal.returns
returns c = control_turns
