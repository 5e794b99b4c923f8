use Rattle.loom_law.proofs.Lawful.{beginning}
use Rattle.loom_law.proofs.laws.beginning.Goals as goal

pub returns : goal.returns
returns c = beginning
