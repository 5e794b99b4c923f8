use Rattle.loom_law.proofs.Lawful.{fronts}
use Rattle.loom_law.proofs.laws.fronts.Goals as goal

pub returns : goal.returns
returns c = fronts
