use Rattle.loom_law.proofs.Lawful.{exclusion}
use Rattle.loom_law.proofs.laws.exclusion.Goals as goal

pub returns : goal.returns
returns c = exclusion
