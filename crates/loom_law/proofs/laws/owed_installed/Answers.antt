use Rattle.loom_law.proofs.Lawful.{owed_installed}
use Rattle.loom_law.proofs.laws.owed_installed.Goals as goal

pub returns : goal.returns
returns c = owed_installed
