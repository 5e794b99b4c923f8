use Rattle.loom_law.proofs.Lawful.{new_installs}
use Rattle.loom_law.proofs.laws.new_installs.Goals as goal

pub returns : goal.returns
returns c = new_installs
