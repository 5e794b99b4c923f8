use Rattle.loom_law.proofs.Lawful.{newest_version}
use Rattle.loom_law.proofs.laws.newest.Goals as goal

pub returns : goal.returns
returns c = newest_version
