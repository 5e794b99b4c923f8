use Rattle.loom_law.proofs.Lawful.{always_in_one_region}
use Rattle.loom_law.proofs.laws.always_in_one_region.Goals as goal

pub returns : goal.returns
returns c = always_in_one_region
