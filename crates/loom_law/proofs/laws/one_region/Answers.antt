use Rattle.loom_law.proofs.OneRegion.{one_region}
use Rattle.loom_law.proofs.laws.one_region.Goals as goal

pub returns : goal.returns
returns c = one_region
