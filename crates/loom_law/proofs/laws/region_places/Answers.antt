use Rattle.loom_law.proofs.InsideRegions.{region_places}
use Rattle.loom_law.proofs.laws.region_places.Goals as goal

pub returns : goal.returns
returns c = region_places
