use Rattle.loom_store.proofs.Deeds.{deeds}
use Rattle.loom_store.proofs.laws.deeds.Goals as goal

pub returns : goal.returns
returns c = deeds
