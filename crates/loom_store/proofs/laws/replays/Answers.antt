use Rattle.loom_store.proofs.Deeds.{replays}
use Rattle.loom_store.proofs.laws.replays.Goals as goal

pub returns : goal.returns
returns c = replays
