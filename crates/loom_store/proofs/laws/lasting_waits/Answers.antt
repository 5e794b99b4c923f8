use Rattle.loom_store.proofs.Sizes.{lasting_waits}
use Rattle.loom_store.proofs.laws.lasting_waits.Goals as goal

pub returns : goal.returns
returns c = lasting_waits
