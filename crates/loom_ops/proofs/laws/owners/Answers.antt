use Rattle.loom_ops.proofs.LockReplay.{owners}
use Rattle.loom_ops.proofs.laws.owners.Goals as goal

pub returns : goal.returns
returns c = owners
