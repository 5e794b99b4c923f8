use Rattle.loom_ops.proofs.LockReplay.{one_holder}
use Rattle.loom_ops.proofs.laws.one_holder.Goals as goal

pub returns : goal.returns
returns c = one_holder
