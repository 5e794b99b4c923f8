use Rattle.loom_ops.proofs.Waits.{order_waits}
use Rattle.loom_ops.proofs.laws.order_waits.Goals as goal

pub returns : goal.returns
returns c = order_waits
