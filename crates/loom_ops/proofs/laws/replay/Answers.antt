use Rattle.loom_ops.proofs.LockReplay.{replay}
use Rattle.loom_ops.proofs.laws.replay.Goals as goal

pub returns : goal.returns
returns c = replay
