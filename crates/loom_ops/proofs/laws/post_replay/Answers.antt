use Rattle.loom_ops.proofs.PostReplay.{post_replay}
use Rattle.loom_ops.proofs.laws.post_replay.Goals as goal

pub returns : goal.returns
returns c = post_replay
