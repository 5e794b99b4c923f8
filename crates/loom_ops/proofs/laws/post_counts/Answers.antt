use Rattle.loom_ops.proofs.PostReplay.{post_counts}
use Rattle.loom_ops.proofs.laws.post_counts.Goals as goal

pub returns : goal.returns
returns c = post_counts
