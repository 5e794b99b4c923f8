use Rattle.loom_ops.proofs.LockReplay.{same_words}
use Rattle.loom_ops.proofs.laws.same_words.Goals as goal

pub returns : goal.returns
returns c = same_words
