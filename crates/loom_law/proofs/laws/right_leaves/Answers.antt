use Rattle.loom_law.proofs.Lawful.{right_leaves}
use Rattle.loom_law.proofs.laws.right_leaves.Goals as goal

pub returns : goal.returns
returns c = right_leaves
