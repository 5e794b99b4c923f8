use Rattle.loom_law.proofs.Leaves.{held_leaves}
use Rattle.loom_law.proofs.laws.held_leaves.Goals as goal

pub returns : goal.returns
returns c = held_leaves
