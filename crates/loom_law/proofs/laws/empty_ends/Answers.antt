use Rattle.loom_law.proofs.Turns.{empty_ends}
use Rattle.loom_law.proofs.laws.empty_ends.Goals as goal

pub returns : goal.returns
returns c = empty_ends
