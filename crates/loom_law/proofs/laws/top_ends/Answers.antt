use Rattle.loom_law.proofs.OpenStatements.{top_ends}
use Rattle.loom_law.proofs.laws.top_ends.Goals as goal

pub returns : goal.returns
returns c = top_ends
