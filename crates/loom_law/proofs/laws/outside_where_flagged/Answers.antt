use Rattle.loom_law.proofs.Sites.{outside_where_flagged}
use Rattle.loom_law.proofs.laws.outside_where_flagged.Goals as goal

pub returns : goal.returns
returns c = outside_where_flagged
