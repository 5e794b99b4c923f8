use Rattle.loom_syntax.proofs.Viable.{one_file}
use Rattle.loom_syntax.proofs.laws.one_tree.Goals as goal

pub returns : goal.returns
returns c = one_file
