use Rattle.loom_law.proofs.OnePart.{one_made}
use Rattle.loom_law.proofs.laws.one_made.Goals as goal

pub returns : goal.returns
returns c = one_made
