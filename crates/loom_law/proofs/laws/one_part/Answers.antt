use Rattle.loom_law.proofs.OnePart.{one_part}
use Rattle.loom_law.proofs.laws.one_part.Goals as goal

pub returns : goal.returns
returns c = one_part
