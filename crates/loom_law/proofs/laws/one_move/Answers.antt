use Rattle.loom_law.proofs.OnePart.{one_move}
use Rattle.loom_law.proofs.laws.one_move.Goals as goal

pub returns : goal.returns
returns c = one_move
