use Rattle.loom_turn.proofs.Locks.{one_at_turn}
use Rattle.loom_turn.proofs.laws.one_turn_at_once.Goals as goal

pub returns : goal.returns
returns g c = one_at_turn g.T.Fits.label
