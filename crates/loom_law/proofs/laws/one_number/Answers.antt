use Rattle.loom_law.proofs.PlaceNumbers.{one_number}
use Rattle.loom_law.proofs.laws.one_number.Goals as goal

pub returns : goal.returns
returns c = one_number
