use Rattle.loom_version.proofs.OwnNames.{numbers_below}
use Rattle.loom_version.proofs.laws.numbers_below.Goals as goal

pub returns : goal.returns
returns c = numbers_below
