use Rattle.loom_law.proofs.Lawful.{always_balanced}
use Rattle.loom_law.proofs.laws.always_balanced.Goals as goal

pub returns : goal.returns
returns c = always_balanced
