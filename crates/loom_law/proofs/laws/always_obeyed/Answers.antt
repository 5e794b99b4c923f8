use Rattle.loom_law.proofs.Lawful.{always_obeyed}
use Rattle.loom_law.proofs.laws.always_obeyed.Goals as goal

pub returns : goal.returns
returns c = always_obeyed
