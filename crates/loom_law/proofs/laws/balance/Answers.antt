use Rattle.loom_law.proofs.Lawful.{balance}
use Rattle.loom_law.proofs.laws.balance.Goals as goal

pub returns : goal.returns
returns c = balance
