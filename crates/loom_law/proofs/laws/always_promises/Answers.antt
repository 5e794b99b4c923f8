use Rattle.loom_law.proofs.Promises.{always_promises}
use Rattle.loom_law.proofs.laws.always_promises.Goals as goal

pub returns : goal.returns
returns c = always_promises
