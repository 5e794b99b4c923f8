use Rattle.loom_store.proofs.OneAnswer.{exact_waits}
use Rattle.loom_store.proofs.laws.exact_waits.Goals as goal

pub returns : goal.returns
returns c = exact_waits
