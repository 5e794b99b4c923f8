use Rattle.loom_store.proofs.OneAnswer.{exact_traps}
use Rattle.loom_store.proofs.laws.exact_traps.Goals as goal

pub returns : goal.returns
returns c = exact_traps
