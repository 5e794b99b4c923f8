use Rattle.loom_store.proofs.Sizes.{all_wait}
use Rattle.loom_store.proofs.laws.all_wait.Goals as goal

pub returns : goal.returns
returns c = all_wait
