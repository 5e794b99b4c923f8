use Rattle.loom_world.proofs.ControlState.{few_entries}
use Rattle.loom_world.proofs.laws.few_entries.Goals as goal

pub returns : goal.returns
returns c = few_entries
