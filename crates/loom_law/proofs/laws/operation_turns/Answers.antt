use Rattle.loom_law.proofs.Lawful.{operation_turns}
use Rattle.loom_law.proofs.laws.operation_turns.Goals as goal

pub returns : goal.returns
returns c = operation_turns
