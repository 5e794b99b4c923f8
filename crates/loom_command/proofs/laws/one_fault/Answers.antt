use Rattle.loom_command.proofs.OneFault.{one_fault}
use Rattle.loom_command.proofs.laws.one_fault.Goals as goal

pub returns : goal.returns
returns c = one_fault
