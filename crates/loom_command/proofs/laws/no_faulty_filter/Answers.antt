use Rattle.loom_command.proofs.OneFault.{no_faulty_filter}
use Rattle.loom_command.proofs.laws.no_faulty_filter.Goals as goal

pub returns : goal.returns
returns c = no_faulty_filter
