use Rattle.loom_command.proofs.OneForm.{one_filter}
use Rattle.loom_command.proofs.laws.one_filter.Goals as goal

pub returns : goal.returns
returns c = one_filter
