use Rattle.loom_law.proofs.OneJudgement.{one_command_list}
use Rattle.loom_law.proofs.laws.one_command_list.Goals as goal

pub returns : goal.returns
returns c = one_command_list
