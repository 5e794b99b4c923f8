use Rattle.loom_command.proofs.OneScript.{one_script}
use Rattle.loom_command.proofs.laws.one_script.Goals as goal

pub returns : goal.returns
returns c = one_script
