use Rattle.loom_command.proofs.OneBadLine.{no_refused_script}
use Rattle.loom_command.proofs.laws.no_refused_script.Goals as goal

pub returns : goal.returns
returns c = no_refused_script
