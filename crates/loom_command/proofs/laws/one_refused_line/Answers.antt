use Rattle.loom_command.proofs.OneBadLine.{one_refused_line}
use Rattle.loom_command.proofs.laws.one_refused_line.Goals as goal

pub returns : goal.returns
returns c = one_refused_line
