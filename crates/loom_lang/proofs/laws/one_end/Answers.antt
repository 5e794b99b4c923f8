use Rattle.loom_lang.proofs.NextAct.{one_end}
use Rattle.loom_lang.proofs.laws.one_end.Goals as goal

pub returns : goal.returns
returns c = one_end
