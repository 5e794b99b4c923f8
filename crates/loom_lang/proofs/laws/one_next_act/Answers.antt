use Rattle.loom_lang.proofs.NextAct.{one_next_act}
use Rattle.loom_lang.proofs.laws.one_next_act.Goals as goal

pub returns : goal.returns
returns c = one_next_act
