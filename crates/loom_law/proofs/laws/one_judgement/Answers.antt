use Rattle.loom_law.proofs.OneJudgement.{one_judgement}
use Rattle.loom_law.proofs.laws.one_judgement.Goals as goal

pub returns : goal.returns
returns c = one_judgement
