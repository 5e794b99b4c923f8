use Rattle.loom_store.proofs.OneAnswer.{one_answer}
use Rattle.loom_store.proofs.laws.one_answer.Goals as goal

pub returns : goal.returns
returns c = one_answer
