use Rattle.loom_store.proofs.Sizes.{always_answers}
use Rattle.loom_store.proofs.laws.always_answers.Goals as goal

pub returns : goal.returns
returns c = always_answers
