use Rattle.loom_law.proofs.Answers.{answers}
use Rattle.loom_law.proofs.requests.answers.Goals as goal

pub returns : goal.returns
returns c = answers
