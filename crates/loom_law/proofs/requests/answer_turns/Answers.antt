use Rattle.loom_law.proofs.Answers.{answer_turns}
use Rattle.loom_law.proofs.requests.answer_turns.Goals as goal

pub returns : goal.returns
returns c = answer_turns
