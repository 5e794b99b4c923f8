use Rattle.loom_law.proofs.Makings.{making_turns}
use Rattle.loom_law.proofs.requests.making_turns.Goals as goal

pub returns : goal.returns
returns c = making_turns
