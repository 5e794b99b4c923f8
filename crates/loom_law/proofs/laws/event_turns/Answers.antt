use Rattle.loom_law.proofs.Lawful.{event_turns}
use Rattle.loom_law.proofs.laws.event_turns.Goals as goal

pub returns : goal.returns
returns c = event_turns
