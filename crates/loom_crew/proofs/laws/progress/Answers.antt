use Rattle.loom_crew.proofs.Progress.{progress}
use Rattle.loom_crew.proofs.laws.progress.Goals as goal

pub returns : goal.returns
returns c = progress
