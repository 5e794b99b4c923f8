use Rattle.loom_law.proofs.OneRequest.{no_split}
use Rattle.loom_law.proofs.requests.no_split.Goals as goal

pub returns : goal.returns
returns c = no_split
