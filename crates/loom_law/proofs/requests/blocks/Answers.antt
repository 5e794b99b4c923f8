use Rattle.loom_law.proofs.SameRequest.{blocks}
use Rattle.loom_law.proofs.requests.blocks.Goals as goal

pub returns : goal.returns
returns c = blocks
