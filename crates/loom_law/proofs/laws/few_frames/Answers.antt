use Rattle.loom_law.proofs.FewFrames.{few_frames}
use Rattle.loom_law.proofs.laws.few_frames.Goals as goal

pub returns : goal.returns
returns c = few_frames
