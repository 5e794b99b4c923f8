use Rattle.loom_law.proofs.Inside.{inside_is_held}
use Rattle.loom_law.proofs.laws.held_regions.Goals as goal

pub returns : goal.returns
returns c = inside_is_held
