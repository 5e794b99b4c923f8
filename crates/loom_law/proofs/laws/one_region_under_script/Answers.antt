use Rattle.loom_law.proofs.Lawful.{one_region_under_script}
use Rattle.loom_law.proofs.laws.one_region_under_script.Goals as goal

pub returns : goal.returns
returns c = one_region_under_script
