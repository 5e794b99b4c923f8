use Rattle.loom_law.proofs.ActiveFilters.{owed_active}
use Rattle.loom_law.proofs.laws.owed_active.Goals as goal

pub returns : goal.returns
returns c = owed_active
