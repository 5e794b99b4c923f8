use Rattle.loom_version.proofs.OwnNames.{own_names}
use Rattle.loom_version.proofs.laws.own_names.Goals as goal

pub returns : goal.returns
returns c = own_names
