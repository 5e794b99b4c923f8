use Rattle.loom_version.proofs.OwnNames.{version_behind_install}
use Rattle.loom_version.proofs.laws.version_behind_install.Goals as goal

pub returns : goal.returns
returns c = version_behind_install
