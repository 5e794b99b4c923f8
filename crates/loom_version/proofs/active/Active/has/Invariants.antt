use Rattle.std.proofs.Common.{◌≡◌, drop}
use Rattle.loom_law.specs.Filter.{has}
use Rattle.loom_version.proofs.active.Active.has.Given as goal

abbrev pub invariant-scan : goal.invariant-scan
invariant-scan l = has (drop l.j-index l.all) l.k ≡ has l.all l.k
