use Rattle.std.proofs.Common.{◌≡◌, drop}
use Rattle.loom_sites.specs.Faults.{has_reentered}
use Rattle.loom_sites.proofs.fault.has_reentered.Given as goal

abbrev pub invariant-areas : goal.invariant-areas
invariant-areas l = has_reentered (drop l.area-index l.areas) l.clause ≡ has_reentered l.areas l.clause
