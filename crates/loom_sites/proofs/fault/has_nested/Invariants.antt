use Rattle.std.proofs.Common.{◌≡◌, drop}
use Rattle.loom_sites.specs.Faults.{has_nested}
use Rattle.loom_sites.proofs.fault.has_nested.Given as goal

abbrev pub invariant-areas : goal.invariant-areas
invariant-areas l = has_nested (drop l.i l.areas) l.clause ≡ has_nested l.areas l.clause
