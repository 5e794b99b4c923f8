use Rattle.std.proofs.Common.{◌≡◌, drop}
use Rattle.loom_sites.specs.Faults.{nests_among}
use Rattle.loom_sites.proofs.fault.nests_among.Given as goal

abbrev pub invariant-others : goal.invariant-others
invariant-others l = nests_among l.area (drop l.other-index l.others) ≡ nests_among l.area l.others
