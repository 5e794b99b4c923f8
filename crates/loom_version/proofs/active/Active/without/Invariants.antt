use Rattle.std.proofs.Common.{◌≡◌, ◌≤◌, ◌++◌, length, drop}
use Rattle.loom_version.specs.Version.{without_number}
use Rattle.loom_version.proofs.active.Active.without.Given as goal

abbrev pub invariant-scan : goal.invariant-scan
invariant-scan l = record {
  others : l.left ++ without_number l.k (drop l.j-index l.all) ≡ without_number l.k l.all;
  room : length l.left ≤ l.j-index;
}
