use Rattle.std.proofs.Common.{◌≡◌, drop}
use Rattle.loom_lang.specs.Rules.{is_in}
use Rattle.loom_plan.proofs.names.is_in.Given as goal

abbrev pub invariant-scan : goal.invariant-scan
invariant-scan l = is_in l.x (drop l.y-index l.names) ≡ is_in l.x l.names
