use Rattle.std.proofs.Common.{◌≡◌, drop}
use Rattle.loom_lang.specs.Rules.{is_in}
use Rattle.loom_lang.specs.Fault.{names_of}
use Rattle.loom_lang.proofs.names.is_local.Given as goal

abbrev pub invariant-scan : goal.invariant-scan
invariant-scan l = is_in l.x (names_of (drop l.d-index l.locals)) ≡ is_in l.x (names_of l.locals)
