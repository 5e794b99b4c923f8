use Rattle.std.proofs.Common.{◌≡◌, ◌++◌, drop}
use Rattle.loom_lang.specs.Fault.{names_of}
use Rattle.loom_lang.proofs.locals.put_names.Given as goal

abbrev pub invariant-copy : goal.invariant-copy
invariant-copy l = l.names ++ names_of (drop l.local-index l.locals) ≡ l.fn.names ++ names_of l.locals
