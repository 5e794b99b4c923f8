use Rattle.std.proofs.Common.{◌≡◌, ◌++◌, drop}
use Rattle.loom_lang.specs.Refusal.{at_line}
use Rattle.loom_lang.proofs.walk.put_params.Given as goal

abbrev pub invariant-copy : goal.invariant-copy
invariant-copy l = l.locals.items ++ at_line l.f.line (drop l.x-index l.f.params) ≡ l.fn.locals.items ++ at_line l.f.line l.f.params
