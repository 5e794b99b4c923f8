use Rattle.std.proofs.Common.{◌≡◌, ◌++◌, []}
use Rattle.loom_lang.specs.Canonical.{indented}
use Rattle.loom_canonical.proofs.statement.put_margin.Given as goal

abbrev pub invariant-each : goal.invariant-each
invariant-each l = l.out ≡ l.fn.out ++ indented l._block []
