use Rattle.std.proofs.Common.{◌≡◌, ◌++◌, drop}
use Rattle.loom_lang.specs.Canonical.{listed}
use Rattle.loom_canonical.proofs.ExpressionText.{listed_behind}
use Rattle.loom_canonical.proofs.expression.put_name_list.Given as goal

abbrev pub invariant-each : goal.invariant-each
invariant-each l = l.out ++ listed_behind l.comma (drop l.x-index l.x-items) ≡ l.fn.out ++ listed l.names
