use Rattle.std.proofs.Common.{◌≡◌, ◌++◌, map, drop}
use Rattle.loom_tree.specs.Lines.{ended}
use Rattle.loom_lang.specs.Canonical.{sema_line}
use Rattle.loom_canonical.proofs.item.put_semas.Given as goal

abbrev pub invariant-each : goal.invariant-each
invariant-each l = l.out ++ ended (map sema_line (drop l.s-index l.s-items)) ≡ l.fn.out ++ ended (map sema_line l.semas)
