use Rattle.std.proofs.Common.{◌≡◌, ◌++◌, map, drop}
use Rattle.loom_tree.specs.Lines.{ended}
use Rattle.loom_lang.specs.Canonical.{mutex_line}
use Rattle.loom_canonical.proofs.item.put_mutexes.Given as goal

abbrev pub invariant-each : goal.invariant-each
invariant-each l = l.out ++ ended (map mutex_line (drop l.x-index l.x-items)) ≡ l.fn.out ++ ended (map mutex_line l.mutexes)
