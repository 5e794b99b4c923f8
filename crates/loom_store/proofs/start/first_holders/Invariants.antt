use Rattle.std.proofs.Common.{◌≡◌, ◌++◌, drop, map}
use Rattle.loom_event.specs.Replay.{nobody}
use Rattle.loom_store.proofs.start.first_holders.Given as goal

abbrev pub invariant-mutexes : goal.invariant-mutexes
invariant-mutexes l = l.holders.items ++ map nobody (drop l._mutex-index l.mutexes) ≡ map nobody l.mutexes
