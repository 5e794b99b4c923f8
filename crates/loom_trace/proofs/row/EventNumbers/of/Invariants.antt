use Rattle.std.proofs.Common.{◌≡◌, take}
use Rattle.loom_trace.proofs.row.EventNumbers.of.Given as goal

abbrev pub invariant-loop-event : goal.invariant-loop-event
invariant-loop-event l = l.row ≡ take l.event-index l.events
