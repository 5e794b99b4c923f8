use Rattle.std.proofs.Common.{◌≡◌, take}
use Rattle.loom_flow.specs.State.{filled, frame_room}
use Rattle.loom_strand.proofs.machine.first_locals.Given as goal

abbrev pub invariant-given : goal.invariant-given
invariant-given l = l.locals ≡ filled frame_room (take l.i l.given)
