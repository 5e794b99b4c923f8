use Rattle.loom_turn.specs.Seat.{IsSeatOf, IsIdle, IsSameSeat}
use Rattle.loom_gate_tests.proofs.turn.add_times.Given as goal

abbrev pub invariant-times : goal.invariant-times
invariant-times g l = IsSeatOf (λ c. c.label) l.turn l.seat × IsIdle l.seat × IsSameSeat l.fn.seat l.seat
