use Rattle.std.proofs.Common.{◌≡◌}
use Rattle.loom_gate.specs.Seats.{IsPassOf, IsStanding}
use Rattle.loom_gate_tests.proofs.gate.come_and_go.Given as goal

abbrev pub invariant-times : goal.invariant-times
invariant-times g l = IsPassOf l.gate l.pass × IsStanding l.pass × (l.pass.thread ≡ l.fn.pass.thread)

abbrev pub invariant-tries : goal.invariant-tries
invariant-tries g l = IsPassOf l.gate l.pass × IsStanding l.pass × (l.pass.thread ≡ l.fn.pass.thread)
