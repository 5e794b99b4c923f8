use Rattle.std.proofs.Common.{◌≡◌, ℕ, true}
use Rattle.loom_trace.specs.Places.{has_place}
use Rattle.loom_gate.specs.Seats.{IsKeyOf, view_of_key}
use Rattle.loom_gate_tests.proofs.gate.evacuate.Given as goal

abbrev pub invariant-looks : goal.invariant-looks
invariant-looks g l = IsKeyOf l.gate l.key × (l.key.up ≡ true) × (l.key.left ≡ l.fn.key.left) × ((p : ℕ) → has_place (view_of_key l.key).up p ≡ has_place l.flags p)
