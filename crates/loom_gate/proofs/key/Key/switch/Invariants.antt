use Rattle.std.proofs.Common.{◌≡◌, ◌≤◌, ◌++◌, length}
use Rattle.std.specs.Vec.{vec_capacity}
use Rattle.loom_gate.specs.View.{switch_rows}
use Rattle.loom_gate.specs.Seats.{view_of_key}
use Rattle.loom_gate.proofs.key.Key.switch.Given as goal

abbrev pub invariant-threads : goal.invariant-threads
invariant-threads l =
    (l.self.rows.items ≡ l.fn.self.rows.items ++ switch_rows l.version (view_of_key l.fn.self).looks l.t)
    × (vec_capacity l.self.rows ≡ vec_capacity l.fn.self.rows)
    × (l.t ≤ l.gate.threads)
    × (l.self.seat ≡ l.initial.self.seat) × (l.self.places ≡ l.fn.self.places) × (l.self.left ≡ l.fn.self.left) × (l.self.up ≡ l.fn.self.up)
    × (length (switch_rows l.version (view_of_key l.fn.self).looks l.t) ≡ l.t)
