use Rattle.std.proofs.Common.{◌≡◌, ◌+◌, ◌≤◌, length, All}
use Rattle.std.specs.Prelude.{sum_by}
use Rattle.std.specs.Vec.{vec_capacity}
use Rattle.loom_turn.specs.Seat.{IsSeatAt, IsIdle, parts_of}
use Rattle.loom_turn.proofs.turn.Turn.make.Given as goal

abbrev pub invariant-split : goal.invariant-split
invariant-split g l =
    All (λ s. IsSeatAt l.table.shared.table_id (g.T.Fits.label l.table.shared.key.value) s × IsIdle s) l.list.items
    × IsSeatAt l.table.shared.table_id (g.T.Fits.label l.table.shared.key.value) l.first
    × IsIdle l.first
    × (sum_by parts_of l.list.items + l.first.me.0.parts ≡ 256)
    × (l.first.me.0.parts + l.counter ≡ 257)
    × (length l.list.items + 1 ≡ l.counter)
    × (l.fn.seats ≤ vec_capacity l.list)
    × (l.table.shared.table_id.words ≡ 2) × (l.table.shared.table_id.slots ≡ 1)
    × (l.table.shared.key.value ≡ l.fn.value)
