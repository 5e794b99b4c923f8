use Rattle.std.proofs.Common.{◌≡◌, ◌+◌, length, All}
use Rattle.std.specs.Prelude.{sum_by}
use Rattle.loom_turn.specs.Seat.{IsSeatAt, IsIdle, parts_of}
use Rattle.loom_turn.proofs.turn.Turn.close.Given as goal

abbrev pub invariant-join : goal.invariant-join
invariant-join g l =
    All (λ s. IsSeatAt l.fn.self.table.shared.table_id (g.T.Fits.label l.fn.self.table.shared.key.value) s × IsIdle s) l.rest.items
    × IsSeatAt l.fn.self.table.shared.table_id (g.T.Fits.label l.fn.self.table.shared.key.value) l.all
    × IsIdle l.all
    × (sum_by parts_of l.rest.items + l.all.me.0.parts ≡ 256)

abbrev pub decreases-join : goal.decreases-join
decreases-join g l = length l.rest.items
