use Rattle.std.proofs.Common.{◌≡◌, ℕ, []}
use Rattle.loom_turn.specs.declared.view.SeatStage.TheVariants.{Waits}
use Rattle.loom_turn.specs.Lock.{at_stage}
use Rattle.loom_turn.specs.TicketRule.{wrap}
use Rattle.loom_turn.proofs.turn.Turn.take.Given as goal

abbrev pub invariant-loop : goal.invariant-loop
invariant-loop g l = (t : ℕ) × (l.seat.me ≡ (at_stage (Waits t) l.fn.seat.me.0, [])) × (l.ticket ≡ wrap t) × (l.seat.table_id ≡ l.fn.seat.table_id)
