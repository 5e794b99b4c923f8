use Rattle.std.proofs.Common.{◌-◌, None, arith, sym}
use Rattle.loom_ops.proofs.Befores.{row_before, no_row_before}
use Rattle.loom_ops.proofs.rows.before_of.Goals as goal
use Rattle.loom_ops.proofs.rows.before_of.Goals.{else-event-gt0-via-then-event-gt0+else-event-befores, else-event-gt0-via-else-event-gt0}

pub returns-then-event-befores : goal.returns-then-event-befores
returns-then-event-befores c = row_before c.args.befores.now c.args.event (c.args.event - 1) None (omega arith) (omega arith)

pub returns-else-event-gt0 : goal.returns-else-event-gt0
returns-else-event-gt0 c =
    elim c.else-event-gt0.branch [ else-event-gt0-via-then-event-gt0+else-event-befores w ↦ sym (no_row_before c.args.befores.now c.args.event (λ a b. omega arith)) | else-event-gt0-via-else-event-gt0 w ↦ sym (no_row_before c.args.befores.now c.args.event (λ a b. omega arith)) ]
