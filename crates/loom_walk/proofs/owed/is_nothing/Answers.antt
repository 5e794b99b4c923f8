use Rattle.loom_walk.proofs.OwedRows.{nothing_back, nothing_rows}
use Rattle.loom_walk.specs.Owed.{rows_queue}
use Rattle.loom_walk.proofs.owed.is_nothing.Goals as goal
use Rattle.std.proofs.Common.{[]}

pub returns-then-back : goal.returns-then-back
returns-then-back c l = nothing_back c.args.back l (rows_queue l c.args.rows.now []) c.if-back.true

pub returns : goal.returns
returns c l = nothing_rows c.args.back c.is_empty.result l c.args.rows.now c.if-back.false c.requires c.is_empty.ensures
