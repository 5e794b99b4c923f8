use Rattle.loom_walk.proofs.OwedQueues.{taken_none, taken_some}
use Rattle.loom_walk.proofs.owed.has_operations.Goals as goal

pub returns-in-Some : goal.returns-in-Some
returns-in-Some c = taken_some c.args.row.now c.pop_row.new.row _ c.in-Some.ensures.taken

pub returns-in-None : goal.returns-in-None
returns-in-None c = taken_none c.args.row.now c.pop_row.new.row c.in-None.ensures.taken
