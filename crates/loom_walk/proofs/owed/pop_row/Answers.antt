use Rattle.loom_walk.proofs.OwedQueues.{row_begins, row_ends}
use Rattle.loom_walk.proofs.owed.pop_row.Goals as goal

pub returns-in-Some-clause-taken : goal.returns-in-Some-clause-taken
returns-in-Some-clause-taken c = row_begins c.args.row.now.filter c.args.row.now.before _ c.args.row.now.behind c.in-Some.x c.in-Some.ensures

pub returns-in-None-clause-taken : goal.returns-in-None-clause-taken
returns-in-None-clause-taken c = row_ends c.args.row.now.filter c.args.row.now.before _ c.args.row.now.behind _ c.pop_behind.result c.in-None.ensures c.pop_behind.ensures
