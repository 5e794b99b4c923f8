use Rattle.std.proofs.Common.{◌-◌, length, take, Some, None}
use Rattle.loom_walk.proofs.OwedRows.{first_is, first_none, last_of}
use Rattle.loom_walk.proofs.owed.first_in.Goals as goal

pub returns-in-Some-pop_row : goal.returns-in-Some-pop_row
returns-in-Some-pop_row c =
    first_is c.args.line c.args.rows.now (take (length c.args.rows.now - 1) c.args.rows.now) c.in-Some.last.now c.pop_row.new.row (Some c.in-Some-pop_row.x)
    (last_of c.args.rows.now c.in-Some.last.now c.in-Some.ensures.value) c.requires c.in-Some-pop_row.ensures.taken

pub returns-in-None-pop_row : goal.returns-in-None-pop_row
returns-in-None-pop_row c =
    first_is c.args.line c.args.rows.now (take (length c.args.rows.now - 1) c.args.rows.now) c.in-Some.last.now c.pop_row.new.row None
    (last_of c.args.rows.now c.in-Some.last.now c.in-Some.ensures.value) c.requires c.in-None-pop_row.ensures.taken

pub returns-in-None : goal.returns-in-None
returns-in-None c = first_none c.args.line c.args.rows.now c.in-None.ensures.value
