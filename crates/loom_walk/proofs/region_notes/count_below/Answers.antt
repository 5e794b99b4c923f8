use Rattle.std.proofs.Common.{◌-◌, arith}
use Rattle.loom_walk.proofs.NoteDepths.{others_front}
use Rattle.loom_walk.proofs.region_notes.count_below.Goals as goal

pub returns-then-note-depth-clause-below : goal.returns-then-note-depth-clause-below
returns-then-note-depth-clause-below c h = others_front c.args.depth c.args.notes.now c.notes.i (c.notes.i - 1) _ (omega arith) (omega arith) c.if-note-depth.true h
