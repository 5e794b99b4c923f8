use Rattle.std.proofs.Common.{◌∙◌}
use Rattle.loom_walk.proofs.BegunNotes.{newest_is, newest_none}
use Rattle.loom_walk.proofs.event_notes.is_newest.Goals as goal

pub returns-in-Some : goal.returns-in-Some
returns-in-Some c = c.is_of.ensures ∙ newest_is c.args.notes.now c.in-Some.note.now c.args.depth c.args.line c.in-Some.ensures.value

pub returns-in-None : goal.returns-in-None
returns-in-None c = newest_none c.args.notes.now c.args.depth c.args.line c.in-None.ensures.value
