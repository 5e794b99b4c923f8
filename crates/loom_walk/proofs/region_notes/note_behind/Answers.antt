use Rattle.loom_plan.specs.Sets.{event_numbers}
use Rattle.loom_walk.proofs.RegionChanges.{note_other}
use Rattle.loom_walk.proofs.region_notes.note_behind.Goals as goal

pub returns-then-note-k : goal.returns-then-note-k
returns-then-note-k c = note_other c.args.c.now.plan c.args.k c.args.depth (event_numbers c.args.events) c.args.note c.if-note-k.true
