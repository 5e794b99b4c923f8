use Rattle.std.proofs.Common.{◌≡◌, ◌≤◌, length, take}
use Rattle.loom_walk.specs.Notes.{begun_by, events_of_statement}
use Rattle.loom_walk.proofs.event_notes.newest_events.Given as goal

abbrev pub invariant-notes : goal.invariant-notes
invariant-notes l = record {
  within : l.i ≤ length l.notes;
  is : events_of_statement l.depth l.line l.k (begun_by (take l.i l.notes)) ≡ events_of_statement l.depth l.line l.k (begun_by l.notes);
}

abbrev pub decreases-notes : goal.decreases-notes
decreases-notes l = l.i
