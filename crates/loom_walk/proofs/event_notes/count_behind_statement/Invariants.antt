use Rattle.std.proofs.Common.{◌≡◌, ◌≤◌, length, take}
use Rattle.loom_walk.specs.Notes.{begun_by, is_of_statement, behind_those}
use Rattle.loom_walk.proofs.event_notes.count_behind_statement.Given as goal

abbrev pub invariant-notes : goal.invariant-notes
invariant-notes l = record {
  within : l.i ≤ length l.notes;
  is : behind_those (is_of_statement l.depth l.line) (begun_by (take l.i l.notes)) ≡ behind_those (is_of_statement l.depth l.line) (begun_by l.notes);
}

abbrev pub decreases-notes : goal.decreases-notes
decreases-notes l = l.i
