use Rattle.std.proofs.Common.{◌≤◌, length}
use Rattle.loom_walk.proofs.region_notes.place_of.Given as goal

abbrev pub invariant-notes : goal.invariant-notes
invariant-notes l = l.i ≤ length l.notes

abbrev pub decreases-notes : goal.decreases-notes
decreases-notes l = l.i
