use Rattle.std.proofs.Common.{◌≤◌, length, drop}
use Rattle.loom_walk.specs.RegionSteps.{AreOfFrame}
use Rattle.loom_walk.proofs.region_notes.count_below.Given as goal

abbrev pub invariant-notes : goal.invariant-notes
invariant-notes l = record {
  within : l.i ≤ length l.notes;
  top : AreOfFrame l.depth (drop l.i l.notes);
}

abbrev pub decreases-notes : goal.decreases-notes
decreases-notes l = l.i
