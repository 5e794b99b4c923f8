use Rattle.std.proofs.Common.{ℕ, ◌≡◌, ◌≤◌, List, [], length, drop}
use Rattle.loom_law.specs.Walk.{OpenFrame, all_inside, all_leaves}
use Rattle.loom_version.specs.Plans.{plans_in}
use Rattle.loom_walk.specs.Owed.{rows_queue}
use Rattle.loom_walk.specs.ClauseRows.{AreHoldings}
use Rattle.loom_walk.specs.Notes.{AreRegionNotes, HaveDepths}
use Rattle.loom_walk.specs.Growth.{GrowsByAll}
use Rattle.loom_walk.proofs.behind_frame.add_all_leaves.Given as goal

abbrev pub invariant-down : goal.invariant-down
invariant-down l = record {
  within : l.n ≤ length l.ks;
  grows : GrowsByAll (drop l.n l.ks) l.initial.owed l.owed;
  queue : (fs : List OpenFrame) (hs : List (ℕ × ℕ)) (i : ℕ) → AreRegionNotes (plans_in l.plans) l.regions.notes fs → HaveDepths 1 (length fs) l.regions.notes → AreHoldings l.held hs
      → rows_queue i l.owed.rows [] ≡ all_leaves (plans_in l.plans) hs (all_inside fs) i (drop l.n l.ks);
}

abbrev pub decreases-down : goal.decreases-down
decreases-down l = l.n
