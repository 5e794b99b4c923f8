use Rattle.std.proofs.Common.{ℕ, ◌≡◌, ◌≤◌, List, [], length, drop}
use Rattle.loom_law.specs.Walk.{OpenFrame, begun_with, owed_behind}
use Rattle.loom_version.specs.Plans.{plans_in}
use Rattle.loom_walk.specs.Owed.{rows_queue}
use Rattle.loom_walk.specs.ClauseRows.{AreHoldings}
use Rattle.loom_walk.specs.Notes.{AreEventNotes, AreRegionNotes, IsInnermost}
use Rattle.loom_walk.specs.Growth.{GrowsByAll}
use Rattle.loom_walk.proofs.behind_statement.add_all_behind.Given as goal

abbrev pub invariant-down : goal.invariant-down
invariant-down l = record {
  within : l.n ≤ length l.ks;
  grows : GrowsByAll (drop l.n l.ks) l.initial.owed l.owed;
  queue : (fs : List OpenFrame) (hs : List (ℕ × ℕ)) (i : ℕ) → AreEventNotes l.events.notes fs → AreRegionNotes (plans_in l.plans) l.regions.notes fs → length fs ≡ l.depth
      → IsInnermost l.line fs → AreHoldings l.clauses hs → rows_queue i l.owed.rows [] ≡ owed_behind (plans_in l.plans) hs fs i (begun_with fs) (drop l.n l.ks);
}

abbrev pub decreases-down : goal.decreases-down
decreases-down l = l.n
