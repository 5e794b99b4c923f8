use Rattle.std.proofs.Common.{ℕ, ◌≡◌, ◌≤◌, List, [], Some, length, drop}
use Rattle.loom_tree.specs.Tree.{Source}
use Rattle.loom_lang.specs.Places.{Place, place_at}
use Rattle.loom_flow.specs.State.{named}
use Rattle.loom_law.specs.Filter.{Site}
use Rattle.loom_law.specs.Walk.{owed_at}
use Rattle.loom_plan.specs.PlaceEvents.{names_at, site_at}
use Rattle.loom_version.specs.Plans.{plans_in}
use Rattle.loom_walk.specs.Owed.{rows_queue}
use Rattle.loom_walk.specs.ClauseRows.{AreHoldings}
use Rattle.loom_walk.specs.Growth.{GrowsByAll, AreThere}
use Rattle.loom_walk.proofs.at_place.add_all_before.Given as goal

abbrev pub invariant-down : goal.invariant-down
invariant-down l = record {
  within : l.n ≤ length l.ks;
  grows : GrowsByAll (drop l.n l.ks) l.initial.owed l.owed;
  queue : (p : Source) (x : Place) (site : Site) (hs : List (ℕ × ℕ)) (i : ℕ) → AreThere p l.plans l.ks → place_at p l.place ≡ Some x → site_at x ≡ Some site → AreHoldings l.clauses hs
      → rows_queue i l.owed.rows [] ≡ owed_at (plans_in l.plans) hs i site (named (names_at p l.place) l.locals) (drop l.n l.ks);
}

abbrev pub decreases-down : goal.decreases-down
decreases-down l = l.n
