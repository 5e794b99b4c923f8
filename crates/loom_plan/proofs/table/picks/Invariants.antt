use Rattle.std.proofs.Common.{◌≡◌, ◌+◌, ◌++◌, List, drop}
use Rattle.loom_tree.specs.Tree.{Expression}
use Rattle.std.proofs.Common.{ℕ, Option}
use Rattle.loom_plan.specs.PlanView.{site_of, watches_of}
use Rattle.loom_plan.specs.PlaceEvents.{picks_from, ArePicks}
use Rattle.loom_plan.proofs.table.picks.Given as goal

abbrev pub invariant-put : goal.invariant-put
invariant-put l = (ys : List (ℕ × Option Expression)) × ArePicks l.names l.picks.items ys × (ys ++ picks_from (l.i + 1) (site_of l.at) (drop l.i (watches_of l.events)) ≡ picks_from 1 (site_of l.at) (watches_of l.events))
