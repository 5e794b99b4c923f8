use Rattle.std.proofs.Common.{◌≡◌, ◌≤◌, suc, length, drop}
use Rattle.loom_plan.specs.Sets.{event_numbers}
use Rattle.loom_plan.specs.PlanView.{site_of, watches_of}
use Rattle.loom_plan.specs.PlaceEvents.{watched_from}
use Rattle.loom_plan.proofs.table.watched.Given as goal

abbrev pub invariant-down : goal.invariant-down
invariant-down l = record {
  within : l.n ≤ length l.events;
  is : event_numbers l.found ≡ watched_from (suc l.n) (site_of l.at) (drop l.n (watches_of l.events));
}

abbrev pub decreases-down : goal.decreases-down
decreases-down l = l.n
