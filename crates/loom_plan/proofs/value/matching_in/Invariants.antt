use Rattle.std.proofs.Common.{◌≡◌, ◌≤◌, length, drop}
use Rattle.loom_plan.specs.Sets.{event_numbers}
use Rattle.loom_plan.specs.PlaceEvents.{picked}
use Rattle.loom_plan.proofs.value.matching_in.Given as goal

abbrev pub invariant-down : goal.invariant-down
invariant-down l = record {
  within : l.i ≤ length l.row.picks.items;
  is : event_numbers l.found ≡ picked l.locals (drop l.i l.row.picks.items);
}

abbrev pub decreases-down : goal.decreases-down
decreases-down l = l.i
