use Rattle.std.proofs.Common.{◌≡◌, ◌++◌, drop, map}
use Rattle.loom_law.specs.Filter.{watch_of}
use Rattle.loom_filter.specs.View.{events_of}
use Rattle.loom_plan.specs.PlanView.{watches_of}
use Rattle.loom_plan.proofs.events.put_list.Given as goal

abbrev pub invariant-put : goal.invariant-put
invariant-put l = watches_of l.events.items ++ map watch_of (events_of (drop l.x-index l.xs)) ≡ watches_of l.fn.events.items ++ map watch_of (events_of l.xs)
