use Rattle.std.proofs.Common.{◌≡◌, ◌+◌, drop}
use Rattle.loom_filter.specs.View.{regions_of}
use Rattle.loom_filter.specs.Fault.{regions_events}
use Rattle.loom_plan.proofs.clauses.regions_events.Given as goal

abbrev pub invariant-add : goal.invariant-add
invariant-add l = l.count + regions_events (regions_of (drop l.region-index l.regions)) ≡ regions_events (regions_of l.regions)
