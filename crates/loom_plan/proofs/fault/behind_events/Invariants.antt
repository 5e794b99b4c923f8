use Rattle.std.proofs.Common.{◌≡◌, drop}
use Rattle.loom_filter.specs.View.{events_of}
use Rattle.loom_plan.specs.Fault.{behind_events}
use Rattle.loom_plan.proofs.fault.behind_events.Given as goal

abbrev pub invariant-events : goal.invariant-events
invariant-events l = behind_events l.program l.file l.findings (events_of (drop l.event-index l.events)) ≡ behind_events l.program l.file l.fn.findings (events_of l.events)
