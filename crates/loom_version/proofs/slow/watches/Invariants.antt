use Rattle.std.proofs.Common.{◌≡◌, drop}
use Rattle.std.specs.List.{list_any}
use Rattle.loom_law.specs.Filter.{Watch}
use Rattle.loom_plan.specs.PlanView.{watches_of}
use Rattle.loom_version.specs.SlowFunctions.{is_site_in}
use Rattle.loom_version.proofs.slow.watches.Given as goal

abbrev pub invariant-events : goal.invariant-events
invariant-events l = list_any (λ (w : Watch). is_site_in l.c.program l.f w.site) (watches_of (drop l.event-index l.events)) ≡ list_any (λ (w : Watch). is_site_in l.c.program l.f w.site) (watches_of l.events)
