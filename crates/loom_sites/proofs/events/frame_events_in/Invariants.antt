use Rattle.std.proofs.Common.{ℕ, ◌≡◌, ◌&&◌, nat_le, []}
use Rattle.loom_law.specs.Filter.{has}
use Rattle.loom_plan.specs.Sets.{event_numbers}
use Rattle.loom_plan.specs.PlanView.{plan_of_rows}
use Rattle.loom_sites.specs.Events.{is_frame_event}
use Rattle.loom_sites.proofs.events.frame_events_in.Given as goal

abbrev pub invariant-events : goal.invariant-events
invariant-events l = (n : ℕ) → has (event_numbers l.found) n ≡ (nat_le n l.i && is_frame_event (plan_of_rows l.events []) l.f n)
