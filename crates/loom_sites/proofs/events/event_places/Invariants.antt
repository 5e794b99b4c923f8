use Rattle.std.proofs.Common.{ℕ, ◌≡◌, false}
use Rattle.loom_trace.specs.Places.{has_place}
use Rattle.loom_plan.specs.Sets.{event_numbers}
use Rattle.loom_sites.specs.Events.{begins_there}
use Rattle.loom_sites.proofs.Passes.{so_far}
use Rattle.loom_sites.proofs.events.event_places.Given as goal

abbrev pub invariant-places : goal.invariant-places
invariant-places l = (j : ℕ) → has_place l.found j ≡ so_far (λ z. false) (begins_there l.c.program l.c.plan (event_numbers l.events)) l.links l.k j
