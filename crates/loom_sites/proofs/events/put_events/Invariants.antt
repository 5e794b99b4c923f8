use Rattle.std.proofs.Common.{ℕ, ◌≡◌, ◌||◌, drop}
use Rattle.loom_trace.specs.Places.{has_place}
use Rattle.loom_sites.specs.Rows.{any_meets}
use Rattle.loom_sites.specs.Functions.{has_function}
use Rattle.loom_sites.specs.Events.{makes_unsafe, calls_by_event}
use Rattle.loom_sites.proofs.events.put_events.Given as goal

abbrev pub invariant-places : goal.invariant-places
invariant-places l = record {
  places : (j : ℕ) → (has_place l.places j || any_meets (makes_unsafe l.c.program l.c.plan l.links j) l.k (drop l.k l.links))
      ≡ (has_place l.fn.places j || any_meets (makes_unsafe l.c.program l.c.plan l.links j) 0 l.links);
  calls : (g : ℕ) → (has_function l.bits g || any_meets (calls_by_event l.c.program l.c.plan l.links g) l.k (drop l.k l.links))
      ≡ any_meets (calls_by_event l.c.program l.c.plan l.links g) 0 l.links;
}
