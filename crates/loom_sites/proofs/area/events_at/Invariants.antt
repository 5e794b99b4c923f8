use Rattle.std.proofs.Common.{ℕ, ◌≡◌, ◌||◌, drop}
use Rattle.loom_law.specs.Filter.{has}
use Rattle.loom_plan.specs.Sets.{event_numbers}
use Rattle.loom_sites.specs.Rows.{any_meets}
use Rattle.loom_sites.specs.Areas.{has_inside}
use Rattle.loom_sites.proofs.area.events_at.Given as goal

abbrev pub invariant-places : goal.invariant-places
invariant-places l = (n : ℕ) → (has (event_numbers l.found) n || any_meets (has_inside l.c.program l.c.plan l.places l.calls n) l.k (drop l.k l.links)) ≡ any_meets (has_inside l.c.program l.c.plan l.places l.calls n) 0 l.links
