use Rattle.std.proofs.Common.{ℕ, ◌≡◌, ◌-◌, ◌||◌}
use Rattle.loom_sites.specs.Rows.{any_run}
use Rattle.loom_sites.specs.Functions.{has_function}
use Rattle.loom_sites.specs.Events.{calls_here}
use Rattle.loom_sites.proofs.events.calls_in.Given as goal

abbrev pub invariant-places : goal.invariant-places
invariant-places l = (g : ℕ) → (has_function l.bits g || any_run (calls_here g) l.links l.k (l.end - l.k)) ≡ any_run (calls_here g) l.links l.first (l.end - l.first)
