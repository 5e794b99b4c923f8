use Rattle.std.proofs.Common.{ℕ, ◌≡◌, ◌-◌, ◌||◌}
use Rattle.loom_trace.specs.Places.{has_place}
use Rattle.loom_sites.specs.Rows.{any_run}
use Rattle.loom_sites.specs.Events.{is_out}
use Rattle.loom_sites.proofs.events.put_outs.Given as goal

abbrev pub invariant-places : goal.invariant-places
invariant-places l = (j : ℕ) → (has_place l.places j || any_run (is_out j) l.links l.k (l.end - l.k)) ≡ (has_place l.fn.places j || any_run (is_out j) l.links l.first (l.end - l.first))
