use Rattle.std.proofs.Common.{ℕ, ◌≡◌, ◌≤◌, ◌||◌}
use Rattle.loom_trace.specs.Places.{has_place}
use Rattle.loom_sites.specs.Events.{is_between}
use Rattle.loom_sites.proofs.events.put_run.Given as goal

abbrev pub invariant-places : goal.invariant-places
invariant-places l = record {
  none : l.end ≤ l.first → l.k ≡ l.first;
  is : (j : ℕ) → has_place l.places j ≡ (has_place l.fn.places j || is_between l.first l.k j);
}
