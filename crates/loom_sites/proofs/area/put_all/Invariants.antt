use Rattle.std.proofs.Common.{ℕ, ◌≡◌, ◌||◌, ◌&&◌, nat_lt}
use Rattle.loom_trace.specs.Places.{has_place}
use Rattle.loom_sites.proofs.area.put_all.Given as goal

abbrev pub invariant-places : goal.invariant-places
invariant-places l = (j : ℕ) → has_place l.places j ≡ (has_place l.fn.places j || (nat_lt j l.k && has_place l.more j))
