use Rattle.std.proofs.Common.{ℕ, ◌≡◌, ◌<◌, true}
use Rattle.loom_trace.specs.Places.{has_place}
use Rattle.loom_world.proofs.flags.all_places.Given as goal

abbrev pub invariant-places : goal.invariant-places
invariant-places l = (q : ℕ) → q < l.p → has_place l.all q ≡ true
