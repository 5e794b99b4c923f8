use Rattle.std.proofs.Common.{ℕ, ◌≡◌, ◌<◌, ◌≤◌, ◌==◌, ◌||◌, false, not}
use Rattle.loom_trace.specs.Places.{has_place}
use Rattle.loom_world.proofs.flags.other_places.Given as goal

abbrev pub invariant-places : goal.invariant-places
invariant-places l = record {
  before : (q : ℕ) → q < l.p → has_place l.others q ≡ ((q == 0) || not (has_place l.unsafe_places q));
  behind : (q : ℕ) → l.p ≤ q → has_place l.others q ≡ false;
}
