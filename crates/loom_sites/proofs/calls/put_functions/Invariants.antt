use Rattle.std.proofs.Common.{ℕ, ◌≡◌}
use Rattle.loom_trace.specs.Places.{has_place}
use Rattle.loom_sites.specs.Functions.{is_of}
use Rattle.loom_sites.proofs.Passes.{so_far}
use Rattle.loom_sites.proofs.calls.put_functions.Given as goal

abbrev pub invariant-places : goal.invariant-places
invariant-places l = (j : ℕ) → has_place l.places j ≡ so_far (has_place l.fn.places) (is_of l.bits) l.links l.k j
