use Rattle.std.proofs.Common.{ℕ, ◌≡◌, false}
use Rattle.loom_trace.specs.Places.{has_place}
use Rattle.loom_sites.specs.Areas.{is_own}
use Rattle.loom_sites.proofs.Passes.{so_far}
use Rattle.loom_sites.proofs.area.own_places.Given as goal

abbrev pub invariant-places : goal.invariant-places
invariant-places l = (j : ℕ) → has_place l.found j ≡ so_far (λ z. false) (is_own l.f) l.links l.k j
