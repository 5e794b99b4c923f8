use Rattle.std.proofs.Common.{ℕ, ◌≡◌, ◌||◌, drop}
use Rattle.loom_sites.specs.Rows.{any_meets}
use Rattle.loom_sites.specs.Functions.{has_function, calls_there}
use Rattle.loom_sites.proofs.calls.calls_at.Given as goal

abbrev pub invariant-places : goal.invariant-places
invariant-places l = (g : ℕ) → (has_function l.bits g || any_meets (calls_there l.places g) l.k (drop l.k l.links)) ≡ any_meets (calls_there l.places g) 0 l.links
