use Rattle.std.proofs.Common.{ℕ, ◌≡◌, ◌||◌, drop}
use Rattle.loom_sites.specs.Functions.{has_function}
use Rattle.loom_sites.specs.Areas.{any_calls}
use Rattle.loom_sites.proofs.area.all_calls.Given as goal

abbrev pub invariant-areas : goal.invariant-areas
invariant-areas l = (g : ℕ) → (has_function l.bits g || any_calls (drop l.area-index l.areas) g) ≡ any_calls l.areas g
