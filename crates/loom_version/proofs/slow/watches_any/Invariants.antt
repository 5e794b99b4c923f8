use Rattle.std.proofs.Common.{◌≡◌, drop}
use Rattle.loom_version.specs.SlowFunctions.{is_slow}
use Rattle.loom_version.proofs.slow.watches_any.Given as goal

abbrev pub invariant-filters : goal.invariant-filters
invariant-filters l = is_slow l.plans (drop l.k-index l.ks) l.f ≡ is_slow l.plans l.ks l.f
