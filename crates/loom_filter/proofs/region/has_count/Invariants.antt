use Rattle.std.proofs.Common.{◌≡◌, drop}
use Rattle.loom_filter.specs.Builders.{is_counted}
use Rattle.loom_filter.specs.ReaderView.{counts_of}
use Rattle.loom_filter.proofs.region.has_count.Given as goal

abbrev pub invariant-steps : goal.invariant-steps
invariant-steps l = is_counted (counts_of (drop l.step-index l.steps)) ≡ is_counted (counts_of l.steps)
