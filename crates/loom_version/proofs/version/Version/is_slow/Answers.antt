use Rattle.std.proofs.Common.{ℕ, List, ap, ◌∙◌}
use Rattle.loom_version.specs.SlowFunctions.{is_slow}
use Rattle.loom_version.proofs.SlowTests.{slow_is}
use Rattle.loom_version.proofs.version.Version.is_slow.Goals as goal

pub returns : goal.returns
returns c p of =
    slow_is p c.args.plans.now c.args.self.now.active c.args.f c.watches_any.result of
    (c.watches_any.ensures ∙ ap (λ (ks : List ℕ). is_slow c.args.plans.now ks c.args.f) c.active.ensures.is)
