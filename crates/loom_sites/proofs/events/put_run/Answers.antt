use Rattle.std.proofs.Common.{◌||◌, Bool, ap, ◌∙◌}
use Rattle.loom_trace.specs.Places.{has_place}
use Rattle.loom_sites.proofs.Sweeps.{run_all}
use Rattle.loom_sites.proofs.events.put_run.Goals as goal

pub returns : goal.returns
returns c j =
    c.places.invariant.is j
    ∙ ap (λ (b : Bool). has_place c.args.places.now j || b) (run_all c.args.first c.places.k c.args.end j c.places-test.false c.places.auto.k-end c.places.invariant.none)
