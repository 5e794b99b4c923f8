use Rattle.std.proofs.Common.{ℕ, ◌==◌, true, if◌then◌else◌, List, arith, ap, ◌∙◌}
use Rattle.loom_trace.specs.Places.{has_place}
use Rattle.loom_trace.proofs.Bits.{has_put_at}
use Rattle.loom_trace.proofs.places.Places.put.Goals as goal

pub returns : goal.returns
returns c q =
    let p = c.requires in let e = c.from.ensures in let i = c.self.invariant in
    has_put_at c.self.inside.words c.args.p q c.from.result e (omega arith) ∙ ap (λ (ws : List ℕ). if q == c.args.p then true else has_place ws q) c.self.view_is
