use Rattle.std.proofs.Common.{ℕ, ◌+◌, List, sym, ap, ◌∙◌, arith}
use Rattle.loom_trace.specs.Places.{has_place}
use Rattle.loom_sites.proofs.Sweeps.{number_then, number_else}
use Rattle.loom_sites.proofs.area.put_all.Goals as goal
use Rattle.loom_sites.proofs.area.put_all.Goals.{then-has, else-has}

pub places-preserved : goal.places-preserved
places-preserved c =
    let k : ℕ = c.places.k in
    elim c.if-has.branch [
      | then-has w ↦ number_then (has_place c.args.places.now) (has_place c.places.places) (has_place c.if-has.places) (has_place c.args.more.now) k (k + 1) (omega arith)
          (sym c.has.ensures ∙ w.if-has.true) (λ q. ap (λ (s : List ℕ). has_place s q) w.places-is ∙ w.put.ensures q) c.places.invariant
      | else-has w ↦ number_else (has_place c.args.places.now) (has_place c.places.places) (has_place c.if-has.places) (has_place c.args.more.now) k (k + 1) (omega arith)
          (sym c.has.ensures ∙ w.if-has.false) (λ q. ap (λ (s : List ℕ). has_place s q) w.places-is) c.places.invariant
    ]
