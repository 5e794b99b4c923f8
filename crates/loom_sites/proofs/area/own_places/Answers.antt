use Rattle.std.proofs.Common.{ℕ, ◌+◌, List, false, sym, ap, ◌∙◌, arith}
use Rattle.loom_trace.specs.Places.{has_place}
use Rattle.loom_sites.specs.declared.links.PlaceKind.TheVariants as kind
use Rattle.loom_sites.specs.declared.links.PlaceLinks.{PlaceLinks}
use Rattle.loom_sites.specs.Links.{frame_row}
use Rattle.loom_sites.specs.Areas.{is_own}
use Rattle.loom_sites.proofs.Passes.{meets_done}
use Rattle.loom_sites.proofs.Sweeps.{meets_then, meets_else}
use Rattle.loom_sites.proofs.area.own_places.Goals as goal
use Rattle.loom_sites.proofs.area.own_places.Goals.{then-is_own, else-is_own}

abbrev none : PlaceLinks
none = frame_row kind.Entry 0 0

pub places-preserved : goal.places-preserved
places-preserved c =
    let k : ℕ = c.places.k in
    elim c.if-is_own.branch [
      | then-is_own w ↦ meets_then (λ z. false) (has_place c.places.found) (has_place c.if-is_own.found) (is_own c.args.f) c.args.links.now k (k + 1) none (omega arith) c.places-test.true
          (sym (c.is_own.ensures k) ∙ w.if-is_own.true) (λ q. ap (λ (s : List ℕ). has_place s q) w.found-is ∙ w.put.ensures q) c.places.invariant
      | else-is_own w ↦ meets_else (λ z. false) (has_place c.places.found) (has_place c.if-is_own.found) (is_own c.args.f) c.args.links.now k (k + 1) none (omega arith) c.places-test.true
          (sym (c.is_own.ensures k) ∙ w.if-is_own.false) (λ q. ap (λ (s : List ℕ). has_place s q) w.found-is) c.places.invariant
    ]

pub returns : goal.returns
returns c = meets_done (λ z. false) (has_place c.places.found) (is_own c.args.f) c.args.links.now c.places.k c.places-test.false c.places.invariant
