use Rattle.std.proofs.Common.{ℕ, ◌+◌, List, get_or, sym, ap, ◌∙◌, arith}
use Rattle.loom_trace.specs.Places.{has_place}
use Rattle.loom_sites.specs.declared.links.PlaceKind.TheVariants as kind
use Rattle.loom_sites.specs.declared.links.PlaceLinks.{PlaceLinks}
use Rattle.loom_sites.specs.Links.{frame_row}
use Rattle.loom_sites.specs.Areas.{has_its_node}
use Rattle.loom_sites.proofs.Passes.{meets_done}
use Rattle.loom_sites.proofs.Sweeps.{meets_then, meets_else}
use Rattle.loom_sites.proofs.area.put_nodes.Goals as goal
use Rattle.loom_sites.proofs.area.put_nodes.Goals.{then-has_its_node, else-has_its_node}

abbrev none : PlaceLinks
none = frame_row kind.Entry 0 0

pub places-preserved : goal.places-preserved
places-preserved c =
    let k : ℕ = c.places.k in
    let row : PlaceLinks = get_or c.args.links.now k none in
    elim c.if-has_its_node.branch [
      | then-has_its_node w ↦ meets_then (has_place c.args.places.now) (has_place c.places.places) (has_place c.if-has_its_node.places) (has_its_node c.args.reached.now) c.args.links.now k (k + 1) none (omega arith) (omega arith)
          (sym (c.has_its_node.ensures row) ∙ w.if-has_its_node.true) (λ q. ap (λ (s : List ℕ). has_place s q) w.places-is ∙ w.put.ensures q) c.places.invariant
      | else-has_its_node w ↦ meets_else (has_place c.args.places.now) (has_place c.places.places) (has_place c.if-has_its_node.places) (has_its_node c.args.reached.now) c.args.links.now k (k + 1) none (omega arith) (omega arith)
          (sym (c.has_its_node.ensures row) ∙ w.if-has_its_node.false) (λ q. ap (λ (s : List ℕ). has_place s q) w.places-is) c.places.invariant
    ]

pub returns : goal.returns
returns c = meets_done (has_place c.args.places.now) (has_place c.places.places) (has_its_node c.args.reached.now) c.args.links.now c.places.k c.places-test.false c.places.invariant
