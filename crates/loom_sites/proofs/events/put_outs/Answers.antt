use Rattle.std.proofs.Common.{ℕ, ◌+◌, ◌<◌, ◌≡◌, ◌==◌, ◌||◌, ◌&&◌, Bool, List, length, get_or, ap, sym, ◌∙◌, arith}
use Rattle.std.proofs.lemmas.Option.{slice_get-get_or}
use Rattle.loom_trace.specs.Places.{has_place}
use Rattle.loom_sites.specs.declared.links.PlaceKind.TheVariants as kind
use Rattle.loom_sites.specs.declared.links.PlaceLinks.{PlaceLinks}
use Rattle.loom_sites.specs.Nodes.{node_number}
use Rattle.loom_sites.specs.Links.{frame_row, is_return_kind}
use Rattle.loom_sites.specs.Events.{is_out}
use Rattle.loom_sites.proofs.Passes.{run_on, on_test, off_test}
use Rattle.loom_sites.proofs.Sweeps.{row_at, put_one, low_place}
use Rattle.loom_sites.proofs.events.put_outs.Goals as goal
use Rattle.loom_sites.proofs.events.put_outs.Goals.{then-is_return, else-is_return}

abbrev none : PlaceLinks
none = frame_row kind.Entry 0 0

pub put-requires : goal.put-requires
put-requires c =
    let row : PlaceLinks = get_or c.args.links.now c.places.k none in
    low_place c.node_number.result (node_number row.behind) (length c.args.links.now) c.node_number.ensures
    (c.requires.table.each c.places.k _ (slice_get-get_or c.args.links.now c.places.k none (omega arith))).behind c.requires.table.few

pub places-preserved : goal.places-preserved
places-preserved c j =
    let k : ℕ = c.places.k in
    let low : k < length c.args.links.now = omega arith in
    let row : PlaceLinks = get_or c.args.links.now k none in
    let old : Bool = has_place c.places.places j in
    let new : Bool = has_place c.if-is_return.places j in
    let step : new ≡ (old || (is_return_kind row.kind && (node_number row.behind == j))) =
    elim c.if-is_return.branch [
      | then-is_return w ↦ on_test old (node_number row.behind == j) (is_return_kind row.kind) new
          (ap (λ (s : List ℕ). has_place s j) w.places-is ∙ (w.put.ensures j ∙ put_one old j w.node_number.result (node_number row.behind) w.node_number.ensures)) (sym c.is_return.ensures ∙ w.if-is_return.true)
      | else-is_return w ↦ off_test old (node_number row.behind == j) (is_return_kind row.kind) new (ap (λ (s : List ℕ). has_place s j) w.places-is) (sym c.is_return.ensures ∙ w.if-is_return.false)
    ] in
    run_on (is_out j) c.args.links.now k (k + 1) c.args.end old new _ (omega arith) c.places-test.true (step ∙ ap (λ (b : Bool). old || b) (sym (row_at (is_out j) c.args.links.now k none low))) (c.places.invariant j)
