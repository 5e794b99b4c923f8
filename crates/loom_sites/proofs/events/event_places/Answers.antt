use Rattle.std.proofs.Common.{ℕ, ◌+◌, List, false, sym, ap, ◌∙◌, arith}
use Rattle.loom_trace.specs.Places.{has_place}
use Rattle.loom_plan.specs.Sets.{event_numbers}
use Rattle.loom_sites.specs.declared.links.PlaceKind.TheVariants as kind
use Rattle.loom_sites.specs.declared.links.PlaceLinks.{PlaceLinks}
use Rattle.loom_sites.specs.Links.{frame_row}
use Rattle.loom_sites.specs.Rows.{RowTest}
use Rattle.loom_sites.specs.Events.{begins_there}
use Rattle.loom_sites.proofs.Passes.{meets_done}
use Rattle.loom_sites.proofs.Sweeps.{meets_then, meets_else}
use Rattle.loom_sites.proofs.events.event_places.Goals as goal
use Rattle.loom_sites.proofs.events.event_places.Goals.{then-begins_there, else-begins_there}

abbrev none : PlaceLinks
none = frame_row kind.Entry 0 0

pub places-preserved : goal.places-preserved
places-preserved c =
    let k : ℕ = c.places.k in
    let test : RowTest = begins_there c.args.c.now.program c.args.c.now.plan (event_numbers c.args.events) in
    elim c.if-begins_there.branch [
      | then-begins_there w ↦ meets_then (λ z. false) (has_place c.places.found) (has_place c.if-begins_there.found) test c.args.links.now k (k + 1) none (omega arith) c.places-test.true
          (sym c.begins_there.ensures ∙ w.if-begins_there.true) (λ q. ap (λ (s : List ℕ). has_place s q) w.found-is ∙ w.put.ensures q) c.places.invariant
      | else-begins_there w ↦ meets_else (λ z. false) (has_place c.places.found) (has_place c.if-begins_there.found) test c.args.links.now k (k + 1) none (omega arith) c.places-test.true
          (sym c.begins_there.ensures ∙ w.if-begins_there.false) (λ q. ap (λ (s : List ℕ). has_place s q) w.found-is) c.places.invariant
    ]

pub returns : goal.returns
returns c = meets_done (λ z. false) (has_place c.places.found) (begins_there c.args.c.now.program c.args.c.now.plan (event_numbers c.args.events)) c.args.links.now c.places.k c.places-test.false c.places.invariant
