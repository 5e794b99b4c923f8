use Rattle.std.proofs.Common.{ℕ, ◌+◌, List, sym, ap, ◌∙◌, arith}
use Rattle.std.proofs.lemmas.Option.{slice_get-get_or}
use Rattle.loom_trace.specs.Places.{has_place}
use Rattle.loom_sites.specs.declared.links.PlaceKind.TheVariants as kind
use Rattle.loom_sites.specs.declared.links.PlaceLinks.{PlaceLinks}
use Rattle.loom_sites.specs.Links.{frame_row}
use Rattle.loom_sites.specs.Functions.{is_of}
use Rattle.loom_sites.proofs.Passes.{meets_done}
use Rattle.loom_sites.proofs.Sweeps.{meets_then, meets_else}
use Rattle.loom_sites.proofs.calls.put_functions.Goals as goal
use Rattle.loom_sites.proofs.calls.put_functions.Goals.{then-is_of, else-is_of}

abbrev none : PlaceLinks
none = frame_row kind.Entry 0 0

pub is_of-requires : goal.is_of-requires
is_of-requires c = (c.requires.each c.places.k _ (slice_get-get_or c.args.links.now c.places.k none c.places-test.true)).function

pub places-preserved : goal.places-preserved
places-preserved c =
    let k : ℕ = c.places.k in
    elim c.if-is_of.branch [
      | then-is_of w ↦ meets_then (has_place c.args.places.now) (has_place c.places.places) (has_place c.if-is_of.places) (is_of c.args.bits) c.args.links.now k (k + 1) none (omega arith) c.places-test.true
          (sym c.is_of.ensures ∙ w.if-is_of.true) (λ q. ap (λ (s : List ℕ). has_place s q) w.places-is ∙ w.put.ensures q) c.places.invariant
      | else-is_of w ↦ meets_else (has_place c.args.places.now) (has_place c.places.places) (has_place c.if-is_of.places) (is_of c.args.bits) c.args.links.now k (k + 1) none (omega arith) c.places-test.true
          (sym c.is_of.ensures ∙ w.if-is_of.false) (λ q. ap (λ (s : List ℕ). has_place s q) w.places-is) c.places.invariant
    ]

pub returns : goal.returns
returns c = meets_done (has_place c.args.places.now) (has_place c.places.places) (is_of c.args.bits) c.args.links.now c.places.k c.places-test.false c.places.invariant
