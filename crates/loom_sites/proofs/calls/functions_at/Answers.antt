use Rattle.std.proofs.Common.{ℕ, ◌+◌, ◌≡◌, ◌==◌, ◌||◌, ◌&&◌, get_or, sym, ap, ◌∙◌, arith}
use Rattle.std.proofs.lemmas.Option.{slice_get-get_or}
use Rattle.loom_trace.specs.Places.{has_place}
use Rattle.loom_sites.specs.declared.links.PlaceKind.TheVariants as kind
use Rattle.loom_sites.specs.declared.links.PlaceLinks.{PlaceLinks}
use Rattle.loom_sites.specs.Links.{frame_row}
use Rattle.loom_sites.specs.Functions.{has_function, lies_there}
use Rattle.loom_sites.proofs.Bits.{with_bit}
use Rattle.loom_sites.proofs.Passes.{any_on, on_test, off_test}
use Rattle.loom_sites.proofs.calls.functions_at.Goals as goal
use Rattle.loom_sites.proofs.calls.functions_at.Goals.{then-has, else-has}

abbrev none : PlaceLinks
none = frame_row kind.Entry 0 0

pub bit-bits-requires : goal.bit-bits-requires
bit-bits-requires c = (c.requires.each c.places.k _ (slice_get-get_or c.args.links.now c.places.k none c.places-test.true)).function

pub places-preserved : goal.places-preserved
places-preserved c g =
    let k : ℕ = c.places.k in
    let row : PlaceLinks = get_or c.args.links.now k none in
    let step : has_function c.if-has.bits g ≡ (has_function c.places.bits g || (has_place c.args.places.now k && (row.function == g))) =
    elim c.if-has.branch [
      | then-has w ↦ on_test (has_function c.places.bits g) (row.function == g) (has_place c.args.places.now k) (has_function c.if-has.bits g)
          (ap (λ (b : ℕ). has_function b g) w.bits-is ∙ with_bit c.places.bits w.bit-bits.result row.function g w.bit-bits.ensures) (sym c.has.ensures ∙ w.if-has.true)
      | else-has w ↦ off_test (has_function c.places.bits g) (row.function == g) (has_place c.args.places.now k) (has_function c.if-has.bits g) (ap (λ (b : ℕ). has_function b g) w.bits-is) (sym c.has.ensures ∙ w.if-has.false)
    ] in
    any_on (lies_there c.args.places.now g) c.args.links.now k (k + 1) none (has_function c.places.bits g) (has_function c.if-has.bits g) _ (omega arith) c.places-test.true step (c.places.invariant g)
