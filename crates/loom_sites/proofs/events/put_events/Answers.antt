use Rattle.std.proofs.Common.{ℕ, ◌+◌, ◌-◌, ◌≡◌, ◌||◌, ◌&&◌, Bool, List, get_or, ap, sym, ◌∙◌, arith}
use Rattle.std.proofs.lemmas.Option.{slice_get-get_or}
use Rattle.loom_trace.specs.Places.{has_place}
use Rattle.loom_sites.specs.declared.links.PlaceKind.TheVariants as kind
use Rattle.loom_sites.specs.declared.links.PlaceLinks.{PlaceLinks}
use Rattle.loom_sites.specs.Links.{frame_row}
use Rattle.loom_sites.specs.Rows.{any_run}
use Rattle.loom_sites.specs.Functions.{has_function}
use Rattle.loom_sites.specs.Events.{has_event, is_unsafe_at, makes_unsafe, calls_here, calls_by_event}
use Rattle.loom_sites.proofs.Bits.{has_either}
use Rattle.loom_sites.proofs.Passes.{any_on, on_test, off_test}
use Rattle.loom_sites.proofs.events.put_events.Goals as goal
use Rattle.loom_sites.proofs.events.put_events.Goals.{then-has_event, else-has_event}

abbrev none : PlaceLinks
none = frame_row kind.Entry 0 0

pub put_event-requires-clause-within : goal.put_event-requires-clause-within
put_event-requires-clause-within c = (c.requires.table.each c.places.k _ (slice_get-get_or c.args.links.now c.places.k none c.places-test.true)).end

pub calls_in-bits-requires-clause-within : goal.calls_in-bits-requires-clause-within
calls_in-bits-requires-clause-within c = (c.requires.table.each c.places.k _ (slice_get-get_or c.args.links.now c.places.k none c.places-test.true)).end

pub places-preserved : goal.places-preserved
places-preserved c =
    let k : ℕ = c.places.k in
    let rows : List PlaceLinks = c.args.links.now in
    let row : PlaceLinks = get_or rows k none in
    let begins : Bool = has_event c.args.c.now.program c.args.c.now.plan k row in
    let unsafe : (j : ℕ) → has_place c.if-has_event.places j ≡ (has_place c.places.places j || (begins && is_unsafe_at rows k row.end j)) =
    λ j. elim c.if-has_event.branch [
      | then-has_event w ↦ on_test (has_place c.places.places j) (is_unsafe_at rows k row.end j) begins (has_place c.if-has_event.places j) (ap (λ (s : List ℕ). has_place s j) w.places-is ∙ w.put_event.ensures j)
          (sym c.has_event.ensures ∙ w.if-has_event.true)
      | else-has_event w ↦ off_test (has_place c.places.places j) (is_unsafe_at rows k row.end j) begins (has_place c.if-has_event.places j) (ap (λ (s : List ℕ). has_place s j) w.places-is)
          (sym c.has_event.ensures ∙ w.if-has_event.false)
    ] in
    let calls : (g : ℕ) → has_function c.if-has_event.bits g ≡ (has_function c.places.bits g || (begins && any_run (calls_here g) rows k (row.end - k))) =
    λ g. elim c.if-has_event.branch [
      | then-has_event w ↦ on_test (has_function c.places.bits g) (any_run (calls_here g) rows k (row.end - k)) begins (has_function c.if-has_event.bits g)
          (ap (λ (b : ℕ). has_function b g) w.bits-is ∙ (has_either c.places.bits w.calls_in-bits.result g ∙ ap (λ (b : Bool). has_function c.places.bits g || b) (w.calls_in-bits.ensures g)))
          (sym c.has_event.ensures ∙ w.if-has_event.true)
      | else-has_event w ↦ off_test (has_function c.places.bits g) (any_run (calls_here g) rows k (row.end - k)) begins (has_function c.if-has_event.bits g) (ap (λ (b : ℕ). has_function b g) w.bits-is)
          (sym c.has_event.ensures ∙ w.if-has_event.false)
    ] in
    record {
      places = λ j. any_on (makes_unsafe c.args.c.now.program c.args.c.now.plan rows j) rows k (k + 1) none (has_place c.places.places j) (has_place c.if-has_event.places j) _ (omega arith) c.places-test.true (unsafe j) (c.places.invariant.places j);
      calls = λ g. any_on (calls_by_event c.args.c.now.program c.args.c.now.plan rows g) rows k (k + 1) none (has_function c.places.bits g) (has_function c.if-has_event.bits g) _ (omega arith) c.places-test.true (calls g) (c.places.invariant.calls g);
    }
