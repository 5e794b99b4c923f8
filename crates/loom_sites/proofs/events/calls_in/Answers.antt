use Rattle.std.proofs.Common.{ℕ, ◌+◌, ◌<◌, ◌||◌, Bool, length, ap, sym, ◌∙◌, arith}
use Rattle.std.proofs.lemmas.Option.{slice_get-get_or}
use Rattle.loom_sites.specs.declared.links.PlaceKind.TheVariants as kind
use Rattle.loom_sites.specs.declared.links.PlaceLinks.{PlaceLinks}
use Rattle.loom_sites.specs.Links.{frame_row}
use Rattle.loom_sites.specs.Functions.{has_function}
use Rattle.loom_sites.specs.Events.{calls_here}
use Rattle.loom_sites.proofs.Passes.{run_on}
use Rattle.loom_sites.proofs.Sweeps.{row_at}
use Rattle.loom_sites.proofs.events.calls_in.Goals as goal

abbrev none : PlaceLinks
none = frame_row kind.Entry 0 0

pub with_call-bits-requires : goal.with_call-bits-requires
with_call-bits-requires c = (c.requires.table.each c.places.k _ (slice_get-get_or c.args.links.now c.places.k none (omega arith))).call

pub places-preserved : goal.places-preserved
places-preserved c g =
    let k : ℕ = c.places.k in
    let low : k < length c.args.links.now = omega arith in
    run_on (calls_here g) c.args.links.now k (k + 1) c.args.end (has_function c.places.bits g) (has_function c.with_call-bits.result g) _ (omega arith) c.places-test.true
    (c.with_call-bits.ensures g ∙ ap (λ (b : Bool). has_function c.places.bits g || b) (sym (row_at (calls_here g) c.args.links.now k none low))) (c.places.invariant g)
