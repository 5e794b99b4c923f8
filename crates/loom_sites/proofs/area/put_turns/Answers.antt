use Rattle.std.proofs.Common.{ℕ, ◌+◌, ◌-◌, List, sym, ap, ◌∙◌, arith}
use Rattle.loom_trace.specs.Places.{has_place}
use Rattle.loom_sites.specs.declared.links.PlaceKind.TheVariants as kind
use Rattle.loom_sites.specs.declared.links.PlaceLinks.{PlaceLinks}
use Rattle.loom_sites.specs.Links.{frame_row}
use Rattle.loom_sites.specs.Areas.{turns_there}
use Rattle.loom_sites.proofs.Sweeps.{before_then, before_else, before_first, before_done}
use Rattle.loom_sites.proofs.area.put_turns.Goals as goal
use Rattle.loom_sites.proofs.area.put_turns.Goals.{then-k-gt0+then-turns_there, else-k-gt0, else-k-gt0-via-then-k-gt0+else-turns_there, else-k-gt0-via-else-k-gt0}

abbrev none : PlaceLinks
none = frame_row kind.Entry 0 0

pub places-preserved : goal.places-preserved
places-preserved c =
    let k : ℕ = c.places.k in
    elim c.if-k-gt0.branch [
      | then-k-gt0+then-turns_there w ↦ (let more = w.if-k-gt0.true in
          before_then (has_place c.args.places.now) (has_place c.places.places) (has_place c.if-k-gt0.places) (turns_there c.args.reached.now) c.args.links.now k (k + 1) (k - 1) none (omega arith) (omega (arith, more))
          c.places-test.true (sym w.turns_there.ensures ∙ w.if-turns_there.true) (λ q. ap (λ (s : List ℕ). has_place s q) w.places-is ∙ w.put.ensures q) c.places.invariant)
      | else-k-gt0 w ↦ elim w.else-k-gt0.branch [
        | else-k-gt0-via-then-k-gt0+else-turns_there v ↦ before_else (has_place c.args.places.now) (has_place c.places.places) (has_place c.if-k-gt0.places) (turns_there c.args.reached.now) c.args.links.now k (k + 1) none
            (omega arith) v.if-k-gt0.true c.places-test.true (sym v.turns_there.ensures ∙ v.if-turns_there.false) (λ q. ap (λ (s : List ℕ). has_place s q) w.places-is) c.places.invariant
        | else-k-gt0-via-else-k-gt0 v ↦ (let least = v.if-k-gt0.false in
            before_first (has_place c.args.places.now) (has_place c.places.places) (has_place c.if-k-gt0.places) (turns_there c.args.reached.now) c.args.links.now k (k + 1) (omega arith) (omega (arith, least))
            (λ q. ap (λ (s : List ℕ). has_place s q) w.places-is) c.places.invariant)
      ]
    ]

pub returns : goal.returns
returns c = before_done (has_place c.args.places.now) (has_place c.places.places) (turns_there c.args.reached.now) c.args.links.now c.places.k c.places-test.false c.places.invariant
