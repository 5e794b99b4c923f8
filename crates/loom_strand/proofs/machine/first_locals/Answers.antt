use Rattle.std.proofs.Common.{◌≡◌, ◌∙◌, ap, pos, get_or, slice_set, to_z, of_z, w64, arith, rules}
use Rattle.std.proofs.lemmas.Int.{to_z-of_z}
use Rattle.loom_flow.specs.State.{filled, frame_room}
use Rattle.loom_strand.proofs.Locals.{filled_next, filled_all}
use Rattle.loom_strand.proofs.machine.first_locals.Goals as goal

pub given-preserved : goal.given-preserved
given-preserved c =
    let vs = c.as_slice-given.result.now in
    let i = c.given.i in
    let same : to_z w64 (of_z w64 (get_or vs i (pos 0))) ≡ get_or vs i (pos 0) = to_z-of_z w64 (get_or vs i (pos 0)) (search rules) in
    ap (slice_set c.given.locals i) same ∙ ap (λ us. slice_set us i (get_or vs i (pos 0))) c.given.invariant ∙ filled_next frame_room i vs (pos 0) (omega arith) (omega arith)

pub returns : goal.returns
returns c =
    c.given.invariant ∙ filled_all frame_room c.args.entrance.params c.given.i c.as_slice-given.result.now (omega arith)
    ∙ ap (λ vs. filled frame_room (filled c.args.entrance.params vs)) c.as_slice-given.ensures.items
