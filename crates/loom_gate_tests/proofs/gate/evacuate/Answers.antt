use Rattle.std.proofs.Common.{arith, ◌∙◌, sym, ap, set}
use Rattle.loom_trace.specs.Places.{has_place}
use Rattle.loom_gate.specs.Seats.{threads_of, view_of_key}
use Rattle.loom_gate.specs.Calls.{look_told}
use Rattle.loom_gate_tests.proofs.Trials.{all_of_one}
use Rattle.loom_gate_tests.proofs.gate.evacuate.Goals as goal

pub switch-requires-clause-stood : goal.switch-requires-clause-stood
switch-requires-clause-stood g c =
    let i = c.looks.invariant in
    let old = (view_of_key c.looks.key).looks in
    let wide = i.0.10 in let one = c.requires.threads.0 in
    all_of_one (view_of_key c.look.new.self) (threads_of c.args.gate.now) c.in-Stands.place old one
    (c.look.ensures.found ∙ ap (λ r. set old 1 (look_told r)) c.in-Stands.is)
    (omega arith)
    (ap (λ u. has_place u c.in-Stands.place) c.look.ensures.flags ∙ (i.3 c.in-Stands.place ∙ (sym c.has.ensures ∙ c.if-has.true)))
