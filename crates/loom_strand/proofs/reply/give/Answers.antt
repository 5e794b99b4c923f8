use Rattle.std.proofs.Common.{◌≡◌, sym, subst, to_z, of_z, w64, rules}
use Rattle.std.proofs.lemmas.Int.{to_z-of_z}
use Rattle.loom_flow.specs.Progress.{progress}
use Rattle.loom_flow.specs.Laws.{HasLocals}
use Rattle.loom_strand.specs.Machine.{HasRoomFor, position, TakesAnswer}
use Rattle.loom_strand.proofs.Advance.{code_at}
use Rattle.loom_strand.proofs.Asking.{asks_within, no_control, asked_step}
use Rattle.loom_strand.proofs.reply.give.Goals as goal

pub take-requires-clause-room : goal.take-requires-clause-room
take-requires-clause-room c =
    let m = c.args.machine.now in
    subst (λ x. HasRoomFor m x) c.in-Ask.is
    (c.requires.place _ (code_at c.args.flow.now c.code.result.now m.state c.at.result _ c.at.ensures c.code.ensures.code (asks_within c.args.flow.now m c.requires.asks))).0

pub take-requires-clause-locals : goal.take-requires-clause-locals
take-requires-clause-locals c =
    let m = c.args.machine.now in
    subst HasLocals c.in-Ask.is
    (c.requires.place _ (code_at c.args.flow.now c.code.result.now m.state c.at.result _ c.at.ensures c.code.ensures.code (asks_within c.args.flow.now m c.requires.asks))).1

pub unreachable-requires-in-Control : goal.unreachable-requires-in-Control
unreachable-requires-in-Control c =
    no_control c.args.flow.now c.code.result.now c.args.machine.now c.at.result _ c.in-Control.field-0 c.at.ensures c.code.ensures.code c.requires.asks c.in-Control.is

pub returns : goal.returns
returns c =
    let same : to_z w64 (of_z w64 c.args.v) ≡ c.args.v = to_z-of_z w64 c.args.v (search rules) in
    let asked : TakesAnswer c.args.machine.now c.take.new.machine (to_z w64 (of_z w64 c.args.v)) (progress c.args.flow.now (position c.args.machine.now)) =
    subst (TakesAnswer c.args.machine.now c.take.new.machine (to_z w64 (of_z w64 c.args.v)))
    (sym (asked_step c.args.flow.now c.code.result.now c.args.machine.now c.at.result _ c.in-Ask.ask c.at.ensures c.code.ensures.code c.requires.asks c.in-Ask.is)) (c.take.ensures _) in
    subst (λ v. TakesAnswer c.args.machine.now c.take.new.machine v (progress c.args.flow.now (position c.args.machine.now))) same asked
