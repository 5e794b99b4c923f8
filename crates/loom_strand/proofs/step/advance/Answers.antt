use Rattle.std.proofs.Common.{ℕ, to_z, of_z, w64, rules, ◌≡◌, ◌∙◌, sym, Some, subst}
use Rattle.std.proofs.lemmas.Int.{to_z-of_z}
use Rattle.loom_lang.specs.Trace.{out}
use Rattle.loom_flow.specs.Progress.{goes, returns}
use Rattle.loom_strand.specs.StepResult.{StepsTo}
use Rattle.loom_strand.specs.declared.machine.Phase.TheVariants as phase
use Rattle.loom_strand.specs.StrandInvariant.{IsBefore}
use Rattle.loom_strand.proofs.Few.{few_arguments}
use Rattle.loom_strand.proofs.Room.{values_at, room_at, locals_at}
use Rattle.loom_strand.proofs.Advance.{code_at, before_advances, leaves_advances, sound_before}
use Rattle.loom_strand.proofs.step.advance.Goals as goal

-- the instruction before which the thread is
pub step-requires-clause-arguments : goal.step-requires-clause-arguments
step-requires-clause-arguments c =
    let sound : IsBefore c.args.flow.now c.args.machine.now.state = sound_before c.args.flow.now c.args.machine.now phase.Before (sym c.phase.ensures ∙ c.in-Before.is) c.requires.sound in
    few_arguments c.args.flow.now c.args.machine.now.state.at _ c.requires.lowered (code_at c.args.flow.now c.code.result.now c.args.machine.now.state c.at.result _ c.at.ensures c.code.ensures.code sound.inside)

pub step-requires-clause-values : goal.step-requires-clause-values
step-requires-clause-values c =
    let sound : IsBefore c.args.flow.now c.args.machine.now.state = sound_before c.args.flow.now c.args.machine.now phase.Before (sym c.phase.ensures ∙ c.in-Before.is) c.requires.sound in
    values_at c.args.flow.now c.args.machine.now _ c.requires.lowered sound (code_at c.args.flow.now c.code.result.now c.args.machine.now.state c.at.result _ c.at.ensures c.code.ensures.code sound.inside)

pub step-requires-clause-room : goal.step-requires-clause-room
step-requires-clause-room c =
    let sound : IsBefore c.args.flow.now c.args.machine.now.state = sound_before c.args.flow.now c.args.machine.now phase.Before (sym c.phase.ensures ∙ c.in-Before.is) c.requires.sound in
    room_at c.args.flow.now c.args.machine.now _ c.requires.lowered c.requires.room sound (code_at c.args.flow.now c.code.result.now c.args.machine.now.state c.at.result _ c.at.ensures c.code.ensures.code sound.inside)

pub step-requires-clause-locals : goal.step-requires-clause-locals
step-requires-clause-locals c =
    let sound : IsBefore c.args.flow.now c.args.machine.now.state = sound_before c.args.flow.now c.args.machine.now phase.Before (sym c.phase.ensures ∙ c.in-Before.is) c.requires.sound in
    locals_at c.args.flow.now c.args.machine.now.state.at _ c.requires.lowered (code_at c.args.flow.now c.code.result.now c.args.machine.now.state c.at.result _ c.at.ensures c.code.ensures.code sound.inside)

pub returns-in-Before : goal.returns-in-Before
returns-in-Before c =
    let sound : IsBefore c.args.flow.now c.args.machine.now.state = sound_before c.args.flow.now c.args.machine.now phase.Before (sym c.phase.ensures ∙ c.in-Before.is) c.requires.sound in
    before_advances c.args.flow.now c.args.machine.now c.step.new.machine c.step.result _ (sym c.phase.ensures ∙ c.in-Before.is)
    (code_at c.args.flow.now c.code.result.now c.args.machine.now.state c.at.result _ c.at.ensures c.code.ensures.code sound.inside)
    c.step.ensures

pub returns-in-Leaves : goal.returns-in-Leaves
returns-in-Leaves c =
    let m = c.args.machine.now in
    let same : to_z w64 (of_z w64 c.in-Leaves.v) ≡ c.in-Leaves.v = to_z-of_z w64 c.in-Leaves.v (search rules) in
    leaves_advances c.args.flow.now m c.leave.new.machine c.leave.result c.in-Leaves.v (sym c.phase.ensures ∙ c.in-Leaves.is)
    (subst (λ v. (place : ℕ) → StepsTo c.args.flow.now place m c.leave.new.machine c.leave.result (goes (Some (out m.state.func)) (returns c.args.flow.now m.state.values v m.state.below))) same c.leave.ensures)
