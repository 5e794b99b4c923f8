use Rattle.std.proofs.Common.{◌∙◌, sym}
use Rattle.loom_strand.specs.declared.machine.Phase.TheVariants as phase
use Rattle.loom_strand.specs.StrandInvariant.{IsBefore}
use Rattle.loom_strand.proofs.Few.{few_arguments}
use Rattle.loom_strand.proofs.Advance.{code_at, sound_before}
use Rattle.loom_strand.proofs.NextPlaces.{before_passes}
use Rattle.loom_strand.proofs.place.next_place.Goals as goal

pub place_of_step-requires-clause-calls : goal.place_of_step-requires-clause-calls
place_of_step-requires-clause-calls c =
    let m = c.args.machine.now in
    let sound : IsBefore c.args.flow.now m.state = sound_before c.args.flow.now m phase.Before (sym c.phase.ensures ∙ c.in-Before.is) c.requires.sound in
    few_arguments c.args.flow.now m.state.at _ c.requires.lowered (code_at c.args.flow.now c.code.result.now m.state c.at.result _ c.at.ensures c.code.ensures.code sound.inside)

pub returns-in-Before : goal.returns-in-Before
returns-in-Before c =
    let m = c.args.machine.now in
    let sound : IsBefore c.args.flow.now m.state = sound_before c.args.flow.now m phase.Before (sym c.phase.ensures ∙ c.in-Before.is) c.requires.sound in
    before_passes c.args.flow.now m _ c.place_of_step.result (sym c.phase.ensures ∙ c.in-Before.is)
    (code_at c.args.flow.now c.code.result.now m.state c.at.result _ c.at.ensures c.code.ensures.code sound.inside) c.place_of_step.ensures
