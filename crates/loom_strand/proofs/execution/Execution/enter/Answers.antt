use Rattle.std.proofs.Common.{sym, ◌∙◌}
use Rattle.loom_strand.proofs.EnterSteps.{room_at, flagged_at, crossed_at, passes_at, enters_at}
use Rattle.loom_strand.proofs.execution.Execution.enter.Goals as goal

pub has-requires : goal.has-requires
has-requires c = room_at c.args.flow.now c.args.birth c.args.self.now c.entrances.result.now _ c.requires.lowered c.requires.stage c.requires.may c.entrances.ensures.entrances

pub returns-then-has-clause-stops : goal.returns-then-has-clause-stops
returns-then-has-clause-stops c =
    flagged_at c.args.flow.now c.args.plans.now c.args.birth c.args.flags.now c.args.newer c.args.self.now c.entrances.result.now _ c.requires.stage c.requires.may c.entrances.ensures.entrances (sym c.has.ensures ∙ c.if-has.true)

pub returns-then-newer-clause-stops : goal.returns-then-newer-clause-stops
returns-then-newer-clause-stops c =
    crossed_at c.args.flow.now c.args.plans.now c.args.birth c.args.flags.now c.args.newer c.args.self.now c.entrances.result.now _ c.requires.stage c.requires.may c.entrances.ensures.entrances c.if-newer.true
    (sym c.has.ensures ∙ c.if-has.false)

pub pass-self-requires-clause-passes : goal.pass-self-requires-clause-passes
pass-self-requires-clause-passes c =
    passes_at c.args.flow.now c.args.plans.now c.args.birth c.args.self.now c.entrances.result.now _ c.begin.new.self c.requires.lowered c.requires.stage c.requires.may c.entrances.ensures.entrances c.begin.ensures
    c.requires.somewhere

pub returns-clause-enters : goal.returns-clause-enters
returns-clause-enters c =
    enters_at c.args.flow.now c.args.plans.now c.args.birth c.args.flags.now c.args.newer c.args.self.now c.entrances.result.now _ c.begin.new.self c.pass-self.new.walk c.pass-self.result c.requires.lowered c.requires.stage
    c.requires.may c.entrances.ensures.entrances c.begin.ensures (record { passes = c.pass-self.ensures.passes; place = c.pass-self.ensures.place; room = c.pass-self.ensures.room }) (sym c.has.ensures ∙ c.if-has.false)
    c.if-newer.false
