use Rattle.std.proofs.Common.{◌+◌, ◌<◌, ◌∙◌, length, sym, subst}
use Rattle.loom_strand.proofs.PassSteps.{out_by_next, out_by_end}
use Rattle.loom_strand.proofs.place.out_place.Goals.{After-entrances-then-next-entrances}
use Rattle.loom_strand.proofs.place.out_place.Goals as goal

next_within : (c : After-entrances-then-next-entrances) → c.args.func + 1 < length c.entrances-then-next-entrances.result.now
next_within c = subst (λ es. c.args.func + 1 < length es) (c.entrances.ensures.entrances ∙ sym c.entrances-then-next-entrances.ensures.entrances) c.if-next-entrances.true

pub overflow_sub-result : goal.overflow_sub-result
overflow_sub-result c =
    (out_by_next c.args.flow.now c.entrances-then-next-entrances.result.now c.args.func _ c.requires.lowered c.entrances-then-next-entrances.ensures.entrances (next_within c)).0

pub returns-then-next-entrances : goal.returns-then-next-entrances
returns-then-next-entrances c =
    (out_by_next c.args.flow.now c.entrances-then-next-entrances.result.now c.args.func _ c.requires.lowered c.entrances-then-next-entrances.ensures.entrances (next_within c)).1

pub returns-else-next-entrances : goal.returns-else-next-entrances
returns-else-next-entrances c =
    (out_by_end c.args.flow.now c.entrances.result.now c.args.func c.places.result c.requires.lowered c.entrances.ensures.entrances c.requires.function c.if-next-entrances.false c.places.ensures.places).1
