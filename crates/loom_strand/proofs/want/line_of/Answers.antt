use Rattle.std.proofs.Common.{sym, subst, ◌<◌, length}
use Rattle.loom_strand.proofs.Entrances.{entrances_within, entrance_at, entrance_place, entrance_line}
use Rattle.loom_strand.proofs.want.line_of.Goals as goal

pub bounds-entrances-func : goal.bounds-entrances-func
bounds-entrances-func c = subst (λ es. c.args.func < length es) (sym c.entrances.ensures.entrances) (entrances_within c.args.flow.now c.args.func c.entrances.ensures.lowered c.requires)

pub place_line-requires : goal.place_line-requires
place_line-requires c =
    entrance_place c.args.flow.now c.args.func _ c.entrances.ensures.lowered (entrance_at c.args.flow.now c.entrances.result.now c.args.func _ c.entrances.ensures.lowered c.entrances.ensures.entrances c.requires)

pub returns-clause-line : goal.returns-clause-line
returns-clause-line c =
    entrance_line c.args.flow.now c.args.func c.place_line.result _ c.entrances.ensures.lowered
    (entrance_at c.args.flow.now c.entrances.result.now c.args.func _ c.entrances.ensures.lowered c.entrances.ensures.entrances c.requires) c.place_line.ensures
