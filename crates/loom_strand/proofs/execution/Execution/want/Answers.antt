use Rattle.std.proofs.Common.{◌<◌, length, sym, subst, ap, ◌∙◌, arith}
use Rattle.loom_strand.specs.PrivateRun.{HasStopped, Stops}
use Rattle.loom_strand.specs.Way.{end_line}
use Rattle.loom_strand.proofs.Advance.{code_at}
use Rattle.loom_strand.proofs.Asked.{asks_at}
use Rattle.loom_strand.proofs.WantSteps.{wants_flagged, wants_crosses, wants_asks, wants_end, wants_owed, asks_within, asks_there, asks_sound, end_within, owing_within, crosses_within}
use Rattle.loom_strand.proofs.execution.Execution.want.Goals as goal

pub cross-requires : goal.cross-requires
cross-requires c =
    let b = c.requires.stopped.0 in
    crosses_within c.args.flow.now b c.args.newer c.args.self.now c.in-Crosses.place c.requires.lowered
    (subst (HasStopped c.args.flow.now b c.args.newer c.args.self.now) c.in-Crosses.is c.requires.stopped.1)

pub bounds-code-at : goal.bounds-code-at
bounds-code-at c =
    let b = c.requires.stopped.0 in
    let there = asks_there c.args.flow.now b c.args.newer c.args.self.now c.in-Asks.request
    (subst (HasStopped c.args.flow.now b c.args.newer c.args.self.now) c.in-Asks.is c.requires.stopped.1) in
    subst (λ is. c.at.result < length is) (sym c.code.ensures.code) (subst (λ n. n < length c.args.flow.now.code) (sym c.at.ensures) there.1)

pub ask-requires : goal.ask-requires
ask-requires c =
    let b = c.requires.stopped.0 in
    let m = c.args.self.now.machine in
    let h = subst (HasStopped c.args.flow.now b c.args.newer c.args.self.now) c.in-Asks.is c.requires.stopped.1 in
    let sound = asks_sound c.args.flow.now b c.args.newer c.args.self.now c.in-Asks.request h in
    let there = asks_there c.args.flow.now b c.args.newer c.args.self.now c.in-Asks.request h in
    asks_within c.args.flow.now _ _ c.in-Asks.request c.requires.lowered h.stops.1.1
    (asks_at c.args.flow.now m _ c.requires.lowered sound there.0 (code_at c.args.flow.now c.code.result.now m.state c.at.result _ c.at.ensures c.code.ensures.code there.1))

pub ask-requires-in-Ends : goal.ask-requires-in-Ends
ask-requires-in-Ends c =
    let b = c.requires.stopped.0 in
    end_within c.args.flow.now b c.args.newer c.args.self.now c.requires.lowered
    (subst (HasStopped c.args.flow.now b c.args.newer c.args.self.now) c.in-Ends.is c.requires.stopped.1)

pub owed_request-request-requires : goal.owed_request-request-requires
owed_request-request-requires c =
    let b = c.requires.stopped.0 in
    let h = subst (HasStopped c.args.flow.now b c.args.newer c.args.self.now) c.in-Owes.is c.requires.stopped.1 in
    h.stops

pub ask-requires-in-Owes : goal.ask-requires-in-Owes
ask-requires-in-Owes c =
    let b = c.requires.stopped.0 in
    owing_within c.args.flow.now b c.args.newer c.args.self.now c.requires.lowered
    (subst (HasStopped c.args.flow.now b c.args.newer c.args.self.now) c.in-Owes.is c.requires.stopped.1)

pub returns-in-Flagged-clause-comes : goal.returns-in-Flagged-clause-comes
returns-in-Flagged-clause-comes c b func may cs flags s =
    wants_flagged c.args.flow.now cs b flags c.args.newer c.args.newest.now c.args.self.now c.in-Flagged.place c.requires.lowered may
    (subst (Stops c.args.flow.now b flags c.args.newer c.args.self.now) c.in-Flagged.is s)

pub returns-in-Crosses-clause-comes : goal.returns-in-Crosses-clause-comes
returns-in-Crosses-clause-comes c b func may cs flags s =
    wants_crosses c.args.flow.now cs b flags c.args.newer c.args.newest.now c.args.self.now c.in-Crosses.place c.cross.result c.requires.lowered may
    (subst (Stops c.args.flow.now b flags c.args.newer c.args.self.now) c.in-Crosses.is s) (record { cross = c.cross.ensures.cross; asks = c.cross.ensures.asks })

pub returns-in-Asks-clause-comes : goal.returns-in-Asks-clause-comes
returns-in-Asks-clause-comes c b func may cs flags s =
    let d = c.requires.stopped.0 in
    let m = c.args.self.now.machine in
    let h = subst (HasStopped c.args.flow.now d c.args.newer c.args.self.now) c.in-Asks.is c.requires.stopped.1 in
    let sound = asks_sound c.args.flow.now d c.args.newer c.args.self.now c.in-Asks.request h in
    let there = asks_there c.args.flow.now d c.args.newer c.args.self.now c.in-Asks.request h in
    wants_asks c.args.flow.now cs b flags c.args.newer c.args.newest.now c.args.self.now _ c.in-Asks.request c.ask.result c.requires.lowered
    (asks_at c.args.flow.now m _ c.requires.lowered sound there.0 (code_at c.args.flow.now c.code.result.now m.state c.at.result _ c.at.ensures c.code.ensures.code there.1))
    (subst (Stops c.args.flow.now b flags c.args.newer c.args.self.now) c.in-Asks.is s)
    (record { old = c.ask.ensures.old; new = λ n. record { cross = c.ask.ensures.cross n; asks = c.ask.ensures.asks n } })

pub returns-in-Ends-clause-comes : goal.returns-in-Ends-clause-comes
returns-in-Ends-clause-comes c b func may cs flags s =
    wants_end c.args.flow.now cs b flags c.args.newer c.args.newest.now c.args.self.now c.line_of-line.result c.ask-in-Ends.result (c.line_of-line.ensures.line ∙ sym (ap (end_line c.args.flow.now.program) func))
    (subst (Stops c.args.flow.now b flags c.args.newer c.args.self.now) c.in-Ends.is s)
    (record { old = c.ask-in-Ends.ensures.old; new = λ n. record { cross = c.ask-in-Ends.ensures.cross n; asks = c.ask-in-Ends.ensures.asks n } })

pub returns-in-Owes-clause-comes : goal.returns-in-Owes-clause-comes
returns-in-Owes-clause-comes c b func may cs flags s =
    wants_owed c.args.flow.now cs b flags c.args.newer c.args.newest.now c.args.self.now c.owed_request-request.result c.ask-in-Owes.result c.owed_request-request.ensures
    (subst (Stops c.args.flow.now b flags c.args.newer c.args.self.now) c.in-Owes.is s)
    (record { old = c.ask-in-Owes.ensures.old; new = λ n. record { cross = c.ask-in-Owes.ensures.cross n; asks = c.ask-in-Owes.ensures.asks n } })

pub offset_bounds-code-at : goal.offset_bounds-code-at
offset_bounds-code-at c = record { fits = omega (arith, bounds-code-at c, c.code.type_inv.1) }
