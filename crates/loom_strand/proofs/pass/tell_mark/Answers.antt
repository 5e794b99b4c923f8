use Rattle.std.proofs.Common.{subst}
use Rattle.loom_strand.specs.declared.step_result.Mark.{Mark}
use Rattle.loom_strand.specs.declared.step_result.Mark.TheVariants as m
use Rattle.loom_strand.specs.InPart.{IsMarkOf, CanPass}
use Rattle.loom_strand.proofs.PassSteps.{begin_depth, enter_depth, out_depth, few_passed, begin_place, edge_place, enter_place, passes_begin, passes_done, passes_edge, passes_enter, passes_out}
use Rattle.loom_strand.proofs.pass.tell_mark.Goals as goal

pub begin_statement-requires-clause-frame : goal.begin_statement-requires-clause-frame
begin_statement-requires-clause-frame c =
    let h : CanPass c.args.flow.now c.args.plans.now c.args.walk.now c.args.machine.now.state (m.Begins c.in-Begins.place) =
    subst (CanPass c.args.flow.now c.args.plans.now c.args.walk.now c.args.machine.now.state) c.in-Begins.is c.requires.passes in
    begin_depth c.args.flow.now c.args.plans.now c.args.walk.now c.args.machine.now.state c.in-Begins.place h

pub begin_statement-requires-clause-place : goal.begin_statement-requires-clause-place
begin_statement-requires-clause-place c =
    let h : CanPass c.args.flow.now c.args.plans.now c.args.walk.now c.args.machine.now.state (m.Begins c.in-Begins.place) =
    subst (CanPass c.args.flow.now c.args.plans.now c.args.walk.now c.args.machine.now.state) c.in-Begins.is c.requires.passes in
    begin_place c.args.flow.now c.args.machine.now.state c.in-Begins.place h.item h.is

pub begin_statement-requires-clause-filters : goal.begin_statement-requires-clause-filters
begin_statement-requires-clause-filters c = c.requires.passes.filters

pub complete_statement-requires : goal.complete_statement-requires
complete_statement-requires c = record { filters = (c.args.flow.now.program, c.requires.passes.filters) }

pub pass_edge-requires-clause-passed : goal.pass_edge-requires-clause-passed
pass_edge-requires-clause-passed c = few_passed c.args.flow.now c.args.plans.now c.args.walk.now c.args.machine.now.state c.args.mark c.requires.passes

pub pass_edge-requires-clause-place : goal.pass_edge-requires-clause-place
pass_edge-requires-clause-place c =
    let h : CanPass c.args.flow.now c.args.plans.now c.args.walk.now c.args.machine.now.state (m.Edge c.in-Edge.place) =
    subst (CanPass c.args.flow.now c.args.plans.now c.args.walk.now c.args.machine.now.state) c.in-Edge.is c.requires.passes in
    edge_place c.args.flow.now c.args.machine.now.state c.in-Edge.place h.item h.is

pub enter_frame-requires-clause-frames : goal.enter_frame-requires-clause-frames
enter_frame-requires-clause-frames c =
    let h : CanPass c.args.flow.now c.args.plans.now c.args.walk.now c.args.machine.now.state (m.Enter c.in-Enter.field-0 c.in-Enter.place) =
    subst (CanPass c.args.flow.now c.args.plans.now c.args.walk.now c.args.machine.now.state) c.in-Enter.is c.requires.passes in
    enter_depth c.args.flow.now c.args.plans.now c.args.walk.now c.args.machine.now.state c.in-Enter.field-0 c.in-Enter.place h

pub enter_frame-requires-clause-passed : goal.enter_frame-requires-clause-passed
enter_frame-requires-clause-passed c = few_passed c.args.flow.now c.args.plans.now c.args.walk.now c.args.machine.now.state c.args.mark c.requires.passes

pub enter_frame-requires-clause-place : goal.enter_frame-requires-clause-place
enter_frame-requires-clause-place c =
    let h : CanPass c.args.flow.now c.args.plans.now c.args.walk.now c.args.machine.now.state (m.Enter c.in-Enter.field-0 c.in-Enter.place) =
    subst (CanPass c.args.flow.now c.args.plans.now c.args.walk.now c.args.machine.now.state) c.in-Enter.is c.requires.passes in
    enter_place c.args.flow.now c.args.machine.now.state c.in-Enter.field-0 c.in-Enter.place h.item h.is

pub enter_frame-requires-clause-filters : goal.enter_frame-requires-clause-filters
enter_frame-requires-clause-filters c = c.requires.passes.filters

pub leave_frame-requires-clause-frame : goal.leave_frame-requires-clause-frame
leave_frame-requires-clause-frame c =
    let h : CanPass c.args.flow.now c.args.plans.now c.args.walk.now c.args.machine.now.state (m.Out c.in-Out.func) =
    subst (CanPass c.args.flow.now c.args.plans.now c.args.walk.now c.args.machine.now.state) c.in-Out.is c.requires.passes in
    out_depth c.args.flow.now c.args.plans.now c.args.walk.now c.args.machine.now.state c.in-Out.func h

pub leave_frame-requires-clause-filters : goal.leave_frame-requires-clause-filters
leave_frame-requires-clause-filters c = (c.args.flow.now.program, c.requires.passes.filters)

pub returns-in-Begins-clause-passes : goal.returns-in-Begins-clause-passes
returns-in-Begins-clause-passes c z i is =
    passes_begin c.args.flow.now c.args.plans.now c.args.walk.now c.begin_statement.new.self c.args.machine.now.state c.in-Begins.place c.locals.result.now c.locals.ensures c.begin_statement.ensures.at z i
    (subst (λ (k : Mark). IsMarkOf c.args.flow.now c.args.machine.now.state k i) c.in-Begins.is is)

pub returns-in-Done-clause-passes : goal.returns-in-Done-clause-passes
returns-in-Done-clause-passes c z i is =
    passes_done c.args.flow.now c.args.plans.now c.args.walk.now c.complete_statement.new.self c.args.machine.now.state c.in-Done.line c.in-Done.field-1 c.complete_statement.ensures.at z i
    (subst (λ (k : Mark). IsMarkOf c.args.flow.now c.args.machine.now.state k i) c.in-Done.is is)

pub returns-in-Edge-clause-passes : goal.returns-in-Edge-clause-passes
returns-in-Edge-clause-passes c z i is =
    passes_edge c.args.flow.now c.args.plans.now c.args.walk.now c.pass_edge.new.self c.args.machine.now.state c.in-Edge.place c.pass_edge.ensures.at z i
    (subst (λ (k : Mark). IsMarkOf c.args.flow.now c.args.machine.now.state k i) c.in-Edge.is is)

pub returns-in-Enter-clause-passes : goal.returns-in-Enter-clause-passes
returns-in-Enter-clause-passes c z i is =
    passes_enter c.args.flow.now c.args.plans.now c.args.walk.now c.enter_frame.new.self c.args.machine.now.state c.in-Enter.field-0 c.in-Enter.place c.locals-in-Enter.result.now c.locals-in-Enter.ensures
    c.enter_frame.ensures.at z i (subst (λ (k : Mark). IsMarkOf c.args.flow.now c.args.machine.now.state k i) c.in-Enter.is is)

pub returns-in-Out-clause-passes : goal.returns-in-Out-clause-passes
returns-in-Out-clause-passes c z i is =
    passes_out c.args.flow.now c.args.plans.now c.args.walk.now c.leave_frame.new.self c.args.machine.now.state c.in-Out.func c.leave_frame.ensures.at z i
    (subst (λ (k : Mark). IsMarkOf c.args.flow.now c.args.machine.now.state k i) c.in-Out.is is)
