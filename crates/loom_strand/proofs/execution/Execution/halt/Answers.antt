use Rattle.std.proofs.Common.{ℕ, refl, sym, ap, subst}
use Rattle.loom_trace.specs.declared.request.Request.TheVariants as r
use Rattle.loom_strand.specs.declared.stage.Want.{Want}
use Rattle.loom_strand.specs.declared.stage.Want.TheVariants as want
use Rattle.loom_strand.specs.PrivateRun.{MayHaltFrom, RunsFrom}
use Rattle.loom_strand.proofs.execution.Execution.halt.Goals as goal

pub live-requires : goal.live-requires
live-requires c =
    let h = subst (λ s. MayHaltFrom s c.args.flow.now c.args.plans.now c.args.birth c.args.self.now) c.in-Enters.is c.requires.may in
    record { lowered = c.requires.lowered; function = c.requires.function; may = h.0; somewhere = h.1.0; place = h.1.1 }

pub live-requires-in-Runs : goal.live-requires-in-Runs
live-requires-in-Runs c =
    let h = subst (λ s. MayHaltFrom s c.args.flow.now c.args.plans.now c.args.birth c.args.self.now) c.in-Runs.is c.requires.may in
    record { lowered = c.requires.lowered; function = c.requires.function; may = h.0; somewhere = h.1.0; place = h.1.1 }

pub returns-in-Waits : goal.returns-in-Waits
returns-in-Waits c =
    subst (λ s. RunsFrom s c.args.flow.now c.args.plans.now c.args.birth c.args.flags.now c.args.newer c.args.newest.now c.args.self.now c.args.self.now (want.Ask (r.Begin c.line_of.result))) (sym c.in-Waits.is)
    (refl, ap {B = Want} (λ (n : ℕ). want.Ask (r.Begin n)) c.line_of.ensures.line)

pub returns-in-Enters : goal.returns-in-Enters
returns-in-Enters c =
    subst (λ s. RunsFrom s c.args.flow.now c.args.plans.now c.args.birth c.args.flags.now c.args.newer c.args.newest.now c.args.self.now c.live.new.self c.live.result) (sym c.in-Enters.is) c.live.ensures

pub returns-in-Runs : goal.returns-in-Runs
returns-in-Runs c =
    subst (λ s. RunsFrom s c.args.flow.now c.args.plans.now c.args.birth c.args.flags.now c.args.newer c.args.newest.now c.args.self.now c.live-in-Runs.new.self c.live-in-Runs.result) (sym c.in-Runs.is) c.live-in-Runs.ensures

pub returns-in-Over : goal.returns-in-Over
returns-in-Over c =
    subst (λ s. RunsFrom s c.args.flow.now c.args.plans.now c.args.birth c.args.flags.now c.args.newer c.args.newest.now c.args.self.now c.args.self.now want.Ended) (sym c.in-Over.is) (refl, refl)
