use Rattle.std.proofs.Common.{inl, inr, refl, sym, ◌∙◌}
use Rattle.loom_strand.proofs.LiveSteps.{is_blocked, is_free, has_stopped, goes_to_halt}
use Rattle.loom_strand.proofs.execution.Execution.live.Goals as goal

pub returns-then-is_blocked_at : goal.returns-then-is_blocked_at
returns-then-is_blocked_at c = inl (is_blocked c.args.flags.now c.args.self.now (sym c.is_blocked_at.ensures ∙ c.if-is_blocked_at.true))

pub want-requires-clause-stopped : goal.want-requires-clause-stopped
want-requires-clause-stopped c =
    (c.args.birth, has_stopped c.args.flow.now c.args.plans.now c.args.birth c.args.flags.now c.args.newer c.args.self.now c.go_on-stop.new.self c.go_on-stop.result c.requires.somewhere c.go_on-stop.ensures)

pub returns : goal.returns
returns c =
    inr (goes_to_halt c.args.flow.now c.args.plans.now c.args.birth c.args.flags.now c.args.newer c.args.newest.now c.args.self.now c.go_on-stop.new.self c.want.new.self c.go_on-stop.result c.want.result
    (is_free c.args.flags.now c.args.self.now (sym c.is_blocked_at.ensures ∙ c.if-is_blocked_at.false)) c.go_on-stop.ensures c.want.ensures.same
    (c.want.ensures.comes c.args.birth refl c.go_on-stop.ensures.may c.args.plans.now c.args.flags.now c.go_on-stop.ensures.stops))
