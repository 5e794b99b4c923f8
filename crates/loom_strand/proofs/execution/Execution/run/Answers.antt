use Rattle.std.proofs.Common.{Some, None, subst}
use Rattle.loom_walk.specs.Owed.{queue}
use Rattle.loom_strand.specs.declared.step_result.StepResult.TheVariants as t
use Rattle.loom_strand.specs.StepResult.{Advances}
use Rattle.loom_strand.specs.InPart.{IsSomewhere}
use Rattle.loom_strand.proofs.RunSteps.{TakesMark, on_by, on_past, owes_past, stops_on, asks_on, mark_passes, somewhere_on, nearer_by, nearer_past, owes_something, owes_nothing}
use Rattle.loom_strand.proofs.execution.Execution.run.Goals.{In-Goes-None, In-Goes-Some, After-pass-self}
use Rattle.loom_strand.proofs.execution.Execution.run.Goals as goal

-- the step that was made
silent : (c : In-Goes-None) → Advances c.args.flow.now c.run.self.machine c.advance.new.machine (t.Goes None)
silent c = subst (λ o. Advances c.args.flow.now c.run.self.machine c.advance.new.machine (t.Goes o)) c.in-Goes-None.field-0-is c.in-Goes-None.ensures

marked : (c : In-Goes-Some) → Advances c.args.flow.now c.run.self.machine c.advance.new.machine (t.Goes (Some c.in-Goes-Some.mark))
marked c = subst (λ o. Advances c.args.flow.now c.run.self.machine c.advance.new.machine (t.Goes o)) c.in-Goes-Some.field-0-is c.in-Goes-Some.ensures

here : (c : In-Goes-Some) → IsSomewhere c.args.flow.now c.args.plans.now c.requires.somewhere.0 c.run.self
here c = somewhere_on c.args.flow.now c.args.plans.now c.requires.somewhere.0 c.args.flags.now c.args.self.now c.run.self (c.run.invariant.gone c.requires.somewhere.0) c.requires.somewhere.1

takes : (c : After-pass-self) → TakesMark c.args.flow.now c.args.plans.now c.advance.new.machine c.run.self.walk c.pass-self.new.walk c.pass-self.result c.in-Goes-Some.mark
takes c = record { passes = c.pass-self.ensures.passes; place = c.pass-self.ensures.place; room = c.pass-self.ensures.room }

pub returns-in-Some : goal.returns-in-Some
returns-in-Some c b = stops_on c.args.flow.now c.args.plans.now c.args.flags.now c.args.newer c.args.self.now c.run.self c.in-Some.stop b c.run.invariant (c.in-Some.ensures.stops b)

pub run-smaller-in-Goes-None : goal.run-smaller-in-Goes-None
run-smaller-in-Goes-None c =
    nearer_by c.args.flow.now c.args.plans.now c.args.flags.now c.args.newer c.args.self.now c.run.self c.advance.new.machine c.requires.lowered (silent (goal.at.run-smaller-in-Goes-None c).In-Goes-None) c.run.invariant

pub run-preserved-in-Goes-None : goal.run-preserved-in-Goes-None
run-preserved-in-Goes-None c =
    on_by c.args.flow.now c.args.plans.now c.args.flags.now c.args.newer c.args.self.now c.run.self c.advance.new.machine c.requires.lowered (silent (goal.at.run-preserved-in-Goes-None c).In-Goes-None) c.run.invariant

pub pass-self-requires-clause-passes : goal.pass-self-requires-clause-passes
pass-self-requires-clause-passes c =
    mark_passes c.args.flow.now c.args.plans.now c.args.flags.now c.args.newer c.args.self.now c.run.self c.advance.new.machine c.in-Goes-Some.mark c.requires.somewhere.0 c.requires.lowered
    (marked (goal.at.pass-self-requires-clause-passes c).In-Goes-Some) c.requires.somewhere.1 c.run.invariant

pub returns-then-not-is_at_rest-2 : goal.returns-then-not-is_at_rest-2
returns-then-not-is_at_rest-2 c d =
    owes_past c.args.flow.now c.args.plans.now c.args.flags.now c.args.newer c.args.self.now c.run.self c.advance.new.machine c.pass-self.new.walk c.pass-self.result c.in-Goes-Some.mark c.requires.somewhere.0
    c.requires.lowered (marked (goal.at.returns-then-not-is_at_rest-2 c).In-Goes-Some) (takes (goal.at.returns-then-not-is_at_rest-2 c).After-pass-self) c.in_default.ensures.free
    (here (goal.at.returns-then-not-is_at_rest-2 c).In-Goes-Some)
    (owes_something c.is_at_rest-in-Goes-Some.result (queue c.pass-self.new.walk.owed) c.if-not-is_at_rest-2.true c.is_at_rest-in-Goes-Some.ensures) c.run.invariant d

pub run-smaller : goal.run-smaller
run-smaller c =
    nearer_past c.args.flow.now c.args.plans.now c.args.flags.now c.args.newer c.args.self.now c.run.self c.advance.new.machine c.pass-self.new.walk c.pass-self.result c.in-Goes-Some.mark c.requires.somewhere.0
    c.requires.lowered (marked (goal.at.run-smaller c).In-Goes-Some) (takes (goal.at.run-smaller c).After-pass-self) c.in_default.ensures.free (here (goal.at.run-smaller c).In-Goes-Some)
    (owes_nothing c.is_at_rest-in-Goes-Some.result (queue c.pass-self.new.walk.owed) c.if-not-is_at_rest-2.false c.is_at_rest-in-Goes-Some.ensures) c.run.invariant

pub run-preserved : goal.run-preserved
run-preserved c =
    on_past c.args.flow.now c.args.plans.now c.args.flags.now c.args.newer c.args.self.now c.run.self c.advance.new.machine c.pass-self.new.walk c.pass-self.result c.in-Goes-Some.mark c.requires.somewhere.0
    c.requires.lowered (marked (goal.at.run-preserved c).In-Goes-Some) (takes (goal.at.run-preserved c).After-pass-self) c.in_default.ensures.free (here (goal.at.run-preserved c).In-Goes-Some)
    (owes_nothing c.is_at_rest-in-Goes-Some.result (queue c.pass-self.new.walk.owed) c.if-not-is_at_rest-2.false c.is_at_rest-in-Goes-Some.ensures) c.run.invariant

pub returns-in-Asks : goal.returns-in-Asks
returns-in-Asks c b = asks_on c.args.flow.now c.args.plans.now c.args.flags.now c.args.newer c.args.self.now c.run.self c.advance.new.machine c.in-Asks.request b c.in-Asks.ensures c.run.invariant
