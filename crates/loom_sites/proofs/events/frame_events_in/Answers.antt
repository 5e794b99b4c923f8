use Rattle.std.proofs.Common.{ℕ, ◌+◌, [], arith}
use Rattle.loom_law.specs.Filter.{has}
use Rattle.loom_plan.specs.Sets.{event_numbers}
use Rattle.loom_plan.specs.PlanView.{plan_of_rows}
use Rattle.loom_sites.specs.Events.{is_frame_event}
use Rattle.loom_sites.proofs.EventTests.{event_on, event_done, frame_here, frame_past}
use Rattle.loom_sites.proofs.events.frame_events_in.Goals as goal

pub events-preserved : goal.events-preserved
events-preserved c =
    let i : ℕ = c.events.i in
    event_on (has (event_numbers c.events.found)) (has (event_numbers c.put_if.new.self)) (is_frame_event (plan_of_rows c.args.events.now []) c.args.f) i (i + 1) (i + 1) c.is_frame.result (omega arith) (omega arith)
    (frame_here c.args.events.now c.args.f i c.index-events-i.result c.is_frame.result c.events-test.true c.index-events-i.is c.is_frame.ensures) c.put_if.ensures.put c.events.invariant

pub returns : goal.returns
returns c =
    event_done (has (event_numbers c.events.found)) (is_frame_event (plan_of_rows c.args.events.now []) c.args.f) c.events.i (λ n low. frame_past c.args.events.now c.args.f n (let past = c.events-test.false in omega (arith, past, low)))
    c.events.invariant
