use Rattle.std.proofs.Common.{ℕ, List, ◌++◌, length, ap, arith}
use Rattle.loom_trace.specs.Limits.{event_limit}
use Rattle.loom_plan.specs.Sets.{event_numbers}
use Rattle.loom_strand.proofs.EventRows.{few_events, one_more, room_for_one, none_left}
use Rattle.loom_strand.proofs.want.numbers_of.Goals as goal

pub events-init : goal.events-init
events-init c = ap (λ (xs : List ℕ). xs ++ event_numbers c.args.events) c.none-numbers.ensures

pub push-requires : goal.push-requires
push-requires c =
    room_for_one c.events.numbers (event_numbers c.events.left) _ (event_numbers c.args.events) c.in-Some.n event_limit c.in-Some.ensures.taken c.events.invariant (few_events c.args.events)

pub events-smaller : goal.events-smaller
events-smaller c = let long = ap length c.in-Some.ensures.taken in omega (arith, long)

pub events-preserved : goal.events-preserved
events-preserved c =
    one_more c.events.numbers c.push.new.self (event_numbers c.events.left) _ (event_numbers c.args.events) c.in-Some.n c.push.ensures c.in-Some.ensures.taken c.events.invariant

pub returns : goal.returns
returns c = none_left c.events.numbers (event_numbers c.events.left) (event_numbers c.args.events) c.in_default.ensures.taken.0 c.events.invariant
