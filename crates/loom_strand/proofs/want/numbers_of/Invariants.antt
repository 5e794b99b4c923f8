use Rattle.std.proofs.Common.{◌≡◌, ◌++◌, length}
use Rattle.loom_plan.specs.Sets.{event_numbers}
use Rattle.loom_strand.proofs.want.numbers_of.Given as goal

abbrev pub invariant-events : goal.invariant-events
invariant-events l = l.numbers ++ event_numbers l.left ≡ event_numbers l.fn.events

abbrev pub decreases-events : goal.decreases-events
decreases-events l = length (event_numbers l.left)
