use Rattle.std.proofs.Common.{[]}
use Rattle.loom_law.specs.Filter.{clauses}
use Rattle.loom_law.specs.Walk.{all_inside}
use Rattle.loom_version.specs.Plans.{plans_in}
use Rattle.loom_walk.specs.Owed.{rows_queue}
use Rattle.loom_walk.proofs.FilterQueues.{nothing_left}
use Rattle.loom_walk.proofs.behind_frame.add_leaves.Goals as goal

pub returns-else-not-is_empty-clause-queue : goal.returns-else-not-is_empty-clause-queue
returns-else-not-is_empty-clause-queue c fs hs l rs depths held =
    nothing_left hs (all_inside fs) c.args.k l (clauses (plans_in c.args.plans.now c.args.k)) c.of-own.result (rows_queue l c.args.owed.now.rows []) (c.of-own.ensures.holds hs held)
    (c.is_empty.ensures.0 c.if-not-is_empty.false)
