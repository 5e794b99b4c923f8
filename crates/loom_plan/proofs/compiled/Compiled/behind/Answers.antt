use Rattle.std.proofs.Common.{refl}
use Rattle.std.proofs.lemmas.Bool.{both_ways}
use Rattle.loom_law.specs.Walk.{completed, in_frame, all_inside}
use Rattle.loom_plan.specs.Sets.{event_numbers}
use Rattle.loom_plan.proofs.Queues.{behind_is}
use Rattle.loom_plan.proofs.compiled.Compiled.behind.Goals as goal

pub returns-clause-queue : goal.returns-clause-queue
returns-clause-queue c hs fs k l more h i =
    behind_is c.args.self.now.plan k hs fs l c.args.events _ more (λ e. both_ways c.is_empty.result c.if-is_empty.false (c.is_empty.ensures.1 e)) refl c.posts.ensures
    (c.leaves.ensures hs (all_inside (in_frame (completed k (event_numbers c.args.events)) fs)) k l more h i)
