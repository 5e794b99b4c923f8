use Rattle.std.proofs.Common.{sym}
use Rattle.loom_version.specs.Plans.{plans_in}
use Rattle.loom_walk.proofs.FilterQueues.{own_plan, not_there}
use Rattle.loom_walk.proofs.events.leave_regions.Goals as goal

pub returns-in-None : goal.returns-in-None
returns-in-None c = absurd (not_there c.args.plans.now c.args.k c.requires.there.1.0 c.requires.there.1.1.0 c.in-None.ensures)

pub returns-in-Some-clause-notes : goal.returns-in-Some-clause-notes
returns-in-Some-clause-notes c fs rs deep =
    c.complete.ensures.notes (plans_in c.args.plans.now) fs (own_plan c.args.plans.now c.args.k c.in-Some.c.now (sym c.in-Some.ensures)) rs deep c.requires.depths
