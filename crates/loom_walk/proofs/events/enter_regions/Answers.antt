use Rattle.std.proofs.Common.{◌++◌, sym, subst}
use Rattle.loom_law.specs.Filter.{Plan}
use Rattle.loom_law.specs.Walk.{OpenFrame, in_frame, entered_regions}
use Rattle.loom_plan.specs.Sets.{event_numbers}
use Rattle.loom_version.specs.Plans.{plans_in}
use Rattle.loom_walk.specs.Notes.{AreRegionNotes}
use Rattle.loom_walk.proofs.FilterQueues.{own_plan, not_there}
use Rattle.loom_walk.proofs.events.enter_regions.Goals as goal

pub returns-in-None : goal.returns-in-None
returns-in-None c = absurd (not_there c.args.plans.now c.args.k c.requires.there.1.0 c.requires.there.1.1.0 c.in-None.ensures)

pub returns-in-Some-clause-notes : goal.returns-in-Some-clause-notes
returns-in-Some-clause-notes c fs rs deep =
    let plan = own_plan c.args.plans.now c.args.k c.in-Some.c.now (sym c.in-Some.ensures) in
    subst (λ (f : Plan). AreRegionNotes (plans_in c.args.plans.now) c.enter.new.self.notes (in_frame (λ (x : OpenFrame). record x { inside = entered_regions f c.args.k (event_numbers c.args.events) ++ x.inside }) fs))
    (sym plan) (c.enter.ensures.notes (plans_in c.args.plans.now) fs plan rs deep)
