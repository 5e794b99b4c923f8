use Rattle.std.proofs.Common.{sym, subst}
use Rattle.loom_plan.specs.Sets.{event_numbers}
use Rattle.loom_walk.specs.Notes.{RegionNotes, AreRegionNotes}
use Rattle.loom_walk.proofs.RegionChanges.{enter_told, more_none, empty_insides}
use Rattle.loom_walk.proofs.region_notes.RegionNotes.enter.Goals as goal

pub returns-in-None-clause-notes : goal.returns-in-None-clause-notes
returns-in-None-clause-notes c plans fs same are n =
    enter_told plans c.args.c.now.plan c.args.self.now.notes c.args.self.now.notes fs c.args.depth c.args.k (event_numbers c.args.events) c.entered-more.result
    (more_none c.args.depth c.args.k c.entered-more.result c.args.self.now.notes (empty_insides c.entered-more.result c.in-None.ensures.taken.0)) same
    (c.entered-more.ensures.regions c.args.k) n are

pub returns-in-Some-clause-notes : goal.returns-in-Some-clause-notes
returns-in-Some-clause-notes c plans fs same are n =
    enter_told plans c.args.c.now.plan c.self.inside.notes.items c.enter_in.new.notes.items fs c.args.depth c.args.k (event_numbers c.args.events) c.entered-more.result
    c.enter_in.ensures.more same (c.entered-more.ensures.regions c.args.k) n
    (subst (λ (s : RegionNotes). AreRegionNotes plans s.notes fs) (sym c.self.view_is) are)
