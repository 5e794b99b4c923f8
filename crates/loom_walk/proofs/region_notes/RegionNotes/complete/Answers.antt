use Rattle.std.proofs.Common.{sym, subst}
use Rattle.loom_plan.specs.Sets.{event_numbers}
use Rattle.loom_walk.specs.Notes.{RegionNotes, AreRegionNotes, HaveDepths, AreOfFilters}
use Rattle.loom_walk.proofs.NoteDepths.{depths_behind}
use Rattle.loom_walk.proofs.RegionChanges.{complete_told}
use Rattle.loom_walk.proofs.region_notes.RegionNotes.complete.Goals as goal

pub returns-clause-notes : goal.returns-clause-notes
returns-clause-notes c plans fs same are n depths =
    complete_told plans c.args.c.now.plan c.self.inside.notes.items c.complete_in.new.notes.items fs c.args.depth c.args.k (event_numbers c.args.events)
    (c.complete_in.ensures.behind (subst (λ (s : RegionNotes). HaveDepths 1 c.args.depth s.notes) (sym c.self.view_is) depths)) same n
    (subst (λ (s : RegionNotes). AreRegionNotes plans s.notes fs) (sym c.self.view_is) are)

pub returns-clause-depths : goal.returns-clause-depths
returns-clause-depths c h =
    let old : HaveDepths 1 c.args.depth c.self.inside.notes.items = subst (λ (s : RegionNotes). HaveDepths 1 c.args.depth s.notes) (sym c.self.view_is) h in
    depths_behind c.args.c.now.plan c.args.k c.args.depth (event_numbers c.args.events) c.self.inside.notes.items c.complete_in.new.notes.items 1 c.args.depth (c.complete_in.ensures.behind old) old

pub returns-clause-filters : goal.returns-clause-filters
returns-clause-filters c ks h = c.complete_in.ensures.filters ks (subst (λ (s : RegionNotes). AreOfFilters ks s.notes) (sym c.self.view_is) h)
