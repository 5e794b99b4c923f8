use Rattle.std.proofs.Common.{◌-◌, List, take, drop, sym, subst}
use Rattle.loom_walk.specs.declared.region_notes.RegionNote.{RegionNote}
use Rattle.loom_walk.specs.Notes.{RegionNotes, AreRegionNotes, HaveDepths}
use Rattle.loom_walk.specs.RegionSteps.{AreOfFrame, AreOfOthers}
use Rattle.loom_walk.proofs.NoteDepths.{depths_front}
use Rattle.loom_walk.proofs.RegionChanges.{out_told}
use Rattle.loom_walk.proofs.region_notes.RegionNotes.end_frame.Goals as goal

pub returns-clause-notes : goal.returns-clause-notes
returns-clause-notes c plans fs are n =
    out_told plans c.self.inside.notes.items c.truncate.new.self.items c.count_below-rest.result fs c.args.depth c.truncate.ensures.items
    (subst (λ (ns : List RegionNote). AreOfFrame c.args.depth (drop c.count_below-rest.result ns)) c.as_slice.ensures.value c.count_below-rest.ensures.top) n
    (subst (λ (s : RegionNotes). AreRegionNotes plans s.notes fs) (sym c.self.view_is) are)

pub returns-clause-depths : goal.returns-clause-depths
returns-clause-depths c h =
    let old : HaveDepths 1 c.args.depth c.self.inside.notes.items = subst (λ (s : RegionNotes). HaveDepths 1 c.args.depth s.notes) (sym c.self.view_is) h in
    subst (λ (ns : List RegionNote). HaveDepths 1 (c.args.depth - 1) ns) (sym c.truncate.ensures.items)
    (depths_front 1 c.args.depth c.self.inside.notes.items c.count_below-rest.result old
    (subst (λ (ns : List RegionNote). AreOfOthers c.args.depth (take c.count_below-rest.result ns)) c.as_slice.ensures.value
    (c.count_below-rest.ensures.below (subst (λ (ns : List RegionNote). HaveDepths 1 c.args.depth ns) (sym c.as_slice.ensures.value) old))))
