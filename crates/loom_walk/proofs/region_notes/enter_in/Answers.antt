use Rattle.std.proofs.Common.{◌≡◌, ◌<◌, List, length, slice_get, Some, refl, sym, subst}
use Rattle.loom_walk.specs.declared.region_notes.RegionNote.{RegionNote}
use Rattle.loom_walk.specs.Notes.{HaveDepths}
use Rattle.loom_walk.specs.RegionSteps.{IsNoteOf, HasMore}
use Rattle.loom_walk.proofs.NoteDepths.{depths_push, depths_set, note_at, note_there, note_told}
use Rattle.loom_walk.proofs.RegionChanges.{more_push, more_set}
use Rattle.loom_walk.proofs.region_notes.enter_in.Goals as goal

pub returns-in-None-clause-more : goal.returns-in-None-clause-more
returns-in-None-clause-more c =
    subst (λ (ns : List RegionNote). HasMore c.args.depth c.args.k c.args.more c.args.notes.now.items ns) (sym c.push_reserved.ensures.items)
    (more_push c.args.depth c.args.k c.args.more c.args.notes.now.items)

pub returns-in-None-clause-depths : goal.returns-in-None-clause-depths
returns-in-None-clause-depths c low h =
    subst (λ (ns : List RegionNote). HaveDepths 1 c.args.depth ns) (sym c.push_reserved.ensures.items)
    (depths_push 1 c.args.depth c.args.notes.now.items (record { depth = c.args.depth; filter = c.args.k; regions = c.args.more }) h low refl)

pub returns-in-Some-clause-more : goal.returns-in-Some-clause-more
returns-in-Some-clause-more c =
    let is : IsNoteOf c.args.depth c.args.k (slice_get c.args.notes.now.items c.in-Some.i)
    = subst (λ (ns : List RegionNote). IsNoteOf c.args.depth c.args.k (slice_get ns c.in-Some.i)) c.as_slice.ensures.value c.in-Some.ensures in
    let low : c.in-Some.i < length c.args.notes.now.items = note_there c.args.notes.now.items c.in-Some.i c.args.depth c.args.k is in
    let at : slice_get c.args.notes.now.items c.in-Some.i ≡ Some c.index-note.result.now = note_at c.args.notes.now.items c.in-Some.i c.index-note.result.now low c.index-note.ensures in
    let own = note_told c.args.notes.now.items c.in-Some.i c.args.depth c.args.k c.index-note.result.now is at in
    more_set c.args.depth c.args.k c.args.more c.with.result c.args.notes.now.items c.in-Some.i c.index-note.result.now at own.0 own.1 c.with.ensures

pub returns-in-Some-clause-depths : goal.returns-in-Some-clause-depths
returns-in-Some-clause-depths c first h =
    let is : IsNoteOf c.args.depth c.args.k (slice_get c.args.notes.now.items c.in-Some.i)
    = subst (λ (ns : List RegionNote). IsNoteOf c.args.depth c.args.k (slice_get ns c.in-Some.i)) c.as_slice.ensures.value c.in-Some.ensures in
    let low : c.in-Some.i < length c.args.notes.now.items = note_there c.args.notes.now.items c.in-Some.i c.args.depth c.args.k is in
    let at : slice_get c.args.notes.now.items c.in-Some.i ≡ Some c.index-note.result.now = note_at c.args.notes.now.items c.in-Some.i c.index-note.result.now low c.index-note.ensures in
    depths_set 1 c.args.depth c.args.notes.now.items c.in-Some.i c.index-note.result.now (record { depth = c.args.depth; filter = c.args.k; regions = c.with.result }) h at
    (sym (note_told c.args.notes.now.items c.in-Some.i c.args.depth c.args.k c.index-note.result.now is at).0)
