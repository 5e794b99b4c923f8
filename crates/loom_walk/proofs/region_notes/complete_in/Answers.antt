use Rattle.std.proofs.Common.{◌<◌, List, length, take, refl, sym, subst, ◌∙◌, arith}
use Rattle.std.proofs.lemmas.List.{length-set}
use Rattle.loom_plan.specs.Sets.{event_numbers}
use Rattle.loom_walk.specs.declared.region_notes.RegionNote.{RegionNote}
use Rattle.loom_walk.specs.Notes.{HaveDepths}
use Rattle.loom_walk.specs.RegionSteps.{AreOfOthers}
use Rattle.loom_walk.proofs.NoteDepths.{filters_set}
use Rattle.loom_walk.proofs.RegionChanges.{front_stays, behind_more, rest_more}
use Rattle.loom_walk.proofs.region_notes.complete_in.Goals as goal

pub notes-init : goal.notes-init
notes-init c = record {
  behind = λ h.
      front_stays c.args.c.now.plan c.args.k c.args.depth (event_numbers c.args.events) (take c.count_below-from.result c.args.notes.now.items)
      (subst (λ (ns : List RegionNote). AreOfOthers c.args.depth (take c.count_below-from.result ns)) c.as_slice.ensures.value
      (c.count_below-from.ensures.below (subst (λ (ns : List RegionNote). HaveDepths 1 c.args.depth ns) (sym c.as_slice.ensures.value) h)));
  filters = λ ks h. h;
  rest = refl;
  count = refl;
  room = refl;
}

pub notes-preserved : goal.notes-preserved
notes-preserved c =
    let low : c.notes.i < length c.notes.notes.items = omega (arith, c.notes.invariant.count, c.notes-test.true, c.len-count.ensures) in
    record {
      behind = λ h.
          behind_more c.args.c.now.plan c.args.k c.args.depth (event_numbers c.args.events) c.args.notes.now.items c.notes.notes.items c.notes.i c.index-note.result.now c.note_behind.result low
          c.notes.invariant.count c.notes.invariant.rest c.index-note.ensures c.note_behind.ensures (c.notes.invariant.behind h);
      filters = λ ks h. filters_set ks c.notes.notes.items c.notes.i c.index-note.result.now c.note_behind.result low c.index-note.ensures c.note_behind.ensures.filter (c.notes.invariant.filters ks h);
      rest = rest_more c.args.notes.now.items c.notes.notes.items c.notes.i c.note_behind.result c.notes.invariant.rest;
      count = length-set c.notes.notes.items c.notes.i c.note_behind.result ∙ c.notes.invariant.count;
      room = c.notes.invariant.room;
    }
