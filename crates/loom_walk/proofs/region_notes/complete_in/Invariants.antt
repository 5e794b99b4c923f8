use Rattle.std.proofs.Common.{ℕ, ◌≡◌, List, length, take, drop}
use Rattle.std.specs.Prelude.{vec_capacity}
use Rattle.loom_plan.specs.Sets.{event_numbers}
use Rattle.loom_walk.specs.Notes.{HaveDepths, AreOfFilters}
use Rattle.loom_walk.specs.RegionSteps.{AreNotesBehind}
use Rattle.loom_walk.proofs.region_notes.complete_in.Given as goal

abbrev pub invariant-notes : goal.invariant-notes
invariant-notes l = record {
  behind : HaveDepths 1 l.depth l.fn.notes.items → AreNotesBehind l.c.plan l.k l.depth (event_numbers l.events) (take l.i l.fn.notes.items) (take l.i l.notes.items);
  filters : (ks : List ℕ) → AreOfFilters ks l.fn.notes.items → AreOfFilters ks l.notes.items;
  rest : drop l.i l.notes.items ≡ drop l.i l.fn.notes.items;
  count : length l.notes.items ≡ length l.fn.notes.items;
  room : vec_capacity l.notes ≡ vec_capacity l.fn.notes;
}
