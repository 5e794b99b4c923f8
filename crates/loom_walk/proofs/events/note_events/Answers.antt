use Rattle.std.proofs.Common.{◌≡◌, List, [], ◌∷◌, ◌++◌, length, length-append, Some, refl, sym, ap, subst, arith}
use Rattle.loom_law.specs.Walk.{OpenFrame, in_frame, note_events}
use Rattle.loom_plan.specs.Sets.{event_numbers}
use Rattle.loom_walk.specs.declared.event_notes.EventNote.{EventNote}
use Rattle.loom_walk.specs.Notes.{EventNotes, AreEventNotes}
use Rattle.loom_walk.specs.FilterWalk.{beginning_line}
use Rattle.loom_walk.proofs.BegunNotes.{note_told}
use Rattle.loom_walk.proofs.Frames.{on_top, noted_beginning, noted_elsewhere}
use Rattle.loom_walk.proofs.events.note_events.Goals as goal

pub returns-in-Some : goal.returns-in-Some
returns-in-Some c =
    let note : EventNote = record { depth = c.args.depth; line = c.in-Some.line; filter = c.args.k; events = c.args.events } in
    let is : beginning_line c.args.spot ≡ Some c.in-Some.line = sym c.in-Some.ensures in
    let notes : c.push.new.self.notes ≡ c.args.notes.now.notes ++ note ∷ [] = ap (λ (x : EventNotes). x.notes) c.push.ensures in
    record {
      notes = λ p fs here spot top es deep.
          noted_beginning p c.args.spot here fs c.in-Some.line c.args.k (event_numbers c.args.events) c.push.new.self.notes is spot
          (subst (λ (ns : List EventNote). AreEventNotes ns (in_frame (λ (x : OpenFrame). record x { statements = note_events c.args.k (event_numbers c.args.events) x.statements }) fs)) (sym notes)
          (note_told c.args.notes.now.notes note fs es (sym deep) (on_top p c.args.spot here fs c.in-Some.line is spot top)));
      few = omega (arith, ap length notes, length-append c.args.notes.now.notes (note ∷ []));
      room = ap (λ (x : EventNotes). x.room) c.push.ensures;
    }

pub returns-in-None : goal.returns-in-None
returns-in-None c = record {
  notes = λ p fs here spot top es deep.
      subst (AreEventNotes c.args.notes.now.notes) (sym (noted_elsewhere p c.args.spot here fs c.args.k (event_numbers c.args.events) (sym c.in-None.ensures) spot)) es;
  few = omega arith;
  room = refl;
}
