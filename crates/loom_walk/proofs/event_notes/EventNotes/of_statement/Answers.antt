use Rattle.std.proofs.Common.{List, sym, ap, subst, ◌∙◌}
use Rattle.loom_walk.specs.declared.event_notes.EventNote.{EventNote}
use Rattle.loom_walk.specs.Notes.{EventNotes, begun_by, AreEventNotes, events_of_statement}
use Rattle.loom_walk.proofs.BegunNotes.{events_told}
use Rattle.loom_walk.proofs.event_notes.EventNotes.of_statement.Goals as goal

pub returns : goal.returns
returns c fs are n h =
    c.newest_events.ensures
    ∙ (ap (λ (ns : List EventNote). events_of_statement c.args.depth c.args.line c.args.k (begun_by ns)) c.as_slice.ensures.value
    ∙ events_told c.self.inside.notes.items fs c.args.depth c.args.line c.args.k (subst (λ (s : EventNotes). AreEventNotes s.notes fs) (sym c.self.view_is) are) n h)
