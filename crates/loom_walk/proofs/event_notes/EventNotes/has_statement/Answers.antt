use Rattle.std.proofs.Common.{◌≡◌, false, List, sym, ap, subst, ◌∙◌}
use Rattle.loom_walk.specs.declared.event_notes.EventNote.{EventNote}
use Rattle.loom_walk.specs.Notes.{EventNotes, begun_by, AreEventNotes, is_first_of}
use Rattle.loom_walk.proofs.BegunNotes.{none_began}
use Rattle.loom_walk.proofs.event_notes.EventNotes.has_statement.Goals as goal

pub returns : goal.returns
returns c fs are n inner other =
    let off : is_first_of c.args.depth c.args.line (begun_by c.self.inside.notes.items) ≡ false
    = ap (λ (ns : List EventNote). is_first_of c.args.depth c.args.line (begun_by ns)) (sym c.as_slice.ensures.value) ∙ (sym c.is_newest.ensures ∙ other) in
    none_began c.self.inside.notes.items fs c.args.depth c.args.line (subst (λ (s : EventNotes). AreEventNotes s.notes fs) (sym c.self.view_is) are) n inner off
