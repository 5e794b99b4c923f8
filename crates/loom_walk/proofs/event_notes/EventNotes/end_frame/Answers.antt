use Rattle.std.proofs.Common.{◌≡◌, List, take, sym, ap, subst, ◌∙◌}
use Rattle.loom_walk.specs.declared.event_notes.EventNote.{EventNote}
use Rattle.loom_walk.specs.Notes.{EventNotes, begun_by, AreEventNotes, is_of_frame, behind_those}
use Rattle.loom_walk.proofs.BegunNotes.{out_told}
use Rattle.loom_walk.proofs.event_notes.EventNotes.end_frame.Goals as goal

pub returns-clause-notes : goal.returns-clause-notes
returns-clause-notes c fs are n =
    let rest : begun_by c.truncate.new.self.items ≡ behind_those (is_of_frame c.args.depth) (begun_by c.self.inside.notes.items)
    = ap (λ (ns : List EventNote). begun_by ns) c.truncate.ensures.items
    ∙ (ap (λ (ns : List EventNote). begun_by (take c.count_behind_frame-rest.result ns)) (sym c.as_slice.ensures.value)
    ∙ (c.count_behind_frame-rest.ensures.rest ∙ ap (λ (ns : List EventNote). behind_those (is_of_frame c.args.depth) (begun_by ns)) c.as_slice.ensures.value)) in
    out_told c.self.inside.notes.items c.truncate.new.self.items fs c.args.depth rest
    (subst (λ (s : EventNotes). AreEventNotes s.notes fs) (sym c.self.view_is) are) n
