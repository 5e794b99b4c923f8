use Rattle.std.proofs.Common.{refl, sym, ap, ◌∙◌, subst}
use Rattle.loom_world.specs.Book.{Book, IsStandOf}
use Rattle.loom_world.specs.Turned.{StandsAtPlace, NotesBehind}
use Rattle.loom_world.specs.Threads.{WaitsFound, HasStrandPart}
use Rattle.loom_world.proofs.Commits.{took_part, took_strand, waits_on, stand_found, stands_there, stands_still, strand_noted, stands_elsewhere}
use Rattle.loom_world.proofs.world.take.Goals as goal

pub note-requires-clause-stands : goal.note-requires-clause-stands
note-requires-clause-stands c z running =
    let b = c.args.book.now in
    let s = c.args.strand.now in
    let new = c.answer.new.self in
    let part : HasStrandPart b c.args.t new = took_part b c.args.t s new c.args.entry c.requires.behind c.answer.ensures.same c.answer.ensures.passes in
    let waits : WaitsFound new new.birth new.execution.place = waits_on s new new.birth (c.answer.ensures.stands (sym c.tells_blocked-blocked.ensures ∙ c.if-blocked.true)) in
    subst (λ k. IsStandOf b c.args.t z k) (sym c.place.ensures) (stand_found b c.requires.behind.lawful c.args.t new new.execution.place part waits z running)

pub returns-then-blocked-clause-strand : goal.returns-then-blocked-clause-strand
returns-then-blocked-clause-strand c =
    let b = c.args.book.now in
    let s = c.args.strand.now in
    let new = c.answer.new.self in
    let part : HasStrandPart b c.args.t new = took_part b c.args.t s new c.args.entry c.requires.behind c.answer.ensures.same c.answer.ensures.passes in
    let waits : WaitsFound new new.birth new.execution.place = waits_on s new new.birth (c.answer.ensures.stands (sym c.tells_blocked-blocked.ensures ∙ c.if-blocked.true)) in
    strand_noted b c.note.new.self c.args.t c.place.result new c.requires.first c.requires.last c.requires.behind.lawful c.note.ensures.noted part (subst (λ k. WaitsFound new new.birth k) (sym c.place.ensures) waits)

pub returns-else-blocked-clause-strand : goal.returns-else-blocked-clause-strand
returns-else-blocked-clause-strand c =
    took_strand c.args.book.now c.args.t c.args.strand.now c.answer.new.self c.args.entry c.requires.behind c.answer.ensures.same c.answer.ensures.passes

pub returns-then-blocked-clause-stands : goal.returns-then-blocked-clause-stands
returns-then-blocked-clause-stands c = stands_elsewhere c.args.book.now c.note.new.self c.args.t c.place.result c.note.ensures.noted

pub returns-then-blocked-clause-notes : goal.returns-then-blocked-clause-notes
returns-then-blocked-clause-notes c =
    let b = c.args.book.now in
    let s = c.args.strand.now in
    let new = c.answer.new.self in
    let part : HasStrandPart b c.args.t new = took_part b c.args.t s new c.args.entry c.requires.behind c.answer.ensures.same c.answer.ensures.passes in
    let waits : WaitsFound new new.birth new.execution.place = waits_on s new new.birth (c.answer.ensures.stands (sym c.tells_blocked-blocked.ensures ∙ c.if-blocked.true)) in
    let there : StandsAtPlace b c.args.t c.place.result = stands_there b c.requires.behind.lawful c.args.t new c.place.result part (subst (λ k. WaitsFound new new.birth k) (sym c.place.ensures) waits) in
    subst (λ d. NotesBehind b.stands c.args.t d c.note.new.self) (sym c.if-blocked.true ∙ c.tells_blocked-blocked.ensures)
    (c.place.result, (ap (λ (y : Book). y.stands) c.note.ensures.noted, stands_still b c.note.new.self c.args.t c.place.result c.place.result c.note.ensures.noted there))

pub returns-else-blocked-clause-notes : goal.returns-else-blocked-clause-notes
returns-else-blocked-clause-notes c =
    subst (λ d. NotesBehind c.args.book.now.stands c.args.t d c.args.book.now) (sym c.if-blocked.false ∙ c.tells_blocked-blocked.ensures) refl
