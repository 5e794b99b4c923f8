use Rattle.std.proofs.Common.{◌≡◌, Some, sym, subst}
use Rattle.loom_event.specs.Replay.{ThreadState, thread_at}
use Rattle.loom_law.specs.Lawful.{running_thread}
use Rattle.loom_world.specs.Book.{Book, IsStandOf, HasLawfulJournal}
use Rattle.loom_world.specs.Turned.{StandsAtPlace, IsNoted}
use Rattle.loom_world.specs.Threads.{WaitsFound}
use Rattle.loom_world.proofs.Commits.{waits_here, stand_found, stands_there, stands_still, strand_noted, blocked_away, noted_free, others_noted, behind_so, others_made, moved_so}
use Rattle.loom_world.proofs.world.commit.Goals as goal

pub note-requires-clause-stands : goal.note-requires-clause-stands
note-requires-clause-stands c =
    let b = c.args.book.now in
    let s = c.args.strand.now in
    let waits : WaitsFound s s.birth s.execution.place = waits_here b c.args.t s c.args.request c.requires.strand c.requires.requests c.in-None.ensures.none.0 in
    subst (λ (y : Book). (z : ThreadState) → running_thread (thread_at y.store c.args.t) ≡ Some z → IsStandOf y c.args.t z c.place.result) (sym c.in-None.ensures.none.1)
    (λ z running. subst (λ k. IsStandOf b c.args.t z k) (sym c.place.ensures)
    (stand_found b (subst HasLawfulJournal c.in-None.ensures.none.1 c.answer.ensures.lawful) c.args.t s s.execution.place c.requires.strand waits z running))

pub take-requires-clause-behind : goal.take-requires-clause-behind
take-requires-clause-behind c =
    behind_so c.args.book.now c.answer.new.self c.args.t c.args.strand.now c.args.request c.in-Some.entry c.requires.strand c.requires.requests c.requires.newest c.in-Some.ensures.some c.answer.ensures.lawful

pub returns-in-None-clause-turns : goal.returns-in-None-clause-turns
returns-in-None-clause-turns c =
    let b = c.args.book.now in
    let s = c.args.strand.now in
    let waits : WaitsFound s s.birth s.execution.place = waits_here b c.args.t s c.args.request c.requires.strand c.requires.requests c.in-None.ensures.none.0 in
    let noted : IsNoted b c.args.t c.place.result c.note.new.self = subst (λ (y : Book). IsNoted y c.args.t c.place.result c.note.new.self) c.in-None.ensures.none.1 c.note.ensures.noted in
    let there : StandsAtPlace b c.args.t c.place.result =
    stands_there b (subst HasLawfulJournal c.in-None.ensures.none.1 c.answer.ensures.lawful) c.args.t s c.place.result c.requires.strand (subst (λ k. WaitsFound s s.birth k) (sym c.place.ensures) waits) in (
      record {
        turns = c.requires.turns;
        blocked = c.in-None.ensures.none.0;
        away = blocked_away b (subst HasLawfulJournal c.in-None.ensures.none.1 c.answer.ensures.lawful) c.args.t s c.args.request c.requires.strand c.requires.asks c.in-None.ensures.none.0 waits c.requires.free;
      },
      record {
        number = c.place.result;
        noted = noted;
        there = stands_still b c.note.new.self c.args.t c.place.result c.place.result noted there;
        free = noted_free b c.note.new.self c.args.t c.place.result s c.requires.first noted (sym c.requires.strand.program) (subst (λ k. WaitsFound s s.birth k) (sym c.place.ensures) waits) c.requires.free;
      },
    )

pub returns-in-None-clause-strand : goal.returns-in-None-clause-strand
returns-in-None-clause-strand c =
    let b = c.args.book.now in
    let s = c.args.strand.now in
    let waits : WaitsFound s s.birth s.execution.place = waits_here b c.args.t s c.args.request c.requires.strand c.requires.requests c.in-None.ensures.none.0 in
    let noted : IsNoted b c.args.t c.place.result c.note.new.self = subst (λ (y : Book). IsNoted y c.args.t c.place.result c.note.new.self) c.in-None.ensures.none.1 c.note.ensures.noted in
    strand_noted b c.note.new.self c.args.t c.place.result s c.requires.first c.requires.last (subst HasLawfulJournal c.in-None.ensures.none.1 c.answer.ensures.lawful) noted c.requires.strand (subst (λ k. WaitsFound s s.birth k) (sym c.place.ensures) waits)

pub returns-in-None-clause-others : goal.returns-in-None-clause-others
returns-in-None-clause-others c =
    let noted : IsNoted c.args.book.now c.args.t c.place.result c.note.new.self = subst (λ (y : Book). IsNoted y c.args.t c.place.result c.note.new.self) c.in-None.ensures.none.1 c.note.ensures.noted in
    others_noted c.args.book.now c.note.new.self c.args.t c.place.result noted

pub returns-in-Some-clause-turns : goal.returns-in-Some-clause-turns
returns-in-Some-clause-turns c =
    moved_so c.args.book.now c.answer.new.self c.take.new.book c.args.t c.args.request c.in-Some.entry c.requires.turns c.requires.asks c.requires.unflagged c.in-Some.ensures.some c.take.ensures.entries
    c.take.ensures.notes

pub returns-in-Some-clause-others : goal.returns-in-Some-clause-others
returns-in-Some-clause-others c =
    others_made c.args.book.now c.answer.new.self c.take.new.book c.args.t c.args.request c.in-Some.entry c.in-Some.ensures.some c.take.ensures.run c.take.ensures.entries c.take.ensures.stands
