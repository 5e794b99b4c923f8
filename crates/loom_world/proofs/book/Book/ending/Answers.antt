use Rattle.std.proofs.Common.{◌≡◌, ◌==◌, false, true, subst}
use Rattle.std.proofs.lemmas.Bool.{eq-eqb, ne_eqb}
use Rattle.loom_event.specs.Entries.{thread_entries}
use Rattle.loom_world.specs.Book.{Book, HasLawfulJournal}
use Rattle.loom_world.specs.contracts.book.Book.{the_view}
use Rattle.loom_world.proofs.InvariantReadings.{entries_at}
use Rattle.loom_world.proofs.Ends.{ends_at_limit, ends_done, ends_stuck, due_goes_on, goes_on}
use Rattle.loom_world.proofs.book.Book.ending.Goals as goal

pub returns-then-self-clause-some : goal.returns-then-self-clause-some
returns-then-self-clause-some c =
    ends_at_limit c.args.self.now
    (subst (λ (b : Book). (thread_entries b.entries == b.limit) ≡ true) c.self.view_is (entries_at (the_view c.self.inside) _ c.self.invariant true (eq-eqb c.self.inside.entry_count c.self.inside.limit c.if-self.true)))

pub returns-then-is_due-clause-none : goal.returns-then-is_due-clause-none
returns-then-is_due-clause-none c =
    due_goes_on c.args.self.now
    (subst (λ (b : Book). (thread_entries b.entries == b.limit) ≡ false) c.self.view_is (entries_at (the_view c.self.inside) _ c.self.invariant false (ne_eqb c.self.inside.entry_count c.self.inside.limit c.if-self.false)))
    (c.is_due.ensures.due c.if-is_due.true)

pub returns-then-have_ended-clause-some : goal.returns-then-have_ended-clause-some
returns-then-have_ended-clause-some c =
    ends_done c.args.self.now
    (subst (λ (b : Book). (thread_entries b.entries == b.limit) ≡ false) c.self.view_is (entries_at (the_view c.self.inside) _ c.self.invariant false (ne_eqb c.self.inside.entry_count c.self.inside.limit c.if-self.false)))
    (c.is_due.ensures.not_due c.if-is_due.false) (c.have_ended.ensures.ended c.if-have_ended.true)

pub returns-then-is_stuck-clause-some : goal.returns-then-is_stuck-clause-some
returns-then-is_stuck-clause-some c =
    let live = c.have_ended.ensures.live c.if-have_ended.false in
    ends_stuck c.args.self.now
    (subst (λ (b : Book). (thread_entries b.entries == b.limit) ≡ false) c.self.view_is (entries_at (the_view c.self.inside) _ c.self.invariant false (ne_eqb c.self.inside.entry_count c.self.inside.limit c.if-self.false)))
    (c.is_due.ensures.not_due c.if-is_due.false) live.0 live.1 (c.is_stuck.ensures.stuck c.if-is_stuck.true)

pub returns-else-is_stuck-clause-none : goal.returns-else-is_stuck-clause-none
returns-else-is_stuck-clause-none c =
    let can = c.is_stuck.ensures.goes_on c.if-is_stuck.false in
    goes_on c.args.self.now (subst HasLawfulJournal c.self.view_is c.self.invariant.journal)
    (subst (λ (b : Book). (thread_entries b.entries == b.limit) ≡ false) c.self.view_is (entries_at (the_view c.self.inside) _ c.self.invariant false (ne_eqb c.self.inside.entry_count c.self.inside.limit c.if-self.false)))
    can.0 can.1
