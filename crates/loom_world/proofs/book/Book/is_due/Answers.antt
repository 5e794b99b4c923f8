use Rattle.std.proofs.Common.{sym, subst}
use Rattle.std.proofs.lemmas.Bool.{leb-true, leb-false}
use Rattle.loom_law.specs.Lawful.{IsDue}
use Rattle.loom_world.specs.Book.{Book, setting, front}
use Rattle.loom_world.specs.Idle.{MayAsk}
use Rattle.loom_world.specs.contracts.book.Book.{the_view}
use Rattle.loom_world.proofs.CommandReadings.{IsNextAt, is_due, is_early, due_may}
use Rattle.loom_world.proofs.book.Book.is_due.Goals as goal

pub returns-then-not-may_ask-clause-not_due : goal.returns-then-not-may_ask-clause-not_due
returns-then-not-may_ask-clause-not_due c h due = c.may_ask.ensures.no c.if-not-may_ask.true (due_may c.args.self.now due)

pub returns-in-Some-clause-due : goal.returns-in-Some-clause-due
returns-in-Some-clause-due c h =
    let next : IsNextAt (the_view c.self.inside) c.in-Some.at = subst (λ (z : Book). IsNextAt z c.in-Some.at) (sym c.self.view_is) c.in-Some.ensures.some in
    let may : MayAsk (the_view c.self.inside) = subst MayAsk (sym c.self.view_is) (c.may_ask.ensures.yes c.if-not-may_ask.false) in
    subst (λ (z : Book). IsDue (setting z) (front z)) c.self.view_is
    (is_due (the_view c.self.inside) _ c.self.invariant may c.in-Some.at next (leb-true c.in-Some.at c.self.inside.entry_count h))

pub returns-in-Some-clause-not_due : goal.returns-in-Some-clause-not_due
returns-in-Some-clause-not_due c h due =
    let next : IsNextAt (the_view c.self.inside) c.in-Some.at = subst (λ (z : Book). IsNextAt z c.in-Some.at) (sym c.self.view_is) c.in-Some.ensures.some in
    is_early (the_view c.self.inside) _ c.self.invariant c.in-Some.at next (leb-false c.in-Some.at c.self.inside.entry_count h)
    (subst (λ (z : Book). IsDue (setting z) (front z)) (sym c.self.view_is) due)

pub returns-in-None-clause-not_due : goal.returns-in-None-clause-not_due
returns-in-None-clause-not_due c h due = c.in-None.ensures.none due.command due.is
