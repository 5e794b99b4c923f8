use Rattle.std.proofs.Common.{inr, refl, subst}
use Rattle.loom_world.specs.Book.{HasLawfulJournal}
use Rattle.loom_world.proofs.ControlTurns.{no_control}
use Rattle.loom_world.proofs.book.Book.ask_or_end.Goals as goal

pub returns-in-None-clause-turns : goal.returns-in-None-clause-turns
returns-in-None-clause-turns c = (inr (no_control c.args.self.now c.requires.asked (c.is_due.ensures.not_due c.if-is_due.false) c.in-None.ensures.none), refl)

pub returns-in-None-clause-lawful : goal.returns-in-None-clause-lawful
returns-in-None-clause-lawful c = subst HasLawfulJournal c.self.view_is c.self.invariant.journal
