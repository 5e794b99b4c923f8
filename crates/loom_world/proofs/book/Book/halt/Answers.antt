use Rattle.std.proofs.Common.{sym, ◌∙◌, subst}
use Rattle.loom_world.specs.Book.{HasLawfulJournal}
use Rattle.loom_world.proofs.FoundThreads.{none_told, halts_at}
use Rattle.loom_world.proofs.book.Book.halt.Goals as goal

pub returns-in-Some : goal.returns-in-Some
returns-in-Some c =
    let j : HasLawfulJournal c.args.self.now = subst HasLawfulJournal c.self.view_is c.self.invariant.journal in
    halts_at c.args.self.now j c.args.k c.args.t c.in-Some.place (c.lives.ensures.lives c.if-not-lives.false)
    (none_told c.found_flagged.result _ c.found_flagged.ensures.none (sym c.is_some.ensures ∙ c.if-is_some.false)) (c.is_blocked.ensures.blocked c.if-not-is_blocked.false) (sym c.found.ensures ∙ c.in-Some.is)
