use Rattle.std.proofs.Common.{◌≡◌, Some, sym, ◌∙◌, subst}
use Rattle.loom_world.specs.Book.{found_place, HasLawfulJournal}
use Rattle.loom_world.proofs.FoundThreads.{found_low, is_flagged, not_flagged}
use Rattle.loom_world.proofs.book.Book.found_flagged.Goals as goal

pub has-requires : goal.has-requires
has-requires c =
    let j : HasLawfulJournal c.args.self.now = subst HasLawfulJournal c.self.view_is c.self.invariant.journal in
    found_low c.args.self.now j c.args.t c.in-Some.place (sym c.found.ensures ∙ c.in-Some.is)

pub returns-then-has-clause-some : goal.returns-then-has-clause-some
returns-then-has-clause-some c =
    let j : HasLawfulJournal c.args.self.now = subst HasLawfulJournal c.self.view_is c.self.invariant.journal in
    let found : found_place c.args.self.now c.args.t ≡ Some c.in-Some.place = sym c.found.ensures ∙ c.in-Some.is in
    (found, is_flagged c.args.self.now j c.args.k c.args.t c.in-Some.place c.flags.result.now c.requires.asked c.requires.not_refused c.flags.ensures found (sym c.has.ensures ∙ c.if-has.true))

pub returns-clause-none : goal.returns-clause-none
returns-clause-none c =
    let found : found_place c.args.self.now c.args.t ≡ Some c.in-Some.place = sym c.found.ensures ∙ c.in-Some.is in
    not_flagged c.args.self.now c.args.k c.args.t c.in-Some.place c.flags.result.now c.requires.asked c.requires.not_refused c.flags.ensures found (sym c.has.ensures ∙ c.if-has.false)
