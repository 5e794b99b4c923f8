use Rattle.std.proofs.Common.{◌==◌, sym, subst}
use Rattle.loom_world.specs.Idle.{MayAsk}
use Rattle.loom_world.specs.contracts.book.Book.{the_view}
use Rattle.loom_world.proofs.InvariantReadings.{not_true, not_false}
use Rattle.loom_world.proofs.CommandReadings.{can_ask, none_while_closing, none_while_asked, none_at_limit}
use Rattle.loom_world.proofs.book.Book.may_ask.Goals as goal

pub returns-in-Some-clause-no : goal.returns-in-Some-clause-no
returns-in-Some-clause-no c h may = none_while_asked (the_view c.self.inside) _ c.self.invariant _ c.in-Some.is (subst MayAsk (sym c.self.view_is) may)

pub returns-then-not-self-clause-yes : goal.returns-then-not-self-clause-yes
returns-then-not-self-clause-yes c h =
    subst MayAsk c.self.view_is
    (can_ask (the_view c.self.inside) _ c.self.invariant c.if-not-self.true c.in-None.is (not_true (c.self.inside.entry_count == c.self.inside.limit) h))

pub returns-then-not-self-clause-no : goal.returns-then-not-self-clause-no
returns-then-not-self-clause-no c h may =
    none_at_limit (the_view c.self.inside) _ c.self.invariant (not_false (c.self.inside.entry_count == c.self.inside.limit) h) (subst MayAsk (sym c.self.view_is) may)

pub returns-else-not-self-clause-no : goal.returns-else-not-self-clause-no
returns-else-not-self-clause-no c h may =
    none_while_closing (the_view c.self.inside) _ c.self.invariant c.if-not-self.false (subst MayAsk (sym c.self.view_is) may)
