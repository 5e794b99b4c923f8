use Rattle.std.proofs.Common.{sym, subst}
use Rattle.loom_world.specs.Idle.{IsClosed}
use Rattle.loom_world.specs.contracts.book.Book.{the_view}
use Rattle.loom_world.proofs.InvariantReadings.{open_if}
use Rattle.loom_world.proofs.book.Book.is_closed.Goals as goal

pub returns-else-self-clause-open : goal.returns-else-self-clause-open
returns-else-self-clause-open c less closed =
    open_if (the_view c.self.inside) _ c.self.invariant c.if-self.false less (subst IsClosed (sym c.self.view_is) closed)
