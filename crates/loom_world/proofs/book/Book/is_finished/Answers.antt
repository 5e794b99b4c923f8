use Rattle.std.proofs.Common.{sym, subst}
use Rattle.loom_world.specs.Idle.{HasFinish}
use Rattle.loom_world.specs.contracts.book.Book.{the_view}
use Rattle.loom_world.proofs.InvariantReadings.{not_written}
use Rattle.loom_world.proofs.book.Book.is_finished.Goals as goal

pub returns-clause-unfinished : goal.returns-clause-unfinished
returns-clause-unfinished c h written = not_written (the_view c.self.inside) _ c.self.invariant h (subst HasFinish (sym c.self.view_is) written)
