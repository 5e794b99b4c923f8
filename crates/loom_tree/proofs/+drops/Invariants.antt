use Rattle.std.proofs.Common.{◌≤◌}
use Rattle.loom_tree.specs.declared.statement.Stmts.{size-Stmts}
use Rattle.loom_tree.proofs.+drops.Given as goal

abbrev pub invariant-statement::Stmts::drop-loop-self : goal.invariant-statement::Stmts::drop-loop-self
invariant-statement::Stmts::drop-loop-self l = size-Stmts l.self ≤ size-Stmts l.fn.self
