use Rattle.std.proofs.Common.{◌≡◌, ◌≤◌}
use Rattle.loom_tree.specs.declared.statement.Stmts.{size-Stmts}
use Rattle.loom_tree.specs.Chain.{before}
use Rattle.loom_tree.specs.Tree.{body_of}
use Rattle.loom_tree.proofs.+copies.Given as goal

abbrev pub invariant-statement::Stmts::copied-walk : goal.invariant-statement::Stmts::copied-walk
invariant-statement::Stmts::copied-walk l = record {
  within : size-Stmts l.at ≤ size-Stmts l.self;
  copies : before l.copies.items (body_of l.at) ≡ body_of l.self;
}
