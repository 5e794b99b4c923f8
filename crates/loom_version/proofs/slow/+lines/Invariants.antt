use Rattle.std.proofs.Common.{◌≡◌, ◌≤◌}
use Rattle.loom_tree.specs.declared.statement.Stmts.{size-Stmts}
use Rattle.loom_tree.specs.Tree.{body_of}
use Rattle.loom_plan.specs.Statements.{has_line}
use Rattle.loom_version.proofs.slow.+lines.Given as goal

abbrev pub invariant-has_line-walk : goal.invariant-has_line-walk
invariant-has_line-walk l = record {
  within : size-Stmts l.at ≤ size-Stmts l.body;
  rest : has_line (body_of l.at) l.line ≡ has_line (body_of l.body) l.line;
}
