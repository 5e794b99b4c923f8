use Rattle.std.proofs.Common.{◌≡◌, ◌≤◌, ◌++◌}
use Rattle.loom_tree.specs.declared.statement.Stmts.{size-Stmts}
use Rattle.loom_tree.specs.Tree.{body_of}
use Rattle.loom_lang.specs.Rules.{statement_lines}
use Rattle.loom_lang.proofs.walk.+lines.Given as goal

abbrev pub invariant-put_lines-walk : goal.invariant-put_lines-walk
invariant-put_lines-walk l = record {
  within : size-Stmts l.at ≤ size-Stmts l.body;
  lines : l.found.items ++ statement_lines (body_of l.at) ≡ l.fn.found.items ++ statement_lines (body_of l.body);
}
