use Rattle.std.proofs.Common.{◌≡◌, ◌≤◌, ◌++◌}
use Rattle.loom_tree.specs.declared.statement.Stmts.{size-Stmts}
use Rattle.loom_tree.specs.Tree.{body_of}
use Rattle.loom_lang.specs.Refusal.{lets_at}
use Rattle.loom_lang.proofs.walk.+gather.Given as goal

abbrev pub invariant-put_lets-walk : goal.invariant-put_lets-walk
invariant-put_lets-walk l = record {
  within : size-Stmts l.at ≤ size-Stmts l.body;
  locals : l.locals.items ++ lets_at (body_of l.at) ≡ l.fn.locals.items ++ lets_at (body_of l.body);
}
