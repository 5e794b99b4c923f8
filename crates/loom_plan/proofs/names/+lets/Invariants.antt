use Rattle.std.proofs.Common.{◌≡◌, ◌≤◌}
use Rattle.loom_tree.specs.declared.statement.Stmts.{size-Stmts}
use Rattle.loom_tree.specs.Tree.{body_of}
use Rattle.loom_lang.specs.Rules.{is_in, lets}
use Rattle.loom_plan.proofs.names.+lets.Given as goal

abbrev pub invariant-is_let-walk : goal.invariant-is_let-walk
invariant-is_let-walk l = record {
  within : size-Stmts l.at ≤ size-Stmts l.body;
  rest : is_in l.x (lets (body_of l.at)) ≡ is_in l.x (lets (body_of l.body));
}
