use Rattle.std.proofs.Common.{◌≡◌, ◌≤◌, true}
use Rattle.loom_tree.specs.declared.statement.Stmts.{size-Stmts}
use Rattle.loom_tree.specs.Tree.{body_of}
use Rattle.loom_flow.specs.Arguments.{takes_body}
use Rattle.loom_flow.specs.FlatCode.{calls_body, set_of}
use Rattle.loom_flow.proofs.calls.+calls.Given as goal

abbrev pub invariant-with_body-walk : goal.invariant-with_body-walk
invariant-with_body-walk l = record {
  within : size-Stmts l.at ≤ size-Stmts l.body;
  counted : takes_body l.scope.program (body_of l.at) ≡ true;
  all : set_of l.all (calls_body l.scope.program (body_of l.at)) ≡ set_of l.bits (calls_body l.scope.program (body_of l.body));
}
