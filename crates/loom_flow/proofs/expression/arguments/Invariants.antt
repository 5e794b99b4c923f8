use Rattle.std.proofs.Common.{◌≡◌, ◌++◌, true, drop}
use Rattle.loom_tree.specs.Tree.{expressions_of}
use Rattle.loom_lang.specs.Rules.{knows_all}
use Rattle.loom_flow.specs.FlatCode.{instrs, argument_steps}
use Rattle.loom_flow.proofs.expression.arguments.Given as goal

abbrev pub invariant-put : goal.invariant-put
invariant-put l = record {
  known : knows_all l.scope.program l.scope.locals (expressions_of (drop l.e-index l.e-items)) ≡ true;
  code :
      l.code.items ++ instrs l.spot.line l.spot.place (argument_steps l.scope.program l.scope.locals (expressions_of (drop l.e-index l.e-items)))
      ≡ l.fn.code.items ++ instrs l.spot.line l.spot.place (argument_steps l.scope.program l.scope.locals (expressions_of l.es));
}
