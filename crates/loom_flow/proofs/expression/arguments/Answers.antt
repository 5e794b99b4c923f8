use Rattle.std.proofs.Common.{◌∙◌}
use Rattle.loom_lang.proofs.Faults.{drop_at}
use Rattle.loom_flow.proofs.Counts.{knows_argument}
use Rattle.loom_flow.proofs.Sizes.{arguments_step}
use Rattle.loom_flow.proofs.expression.arguments.Goals as goal

pub expression-requires : goal.expression-requires
expression-requires c = (knows_argument c.args.scope.now.program c.args.scope.now.locals c.e-item.result _ _ (drop_at _ _ c.e-item.result c.put-test.true c.e-item.is) c.put.invariant.known).0

pub put-preserved : goal.put-preserved
put-preserved c = record {
  known = (knows_argument c.args.scope.now.program c.args.scope.now.locals c.e-item.result _ _ (drop_at _ _ c.e-item.result c.put-test.true c.e-item.is) c.put.invariant.known).1;
  code =
      arguments_step c.args.scope.now.program c.args.scope.now.locals c.args.spot.line c.args.spot.place _ _ _ _ _ (drop_at _ _ c.e-item.result c.put-test.true c.e-item.is) c.in_ok-expression.ensures
      ∙ c.put.invariant.code;
}
