use Rattle.std.proofs.Common.{sym}
use Rattle.loom_flow.proofs.EachStep.{word_behind}
use Rattle.loom_flow.proofs.expression.+expressions.Goals as goal

pub expression-word-requires : goal.expression-word-requires
expression-word-requires t c = word_behind c.args.scope.now.program c.args.scope.now.locals c.in-Var.x (sym c.in-None.ensures) (rw c.in-Var.is at c.requires)
