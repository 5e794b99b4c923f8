use Rattle.std.proofs.Common.{◌≡◌, vec_len}
use Rattle.loom_tree.specs.Tree.{Body, body_of}
use Rattle.loom_syntax.specs.BlockView.{statements_of}
use Rattle.loom_syntax.proofs.Blocks.{before}
use Rattle.loom_syntax.proofs.block.close.Given as goal

abbrev pub invariant-up : goal.invariant-up
invariant-up l = before (statements_of l.fn.stmts.items) Body.end ≡ before (statements_of l.stmts.items) (body_of l.rest)

abbrev pub decreases-up : goal.decreases-up
decreases-up l = vec_len l.stmts
