use Rattle.std.proofs.Common.{◌≡◌, vec_len}
use Rattle.loom_tree.specs.Chain.{before}
use Rattle.loom_tree.specs.Tree.{body_of, end}
use Rattle.loom_tree.proofs.copy.chained.Given as goal

abbrev pub invariant-up : goal.invariant-up
invariant-up l = before l.stmts.items (body_of l.rest) ≡ before l.fn.stmts.items end

abbrev pub decreases-up : goal.decreases-up
decreases-up l = vec_len l.stmts
