use Rattle.std.proofs.Common.{◌≡◌, vec_len}
use Rattle.loom_tree.specs.Tree.{expression_of}
use Rattle.loom_expression.specs.ReaderView.{size_of, stack_of}
use Rattle.loom_expression.specs.Reader as m
use Rattle.loom_expression.proofs.reader.have.Given as goal

abbrev pub invariant-down : goal.invariant-down
invariant-down l = m.have m.plain (expression_of l.fn.operand.value) (size_of l.fn.operand.size) (stack_of l.fn.operand.prefixes.items) ≡ m.have m.plain (expression_of l.value) (size_of l.size) (stack_of l.prefixes.items)

abbrev pub decreases-down : goal.decreases-down
decreases-down l = vec_len l.prefixes
