use Rattle.std.proofs.Common.{◌≡◌, take, Some}
use Rattle.loom_expression.specs.Reader as m
use Rattle.loom_expression.specs.ExpressionError.{tokens_of}
use Rattle.loom_expression.specs.ReaderView.{reader_of}
use Rattle.loom_expression.proofs.expression.read_expression.Given as goal

abbrev pub invariant-read : goal.invariant-read
invariant-read l = m.feed_all m.plain m.fresh (take l.i (tokens_of l.bytes l.tokens)) ≡ Some (reader_of l.reader)
