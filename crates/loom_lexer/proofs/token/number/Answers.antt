use Rattle.std.proofs.Common.{arith}
use Rattle.loom_lexer.proofs.Words.{too_large_at}
use Rattle.loom_lexer.proofs.token.number.Goals as goal

pub returns-then-value-digit : goal.returns-then-value-digit
returns-then-value-digit c = too_large_at c.args.digits.now c.loop-b.value c.loop-b.b-index c.loop-b-test.true c.loop-b.invariant.same (omega (arith, c.saturating_sub-digit.ensures, c.if-value-digit.true))
