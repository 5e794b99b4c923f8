use Rattle.std.proofs.Common.{◌≡◌, ◌≤◌, drop}
use Rattle.loom_lexer.specs.Tokens.{value_from}
use Rattle.loom_lexer.proofs.token.number.Given as goal

abbrev pub invariant-loop-b : goal.invariant-loop-b
invariant-loop-b l = record {
  same : value_from l.value (drop l.b-index l.digits) ≡ value_from 0 l.digits;
  small : l.value ≤ 9223372036854775807;
}
