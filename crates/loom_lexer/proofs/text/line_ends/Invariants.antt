use Rattle.std.proofs.Common.{◌≡◌, ◌≤◌, take}
use Rattle.loom_lexer.specs.Tokens.{line_ends}
use Rattle.loom_lexer.proofs.text.line_ends.Given as goal

abbrev pub invariant-loop-b : goal.invariant-loop-b
invariant-loop-b l = record {
  same : l.ends ≡ line_ends (take l.b-index l.bytes);
  within : l.ends ≤ l.b-index;
}
