use Rattle.std.proofs.Common.{length, ◌-◌, ◌≤◌, ◌+◌, All}
use Rattle.loom_tree.specs.Token.{IsSmall}
use Rattle.loom_tree.specs.Token.{IsWithin}
use Rattle.loom_lexer.proofs.TokenList.{SoFar}
use Rattle.loom_lexer.proofs.text.tokenize.Given as goal

abbrev pub invariant-all : goal.invariant-all
invariant-all l = record {
  at_most : l.at ≤ length l.bytes;
  lines : l.line ≤ l.at + 1;
  tokens : SoFar l.bytes l.tokens.items l.line l.at;
  small : All (λ t. IsSmall t.kind) l.tokens.items;
  within : All (IsWithin l.bytes) l.tokens.items;
}

abbrev pub decreases-all : goal.decreases-all
decreases-all l = length l.bytes - l.at
