use Rattle.std.proofs.Common.{◌≡◌, drop, find, bytes_eq}
use Rattle.loom_lexer.specs.Tokens.{spelling, keyword_of, keywords}
use Rattle.loom_lexer.proofs.token.word.Given as goal

abbrev pub invariant-loop-keyword : goal.invariant-loop-keyword
invariant-loop-keyword l = find (λ word. bytes_eq (spelling word) l.text) (drop l.keyword-index keywords) ≡ keyword_of l.text
