use Rattle.std.proofs.Common.{◌≡◌, false, get_or, bytes_eq, ◌∙◌}
use Rattle.loom_tree.specs.declared.token.Keyword.TheVariants as w
use Rattle.loom_lexer.specs.Tokens.{spelling, keywords}
use Rattle.loom_lexer.proofs.Words.{find_past}
use Rattle.loom_lexer.proofs.token.word.Goals as goal

pub loop-keyword-preserved : goal.loop-keyword-preserved
loop-keyword-preserved c =
    let written : c.spelling.result.now ≡ spelling (get_or keywords c.loop-keyword.keyword-index w.Shared) = c.spelling.ensures in
    let other : bytes_eq (spelling (get_or keywords c.loop-keyword.keyword-index w.Shared)) c.args.text.now ≡ false = cc in
    find_past (λ word. bytes_eq (spelling word) c.args.text.now) keywords c.loop-keyword.keyword-index w.Shared c.loop-keyword-test.true other ∙ c.loop-keyword.invariant
