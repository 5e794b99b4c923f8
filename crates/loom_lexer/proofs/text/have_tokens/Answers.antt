use Rattle.loom_lexer.proofs.TokenList.{have_tokens}
use Rattle.loom_lexer.proofs.text.have_tokens.Goals as goal

pub returns : goal.returns
returns c = have_tokens
