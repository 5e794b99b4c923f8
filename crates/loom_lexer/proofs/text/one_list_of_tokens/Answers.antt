use Rattle.loom_lexer.proofs.TokenList.{one_list_of_tokens}
use Rattle.loom_lexer.proofs.text.one_list_of_tokens.Goals as goal

pub returns : goal.returns
returns c = one_list_of_tokens
