use Rattle.std.proofs.Common.{◌≡◌, map}
use Rattle.loom_tree.specs.Token.{line_token_of}
use Rattle.loom_tree.specs.Tree.{expression_of}
use Rattle.loom_lexer.specs.Tokens.{AreTokens}
use Rattle.loom_expression.specs.Text.{IsExpression}
use Rattle.loom_expression.specs.ExpressionError.{tokens_of, IsRefusedAt}
use Rattle.loom_lang.proofs.ExpressionTexts.{text_of_tokens, no_text_of_tokens}
use Rattle.loom_lang.proofs.expression.parse_expr.Goals as goal

pub returns-in-Ok-clause-expression : goal.returns-in-Ok-clause-expression
returns-in-Ok-clause-expression c =
    let same : c.in_ok-tokens.tokens ≡ c.deref.result.now = cc in
    let lexed : AreTokens c.args.bytes.now (map (line_token_of c.args.bytes.now) c.deref.result.now) = rw (← same) c.in_ok-tokens.ensures.tokens in
    text_of_tokens c.args.bytes.now c.deref.result.now _ lexed c.in-Ok.ensures

pub returns-in-Err-Syntax-clause-refused : goal.returns-in-Err-Syntax-clause-refused
returns-in-Err-Syntax-clause-refused c =
    let same : c.in_ok-tokens.tokens ≡ c.deref.result.now = cc in
    let lexed : AreTokens c.args.bytes.now (map (line_token_of c.args.bytes.now) c.deref.result.now) = rw (← same) c.in_ok-tokens.ensures.tokens in
    let refused : IsRefusedAt (tokens_of c.args.bytes.now c.deref.result.now) c.in-Err-Syntax.field-0-0 = rw c.in-Err-Syntax.field-0-is at c.in-Err-Syntax.ensures in
    λ is e h. no_text_of_tokens c.args.bytes.now c.deref.result.now c.in-Err-Syntax.field-0-0 lexed refused e h
