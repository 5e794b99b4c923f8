-- The expressions that bytes are.
use Rattle.std.specs.Prelude.{ℕ, List, map}
use Rattle.loom_tree.specs.Token.{LineToken}
use Rattle.loom_tree.specs.Tree.{Expression}
use Rattle.loom_lexer.specs.Tokens.{AreTokens}
use Rattle.loom_expression.specs.Text.{IsExpression}

-- The bytes are a text of this expression.
pub record IsExpressionText (bytes : List ℕ) (e : Expression) : Type 0 where
  pub tokens : List LineToken
  pub lexed : AreTokens bytes tokens
  pub is : IsExpression (map (λ (t : LineToken). t.token) tokens) e
