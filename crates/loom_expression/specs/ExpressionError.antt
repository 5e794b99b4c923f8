-- What it means to read the tokens of an expression.
use Rattle.std.specs.Prelude.{ℕ, ◌+◌, ◌≤◌, ◌<◌, ◌≡◌, length, take, map, Result, Ok, Err, List, ◌++◌}
use Rattle.loom_tree.specs.declared.expression.Expr.{Expr}
use Rattle.loom_tree.specs.declared.token.Token as rust
use Rattle.loom_tree.specs.Tree.{Expression, expression_of}
use Rattle.loom_tree.specs.Token.{Token, token_by, text_of}
use Rattle.loom_expression.specs.declared.expression.ExpressionError.{ExpressionError}
use Rattle.loom_expression.specs.declared.expression.ExpressionError.TheVariants as e
use Rattle.loom_expression.specs.Text.{IsExpression}

-- the tokens of a text with these bytes
abbrev pub token_of : List ℕ → rust.Token → Token
token_of bytes t = token_by t.kind (text_of bytes t)

abbrev pub tokens_of : List ℕ → List rust.Token → List Token
tokens_of bytes ts = map (token_of bytes) ts

-- some expression begins with these tokens
pub record IsViable (ts : List Token) : Type 0 where
  pub more : List Token
  pub tree : Expression
  pub whole : IsExpression (ts ++ more) tree

-- Reading is refused at the first token behind which no expression can follow. The end stands behind the last token.
pub record IsRefusedAt (ts : List Token) (n : ℕ) : Type 0 where
  pub within : n ≤ length ts
  pub before : IsViable (take n ts)
  pub beyond : n < length ts → IsViable (take (n + 1) ts) → ⊥
  pub at_end : n ≡ length ts → (e : Expression) → IsExpression ts e → ⊥

abbrev pub TellsExpression : List Token → Result Expr ExpressionError → Type 0
TellsExpression ts (Ok e) = IsExpression ts (expression_of e)
TellsExpression ts (Err (e.Syntax n)) = IsRefusedAt ts n
TellsExpression ts (Err e.NoMemory) = Unit {0}
