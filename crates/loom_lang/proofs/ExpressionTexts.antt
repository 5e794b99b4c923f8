-- Bytes are a text of an expression where their tokens are one, and nowhere else.
use Rattle.std.proofs.Common.{ℕ, ◌+◌, ◌<◌, ◌≤◌, ◌≡◌, List, [], ◌∷◌, ◌++◌, length, map, take, drop, take-append-drop, ap, sym, refl, subst, arith}
use Rattle.loom_tree.specs.declared.token.Token as rust
use Rattle.loom_tree.specs.Tree.{Expression}
use Rattle.loom_tree.specs.Token.{Token, LineToken, line_token_of}
use Rattle.loom_lexer.specs.Tokens.{AreTokens}
use Rattle.loom_lexer.proofs.TokenList.{one_list_of_tokens}
use Rattle.loom_expression.specs.Text.{IsExpression}
use Rattle.loom_expression.specs.ExpressionError.{tokens_of, IsRefusedAt}
use Rattle.loom_lang.specs.Expression.{IsExpressionText}

-- the tokens of a text, without their lines
without_lines : (bytes : List ℕ) (ts : List rust.Token) → map (λ (t : LineToken). t.token) (map (line_token_of bytes) ts) ≡ tokens_of bytes ts
without_lines bytes [] = refl
without_lines bytes (t ∷ ts) = ap (λ z. (line_token_of bytes t).token ∷ z) (without_lines bytes ts)

pub text_of_tokens : (bytes : List ℕ) (ts : List rust.Token) (e : Expression) → AreTokens bytes (map (line_token_of bytes) ts) → IsExpression (tokens_of bytes ts) e
    → IsExpressionText bytes e
text_of_tokens bytes ts e l h = record { tokens = map (line_token_of bytes) ts; lexed = l; is = subst (λ z. IsExpression z e) (sym (without_lines bytes ts)) h }

tokens_of_text : (bytes : List ℕ) (ts : List rust.Token) (e : Expression) → AreTokens bytes (map (line_token_of bytes) ts) → IsExpressionText bytes e
    → IsExpression (tokens_of bytes ts) e
tokens_of_text bytes ts e l h =
    subst (λ z. IsExpression z e) (without_lines bytes ts)
    (subst (λ (z : List LineToken). IsExpression (map (λ (t : LineToken). t.token) z) e) (one_list_of_tokens bytes h.tokens (map (line_token_of bytes) ts) h.lexed l) h.is)

no_expression : (ts : List Token) (n : ℕ) (e : Expression) → IsRefusedAt ts n → IsExpression ts e → ⊥
no_expression ts n e r h =
    let not_before : n < length ts → ⊥ = λ g. r.beyond g (record { more = drop (n + 1) ts; tree = e; whole = subst (λ z. IsExpression z e) (sym (take-append-drop (n + 1) ts)) h }) in
    let within : n ≤ length ts = r.within in
    r.at_end (omega arith) e h

-- Where reading the tokens is refused the bytes are no expression.
pub no_text_of_tokens : (bytes : List ℕ) (ts : List rust.Token) (n : ℕ) → AreTokens bytes (map (line_token_of bytes) ts) → IsRefusedAt (tokens_of bytes ts) n
    → (e : Expression) → IsExpressionText bytes e → ⊥
no_text_of_tokens bytes ts n l r e h = no_expression (tokens_of bytes ts) n e r (tokens_of_text bytes ts e l h)
