-- The tokens of a text.
use Rattle.std.specs.Prelude.{ℕ, ◌-◌, ◌≤◌, ◌<◌, ◌^◌, List, length, take, drop}
use Rattle.loom_tree.specs.declared.expression.Op.{Op}
use Rattle.loom_tree.specs.declared.token.Keyword.{Keyword}
use Rattle.loom_tree.specs.declared.token.Sign.{Sign}
use Rattle.loom_tree.specs.declared.token.TokenKind.{TokenKind}
use Rattle.loom_tree.specs.declared.token.TokenKind.TheVariants as k
use Rattle.loom_tree.specs.declared.token.Token as rust

pub data Token : Type 0 where
  name : List ℕ → Token
  num : ℕ → Token
  word : Keyword → Token
  op : Op → Token
  sign : Sign → Token
  -- what begins no token of the language
  bad : Token

-- a token, and the line on which it begins
pub record LineToken : Type 0 where
  pub token : Token
  pub line : ℕ

-- what a kind stands for, where the token has these bytes
abbrev pub token_by : TokenKind → List ℕ → Token
token_by k.Name text = name text
token_by (k.Number n) text = num n
token_by (k.Keyword w) text = word w
token_by (k.Op o) text = op o
token_by (k.Sign s) text = sign s
token_by k.Bad text = bad

-- the bytes of a token in a text
abbrev pub text_of : List ℕ → rust.Token → List ℕ
text_of bytes t = take (t.end - t.start) (drop t.start bytes)

abbrev pub line_token_of : List ℕ → rust.Token → LineToken
line_token_of bytes t = record { token = token_by t.kind (text_of bytes t); line = t.line }

-- its number, where it is one, is one of the language
abbrev pub IsSmall : TokenKind → Type 0
IsSmall k.Name = Unit {0}
IsSmall (k.Number n) = n < 2 ^ 63
IsSmall (k.Keyword w) = Unit {0}
IsSmall (k.Op o) = Unit {0}
IsSmall (k.Sign s) = Unit {0}
IsSmall k.Bad = Unit {0}

-- its places lie within the text
abbrev pub IsWithin : List ℕ → rust.Token → Type 0
IsWithin bytes t = (t.start ≤ t.end) × (t.end ≤ length bytes)
