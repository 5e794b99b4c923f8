-- The tokens of a text, and their lines.
use Rattle.std.specs.Prelude.{ℕ, ◌+◌, ◌-◌, ◌*◌, ◌≡◌, nat_le, nat_eq, List, [], ◌∷◌, ◌++◌, count_by, find, bytes_eq, codes, if◌then◌else◌, Option, Some, None}
use Rattle.loom_tree.specs.declared.expression.Op.TheVariants as o
use Rattle.loom_tree.specs.declared.token.Keyword.{Keyword}
use Rattle.loom_tree.specs.declared.token.Keyword.TheVariants as w
use Rattle.loom_tree.specs.declared.token.Sign.TheVariants as s
use Rattle.loom_tree.specs.declared.token.TokenKind.{TokenKind}
use Rattle.loom_tree.specs.declared.token.TokenKind.TheVariants as t
use Rattle.loom_tree.specs.declared.token.Token as rust
use Rattle.loom_tree.specs.Token.{LineToken, token_by}
use Rattle.loom_lexer.specs.declared.lexeme.LexemeKind.{LexemeKind}
use Rattle.loom_lexer.specs.declared.lexeme.LexemeKind.TheVariants as k
use Rattle.loom_lexer.specs.Lexeme.{Lexeme, IsLexed}

-- how a word is written
abbrev pub spelling : Keyword → List ℕ
spelling w.Shared = codes "shared"
spelling w.Mutex = codes "mutex"
spelling w.Sema = codes "sema"
spelling w.Fn = codes "fn"
spelling w.Let = codes "let"
spelling w.If = codes "if"
spelling w.Else = codes "else"
spelling w.While = codes "while"
spelling w.Return = codes "return"
spelling w.Lock = codes "lock"
spelling w.Unlock = codes "unlock"
spelling w.Down = codes "down"
spelling w.Up = codes "up"
spelling w.Spawn = codes "spawn"
spelling w.Join = codes "join"
spelling w.Print = codes "print"
spelling w.Skip = codes "skip"

abbrev pub keywords : List Keyword
keywords = w.Shared ∷ w.Mutex ∷ w.Sema ∷ w.Fn ∷ w.Let ∷ w.If ∷ w.Else ∷ w.While ∷ w.Return ∷ w.Lock ∷ w.Unlock ∷ w.Down ∷ w.Up ∷ w.Spawn ∷ w.Join ∷ w.Print ∷ w.Skip ∷ []

-- a keyword, or a name
abbrev pub word_of : Option Keyword → TokenKind
word_of (Some word) = t.Keyword word
word_of None = t.Name

abbrev pub keyword_of : List ℕ → Option Keyword
keyword_of text = find (λ word. bytes_eq (spelling word) text) keywords

-- the value of decimal digits behind those that have the value v
abbrev pub value_from : ℕ → List ℕ → ℕ
value_from v [] = v
value_from v (d ∷ ds) = value_from (10 * v + (d - 48)) ds

abbrev pub largest_number : ℕ
largest_number = 9223372036854775807

-- a number, or nothing where it is too large
abbrev pub number_of : ℕ → TokenKind
number_of v = if nat_le v largest_number then t.Number v else t.Bad

abbrev pub signs : List (List ℕ × TokenKind)
signs =
    (codes "(", t.Sign s.ParenOpen) ∷ (codes ")", t.Sign s.ParenClose) ∷
    (codes "{", t.Sign s.BraceOpen) ∷ (codes "}", t.Sign s.BraceClose) ∷
    (codes "[", t.Sign s.BracketOpen) ∷ (codes "]", t.Sign s.BracketClose) ∷
    (codes ",", t.Sign s.Comma) ∷ (codes ";", t.Sign s.Semicolon) ∷
    (codes "=", t.Sign s.Assign) ∷ (codes "!", t.Sign s.Bang) ∷
    (codes "||", t.Op o.Or) ∷ (codes "&&", t.Op o.And) ∷
    (codes "==", t.Op o.Eq) ∷ (codes "!=", t.Op o.Ne) ∷
    (codes "<", t.Op o.Lt) ∷ (codes "<=", t.Op o.Le) ∷
    (codes ">", t.Op o.Gt) ∷ (codes ">=", t.Op o.Ge) ∷
    (codes "+", t.Op o.Add) ∷ (codes "-", t.Op o.Sub) ∷
    (codes "*", t.Op o.Mul) ∷ (codes "/", t.Op o.Div) ∷
    (codes "%", t.Op o.Rem) ∷ []

-- what stands beside a text in a table
abbrev pub beside : List (List ℕ × TokenKind) → List ℕ → TokenKind
beside [] text = t.Bad
beside (e ∷ es) text = if bytes_eq e.0 text then e.1 else beside es text

-- what a lexeme is as a token: white space and comments are none
abbrev pub kind_of : LexemeKind → List ℕ → Option TokenKind
kind_of k.White text = None
kind_of k.Comment text = None
kind_of k.Name text = Some (word_of (keyword_of text))
kind_of k.Number text = Some (number_of (value_from 0 text))
kind_of k.Sign text = Some (beside signs text)
kind_of k.Pair text = Some (beside signs text)
kind_of k.Bad text = Some t.Bad

abbrev pub placed : Option TokenKind → List ℕ → ℕ → List LineToken
placed None text line = []
placed (Some kind) text line = (record { token = token_by kind text; line = line }) ∷ []

-- what is put behind the tokens so far
abbrev pub made : Option TokenKind → ℕ → ℕ → ℕ → List rust.Token
made None start end line = []
made (Some kind) start end line = (record { kind = kind; start = start; end = end; line = line }) ∷ []

-- how many bytes are LF
abbrev pub line_ends : List ℕ → ℕ
line_ends bytes = count_by (λ b. nat_eq b 10) bytes

-- the tokens of lexemes of which the first stands on this line
abbrev pub tokens_from : ℕ → List Lexeme → List LineToken
tokens_from line [] = []
tokens_from line (p ∷ ps) = placed (kind_of p.kind p.text) p.text line ++ tokens_from (line + line_ends p.text) ps

-- the bytes have these tokens
pub record AreTokens (bytes : List ℕ) (tokens : List LineToken) : Type 0 where
  pub lexemes : List Lexeme
  pub lexed : IsLexed lexemes bytes
  pub theirs : tokens ≡ tokens_from 1 lexemes

-- the line on which the text ends
abbrev pub last_line : List ℕ → ℕ
last_line bytes = 1 + line_ends bytes

-- the same bytes have one list of tokens
abbrev pub OneListOfTokens : Type 0
OneListOfTokens = (bytes : List ℕ) (ps qs : List LineToken) → AreTokens bytes ps → AreTokens bytes qs → ps ≡ qs

-- all bytes have tokens
abbrev pub HaveTokens : Type 0
HaveTokens = (bytes : List ℕ) → (ps : List LineToken) × AreTokens bytes ps
