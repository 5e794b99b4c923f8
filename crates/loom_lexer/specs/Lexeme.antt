-- The lexemes of a text: at each place the longest. White space and comments are lexemes too, and no tokens.
use Rattle.std.specs.Prelude.{ℕ, ◌≡◌, Bool, true, false, not, ◌||◌, ◌&&◌, nat_le, nat_eq, List, [], ◌∷◌, ◌++◌, if◌then◌else◌, codes}
use Rattle.std.specs.List.{list_any}
use Rattle.loom_lexer.specs.declared.lexeme.Class.{Class}
use Rattle.loom_lexer.specs.declared.lexeme.Class.TheVariants as c
use Rattle.loom_lexer.specs.declared.lexeme.LexemeKind.{LexemeKind}
use Rattle.loom_lexer.specs.declared.lexeme.LexemeKind.TheVariants as k

-- the byte is x
abbrev pub is : ℕ → ℕ → Bool
is x b = nat_eq b x

-- the byte is one of the text's
abbrev pub is_among : List ℕ → ℕ → Bool
is_among text b = list_any (λ x. nat_eq x b) text

-- a to z, A to Z and `_`
abbrev pub is_letter : ℕ → Bool
is_letter b = (nat_le 97 b && nat_le b 122) || (nat_le 65 b && nat_le b 90) || nat_eq b 95

-- 0 to 9
abbrev pub is_digit : ℕ → Bool
is_digit b = nat_le 48 b && nat_le b 57

-- what may stand in a name behind its first byte
abbrev pub is_part : ℕ → Bool
is_part b = is_letter b || is_digit b

-- space, tab, CR and LF
abbrev pub is_white : ℕ → Bool
is_white b = is_among (32 ∷ 9 ∷ 13 ∷ 10 ∷ []) b

-- all but LF
abbrev pub is_inside_comment : ℕ → Bool
is_inside_comment b = not (nat_eq b 10)

-- a sign with which no longer one begins
abbrev pub is_single : ℕ → Bool
is_single b = is_among (codes "(){}[],;+-*%") b

-- a sign by itself, and one more with `=` behind it
abbrev pub is_comparison : ℕ → Bool
is_comparison b = is_among (codes "=!<>") b

-- a byte by what may begin with it
-- (38 is `&`, 124 is `|`, 47 is `/`)
abbrev pub class_of : ℕ → Class
class_of b =
    if is_letter b then c.Letter else
    (if is_digit b then c.Digit else
    (if is_white b then c.White else
    (if is_single b then c.Single else
    (if is_comparison b then c.Comparison else
    (if nat_eq b 38 then c.Ampersand else
    (if nat_eq b 124 then c.Bar else
    (if nat_eq b 47 then c.Slash else c.Other)))))))

-- each byte meets the test
abbrev pub Each : (ℕ → Bool) → List ℕ → Type 0
Each p [] = Unit {0}
Each p (b ∷ bs) = (p b ≡ true) × Each p bs

-- the text doesn't begin with a byte that meets the test
abbrev pub BeginsWithout : (ℕ → Bool) → List ℕ → Type 0
BeginsWithout p [] = Unit {0}
BeginsWithout p (b ∷ bs) = p b ≡ false

-- A byte of this class is a sign by itself, where this is behind it: no longer sign and no comment begins there.
-- (61 is `=`)
abbrev pub IsSign : Class → List ℕ → Type 0
IsSign c.Single rest = Unit {0}
IsSign c.Comparison rest = BeginsWithout (is 61) rest
IsSign c.Slash rest = BeginsWithout (is 47) rest
IsSign _ rest = ⊥

-- a byte of this class and these bytes behind it are a sign: `==`, `!=`, `<=`, `>=`, `&&` or `||`
abbrev pub IsPair : Class → List ℕ → Type 0
IsPair c.Comparison bs = bs ≡ 61 ∷ []
IsPair c.Ampersand bs = bs ≡ 38 ∷ []
IsPair c.Bar bs = bs ≡ 124 ∷ []
IsPair _ bs = ⊥

-- a byte of this class begins nothing, where this is behind it
abbrev pub IsBad : Class → List ℕ → Type 0
IsBad c.Ampersand rest = BeginsWithout (is 38) rest
IsBad c.Bar rest = BeginsWithout (is 124) rest
IsBad c.Other rest = Unit {0}
IsBad _ rest = ⊥

-- `//`, and what is behind it on its line
abbrev pub IsComment : Class → List ℕ → Type 0
IsComment c.Slash bs = (inside : List ℕ) × (bs ≡ 47 ∷ inside) × Each is_inside_comment inside
IsComment _ bs = ⊥

-- these bytes are a lexeme of the kind, and it can't go on in the rest
abbrev pub Spells : LexemeKind → List ℕ → List ℕ → Type 0
Spells kind [] rest = ⊥
Spells k.White (b ∷ bs) rest = (class_of b ≡ c.White) × (bs ≡ [])
Spells k.Comment (b ∷ bs) rest = IsComment (class_of b) bs × BeginsWithout is_inside_comment rest
Spells k.Name (b ∷ bs) rest = (class_of b ≡ c.Letter) × Each is_part bs × BeginsWithout is_part rest
Spells k.Number (b ∷ bs) rest = (class_of b ≡ c.Digit) × Each is_digit bs × BeginsWithout is_digit rest
Spells k.Sign (b ∷ bs) rest = (bs ≡ []) × IsSign (class_of b) rest
Spells k.Pair (b ∷ bs) rest = IsPair (class_of b) bs
Spells k.Bad (b ∷ bs) rest = (bs ≡ []) × IsBad (class_of b) rest

pub record Lexeme : Type 0 where
  pub kind : LexemeKind
  pub text : List ℕ

-- the bytes are these lexemes, one behind the other
abbrev pub IsLexed : List Lexeme → List ℕ → Type 0
IsLexed [] bytes = bytes ≡ []
IsLexed (p ∷ ps) bytes = (rest : List ℕ) × (bytes ≡ p.text ++ rest) × Spells p.kind p.text rest × IsLexed ps rest
