-- What names and numbers are.
use Rattle.std.specs.Prelude.{ℕ, ◌≡◌, ◌≤◌, true, List, [], ◌∷◌, None}
use Rattle.loom_tree.specs.Token.{Token, name, num, word, op, sign, bad}
use Rattle.loom_lexer.specs.Lexeme.{is_letter, is_part, Each}
use Rattle.loom_lexer.specs.Tokens.{keyword_of, largest_number}

-- letters, digits and `_`, of which the first is no digit, and no word of the language
abbrev pub IsName : List ℕ → Type 0
IsName [] = ⊥
IsName (b ∷ bs) = (is_letter b ≡ true) × Each is_part bs × (keyword_of (b ∷ bs) ≡ None)

-- a name is a name of the language, and a number one of its numbers
abbrev pub IsProper : Token → Type 0
IsProper (name x) = IsName x
IsProper (num n) = n ≤ largest_number
IsProper (word w) = Unit {0}
IsProper (op o) = Unit {0}
IsProper (sign s) = Unit {0}
IsProper bad = Unit {0}
