-- The names and numbers among the tokens of a text are names and numbers of the language.
use Rattle.std.proofs.Common.{ℕ, ◌+◌, ◌≡◌, Bool, true, false, cond, nat_le, nat_eq, if◌then◌else◌, List, [], ◌∷◌, ◌++◌, Option, Some, None, bytes_eq, refl, subst, sym, rules}
use Rattle.std.specs.List.{AllByRecursion}
use Rattle.std.proofs.lemmas.Bool.{leb-true}
use Rattle.loom_tree.specs.declared.token.Keyword.{Keyword}
use Rattle.loom_tree.specs.declared.token.TokenKind.{TokenKind}
use Rattle.loom_tree.specs.declared.token.TokenKind.TheVariants as t
use Rattle.loom_tree.specs.Token.{LineToken, token_by}
use Rattle.loom_lexer.specs.declared.lexeme.Class.TheVariants as c
use Rattle.loom_lexer.specs.declared.lexeme.LexemeKind.{LexemeKind}
use Rattle.loom_lexer.specs.declared.lexeme.LexemeKind.TheVariants as k
use Rattle.loom_lexer.specs.Lexeme.{is_letter, is_digit, is_white, is_single, is_comparison, is_part, class_of, Each, Spells, Lexeme, IsLexed}
use Rattle.loom_lexer.specs.Tokens.{keyword_of, word_of, value_from, largest_number, number_of, signs, beside, kind_of, placed, line_ends, tokens_from, AreTokens}
use Rattle.loom_lexer.specs.Name.{IsProper}

-- a byte of the class of letters is one
letter_told : (b : ℕ) → class_of b ≡ c.Letter → is_letter b ≡ true
letter_told b h = go (is_letter b) (is_digit b) (is_white b) (is_single b) (is_comparison b) (nat_eq b 38) (nat_eq b 124) (nat_eq b 47) h
  where
    go : (l d w s e a v h : Bool) → (if l then c.Letter else (if d then c.Digit else (if w then c.White else (if s then c.Single else (if e then c.Comparison else (if a then c.Ampersand else (if v then c.Bar else (if h then c.Slash else c.Other)))))))) ≡ c.Letter → l ≡ true
    go true d w s e a v h is = refl
    go false true w s e a v h is = cc
    go false false true s e a v h is = cc
    go false false false true e a v h is = cc
    go false false false false true a v h is = cc
    go false false false false false true v h is = cc
    go false false false false false false true h is = cc
    go false false false false false false false true is = cc
    go false false false false false false false false is = cc

word_proper : (o : Option Keyword) (b : ℕ) (bs : List ℕ) → keyword_of (b ∷ bs) ≡ o → is_letter b ≡ true → Each is_part bs → IsProper (token_by (word_of o) (b ∷ bs))
word_proper (Some w) b bs is l h = tt
word_proper None b bs is l h = (l, h, is)

number_proper : (v : ℕ) (text : List ℕ) → IsProper (token_by (number_of v) text)
number_proper v text = go (nat_le v largest_number) refl
  where
    go : (b : Bool) → nat_le v largest_number ≡ b → IsProper (token_by (cond b (t.Number v) t.Bad) text)
    go true h = leb-true v largest_number h
    go false h = tt

-- what is neither a name nor a number

abbrev IsPlain : TokenKind → Type 0
IsPlain t.Name = ⊥
IsPlain (t.Number n) = ⊥
IsPlain (t.Keyword w) = Unit {0}
IsPlain (t.Op o) = Unit {0}
IsPlain (t.Sign s) = Unit {0}
IsPlain t.Bad = Unit {0}

plain_proper : (kind : TokenKind) (text : List ℕ) → IsPlain kind → IsProper (token_by kind text)
plain_proper t.Name text h = absurd h
plain_proper (t.Number n) text h = absurd h
plain_proper (t.Keyword w) text h = tt
plain_proper (t.Op o) text h = tt
plain_proper (t.Sign s) text h = tt
plain_proper t.Bad text h = tt

abbrev ArePlain : List (List ℕ × TokenKind) → Type 0
ArePlain [] = Unit {0}
ArePlain (e ∷ es) = IsPlain e.1 × ArePlain es

beside_plain : (es : List (List ℕ × TokenKind)) (text : List ℕ) → ArePlain es → IsPlain (beside es text)
beside_plain [] text h = tt
beside_plain (e ∷ es) text h = elim (bytes_eq e.0 text) as (λ b. IsPlain (cond b e.1 (beside es text))) [ true ↦ h.0 | false ↦ beside_plain es text h.1 ]

signs_plain : ArePlain signs
signs_plain = search rules

sign_proper : (text : List ℕ) → IsProper (token_by (beside signs text) text)
sign_proper text = plain_proper (beside signs text) text (beside_plain signs text signs_plain)

abbrev pub AreProper : List LineToken → Type 0
AreProper ps = AllByRecursion (λ (p : LineToken). IsProper p.token) ps

-- the token of a lexeme, before others
one_proper : (kind : LexemeKind) (text rest : List ℕ) (line : ℕ) (ps : List LineToken) → Spells kind text rest → AreProper ps → AreProper (placed (kind_of kind text) text line ++ ps)
one_proper kind [] rest line ps h all = absurd h
one_proper k.White (b ∷ bs) rest line ps h all = all
one_proper k.Comment (b ∷ bs) rest line ps h all = all
one_proper k.Name (b ∷ bs) rest line ps h all = (word_proper (keyword_of (b ∷ bs)) b bs refl (letter_told b h.0) h.1, all)
one_proper k.Number (b ∷ bs) rest line ps h all = (number_proper (value_from 0 (b ∷ bs)) (b ∷ bs), all)
one_proper k.Sign (b ∷ bs) rest line ps h all = (sign_proper (b ∷ bs), all)
one_proper k.Pair (b ∷ bs) rest line ps h all = (sign_proper (b ∷ bs), all)
one_proper k.Bad (b ∷ bs) rest line ps h all = (tt, all)

all_proper : (ls : List Lexeme) (bytes : List ℕ) (line : ℕ) → IsLexed ls bytes → AreProper (tokens_from line ls)
all_proper [] bytes line h = tt
all_proper (p ∷ ps) bytes line h = one_proper p.kind p.text h.0 line (tokens_from (line + line_ends p.text) ps) h.2 (all_proper ps h.0 (line + line_ends p.text) h.3)

pub tokens_proper : (bytes : List ℕ) (ps : List LineToken) → AreTokens bytes ps → AreProper ps
tokens_proper bytes ps h = subst AreProper (sym h.theirs) (all_proper h.lexemes bytes 1 h.lexed)
