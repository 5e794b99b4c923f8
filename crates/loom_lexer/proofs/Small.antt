-- The numbers of tokens are numbers of the language, and their places lie within the text.
use Rattle.std.proofs.Common.{ℕ, ◌≡◌, ◌≤◌, Bool, true, false, cond, nat_le, List, [], ◌∷◌, length, All, Option, Some, None, bytes_eq, refl, arith, rules}
use Rattle.std.proofs.lemmas.List.Elements.{All-nil, All-cons}
use Rattle.std.proofs.lemmas.Bool.{leb-true}
use Rattle.loom_tree.specs.declared.token.Keyword.{Keyword}
use Rattle.loom_tree.specs.declared.token.TokenKind.{TokenKind}
use Rattle.loom_tree.specs.declared.token.TokenKind.TheVariants as t
use Rattle.loom_tree.specs.declared.token.Token as rust
use Rattle.loom_tree.specs.Token.{IsSmall}
use Rattle.loom_lexer.specs.declared.lexeme.LexemeKind.{LexemeKind}
use Rattle.loom_lexer.specs.declared.lexeme.LexemeKind.TheVariants as k
use Rattle.loom_tree.specs.Token.{IsWithin}
use Rattle.loom_lexer.specs.Tokens.{keyword_of, word_of, value_from, number_of, signs, beside, kind_of, made}

pub word_small : (o : Option Keyword) → IsSmall (word_of o)
word_small None = tt
word_small (Some w) = tt

pub number_small : (v : ℕ) → IsSmall (number_of v)
number_small v = go (nat_le v 9223372036854775807) refl
  where
    go : (b : Bool) → nat_le v 9223372036854775807 ≡ b → IsSmall (cond b (t.Number v) t.Bad)
    go true h = omega (arith, leb-true v 9223372036854775807 h)
    go false h = tt

abbrev pub AreSmall : List (List ℕ × TokenKind) → Type 0
AreSmall [] = Unit {0}
AreSmall (e ∷ es) = IsSmall e.1 × AreSmall es

pub beside_small : (es : List (List ℕ × TokenKind)) (text : List ℕ) → AreSmall es → IsSmall (beside es text)
beside_small [] text h = tt
beside_small (e ∷ es) text h = elim (bytes_eq e.0 text) as (λ b. IsSmall (cond b e.1 (beside es text))) [ true ↦ h.0 | false ↦ beside_small es text h.1 ]

pub signs_small : AreSmall signs
signs_small = search rules

abbrev pub OptionSmall : Option TokenKind → Type 0
OptionSmall None = Unit {0}
OptionSmall (Some kind) = IsSmall kind

pub kind_small : (kind : LexemeKind) (text : List ℕ) → OptionSmall (kind_of kind text)
kind_small k.White text = tt
kind_small k.Comment text = tt
kind_small k.Name text = word_small (keyword_of text)
kind_small k.Number text = number_small (value_from 0 text)
kind_small k.Sign text = beside_small signs text signs_small
kind_small k.Pair text = beside_small signs text signs_small
kind_small k.Bad text = tt

pub made_small : (o : Option TokenKind) (start end line : ℕ) → OptionSmall o → All (λ (t : rust.Token). IsSmall t.kind) (made o start end line)
made_small None start end line h = All-nil (λ (t : rust.Token). IsSmall t.kind)
made_small (Some kind) start end line h = All-cons (λ (t : rust.Token). IsSmall t.kind) _ [] h (All-nil (λ (t : rust.Token). IsSmall t.kind))

pub made_within : (bytes : List ℕ) (o : Option TokenKind) (start end line : ℕ) → start ≤ end → end ≤ length bytes → All (IsWithin bytes) (made o start end line)
made_within bytes None start end line l m = All-nil (IsWithin bytes)
made_within bytes (Some kind) start end line l m = All-cons (IsWithin bytes) _ [] (l, m) (All-nil (IsWithin bytes))
