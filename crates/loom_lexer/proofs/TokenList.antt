-- The tokens of a text: that there are some, and which they are so far.
use Rattle.std.proofs.Common.{ℕ, zero, suc, ◌+◌, ◌-◌, ◌≡◌, ◌≤◌, ◌<◌, List, [], ◌∷◌, ◌++◌, length, take, drop, map, Option, Some, None, refl, sym, ap, subst, ◌∙◌, arith, length-drop, drop-drop, append_assoc}
use Rattle.std.proofs.lemmas.List.{map-append}
use Rattle.loom_tree.specs.declared.token.TokenKind.{TokenKind}
use Rattle.loom_tree.specs.declared.token.Token as rust
use Rattle.loom_tree.specs.Token.{line_token_of}
use Rattle.loom_lexer.specs.declared.lexeme.LexemeKind.{LexemeKind}
use Rattle.loom_lexer.specs.Lexeme.{Lexeme, IsLexed}
use Rattle.loom_lexer.specs.Scan.{kind_at, len_at}
use Rattle.loom_lexer.specs.Tokens.{kind_of, placed, made, line_ends, tokens_from, AreTokens, OneListOfTokens, HaveTokens}
use Rattle.loom_lexer.proofs.Front.{lexeme, first_of, lexed_front, some_len}
use Rattle.loom_lexer.proofs.Unique.{one_lexing}

-- bytes are lexemes
pub record HasLexemes (bytes : List ℕ) : Type 0 where
  pub lexemes : List Lexeme
  pub lexed : IsLexed lexemes bytes

pub some_lexing : (n : ℕ) (bytes : List ℕ) → length bytes ≤ n → HasLexemes bytes
some_lexing n [] l = record { lexemes = []; lexed = refl }
some_lexing zero (b ∷ bs) l = absurd (omega (arith, l))
some_lexing (suc n) (b ∷ bs) l =
    let some : 0 < length (b ∷ bs) = omega arith in
    let shorter : length (drop (len_at (b ∷ bs)) (b ∷ bs)) ≤ n = omega (arith, l, length-drop (len_at (b ∷ bs)) (b ∷ bs), some_len (b ∷ bs) some) in
    let more = some_lexing n (drop (len_at (b ∷ bs)) (b ∷ bs)) shorter in
    record { lexemes = first_of (b ∷ bs) ∷ more.lexemes; lexed = lexed_front (b ∷ bs) more.lexemes some more.lexed }

pub have_tokens : HaveTokens
have_tokens bytes =
    let l = some_lexing (length bytes) bytes (omega arith) in
    (tokens_from 1 l.lexemes, record { lexemes = l.lexemes; lexed = l.lexed; theirs = refl })

pub one_list_of_tokens : OneListOfTokens
one_list_of_tokens bytes ps qs h i = h.theirs ∙ ap (tokens_from 1) (one_lexing h.lexemes i.lexemes bytes h.lexed i.lexed) ∙ sym i.theirs

-- what is put behind the tokens is what the lexeme is
pub made_placed : (bytes : List ℕ) (kind : Option TokenKind) (start end line : ℕ) → map (line_token_of bytes) (made kind start end line) ≡ placed kind (take (end - start) (drop start bytes)) line
made_placed bytes None start end line = refl
made_placed bytes (Some kind) start end line = refl

-- the tokens so far, and those of the lexemes that are left
abbrev pub SoFar : List ℕ → List rust.Token → ℕ → ℕ → Type 0
SoFar bytes ts line at = (qs : List Lexeme) → IsLexed qs (drop at bytes) → AreTokens bytes (map (line_token_of bytes) ts ++ tokens_from line qs)

pub goes_on : (bytes : List ℕ) (ts : List rust.Token) (line at end : ℕ) (kind : LexemeKind) (text : List ℕ) → at < length bytes → kind ≡ kind_at (drop at bytes) → end ≡ at + len_at (drop at bytes) → text ≡ take (end - at) (drop at bytes)
    → SoFar bytes ts line at → SoFar bytes (ts ++ made (kind_of kind text) at end line) (line + line_ends text) end
goes_on bytes ts line at end kind text l k e t before qs h =
    let rest = drop at bytes in
    let some : 0 < length rest = omega (arith, length-drop at bytes) in
    let there : drop end bytes ≡ drop (len_at rest) rest = ap (λ z. drop z bytes) e ∙ sym (drop-drop (len_at rest) at bytes) in
    let P : List ℕ → Type 0 = λ z. IsLexed qs z in
    let more = lexed_front rest qs some (subst P there h) in
    let size : end - at ≡ len_at rest = omega (arith, e) in
    let same : first_of rest ≡ lexeme kind text =
    ap (λ (z : LexemeKind). lexeme z (take (len_at rest) rest)) (sym k) ∙ ap (λ (z : ℕ). lexeme kind (take z rest)) (sym size) ∙ ap (λ (z : List ℕ). lexeme kind z) (sym t) in
    let Q : Lexeme → Type 0 = λ z. IsLexed (z ∷ qs) rest in
    let whole = before (lexeme kind text ∷ qs) (subst Q same more) in
    let put : map (line_token_of bytes) (made (kind_of kind text) at end line) ≡ placed (kind_of kind text) text line = made_placed bytes (kind_of kind text) at end line ∙ ap (λ (z : List ℕ). placed (kind_of kind text) z line) (sym t) in
    rw (map-append, append_assoc, put) whole
