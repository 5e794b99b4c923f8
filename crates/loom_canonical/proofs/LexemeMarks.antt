-- What stands at the front of a text is a lexeme, and its token fits a mark.
use Rattle.std.proofs.Common.{ℕ, zero, suc, ◌+◌, ◌≡◌, ◌≤◌, Bool, true, false, ◌&&◌, ◌||◌, nat_eq, List, [], ◌∷◌, ◌++◌, Option, Some, refl, sym, ap, subst, ◌∙◌, arith, codes}
use Rattle.std.proofs.lemmas.Bool.{le-leb}
use Rattle.loom_tree.specs.declared.expression.Op.{Op}
use Rattle.loom_tree.specs.declared.expression.Op.TheVariants as o
use Rattle.loom_tree.specs.declared.token.Keyword.{Keyword}
use Rattle.loom_tree.specs.declared.token.Keyword.TheVariants as w
use Rattle.loom_tree.specs.declared.token.TokenKind.{TokenKind}
use Rattle.loom_tree.specs.declared.token.TokenKind.TheVariants as t
use Rattle.loom_tree.specs.Token.{Token, token_by}
use Rattle.loom_tree.specs.Decimal.{decimal}
use Rattle.loom_lexer.specs.declared.lexeme.Class.{Class}
use Rattle.loom_lexer.specs.declared.lexeme.Class.TheVariants as c
use Rattle.loom_lexer.specs.declared.lexeme.LexemeKind.{LexemeKind}
use Rattle.loom_lexer.specs.declared.lexeme.LexemeKind.TheVariants as k
use Rattle.loom_lexer.specs.Lexeme.{is, is_letter, is_digit, is_part, class_of, Each, BeginsWithout, IsSign, Spells, Lexeme, IsLexed}
use Rattle.loom_lexer.specs.Tokens.{spelling, keyword_of, word_of, value_from, largest_number, number_of, signs, beside, kind_of, placed, line_ends, tokens_from}
use Rattle.loom_lexer.specs.Name.{IsName}
use Rattle.loom_lexer.proofs.Front.{lexeme}
use Rattle.loom_syntax.specs.File.{Mark, on, FitsMark, FitMarks}
use Rattle.loom_lang.specs.Canonical.{operator, indented}
use Rattle.loom_canonical.proofs.Digits.{AreDigits, value_decimal, decimal_digits}

-- The bytes, which begin on this line, have tokens that fit the marks.
pub record HasMarks (line : ℕ) (ms : List Mark) (bytes : List ℕ) : Type 0 where
  pub lexemes : List Lexeme
  pub lexed : IsLexed lexemes bytes
  pub fits : FitMarks ms (tokens_from line lexemes)

pub no_marks : (line : ℕ) → HasMarks line [] []
no_marks line = record { lexemes = []; lexed = refl; fits = tt }

-- one token more at the front
pub lexeme_marks : (kind : LexemeKind) (text rest : List ℕ) (t : TokenKind) (line : ℕ) (m : Mark) (ms : List Mark) → Spells kind text rest → kind_of kind text ≡ Some t → line_ends text ≡ 0
    → FitsMark m (record { token = token_by t text; line = line }) → HasMarks line ms rest → HasMarks line (m ∷ ms) (text ++ rest)
lexeme_marks kind text rest t line m ms s k e f r =
    let same : line ≡ line + line_ends text = omega (arith, e) in
    let P : ℕ → Type 0 = λ n. FitMarks ms (tokens_from n r.lexemes) in
    let Q : Option TokenKind → Type 0 = λ z. FitMarks (m ∷ ms) (placed z text line ++ tokens_from (line + line_ends text) r.lexemes) in
    record { lexemes = lexeme kind text ∷ r.lexemes; lexed = (rest, refl, s, r.lexed); fits = subst Q (sym k) (f, subst P same r.fits) }

-- white space

pub space_marks : (line : ℕ) (ms : List Mark) (rest : List ℕ) → HasMarks line ms rest → HasMarks line ms (32 ∷ rest)
space_marks line ms rest r =
    let same : line ≡ line + line_ends (32 ∷ []) = omega arith in
    let P : ℕ → Type 0 = λ n. FitMarks ms (tokens_from n r.lexemes) in
    record { lexemes = lexeme k.White (32 ∷ []) ∷ r.lexemes; lexed = (rest, refl, (refl, refl), r.lexed); fits = subst P same r.fits }

pub line_marks : (line next : ℕ) (ms : List Mark) (rest : List ℕ) → next ≡ suc line → HasMarks next ms rest → HasMarks line ms (10 ∷ rest)
line_marks line next ms rest e r =
    let same : next ≡ line + line_ends (10 ∷ []) = omega arith in
    let P : ℕ → Type 0 = λ n. FitMarks ms (tokens_from n r.lexemes) in
    record { lexemes = lexeme k.White (10 ∷ []) ∷ r.lexemes; lexed = (rest, refl, (refl, refl), r.lexed); fits = subst P same r.fits }

pub indent_marks : (n line : ℕ) (ms : List Mark) (text rest : List ℕ) → HasMarks line ms (text ++ rest) → HasMarks line ms (indented n text ++ rest)
indent_marks zero line ms text rest r = r
indent_marks (suc n) line ms text rest r = space_marks line ms _ (space_marks line ms _ (indent_marks n line ms text rest r))

-- names and words

letter_class : (b : ℕ) → is_letter b ≡ true → class_of b ≡ c.Letter
letter_class b h = rw h refl

-- a part of a name is no line feed
part_no_end : (b : ℕ) → is_part b ≡ true → nat_eq b 10 ≡ false
part_no_end b h = grind arith

letter_part : (b : ℕ) → is_letter b ≡ true → is_part b ≡ true
letter_part b h = rw h refl

digit_part : (b : ℕ) → is_digit b ≡ true → is_part b ≡ true
digit_part b h = go (is_letter b) (is_digit b) h
  where
    go : (l d : Bool) → d ≡ true → (l || d) ≡ true
    go true d h = refl
    go false d h = h

each_no_end : (p : ℕ → Bool) (bs : List ℕ) → ((b : ℕ) → p b ≡ true → nat_eq b 10 ≡ false) → Each p bs → line_ends bs ≡ 0
each_no_end p [] f h = refl
each_no_end p (b ∷ bs) f h = rw (f b h.0) (each_no_end p bs f h.1)

-- what is no part of a name is no digit
pub stops_digits : (rest : List ℕ) → BeginsWithout is_part rest → BeginsWithout is_digit rest
stops_digits [] h = tt
stops_digits (b ∷ bs) h = go (is_letter b) (is_digit b) h
  where
    go : (l d : Bool) → (l || d) ≡ false → d ≡ false
    go true d h = cc
    go false d h = h

pub name_marks : (x rest : List ℕ) (line : ℕ) (m : Mark) (ms : List Mark) → IsName x → BeginsWithout is_part rest → FitsMark m (record { token = Token.name x; line = line }) → HasMarks line ms rest → HasMarks line (m ∷ ms) (x ++ rest)
name_marks [] rest line m ms n s f r = absurd n
name_marks (b ∷ bs) rest line m ms n s f r =
    let kind : kind_of k.Name (b ∷ bs) ≡ Some t.Name = ap (λ z. Some (word_of z)) n.2 in
    let ends : line_ends (b ∷ bs) ≡ 0 = each_no_end is_part (b ∷ bs) part_no_end (letter_part b n.0, n.1) in
    lexeme_marks k.Name (b ∷ bs) rest t.Name line m ms (letter_class b n.0, n.1, s) kind ends f r

abbrev each_part : List ℕ → Bool
each_part [] = true
each_part (b ∷ bs) = is_part b && each_part bs

each_told : (bs : List ℕ) → each_part bs ≡ true → Each is_part bs
each_told [] h = tt
each_told (b ∷ bs) h = go (is_part b) (each_part bs) h (each_told bs)
  where
    go : (p q : Bool) → (p && q) ≡ true → (q ≡ true → Each is_part bs) → (p ≡ true) × Each is_part bs
    go true q h f = (refl, f h)
    go false q h f = cc

-- a word of the language, which begins with this byte
word_by : (b : ℕ) (bs : List ℕ) (word : Keyword) → class_of b ≡ c.Letter → each_part bs ≡ true → keyword_of (b ∷ bs) ≡ Some word → line_ends (b ∷ bs) ≡ 0
    → (rest : List ℕ) (line : ℕ) (m : Mark) (ms : List Mark) → BeginsWithout is_part rest → FitsMark m (record { token = Token.word word; line = line }) → HasMarks line ms rest → HasMarks line (m ∷ ms) ((b ∷ bs) ++ rest)
word_by b bs word h p w e rest line m ms s f r = lexeme_marks k.Name (b ∷ bs) rest (t.Keyword word) line m ms (h, each_told bs p, s) (ap (λ z. Some (word_of z)) w) e f r

pub word_marks : (word : Keyword) (rest : List ℕ) (line : ℕ) (m : Mark) (ms : List Mark) → BeginsWithout is_part rest → FitsMark m (record { token = Token.word word; line = line }) → HasMarks line ms rest
    → HasMarks line (m ∷ ms) (spelling word ++ rest)
word_marks w.Shared = word_by 115 (codes "hared") w.Shared refl refl refl refl
word_marks w.Mutex = word_by 109 (codes "utex") w.Mutex refl refl refl refl
word_marks w.Sema = word_by 115 (codes "ema") w.Sema refl refl refl refl
word_marks w.Fn = word_by 102 (codes "n") w.Fn refl refl refl refl
word_marks w.Let = word_by 108 (codes "et") w.Let refl refl refl refl
word_marks w.If = word_by 105 (codes "f") w.If refl refl refl refl
word_marks w.Else = word_by 101 (codes "lse") w.Else refl refl refl refl
word_marks w.While = word_by 119 (codes "hile") w.While refl refl refl refl
word_marks w.Return = word_by 114 (codes "eturn") w.Return refl refl refl refl
word_marks w.Lock = word_by 108 (codes "ock") w.Lock refl refl refl refl
word_marks w.Unlock = word_by 117 (codes "nlock") w.Unlock refl refl refl refl
word_marks w.Down = word_by 100 (codes "own") w.Down refl refl refl refl
word_marks w.Up = word_by 117 (codes "p") w.Up refl refl refl refl
word_marks w.Spawn = word_by 115 (codes "pawn") w.Spawn refl refl refl refl
word_marks w.Join = word_by 106 (codes "oin") w.Join refl refl refl refl
word_marks w.Print = word_by 112 (codes "rint") w.Print refl refl refl refl
word_marks w.Skip = word_by 115 (codes "kip") w.Skip refl refl refl refl

-- numbers

digit_class : (b : ℕ) → is_digit b ≡ true → class_of b ≡ c.Digit
digit_class b h =
    let letter : is_letter b ≡ false = grind arith in
    rw (letter, h) refl

small_number : (n : ℕ) → n ≤ largest_number → number_of n ≡ t.Number n
small_number n h = rw (le-leb n largest_number h) refl

digits_marks : (n : ℕ) (text rest : List ℕ) (line : ℕ) (ms : List Mark) → AreDigits text → value_from 0 text ≡ n → n ≤ largest_number → BeginsWithout is_digit rest → HasMarks line ms rest
    → HasMarks line (on (Token.num n) ∷ ms) (text ++ rest)
digits_marks n [] rest line ms d v h s r = absurd d
digits_marks n (b ∷ bs) rest line ms d v h s r =
    let kind : kind_of k.Number (b ∷ bs) ≡ Some (t.Number n) = ap (λ z. Some (number_of z)) v ∙ ap (λ z. Some z) (small_number n h) in
    let no_end : (z : ℕ) → is_digit z ≡ true → nat_eq z 10 ≡ false = λ z i. part_no_end z (digit_part z i) in
    let ends : line_ends (b ∷ bs) ≡ 0 = each_no_end is_digit (b ∷ bs) no_end d in
    lexeme_marks k.Number (b ∷ bs) rest (t.Number n) line (on (Token.num n)) ms (digit_class b d.0, d.1, s) kind ends refl r

pub number_marks : (n : ℕ) (rest : List ℕ) (line : ℕ) (ms : List Mark) → n ≤ largest_number → BeginsWithout is_digit rest → HasMarks line ms rest → HasMarks line (on (Token.num n) ∷ ms) (decimal n ++ rest)
number_marks n rest line ms h s r = digits_marks n (decimal n) rest line ms (decimal_digits n) (value_decimal n) h s r

-- signs

-- a sign with which no longer one begins
pub sign_marks : (b : ℕ) (t : TokenKind) (rest : List ℕ) (line : ℕ) (ms : List Mark) → class_of b ≡ c.Single → beside signs (b ∷ []) ≡ t → line_ends (b ∷ []) ≡ 0 → HasMarks line ms rest
    → HasMarks line (on (token_by t (b ∷ [])) ∷ ms) (b ∷ rest)
sign_marks b t rest line ms h s e r =
    let P : Class → Type 0 = λ z. IsSign z rest in
    lexeme_marks k.Sign (b ∷ []) rest t line (on (token_by t (b ∷ []))) ms (refl, subst P (sym h) tt) (ap (λ z. Some z) s) e refl r

-- one that may begin a longer one, and doesn't
pub short_sign_marks : (b : ℕ) (t : TokenKind) (rest : List ℕ) (line : ℕ) (ms : List Mark) → class_of b ≡ c.Comparison → beside signs (b ∷ []) ≡ t → line_ends (b ∷ []) ≡ 0 → BeginsWithout (is 61) rest → HasMarks line ms rest
    → HasMarks line (on (token_by t (b ∷ [])) ∷ ms) (b ∷ rest)
short_sign_marks b t rest line ms h s e n r =
    let P : Class → Type 0 = λ z. IsSign z rest in
    lexeme_marks k.Sign (b ∷ []) rest t line (on (token_by t (b ∷ []))) ms (refl, subst P (sym h) n) (ap (λ z. Some z) s) e refl r

-- an operator between operands, with a space behind it
pub operator_marks : (op : Op) (rest : List ℕ) (line : ℕ) (ms : List Mark) → HasMarks line ms rest → HasMarks line (on (Token.op op) ∷ ms) (operator op ++ 32 ∷ rest)
operator_marks op rest line ms r = go op (space_marks line ms rest r)
  where
    go : (op : Op) → HasMarks line ms (32 ∷ rest) → HasMarks line (on (Token.op op) ∷ ms) (operator op ++ 32 ∷ rest)
    go o.Or s = lexeme_marks k.Pair (codes "||") (32 ∷ rest) (t.Op o.Or) line (on (Token.op o.Or)) ms refl refl refl refl s
    go o.And s = lexeme_marks k.Pair (codes "&&") (32 ∷ rest) (t.Op o.And) line (on (Token.op o.And)) ms refl refl refl refl s
    go o.Eq s = lexeme_marks k.Pair (codes "==") (32 ∷ rest) (t.Op o.Eq) line (on (Token.op o.Eq)) ms refl refl refl refl s
    go o.Ne s = lexeme_marks k.Pair (codes "!=") (32 ∷ rest) (t.Op o.Ne) line (on (Token.op o.Ne)) ms refl refl refl refl s
    go o.Lt s = short_sign_marks 60 (t.Op o.Lt) (32 ∷ rest) line ms refl refl refl refl s
    go o.Le s = lexeme_marks k.Pair (codes "<=") (32 ∷ rest) (t.Op o.Le) line (on (Token.op o.Le)) ms refl refl refl refl s
    go o.Gt s = short_sign_marks 62 (t.Op o.Gt) (32 ∷ rest) line ms refl refl refl refl s
    go o.Ge s = lexeme_marks k.Pair (codes ">=") (32 ∷ rest) (t.Op o.Ge) line (on (Token.op o.Ge)) ms refl refl refl refl s
    go o.Add s = sign_marks 43 (t.Op o.Add) (32 ∷ rest) line ms refl refl refl s
    go o.Sub s = sign_marks 45 (t.Op o.Sub) (32 ∷ rest) line ms refl refl refl s
    go o.Mul s = sign_marks 42 (t.Op o.Mul) (32 ∷ rest) line ms refl refl refl s
    go o.Div s = lexeme_marks k.Sign (codes "/") (32 ∷ rest) (t.Op o.Div) line (on (Token.op o.Div)) ms (refl, refl) refl refl refl s
    go o.Rem s = sign_marks 37 (t.Op o.Rem) (32 ∷ rest) line ms refl refl refl s
