-- At a place stands one token, and behind it one rest.
use Rattle.std.proofs.Common.{ℕ, ◌+◌, ◌≡◌, ◌⊎◌, inl, inr, Bool, true, false, nat_eq, ◌||◌, if◌then◌else◌, map, List, [], ◌∷◌, ◌++◌, Option, Some, codes, refl, sym, ap, subst, ◌∙◌, append_assoc}
use Rattle.std.proofs.lemmas.Bool.{eqb-true}
use Rattle.loom_tree.specs.Token.{LineToken, Token}
use Rattle.loom_lexer.specs.declared.lexeme.Class.TheVariants as c
use Rattle.loom_lexer.specs.declared.lexeme.LexemeKind.{LexemeKind}
use Rattle.loom_lexer.specs.declared.lexeme.LexemeKind.TheVariants as k
use Rattle.loom_lexer.specs.Lexeme.{Each, is_part, class_of, Spells, Lexeme, IsLexed}
use Rattle.loom_lexer.specs.Scan.{kind_by}
use Rattle.loom_lexer.specs.Tokens.{line_ends, tokens_from}
use Rattle.loom_lexer.specs.Name.{IsName}
use Rattle.loom_lexer.proofs.Unique.{kind_told}
use Rattle.loom_expression.specs.Text.{Text, tokens}
use Rattle.loom_command.specs.FilterForm.{TestForm, IsFileWord, IsTest}
use Rattle.loom_command.specs.FilterText.{Piece, is_blank, AreWritten}
use Rattle.loom_command.specs.FilterText as piece
use Rattle.loom_command.proofs.Pieces as pieces
use Rattle.loom_command.proofs.Pieces.{head, head_piece, first_of, one_begin, one_sign, one_word, cut}
use Rattle.loom_command.proofs.Parentheses.{opener, closer, marks, level, test_level, plain_tokens, one_close, one_test, one_end}
use Rattle.loom_command.proofs.Fields.{same_behind}
use Rattle.loom_filter.specs.declared.scan.FilterSign.{FilterSign}
use Rattle.loom_filter.specs.declared.scan.FilterSign.TheVariants as g
use Rattle.loom_filter.specs.Words.{is_name, first_sign}
use Rattle.loom_filter.specs.Token.{FilterToken, name, word, sign, test, sign_pieces, token_pieces, tokens_pieces, IsToken, AreFilterTokens}
use Rattle.loom_filter.proofs.Words.{name_told}

pub record Alike (t u : FilterToken TestForm) (rest other : List ℕ) : Type 0 where
  pub same : t ≡ u
  pub behind : rest ≡ other

-- the first byte of a sign tells which it is
-- (58 is `:`, 44 `,`, 59 `;`, 62 `>`, 60 `<`, 42 `*`, 123 and 125 are braces, 40 is `(`)

abbrev pub sign_first : FilterSign → ℕ
sign_first g.Colon = 58
sign_first g.Comma = 44
sign_first g.Semicolon = 59
sign_first g.Before = 62
sign_first g.Apart = 60
sign_first g.All = 42
sign_first g.BraceOpen = 123
sign_first g.BraceClose = 125
sign_first g.Call = 40

abbrev sign_of : ℕ → Option FilterSign
sign_of b = if nat_eq b 60 then Some g.Apart else (if nat_eq b 40 then Some g.Call else first_sign b)

sign_back : (s : FilterSign) → sign_of (sign_first s) ≡ Some s
sign_back g.Colon = refl
sign_back g.Comma = refl
sign_back g.Semicolon = refl
sign_back g.Before = refl
sign_back g.Apart = refl
sign_back g.All = refl
sign_back g.BraceOpen = refl
sign_back g.BraceClose = refl
sign_back g.Call = refl

pub one_first : (s t : FilterSign) → sign_first s ≡ sign_first t → s ≡ t
one_first s t e = let f : Some s ≡ Some t = sym (sign_back s) ∙ ap sign_of e ∙ sign_back t in cc

-- the first byte that isn't blank, where a sign is written
pub sign_begins : (s : FilterSign) (rest bytes : List ℕ) → AreWritten (sign_pieces s) rest bytes → head bytes ≡ sign_first s
sign_begins g.Colon rest bytes h = head_piece (piece.sign (codes ":")) [] rest bytes refl h
sign_begins g.Comma rest bytes h = head_piece (piece.sign (codes ",")) [] rest bytes refl h
sign_begins g.Semicolon rest bytes h = head_piece (piece.sign (codes ";")) [] rest bytes refl h
sign_begins g.Before rest bytes h = head_piece (piece.sign (codes ">")) [] rest bytes refl h
sign_begins g.Apart rest bytes h = head_piece (piece.sign (codes "<>")) [] rest bytes refl h
sign_begins g.All rest bytes h = head_piece (piece.sign (codes "*")) [] rest bytes refl h
sign_begins g.BraceOpen rest bytes h = head_piece (piece.sign (codes "{")) [] rest bytes refl h
sign_begins g.BraceClose rest bytes h = head_piece (piece.sign (codes "}")) [] rest bytes refl h
sign_begins g.Call rest bytes h = head_piece (piece.sign (codes "(")) (piece.sign_piece (codes ")")) rest bytes refl h

-- a sign of one piece
one_simple : (s : List ℕ) (rest other bytes : List ℕ) → pieces.IsDark s → AreWritten (piece.sign_piece s) rest bytes → AreWritten (piece.sign_piece s) other bytes → rest ≡ other
one_simple s rest other bytes d h k = let b = one_sign s [] [] rest other bytes d h k in sym b.left ∙ b.right

same_sign : (s : FilterSign) (rest other bytes : List ℕ) → AreWritten (sign_pieces s) rest bytes → AreWritten (sign_pieces s) other bytes → rest ≡ other
same_sign g.Colon rest other bytes h k = one_simple (codes ":") rest other bytes refl h k
same_sign g.Comma rest other bytes h k = one_simple (codes ",") rest other bytes refl h k
same_sign g.Semicolon rest other bytes h k = one_simple (codes ";") rest other bytes refl h k
same_sign g.Before rest other bytes h k = one_simple (codes ">") rest other bytes refl h k
same_sign g.Apart rest other bytes h k = one_simple (codes "<>") rest other bytes refl h k
same_sign g.All rest other bytes h k = one_simple (codes "*") rest other bytes refl h k
same_sign g.BraceOpen rest other bytes h k = one_simple (codes "{") rest other bytes refl h k
same_sign g.BraceClose rest other bytes h k = one_simple (codes "}") rest other bytes refl h k
same_sign g.Call rest other bytes h k =
    let b = one_sign (codes "(") (piece.sign_piece (codes ")")) (piece.sign_piece (codes ")")) rest other bytes refl h k in
    one_simple (codes ")") rest other b.bytes refl b.left b.right

pub one_sign_token : (s t : FilterSign) (rest other bytes : List ℕ) → AreWritten (sign_pieces s) rest bytes → AreWritten (sign_pieces t) other bytes → Alike (sign s) (sign t) rest other
one_sign_token s t rest other bytes h k =
    let e : s ≡ t = one_first s t (sym (sign_begins s rest bytes h) ∙ sign_begins t other bytes k) in
    let P : FilterSign → Type 0 = λ z. AreWritten (sign_pieces z) rest bytes in
    record { same = ap sign e; behind = same_sign t rest other bytes (subst P e h) k }

-- Words

pub name_dark : (w : List ℕ) → IsName w → pieces.IsToken w
name_dark [] h = absurd h
name_dark (b ∷ bs) h = pieces.letters_token b bs h.0 h.1

pub word_dark : (w : List ℕ) → IsFileWord w → pieces.IsToken w
word_dark [] h = absurd h
word_dark (b ∷ bs) h = pieces.token_of b bs h.0 h.1

-- no word begins with another byte
pub not_sign : (w : List ℕ) (b : ℕ) (rest bytes : List ℕ) → pieces.IsToken w → AreWritten (piece.word w ∷ []) rest bytes → head bytes ≡ b → is_part b ≡ false → ⊥
not_sign w b rest bytes i h e n =
    let g : head bytes ≡ first_of w = head_piece (piece.word w) [] rest bytes i.dark h in
    let j = i.begins in
    let k : is_part (first_of w) ≡ is_part b = ap is_part (sym g ∙ e) in
    cc

sign_no_part : (s : FilterSign) → is_part (sign_first s) ≡ false
sign_no_part g.Colon = refl
sign_no_part g.Comma = refl
sign_no_part g.Semicolon = refl
sign_no_part g.Before = refl
sign_no_part g.Apart = refl
sign_no_part g.All = refl
sign_no_part g.BraceOpen = refl
sign_no_part g.BraceClose = refl
sign_no_part g.Call = refl

pub no_word_sign : (w : List ℕ) (s : FilterSign) (rest other bytes : List ℕ) → pieces.IsToken w → AreWritten (piece.word w ∷ []) rest bytes → AreWritten (sign_pieces s) other bytes → ⊥
no_word_sign w s rest other bytes i h k = not_sign w (sign_first s) rest bytes i h (sign_begins s other bytes k) (sign_no_part s)

pub test_begins : (bs rest bytes : List ℕ) → AreWritten (piece.test bs ∷ []) rest bytes → head bytes ≡ 40
test_begins bs rest bytes h = head_piece (piece.test bs) [] rest bytes refl h

pub no_word_test : (w bs rest other bytes : List ℕ) → pieces.IsToken w → AreWritten (piece.word w ∷ []) rest bytes → AreWritten (piece.test bs ∷ []) other bytes → ⊥
no_word_test w bs rest other bytes i h k = not_sign w 40 rest bytes i h (test_begins bs other bytes k) refl

record SameText (w v rest other : List ℕ) : Type 0 where
  pub same : w ≡ v
  pub behind : rest ≡ other

same_text : (w v rest other bytes : List ℕ) → pieces.IsToken w → pieces.IsToken v → AreWritten (piece.word w ∷ []) rest bytes → AreWritten (piece.word v ∷ []) other bytes → SameText w v rest other
same_text w v rest other bytes i j h k = let a = one_word w v [] [] rest other bytes i j h k in record { same = a.same; behind = sym a.behind.left ∙ a.behind.right }

no_name : (w v : List ℕ) → IsName w → is_name v ≡ false → w ≡ v → ⊥
no_name w v h k e = let f = name_told w h in let g : is_name w ≡ is_name v = ap is_name e in cc

-- `()` is no test: what stands between its parentheses is blank, and no expression is

blank_marks : (bs : List ℕ) → Each is_blank bs → marks bs ≡ []
blank_marks [] h = refl
blank_marks (b ∷ bs) h = go (nat_eq b 40) (nat_eq b 41) refl refl (blank_marks bs h.1)
  where
    go : (x y : Bool) → nat_eq b 40 ≡ x → nat_eq b 41 ≡ y → marks bs ≡ [] → (if x then opener ∷ [] else (if y then closer ∷ [] else [])) ++ marks bs ≡ []
    go true y e f i = let g : is_blank b ≡ is_blank 40 = ap is_blank (eqb-true b 40 e) in let j = h.0 in cc
    go false true e f i = let g : is_blank b ≡ is_blank 41 = ap is_blank (eqb-true b 41 f) in let j = h.0 in cc
    go false false e f i = i

blank_class : (b : ℕ) → is_blank b ≡ true → class_of b ≡ c.White
blank_class b h = go (nat_eq b 32) (nat_eq b 9) refl refl h
  where
    go : (x y : Bool) → nat_eq b 32 ≡ x → nat_eq b 9 ≡ y → (x || y) ≡ true → class_of b ≡ c.White
    go true y e f i = ap class_of (eqb-true b 32 e)
    go false true e f i = ap class_of (eqb-true b 9 f)
    go false false e f i = cc

-- blanks behind blanks
blanks_behind : (xs ys : List ℕ) → Each is_blank (xs ++ ys) → Each is_blank ys
blanks_behind [] ys h = h
blanks_behind (x ∷ xs) ys h = blanks_behind xs ys h.1

-- a lexeme that begins with a blank is no token
blank_kind : (kind : LexemeKind) (text rest : List ℕ) → Spells kind text rest → Each is_blank (text ++ rest) → kind ≡ k.White
blank_kind kind [] rest h i = absurd h
blank_kind kind (b ∷ bs) rest h i = sym (kind_told kind (b ∷ bs) rest h) ∙ ap (λ z. kind_by z (bs ++ rest)) (blank_class b i.0)

blank_tokens : (ps : List Lexeme) (bytes : List ℕ) (line : ℕ) → IsLexed ps bytes → Each is_blank bytes → tokens_from line ps ≡ []
blank_tokens [] bytes line h i = refl
blank_tokens (p ∷ ps) bytes line h i =
    let j : Each is_blank (p.text ++ h.0) = subst (Each is_blank) h.1 i in
    let white : p.kind ≡ k.White = blank_kind p.kind p.text h.0 h.2 j in
    rw (white, blank_tokens ps h.0 (line + line_ends p.text) h.3 (blanks_behind p.text h.0 j)) refl

some_tokens : (w : Text) → tokens w ≡ [] → ⊥
some_tokens (Text.num n) h = cc
some_tokens (Text.var x) h = cc
some_tokens (Text.cell x i) h = cc
some_tokens (Text.neg a) h = cc
some_tokens (Text.inverse a) h = cc
some_tokens (Text.bin o a b) h = no_join (tokens a) h
  where
    no_join : (ts : List Token) → ts ++ (Token.op o ∷ tokens b) ≡ [] → ⊥
    no_join [] e = cc
    no_join (t ∷ ts) e = cc
some_tokens (Text.paren a) h = cc

pub blank_no_test : (x : TestForm) → IsTest x → Each is_blank x.bytes → ⊥
blank_no_test x h b =
    let none : tokens_from 1 h.lexemes ≡ [] = blank_tokens h.lexemes x.bytes 1 h.lexed b in
    let spelled : tokens h.is.written ≡ plain_tokens 1 h.lexemes = h.is.spelled in
    some_tokens h.is.written (spelled ∙ ap (λ (z : List LineToken). map (λ (t : LineToken). t.token) z) none)

-- what stands behind the `(` of a test
pub inside_test : (bs inside more : List ℕ) → codes "(" ++ inside ≡ (codes "(" ++ (bs ++ codes ")")) ++ more → inside ≡ bs ++ (41 ∷ more)
inside_test bs inside more e =
    let f : inside ≡ (bs ++ codes ")") ++ more = cc in
    f ∙ append_assoc bs (codes ")") more

pub call_no_test : (x : TestForm) (rest other bytes : List ℕ) → IsTest x → AreWritten (sign_pieces g.Call) rest bytes → AreWritten (piece.test x.bytes ∷ []) other bytes → ⊥
call_no_test x rest other bytes i h k =
    let opened : codes "(" ++ h.1 ≡ (codes "(" ++ (x.bytes ++ codes ")")) ++ k.1 = one_begin (piece.sign (codes "(")) (piece.test x.bytes) (piece.sign_piece (codes ")")) [] rest other bytes refl refl h k in
    let inside : h.1 ≡ x.bytes ++ (41 ∷ k.1) = inside_test x.bytes h.1 k.1 opened in
    let close = h.5 in
    let blanks : h.1 ≡ close.0 ++ (41 ∷ close.1) = close.2 in
    let level_0 : level 0 (marks close.0) ≡ Some 0 = ap (level 0) (blank_marks close.0 close.3) in
    let same : close.0 ≡ x.bytes = one_close 0 close.0 x.bytes close.1 k.1 level_0 (test_level x i) (sym blanks ∙ inside) in
    blank_no_test x i (subst (Each is_blank) same close.3)

sign_no_test : (s : FilterSign) (x : TestForm) (rest other bytes : List ℕ) → IsTest x → AreWritten (sign_pieces s) rest bytes → AreWritten (piece.test x.bytes ∷ []) other bytes → ⊥
sign_no_test s x rest other bytes i h k =
    let e : s ≡ g.Call = one_first s g.Call (sym (sign_begins s rest bytes h) ∙ test_begins x.bytes other bytes k) in
    let P : FilterSign → Type 0 = λ z. AreWritten (sign_pieces z) rest bytes in
    call_no_test x rest other bytes i (subst P e h) k

same_tests : (x y : TestForm) (rest other bytes : List ℕ) → IsTest x → IsTest y → AreWritten (piece.test x.bytes ∷ []) rest bytes → AreWritten (piece.test y.bytes ∷ []) other bytes → Alike (test x) (test y) rest other
same_tests x y rest other bytes i j h k =
    let opened : (codes "(" ++ (x.bytes ++ codes ")")) ++ h.1 ≡ (codes "(" ++ (y.bytes ++ codes ")")) ++ k.1 = one_begin (piece.test x.bytes) (piece.test y.bytes) [] [] rest other bytes refl refl h k in
    let inside : x.bytes ++ (41 ∷ h.1) ≡ y.bytes ++ (41 ∷ k.1) = sym (append_assoc x.bytes (codes ")") h.1) ∙ inside_test y.bytes ((x.bytes ++ codes ")") ++ h.1) k.1 opened in
    let same : x.bytes ≡ y.bytes = one_end x y h.1 k.1 i j inside in
    let behind : 41 ∷ h.1 ≡ 41 ∷ k.1 = same_behind y.bytes (41 ∷ h.1) (41 ∷ k.1) (ap (λ z. z ++ (41 ∷ h.1)) (sym same) ∙ inside) in
    let e : h.1 ≡ k.1 = cc in
    record { same = ap test (one_test x y i j same); behind = sym h.5 ∙ e ∙ k.5 }

pub one_token : (t u : FilterToken TestForm) (rest other bytes : List ℕ) → IsToken t → IsToken u → AreWritten (token_pieces t) rest bytes → AreWritten (token_pieces u) other bytes → Alike t u rest other
one_token (name w) (name v) rest other bytes i j h k = let a = same_text w v rest other bytes (name_dark w i) (name_dark v j) h k in record { same = ap name a.same; behind = a.behind }
one_token (name w) (word v) rest other bytes i j h k = let a = same_text w v rest other bytes (name_dark w i) (word_dark v j.0) h k in absurd (no_name w v i j.1 a.same)
one_token (name w) (sign s) rest other bytes i j h k = absurd (no_word_sign w s rest other bytes (name_dark w i) h k)
one_token (name w) (test y) rest other bytes i j h k = absurd (no_word_test w y.bytes rest other bytes (name_dark w i) h k)
one_token (word w) (name v) rest other bytes i j h k = let a = same_text w v rest other bytes (word_dark w i.0) (name_dark v j) h k in absurd (no_name v w j i.1 (sym a.same))
one_token (word w) (word v) rest other bytes i j h k = let a = same_text w v rest other bytes (word_dark w i.0) (word_dark v j.0) h k in record { same = ap word a.same; behind = a.behind }
one_token (word w) (sign s) rest other bytes i j h k = absurd (no_word_sign w s rest other bytes (word_dark w i.0) h k)
one_token (word w) (test y) rest other bytes i j h k = absurd (no_word_test w y.bytes rest other bytes (word_dark w i.0) h k)
one_token (sign s) (name v) rest other bytes i j h k = absurd (no_word_sign v s other rest bytes (name_dark v j) k h)
one_token (sign s) (word v) rest other bytes i j h k = absurd (no_word_sign v s other rest bytes (word_dark v j.0) k h)
one_token (sign s) (sign r) rest other bytes i j h k = one_sign_token s r rest other bytes h k
one_token (sign s) (test y) rest other bytes i j h k = absurd (sign_no_test s y rest other bytes j h k)
one_token (test x) (name v) rest other bytes i j h k = absurd (no_word_test v x.bytes other rest bytes (name_dark v j) k h)
one_token (test x) (word v) rest other bytes i j h k = absurd (no_word_test v x.bytes other rest bytes (word_dark v j.0) k h)
one_token (test x) (sign s) rest other bytes i j h k = absurd (sign_no_test s x other rest bytes i k h)
one_token (test x) (test y) rest other bytes i j h k = same_tests x y rest other bytes i j h k

-- Of two lists of tokens with which the same bytes begin, one begins with the other.
pub record Begins (ts us : List (FilterToken TestForm)) (rest other : List ℕ) : Type 0 where
  pub more : List (FilterToken TestForm)
  pub is : us ≡ ts ++ more
  pub behind : AreFilterTokens more other rest

pub comparable : (ts us : List (FilterToken TestForm)) (rest other bytes : List ℕ) → AreFilterTokens ts rest bytes → AreFilterTokens us other bytes → Begins ts us rest other ⊎ Begins us ts other rest
comparable [] us rest other bytes h k =
    let P : List ℕ → Type 0 = λ z. AreFilterTokens us other z in
    inl (record { more = us; is = refl; behind = subst P h.written k })
comparable (t ∷ ts) [] rest other bytes h k =
    let P : List ℕ → Type 0 = λ z. AreFilterTokens (t ∷ ts) rest z in
    inr (record { more = t ∷ ts; is = refl; behind = subst P k.written h })
comparable (t ∷ ts) (u ∷ us) rest other bytes h k =
    let l = cut (token_pieces t) (tokens_pieces ts) rest bytes h.written in
    let r = cut (token_pieces u) (tokens_pieces us) other bytes k.written in
    let a = one_token t u l.middle r.middle bytes h.each.0 k.each.0 l.front r.front in
    let P : List ℕ → Type 0 = λ z. AreFilterTokens ts rest z in
    go a.same (comparable ts us rest other r.middle (subst P a.behind (record { each = h.each.1; written = l.back })) (record { each = k.each.1; written = r.back }))
  where
    go : t ≡ u → Begins ts us rest other ⊎ Begins us ts other rest → Begins (t ∷ ts) (u ∷ us) rest other ⊎ Begins (u ∷ us) (t ∷ ts) other rest
    go e (inl b) = let f = b.is in inl (record { more = b.more; is = rw (e, f) refl; behind = b.behind })
    go e (inr b) = let f = b.is in inr (record { more = b.more; is = rw (e, f) refl; behind = b.behind })
