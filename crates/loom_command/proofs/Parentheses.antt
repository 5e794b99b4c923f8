-- A test ends at the first `)` that closes nothing in it: so two tests at one place are one.
use Rattle.std.proofs.Common.{ℕ, zero, suc, ◌+◌, ◌≡◌, Bool, true, false, cond, nat_eq, nat_le, if◌then◌else◌, List, [], ◌∷◌, ◌++◌, map, drop, Option, Some, None, bytes_eq, rules, refl, sym, ap, subst, ◌∙◌, append_assoc}
use Rattle.std.proofs.lemmas.List.{append-nil}
use Rattle.std.specs.List.{AllByRecursion}
use Rattle.std.proofs.lemmas.Bool.{eqb-true, eqb-false, ne_eqb}
use Rattle.loom_tree.specs.declared.token.Sign.{Sign}
use Rattle.loom_tree.specs.declared.token.Sign.TheVariants as sign
use Rattle.loom_tree.specs.declared.token.Keyword.{Keyword}
use Rattle.loom_tree.specs.declared.token.TokenKind.{TokenKind}
use Rattle.loom_tree.specs.declared.token.TokenKind.TheVariants as t
use Rattle.loom_tree.specs.Tree.{Expression}
use Rattle.loom_tree.specs.Token.{LineToken, Token, token_by}
use Rattle.loom_lexer.specs.declared.lexeme.Class.{Class}
use Rattle.loom_lexer.specs.declared.lexeme.Class.TheVariants as c
use Rattle.loom_lexer.specs.declared.lexeme.LexemeKind.{LexemeKind}
use Rattle.loom_lexer.specs.declared.lexeme.LexemeKind.TheVariants as k
use Rattle.loom_lexer.specs.Lexeme.{is_part, is_digit, class_of, Each, Spells, Lexeme, IsLexed, IsPair, IsBad}
use Rattle.loom_lexer.specs.Tokens.{keyword_of, word_of, value_from, largest_number, number_of, signs, beside, kind_of, placed, line_ends, tokens_from}
use Rattle.loom_lexer.proofs.Unique.{one_lexing}
use Rattle.loom_expression.specs.Text.{Text, tokens, tree, IsExpression}
use Rattle.loom_expression.proofs.Refusal.{ends, all_read}
use Rattle.loom_command.specs.FilterForm.{TestForm, IsTest, is_comment}

-- The parentheses of bytes, and of tokens
-- (40 is `(`, 41 is `)`)

pub data Mark : Type 0 where
  opener : Mark
  closer : Mark

abbrev pub byte_marks : ℕ → List Mark
byte_marks b = if nat_eq b 40 then opener ∷ [] else (if nat_eq b 41 then closer ∷ [] else [])

abbrev pub marks : List ℕ → List Mark
marks [] = []
marks (b ∷ bs) = byte_marks b ++ marks bs

abbrev pub sign_marks : Sign → List Mark
sign_marks sign.ParenOpen = opener ∷ []
sign_marks sign.ParenClose = closer ∷ []
sign_marks _ = []

abbrev pub token_marks : Token → List Mark
token_marks (Token.sign s) = sign_marks s
token_marks _ = []

abbrev pub tokens_marks : List Token → List Mark
tokens_marks [] = []
tokens_marks (x ∷ xs) = token_marks x ++ tokens_marks xs

-- how many are open behind these marks, where so many were open before them
abbrev pub level : ℕ → List Mark → Option ℕ
level n [] = Some n
level n (opener ∷ ms) = level (suc n) ms
level zero (closer ∷ ms) = None
level (suc n) (closer ∷ ms) = level n ms

marks_append : (xs ys : List ℕ) → marks (xs ++ ys) ≡ marks xs ++ marks ys
marks_append [] ys = refl
marks_append (x ∷ xs) ys = ap (λ z. byte_marks x ++ z) (marks_append xs ys) ∙ sym (append_assoc (byte_marks x) (marks xs) (marks ys))

tokens_append : (xs ys : List Token) → tokens_marks (xs ++ ys) ≡ tokens_marks xs ++ tokens_marks ys
tokens_append [] ys = refl
tokens_append (x ∷ xs) ys = ap (λ z. token_marks x ++ z) (tokens_append xs ys) ∙ sym (append_assoc (token_marks x) (tokens_marks xs) (tokens_marks ys))

-- Lexemes: their bytes have the parentheses of their tokens

plain_byte : (b : ℕ) → (class_of b ≡ c.Single → ⊥) → byte_marks b ≡ []
plain_byte b h = go (nat_eq b 40) (nat_eq b 41) refl refl
  where
    go : (x y : Bool) → nat_eq b 40 ≡ x → nat_eq b 41 ≡ y → (if x then opener ∷ [] else (if y then closer ∷ [] else [])) ≡ []
    go true y e f = absurd (h (ap class_of (eqb-true b 40 e)))
    go false true e f = absurd (h (ap class_of (eqb-true b 41 f)))
    go false false e f = refl

plain_each : (p : ℕ → Bool) → p 40 ≡ false → p 41 ≡ false → (bs : List ℕ) → Each p bs → marks bs ≡ []
plain_each p l r [] h = refl
plain_each p l r (b ∷ bs) h = go (nat_eq b 40) (nat_eq b 41) refl refl (plain_each p l r bs h.1)
  where
    go : (x y : Bool) → nat_eq b 40 ≡ x → nat_eq b 41 ≡ y → marks bs ≡ [] → (if x then opener ∷ [] else (if y then closer ∷ [] else [])) ++ marks bs ≡ []
    go true y e f i = let g : p b ≡ p 40 = ap p (eqb-true b 40 e) in let j = h.0 in cc
    go false true e f i = let g : p b ≡ p 41 = ap p (eqb-true b 41 f) in let j = h.0 in cc
    go false false e f i = i

-- the parentheses of what a lexeme is as a token
abbrev kind_marks : Option TokenKind → List ℕ → List Mark
kind_marks None text = []
kind_marks (Some kind) text = token_marks (token_by kind text)

word_marks : (o : Option Keyword) (text : List ℕ) → token_marks (token_by (word_of o) text) ≡ []
word_marks None text = refl
word_marks (Some w) text = refl

number_marks : (v : ℕ) (text : List ℕ) → token_marks (token_by (number_of v) text) ≡ []
number_marks v text = elim (nat_le v largest_number) as (λ b. token_marks (token_by (cond b (t.Number v) t.Bad) text) ≡ []) [ true ↦ refl | false ↦ refl ]

abbrev AreFlat : List (List ℕ × TokenKind) → List ℕ → Type 0
AreFlat [] text = Unit {0}
AreFlat (e ∷ es) text = (token_marks (token_by e.1 text) ≡ []) × AreFlat es text

beside_flat : (es : List (List ℕ × TokenKind)) (text : List ℕ) → AreFlat es text → token_marks (token_by (beside es text) text) ≡ []
beside_flat [] text h = refl
beside_flat (e ∷ es) text h = elim (bytes_eq e.0 text) as (λ b. token_marks (token_by (cond b e.1 (beside es text)) text) ≡ []) [ true ↦ h.0 | false ↦ beside_flat es text h.1 ]

-- the signs but `(` and `)`
abbrev others : List (List ℕ × TokenKind)
others = drop 2 signs

others_flat : (text : List ℕ) → AreFlat others text
others_flat text = search rules

sign_flat : (b : ℕ) (bs : List ℕ) → nat_eq 40 b ≡ false → nat_eq 41 b ≡ false → token_marks (token_by (beside signs (b ∷ bs)) (b ∷ bs)) ≡ []
sign_flat b bs l r = rw (l, r) (beside_flat others (b ∷ bs) (others_flat (b ∷ bs)))

turned : (a b : ℕ) → nat_eq a b ≡ false → nat_eq b a ≡ false
turned a b h = ne_eqb b a (λ e. eqb-false a b h (sym e))

pair_flat : (b d : ℕ) (bs : List ℕ) → (class_of b ≡ c.Single → ⊥) → bs ≡ d ∷ [] → byte_marks d ≡ [] → marks (b ∷ bs) ≡ token_marks (token_by (beside signs (b ∷ bs)) (b ∷ bs))
pair_flat b d bs h e f =
    rw (e, plain_byte b h, f) (sym (sign_flat b (d ∷ []) (turned b 40 (ne_eqb b 40 (λ g. h (ap class_of g)))) (turned b 41 (ne_eqb b 41 (λ g. h (ap class_of g))))))

-- a sign of one byte
sign_marked : (b : ℕ) → byte_marks b ++ [] ≡ token_marks (token_by (beside signs (b ∷ [])) (b ∷ []))
sign_marked b = go (nat_eq b 40) (nat_eq b 41) refl refl
  where
    go : (x y : Bool) → nat_eq b 40 ≡ x → nat_eq b 41 ≡ y → (if x then opener ∷ [] else (if y then closer ∷ [] else [])) ++ [] ≡ token_marks (token_by (beside signs (b ∷ [])) (b ∷ []))
    go true y e f = rw (eqb-true b 40 e) refl
    go false true e f = rw (eqb-true b 41 f) refl
    go false false e f = sym (sign_flat b [] (turned b 40 e) (turned b 41 f))

pair_marked : (b : ℕ) (bs : List ℕ) (d : Class) → class_of b ≡ d → IsPair d bs → marks (b ∷ bs) ≡ token_marks (token_by (beside signs (b ∷ bs)) (b ∷ bs))
pair_marked b bs c.Comparison e h = pair_flat b 61 bs (λ s. let x : c.Comparison ≡ c.Single = sym e ∙ s in cc) h refl
pair_marked b bs c.Ampersand e h = pair_flat b 38 bs (λ s. let x : c.Ampersand ≡ c.Single = sym e ∙ s in cc) h refl
pair_marked b bs c.Bar e h = pair_flat b 124 bs (λ s. let x : c.Bar ≡ c.Single = sym e ∙ s in cc) h refl
pair_marked b bs c.Letter e h = absurd h
pair_marked b bs c.Digit e h = absurd h
pair_marked b bs c.White e h = absurd h
pair_marked b bs c.Single e h = absurd h
pair_marked b bs c.Slash e h = absurd h
pair_marked b bs c.Other e h = absurd h

bad_marked : (b : ℕ) (rest : List ℕ) (d : Class) → class_of b ≡ d → IsBad d rest → byte_marks b ≡ []
bad_marked b rest c.Ampersand e h = plain_byte b (λ s. let x : c.Ampersand ≡ c.Single = sym e ∙ s in cc)
bad_marked b rest c.Bar e h = plain_byte b (λ s. let x : c.Bar ≡ c.Single = sym e ∙ s in cc)
bad_marked b rest c.Other e h = plain_byte b (λ s. let x : c.Other ≡ c.Single = sym e ∙ s in cc)
bad_marked b rest c.Letter e h = absurd h
bad_marked b rest c.Digit e h = absurd h
bad_marked b rest c.White e h = absurd h
bad_marked b rest c.Single e h = absurd h
bad_marked b rest c.Comparison e h = absurd h
bad_marked b rest c.Slash e h = absurd h

run_marked : (p : ℕ → Bool) (b : ℕ) (bs : List ℕ) → p 40 ≡ false → p 41 ≡ false → (class_of b ≡ c.Single → ⊥) → Each p bs → marks (b ∷ bs) ≡ []
run_marked p b bs l r h i = rw (plain_byte b h, plain_each p l r bs i) refl

lexeme_marked : (kind : LexemeKind) (text rest : List ℕ) → Spells kind text rest → is_comment kind ≡ false → marks text ≡ kind_marks (kind_of kind text) text
lexeme_marked kind [] rest h n = absurd h
lexeme_marked k.Comment (b ∷ bs) rest h n = cc
lexeme_marked k.White (b ∷ bs) rest h n = rw (h.1, plain_byte b (λ s. let x : c.White ≡ c.Single = sym h.0 ∙ s in cc)) refl
lexeme_marked k.Name (b ∷ bs) rest h n =
    run_marked is_part b bs refl refl (λ s. let x : c.Letter ≡ c.Single = sym h.0 ∙ s in cc) h.1 ∙ sym (word_marks (keyword_of (b ∷ bs)) (b ∷ bs))
lexeme_marked k.Number (b ∷ bs) rest h n =
    run_marked is_digit b bs refl refl (λ s. let x : c.Digit ≡ c.Single = sym h.0 ∙ s in cc) h.1 ∙ sym (number_marks (value_from 0 (b ∷ bs)) (b ∷ bs))
lexeme_marked k.Sign (b ∷ bs) rest h n = rw h.0 (sign_marked b)
lexeme_marked k.Pair (b ∷ bs) rest h n = pair_marked b bs (class_of b) refl h
lexeme_marked k.Bad (b ∷ bs) rest h n = rw (h.0, bad_marked b rest (class_of b) refl h.1) refl

-- the tokens of lexemes, without their lines
abbrev pub plain_tokens : ℕ → List Lexeme → List Token
plain_tokens line ps = map (λ (x : LineToken). x.token) (tokens_from line ps)

placed_marks : (o : Option TokenKind) (text : List ℕ) (line : ℕ) (xs : List LineToken)
    → tokens_marks (map (λ (x : LineToken). x.token) (placed o text line ++ xs)) ≡ kind_marks o text ++ tokens_marks (map (λ (x : LineToken). x.token) xs)
placed_marks None text line xs = refl
placed_marks (Some kind) text line xs = refl

lexed_marked : (ps : List Lexeme) (bytes : List ℕ) (line : ℕ) → IsLexed ps bytes → AllByRecursion (λ (l : Lexeme). is_comment l.kind ≡ false) ps → marks bytes ≡ tokens_marks (plain_tokens line ps)
lexed_marked [] bytes line h n = rw h refl
lexed_marked (p ∷ ps) bytes line h n =
    let others = tokens_from (line + line_ends p.text) ps in
    ap marks h.1 ∙ marks_append p.text h.0 ∙ ap (λ z. z ++ marks h.0) (lexeme_marked p.kind p.text h.0 h.2 n.0)
    ∙ ap (λ z. kind_marks (kind_of p.kind p.text) p.text ++ z) (lexed_marked ps h.0 (line + line_ends p.text) h.3 n.1)
    ∙ sym (placed_marks (kind_of p.kind p.text) p.text line others)

-- Expressions: each `(` is closed

balanced : (w : Text) (n : ℕ) (ms : List Mark) → level n (tokens_marks (tokens w) ++ ms) ≡ level n ms
balanced (Text.num v) n ms = refl
balanced (Text.var x) n ms = refl
balanced (Text.cell x i) n ms =
    ap (λ z. level n (z ++ ms)) (tokens_append (tokens i) (Token.sign sign.BracketClose ∷ [])) ∙ ap (level n) (append_assoc (tokens_marks (tokens i)) [] ms) ∙ balanced i n ms
balanced (Text.neg a) n ms = balanced a n ms
balanced (Text.inverse a) n ms = balanced a n ms
balanced (Text.bin o a b) n ms =
    ap (λ z. level n (z ++ ms)) (tokens_append (tokens a) (Token.op o ∷ tokens b)) ∙ ap (level n) (append_assoc (tokens_marks (tokens a)) (tokens_marks (tokens b)) ms)
    ∙ balanced a n (tokens_marks (tokens b) ++ ms) ∙ balanced b n ms
balanced (Text.paren a) n ms =
    ap (λ z. level (suc n) (z ++ ms)) (tokens_append (tokens a) (Token.sign sign.ParenClose ∷ [])) ∙ ap (level (suc n)) (append_assoc (tokens_marks (tokens a)) (closer ∷ []) ms)
    ∙ balanced a (suc n) (closer ∷ ms)

pub test_level : (x : TestForm) → IsTest x → level 0 (marks x.bytes) ≡ Some 0
test_level x h =
    let spelled : tokens h.is.written ≡ plain_tokens 1 h.lexemes = h.is.spelled in
    let e : marks x.bytes ≡ tokens_marks (tokens h.is.written) ++ [] = lexed_marked h.lexemes x.bytes 1 h.lexed h.no_comment ∙ ap tokens_marks (sym spelled) ∙ sym (append-nil (tokens_marks (tokens h.is.written))) in
    ap (level 0) e ∙ balanced h.is.written 0 []

-- The first `)` that closes nothing

-- how many are open behind these marks, whatever follows

pub record Next (n : ℕ) (qs : List Mark) : Type 0 where
  pub count : ℕ
  pub is : (ms : List Mark) → level n (qs ++ ms) ≡ level count ms

pub next : (n k : ℕ) (qs ms : List Mark) → level n (qs ++ ms) ≡ Some k → Next n qs
next n k [] ms h = record { count = n; is = λ ms. refl }
next n k (opener ∷ qs) ms h = let m = next (suc n) k qs ms h in record { count = m.count; is = m.is }
next zero k (closer ∷ qs) ms h = let e : None ≡ Some k = h in cc
next (suc n) k (closer ∷ qs) ms h = let m = next n k qs ms h in record { count = m.count; is = m.is }

-- with so many open, bytes that close them and no more end before a `)` in one way
no_shorter : (n d : ℕ) (ds : List ℕ) → Some n ≡ Some 0 → 41 ≡ d → level n (marks (d ∷ ds)) ≡ Some 0 → ⊥
no_shorter n d ds z e h =
    let n_is : n ≡ 0 = cc in
    let P : ℕ → Type 0 = λ b. level n (marks (b ∷ ds)) ≡ Some 0 in
    let closed : level n (marks (41 ∷ ds)) ≡ Some 0 = subst P (sym e) h in
    let Q : ℕ → Type 0 = λ b. level b (marks (41 ∷ ds)) ≡ Some 0 in
    let none : ◌≡◌ {A = Option ℕ} None (Some 0) = subst Q n_is closed in
    cc

pub one_close : (n : ℕ) (bs ds xs ys : List ℕ) → level n (marks bs) ≡ Some 0 → level n (marks ds) ≡ Some 0 → bs ++ (41 ∷ xs) ≡ ds ++ (41 ∷ ys) → bs ≡ ds
one_close n [] [] xs ys h k e = refl
one_close n [] (d ∷ ds) xs ys h k e = absurd (no_shorter n d ds h (let f : 41 ≡ d = cc in f) k)
one_close n (b ∷ bs) [] xs ys h k e = absurd (no_shorter n b bs k (let f : 41 ≡ b = cc in f) h)
one_close n (b ∷ bs) (d ∷ ds) xs ys h k e =
    let f : b ≡ d = cc in
    let g : bs ++ (41 ∷ xs) ≡ ds ++ (41 ∷ ys) = cc in
    let P : ℕ → Type 0 = λ z. level n (marks (z ∷ ds)) ≡ Some 0 in
    let m = next n 0 (byte_marks b) (marks bs) h in
    let i : bs ≡ ds = one_close m.count bs ds xs ys (sym (m.is (marks bs)) ∙ h) (sym (m.is (marks ds)) ∙ subst P (sym f) k) g in
    cc

-- Tests

one_expression : (ts : List Token) (a b : Expression) → IsExpression ts a → IsExpression ts b → a ≡ b
one_expression ts a b h k =
    let e : ends (tokens h.written) ≡ ends (tokens k.written) = ap ends (h.spelled ∙ sym k.spelled) in
    let f : Some h.written ≡ Some k.written = sym (all_read h.written h.rules) ∙ e ∙ all_read k.written k.rules in
    let g : h.written ≡ k.written = cc in
    sym h.stands ∙ ap tree g ∙ k.stands

same_test : (a b : List ℕ) (s t : Expression) → a ≡ b → s ≡ t → ◌≡◌ {A = TestForm} (record { bytes = a; tree = s }) (record { bytes = b; tree = t })
same_test a b s t e f = rw (e, f) refl

-- what the bytes of a test are determines its tree
pub one_test : (x y : TestForm) → IsTest x → IsTest y → x.bytes ≡ y.bytes → x ≡ y
one_test x y h k e =
    let P : List ℕ → Type 0 = λ z. IsLexed h.lexemes z in
    let same : h.lexemes ≡ k.lexemes = one_lexing h.lexemes k.lexemes y.bytes (subst P e h.lexed) k.lexed in
    let Q : List Lexeme → Type 0 = λ z. IsExpression (plain_tokens 1 z) x.tree in
    same_test x.bytes y.bytes x.tree y.tree e (one_expression (plain_tokens 1 k.lexemes) x.tree y.tree (subst Q same h.is) k.is)

-- two tests that stand at one place, each with a `)` behind it, have the same bytes
pub one_end : (x y : TestForm) (xs ys : List ℕ) → IsTest x → IsTest y → x.bytes ++ (41 ∷ xs) ≡ y.bytes ++ (41 ∷ ys) → x.bytes ≡ y.bytes
one_end x y xs ys h k e = one_close 0 x.bytes y.bytes xs ys (test_level x h) (test_level y k) e
