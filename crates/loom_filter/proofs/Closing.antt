-- Where a test ends: at the first `)` that closes nothing in it.
use Rattle.std.proofs.Common.{ℕ, zero, suc, ◌+◌, ◌-◌, ◌≡◌, Bool, true, false, not, ◌&&◌, nat_eq, if◌then◌else◌, List, [], ◌∷◌, ◌++◌, length, map, drop, Option, Some, None, eq-eqb, refl, sym, ap, subst, ◌∙◌, arith}
use Rattle.std.specs.List.{AllByRecursion}
use Rattle.std.proofs.lemmas.Bool.{eqb-true, eqb-false, ne_eqb}
use Rattle.std.proofs.lemmas.List.{take-append-drop}
use Rattle.loom_tree.specs.declared.token.Token as rust
use Rattle.loom_tree.specs.Tree.{Expression}
use Rattle.loom_tree.specs.Token.{LineToken, Token, line_token_of}
use Rattle.loom_lexer.specs.declared.lexeme.Class.{Class}
use Rattle.loom_lexer.specs.declared.lexeme.Class.TheVariants as c
use Rattle.loom_lexer.specs.declared.lexeme.LexemeKind.{LexemeKind}
use Rattle.loom_lexer.specs.declared.lexeme.LexemeKind.TheVariants as k
use Rattle.loom_lexer.specs.Lexeme.{is, is_letter, is_digit, is_part, is_white, is_single, is_comparison, class_of, Each, IsSign, IsPair, IsBad, IsComment, Spells, Lexeme, IsLexed}
use Rattle.loom_lexer.specs.Scan.{begins}
use Rattle.loom_lexer.specs.Tokens.{tokens_from, AreTokens}
use Rattle.loom_lexer.proofs.Unique.{begins_not, one_lexing}
use Rattle.loom_expression.specs.Text.{IsExpression}
use Rattle.loom_expression.specs.ExpressionError.{token_of, tokens_of, IsRefusedAt}
use Rattle.loom_command.specs.FilterForm.{TestForm, IsTest, is_comment}
use Rattle.loom_command.proofs.Parentheses.{Mark, opener, closer, byte_marks, marks, level, test_level, plain_tokens}
use Rattle.loom_filter.specs.Words.{begins_comment, HasNoComment, IsOneLine, one_more, closing, place_behind}

-- Bytes in which no comment begins

and_false : (x : Bool) → (x && false) ≡ false
and_false true = refl
and_false false = refl

-- no comment begins with a byte that isn't `/`
no_slash : (b : ℕ) (bs : List ℕ) → nat_eq b 47 ≡ false → begins_comment (b ∷ bs) ≡ false
no_slash b bs h = rw h refl

-- none with a `/` that has no other one behind it
one_slash : (b : ℕ) (bs : List ℕ) → begins (λ d. nat_eq d 47) bs ≡ false → begins_comment (b ∷ bs) ≡ false
one_slash b bs h = rw h (and_false (nat_eq b 47))

-- a `)` behind the bytes makes no difference
paren_behind : (b : ℕ) (bs rest : List ℕ) → begins_comment (b ∷ bs) ≡ begins_comment (b ∷ (bs ++ (41 ∷ rest)))
paren_behind b [] rest = refl
paren_behind b (d ∷ bs) rest = refl

comments_behind : (xs ys : List ℕ) → HasNoComment (xs ++ ys) → HasNoComment ys
comments_behind [] ys h = h
comments_behind (x ∷ xs) ys h = comments_behind xs ys h.1

-- What a lexeme that is no comment has in it

run_free : (p : ℕ → Bool) → p 47 ≡ false → (bs rest : List ℕ) → Each p bs → HasNoComment rest → HasNoComment (bs ++ rest)
run_free p n [] rest h i = i
run_free p n (b ∷ bs) rest h i = (no_slash b (bs ++ rest) (ne_eqb b 47 (λ e. let g : p b ≡ p 47 = ap p e in let f = h.0 in cc)), run_free p n bs rest h.1 i)

class_free : (b : ℕ) (d : Class) → class_of b ≡ d → (c.Slash ≡ d → ⊥) → nat_eq b 47 ≡ false
class_free b d h n = ne_eqb b 47 (λ e. n (sym (ap class_of e) ∙ h))

sign_free : (b : ℕ) (rest : List ℕ) (d : Class) → class_of b ≡ d → IsSign d rest → begins_comment (b ∷ rest) ≡ false
sign_free b rest c.Single e h = no_slash b rest (class_free b c.Single e (λ f. cc))
sign_free b rest c.Comparison e h = no_slash b rest (class_free b c.Comparison e (λ f. cc))
sign_free b rest c.Slash e h = one_slash b rest (begins_not (is 47) rest h)
sign_free b rest c.Letter e h = absurd h
sign_free b rest c.Digit e h = absurd h
sign_free b rest c.White e h = absurd h
sign_free b rest c.Ampersand e h = absurd h
sign_free b rest c.Bar e h = absurd h
sign_free b rest c.Other e h = absurd h

two_free : (b d : ℕ) (bs rest : List ℕ) → nat_eq b 47 ≡ false → nat_eq d 47 ≡ false → bs ≡ d ∷ [] → HasNoComment rest → HasNoComment (b ∷ (bs ++ rest))
two_free b d bs rest h k e i = rw e (no_slash b (d ∷ rest) h, (no_slash d rest k, i))

pair_free : (b : ℕ) (bs rest : List ℕ) (d : Class) → class_of b ≡ d → IsPair d bs → HasNoComment rest → HasNoComment (b ∷ (bs ++ rest))
pair_free b bs rest c.Comparison e h i = two_free b 61 bs rest (class_free b c.Comparison e (λ f. cc)) refl h i
pair_free b bs rest c.Ampersand e h i = two_free b 38 bs rest (class_free b c.Ampersand e (λ f. cc)) refl h i
pair_free b bs rest c.Bar e h i = two_free b 124 bs rest (class_free b c.Bar e (λ f. cc)) refl h i
pair_free b bs rest c.Letter e h i = absurd h
pair_free b bs rest c.Digit e h i = absurd h
pair_free b bs rest c.White e h i = absurd h
pair_free b bs rest c.Single e h i = absurd h
pair_free b bs rest c.Slash e h i = absurd h
pair_free b bs rest c.Other e h i = absurd h

bad_free : (b : ℕ) (rest : List ℕ) (d : Class) → class_of b ≡ d → IsBad d rest → nat_eq b 47 ≡ false
bad_free b rest c.Ampersand e h = class_free b c.Ampersand e (λ f. cc)
bad_free b rest c.Bar e h = class_free b c.Bar e (λ f. cc)
bad_free b rest c.Other e h = class_free b c.Other e (λ f. cc)
bad_free b rest c.Letter e h = absurd h
bad_free b rest c.Digit e h = absurd h
bad_free b rest c.White e h = absurd h
bad_free b rest c.Single e h = absurd h
bad_free b rest c.Comparison e h = absurd h
bad_free b rest c.Slash e h = absurd h

lexeme_free : (kind : LexemeKind) (text rest : List ℕ) → Spells kind text rest → is_comment kind ≡ false → HasNoComment rest → HasNoComment (text ++ rest)
lexeme_free kind [] rest h n i = absurd h
lexeme_free k.Comment (b ∷ bs) rest h n i = cc
lexeme_free k.White (b ∷ bs) rest h n i = rw h.1 (no_slash b rest (class_free b c.White h.0 (λ f. cc)), i)
lexeme_free k.Name (b ∷ bs) rest h n i = (no_slash b (bs ++ rest) (class_free b c.Letter h.0 (λ f. cc)), run_free is_part refl bs rest h.1 i)
lexeme_free k.Number (b ∷ bs) rest h n i = (no_slash b (bs ++ rest) (class_free b c.Digit h.0 (λ f. cc)), run_free is_digit refl bs rest h.1 i)
lexeme_free k.Sign (b ∷ bs) rest h n i = rw h.0 (sign_free b rest (class_of b) refl h.1, i)
lexeme_free k.Pair (b ∷ bs) rest h n i = pair_free b bs rest (class_of b) refl h i
lexeme_free k.Bad (b ∷ bs) rest h n i = rw h.0 (no_slash b rest (bad_free b rest (class_of b) refl h.1), i)

lexed_free : (ps : List Lexeme) (bytes : List ℕ) → IsLexed ps bytes → AllByRecursion (λ (l : Lexeme). is_comment l.kind ≡ false) ps → HasNoComment bytes
lexed_free [] bytes h n = rw h tt
lexed_free (p ∷ ps) bytes h n = subst HasNoComment (sym h.1) (lexeme_free p.kind p.text h.0 h.2 n.0 (lexed_free ps h.0 h.3 n.1))

-- The other way

slash_told : (b : ℕ) → class_of b ≡ c.Slash → nat_eq b 47 ≡ true
slash_told b h = go (is_letter b) (is_digit b) (is_white b) (is_single b) (is_comparison b) (nat_eq b 38) (nat_eq b 124) (nat_eq b 47) h
  where
    go : (l d w s e a v h : Bool) → (if l then c.Letter else (if d then c.Digit else (if w then c.White else (if s then c.Single else (if e then c.Comparison else (if a then c.Ampersand else (if v then c.Bar else (if h then c.Slash else c.Other)))))))) ≡ c.Slash → h ≡ true
    go true d w s e a v h is = cc
    go false true w s e a v h is = cc
    go false false true s e a v h is = cc
    go false false false true e a v h is = cc
    go false false false false true a v h is = cc
    go false false false false false true v h is = cc
    go false false false false false false true h is = cc
    go false false false false false false false true is = refl
    go false false false false false false false false is = cc

comment_begins : (b : ℕ) (bs rest : List ℕ) (d : Class) → class_of b ≡ d → IsComment d bs → begins_comment (b ∷ (bs ++ rest)) ≡ true
comment_begins b bs rest c.Slash e h = let f = h.1 in let g : nat_eq b 47 ≡ true = slash_told b e in rw (g, f) refl
comment_begins b bs rest c.Letter e h = absurd h
comment_begins b bs rest c.Digit e h = absurd h
comment_begins b bs rest c.White e h = absurd h
comment_begins b bs rest c.Single e h = absurd h
comment_begins b bs rest c.Comparison e h = absurd h
comment_begins b bs rest c.Ampersand e h = absurd h
comment_begins b bs rest c.Bar e h = absurd h
comment_begins b bs rest c.Other e h = absurd h

no_comment : (kind : LexemeKind) (text rest : List ℕ) → Spells kind text rest → HasNoComment (text ++ rest) → is_comment kind ≡ false
no_comment kind [] rest h i = absurd h
no_comment k.Comment (b ∷ bs) rest h i = let e : begins_comment (b ∷ (bs ++ rest)) ≡ true = comment_begins b bs rest (class_of b) refl h.0 in let f = i.0 in cc
no_comment k.White (b ∷ bs) rest h i = refl
no_comment k.Name (b ∷ bs) rest h i = refl
no_comment k.Number (b ∷ bs) rest h i = refl
no_comment k.Sign (b ∷ bs) rest h i = refl
no_comment k.Pair (b ∷ bs) rest h i = refl
no_comment k.Bad (b ∷ bs) rest h i = refl

no_comments : (ps : List Lexeme) (bytes : List ℕ) → IsLexed ps bytes → HasNoComment bytes → AllByRecursion (λ (l : Lexeme). is_comment l.kind ≡ false) ps
no_comments [] bytes h i = tt
no_comments (p ∷ ps) bytes h i =
    let j : HasNoComment (p.text ++ h.0) = subst HasNoComment h.1 i in
    (no_comment p.kind p.text h.0 h.2 j, no_comments ps h.0 h.3 (comments_behind p.text h.0 j))

-- The first `)` that closes nothing

pub record Closes (depth : ℕ) (bs : List ℕ) (n : ℕ) : Type 0 where
  pub front : List ℕ
  pub rest : List ℕ
  pub bytes : bs ≡ front ++ (41 ∷ rest)
  pub count : length front ≡ n
  pub closed : level depth (marks front) ≡ Some 0
  pub one_line : IsOneLine front
  pub no_comment : HasNoComment front

record More (o : Option ℕ) (n : ℕ) : Type 0 where
  pub less : ℕ
  pub is : o ≡ Some less
  pub next : suc less ≡ n

more : (o : Option ℕ) (n : ℕ) → one_more o ≡ Some n → More o n
more None n h = cc
more (Some m) n h = record { less = m; is = refl; next = (let e : suc m ≡ n = cc in e) }

open_marks : (b : ℕ) → nat_eq b 40 ≡ true → byte_marks b ≡ opener ∷ []
open_marks b h = rw h refl

close_marks : (b : ℕ) → nat_eq b 41 ≡ true → byte_marks b ≡ closer ∷ []
close_marks b h = ap byte_marks (eqb-true b 41 h)

other_marks : (b : ℕ) → nat_eq b 40 ≡ false → nat_eq b 41 ≡ false → byte_marks b ≡ []
other_marks b h k = rw (h, k) refl

closed_level : (n : ℕ) (ms : List Mark) → nat_eq n 0 ≡ false → level n (closer ∷ ms) ≡ level (n - 1) ms
closed_level zero ms h = cc
closed_level (suc n) ms h = let e : suc n - 1 ≡ n = omega arith in rw e refl

-- one more byte in front
closes_on : (depth after b : ℕ) (bs : List ℕ) (n : ℕ) → nat_eq b 10 ≡ false → begins_comment (b ∷ bs) ≡ false → ((ms : List Mark) → level depth (byte_marks b ++ ms) ≡ level after ms) → (o : Option ℕ)
    → ((m : ℕ) → o ≡ Some m → Closes after bs m) → one_more o ≡ Some n → Closes depth (b ∷ bs) n
closes_on depth after b bs n line comment same o goes h =
    let m = more o n h in
    let i = goes m.less m.is in
    let bytes = i.bytes in
    let count = i.count in
    let next = m.next in
    record {
      front = b ∷ i.front;
      rest = i.rest;
      bytes = ap (λ z. b ∷ z) bytes;
      count = ap suc count ∙ next;
      closed = same (marks i.front) ∙ i.closed;
      one_line = (rw line refl, i.one_line);
      no_comment = (paren_behind b i.front i.rest ∙ ap (λ z. begins_comment (b ∷ z)) (sym bytes) ∙ comment, i.no_comment);
    }

pub closing_told : (depth : ℕ) (bs : List ℕ) (n : ℕ) → closing depth bs ≡ Some n → Closes depth bs n
closing_told depth [] n h = cc
closing_told depth (b ∷ bs) n h =
    go (nat_eq b 10) (begins_comment (b ∷ bs)) (nat_eq b 41) (nat_eq b 40) (nat_eq depth 0) refl refl refl refl refl (closing_told (depth - 1) bs) (closing_told (suc depth) bs) (closing_told depth bs) h
  where
    go : (e f r l z : Bool) → nat_eq b 10 ≡ e → begins_comment (b ∷ bs) ≡ f → nat_eq b 41 ≡ r → nat_eq b 40 ≡ l → nat_eq depth 0 ≡ z
        → ((m : ℕ) → closing (depth - 1) bs ≡ Some m → Closes (depth - 1) bs m) → ((m : ℕ) → closing (suc depth) bs ≡ Some m → Closes (suc depth) bs m)
        → ((m : ℕ) → closing depth bs ≡ Some m → Closes depth bs m)
        → (if e then None else (if f then None else (if r then (if z then Some 0 else one_more (closing (depth - 1) bs)) else (if l then one_more (closing (suc depth) bs) else one_more (closing depth bs))))) ≡ Some n
        → Closes depth (b ∷ bs) n
    go true f r l z eh fh rh lh zh down up on is = cc
    go false true r l z eh fh rh lh zh down up on is = cc
    go false false true l true eh fh rh lh zh down up on is =
        let i : 0 ≡ n = cc in
        record { front = []; rest = bs; bytes = ap (λ z. z ∷ bs) (eqb-true b 41 rh); count = i; closed = ap Some (eqb-true depth 0 zh); one_line = tt; no_comment = tt }
    go false false true l false eh fh rh lh zh down up on is =
        closes_on depth (depth - 1) b bs n eh fh (λ ms. ap (λ z. level depth (z ++ ms)) (close_marks b rh) ∙ closed_level depth ms zh) (closing (depth - 1) bs) down is
    go false false false true z eh fh rh lh zh down up on is = closes_on depth (suc depth) b bs n eh fh (λ ms. ap (λ z. level depth (z ++ ms)) (open_marks b lh)) (closing (suc depth) bs) up is
    go false false false false z eh fh rh lh zh down up on is = closes_on depth depth b bs n eh fh (λ ms. ap (λ z. level depth (z ++ ms)) (other_marks b lh rh)) (closing depth bs) on is

not_true : (x : Bool) → not x ≡ true → x ≡ false
not_true true h = sym h
not_true false h = refl

pub closing_found : (depth : ℕ) (bs rest : List ℕ) → level depth (marks bs) ≡ Some 0 → IsOneLine bs → HasNoComment bs → closing depth (bs ++ (41 ∷ rest)) ≡ Some (length bs)
closing_found depth [] rest h i j = let e : depth ≡ 0 = cc in rw e refl
closing_found depth (b ∷ bs) rest h i j =
    let line : nat_eq b 10 ≡ false = not_true (nat_eq b 10) i.0 in
    let comment : begins_comment (b ∷ (bs ++ (41 ∷ rest))) ≡ false = sym (paren_behind b bs rest) ∙ j.0 in
    rw (line, comment) (go (nat_eq b 41) (nat_eq b 40) (nat_eq depth 0) refl refl refl (λ g. closing_found (depth - 1) bs rest g i.1 j.1) (λ g. closing_found (suc depth) bs rest g i.1 j.1) (λ g. closing_found depth bs rest g i.1 j.1))
  where
    go : (r l z : Bool) → nat_eq b 41 ≡ r → nat_eq b 40 ≡ l → nat_eq depth 0 ≡ z
        → (level (depth - 1) (marks bs) ≡ Some 0 → closing (depth - 1) (bs ++ (41 ∷ rest)) ≡ Some (length bs)) → (level (suc depth) (marks bs) ≡ Some 0 → closing (suc depth) (bs ++ (41 ∷ rest)) ≡ Some (length bs))
        → (level depth (marks bs) ≡ Some 0 → closing depth (bs ++ (41 ∷ rest)) ≡ Some (length bs))
        → (if r then (if z then Some 0 else one_more (closing (depth - 1) (bs ++ (41 ∷ rest)))) else (if l then one_more (closing (suc depth) (bs ++ (41 ∷ rest))) else one_more (closing depth (bs ++ (41 ∷ rest))))) ≡ Some (suc (length bs))
    go true l true rh lh zh down up on =
        let P : ℕ → Type 0 = λ z. level z (marks (b ∷ bs)) ≡ Some 0 in
        let at_none : level 0 (byte_marks b ++ marks bs) ≡ Some 0 = subst P (eqb-true depth 0 zh) h in
        let none : ◌≡◌ {A = Option ℕ} None (Some 0) = ap (λ z. level 0 (z ++ marks bs)) (sym (close_marks b rh)) ∙ at_none in
        cc
    go true l false rh lh zh down up on = ap one_more (down (sym (ap (λ z. level depth (z ++ marks bs)) (close_marks b rh) ∙ closed_level depth (marks bs) zh) ∙ h))
    go false true z rh lh zh down up on = ap one_more (up (ap (λ z. level depth (z ++ marks bs)) (sym (open_marks b lh)) ∙ h))
    go false false z rh lh zh down up on = ap one_more (on (ap (λ z. level depth (z ++ marks bs)) (sym (other_marks b lh rh)) ∙ h))

-- Tests

pub test_free : (x : TestForm) → IsTest x → HasNoComment x.bytes
test_free x h = lexed_free h.lexemes x.bytes h.lexed h.no_comment

pub test_closes : (x : TestForm) (rest : List ℕ) → IsTest x → closing 0 (x.bytes ++ (41 ∷ rest)) ≡ Some (length x.bytes)
test_closes x rest h = closing_found 0 x.bytes rest (test_level x h) h.one_line (test_free x h)

-- the tokens without their lines
plain_of : (bytes : List ℕ) (ts : List rust.Token) → map (λ (x : LineToken). x.token) (map (line_token_of bytes) ts) ≡ tokens_of bytes ts
plain_of bytes [] = refl
plain_of bytes (t ∷ ts) = ap (λ z. token_of bytes t ∷ z) (plain_of bytes ts)

same_tokens : (bytes : List ℕ) (ts : List rust.Token) (ps : List Lexeme) → map (line_token_of bytes) ts ≡ tokens_from 1 ps → tokens_of bytes ts ≡ plain_tokens 1 ps
same_tokens bytes ts ps h = sym (plain_of bytes ts) ∙ ap (λ (z : List LineToken). map (λ (x : LineToken). x.token) z) h

-- what was read is a test
pub test_read : (bytes : List ℕ) (ts : List rust.Token) (e : Expression) → AreTokens bytes (map (line_token_of bytes) ts) → IsOneLine bytes → HasNoComment bytes → IsExpression (tokens_of bytes ts) e → IsTest (record { bytes = bytes; tree = e })
test_read bytes ts e h line free is =
    let P : List Token → Type 0 = λ z. IsExpression z e in
    record { lexemes = h.lexemes; lexed = h.lexed; one_line = line; no_comment = no_comments h.lexemes bytes h.lexed free; is = subst P (same_tokens bytes ts h.lexemes h.theirs) is }

-- what is refused is no expression
no_expression : (ts : List Token) (n : ℕ) (e : Expression) → IsRefusedAt ts n → IsExpression ts e → ⊥
no_expression ts n e h is = go (nat_eq n (length ts)) refl
  where
    go : (v : Bool) → nat_eq n (length ts) ≡ v → ⊥
    go true f = h.at_end (eqb-true n (length ts) f) e is
    go false f =
        let d : n ≡ length ts → ⊥ = eqb-false n (length ts) f in
        let w = h.within in
        let P : List Token → Type 0 = λ z. IsExpression z e in
        h.beyond (omega (arith, d, w)) (record { more = drop (n + 1) ts; tree = e; whole = subst P (sym (take-append-drop (n + 1) ts)) is })

pub no_test_read : (bytes : List ℕ) (ts : List rust.Token) (n : ℕ) (e : Expression) → AreTokens bytes (map (line_token_of bytes) ts) → IsRefusedAt (tokens_of bytes ts) n → IsTest (record { bytes = bytes; tree = e }) → ⊥
no_test_read bytes ts n e h r t =
    let same : h.lexemes ≡ t.lexemes = one_lexing h.lexemes t.lexemes bytes h.lexed t.lexed in
    let P : List Token → Type 0 = λ z. IsExpression z e in
    let eq : tokens_of bytes ts ≡ plain_tokens 1 t.lexemes = same_tokens bytes ts h.lexemes h.theirs ∙ ap (plain_tokens 1) same in
    no_expression (tokens_of bytes ts) n e r (subst P (sym eq) t.is)

-- One byte closes_on

place_more : (at : ℕ) (o : Option ℕ) → place_behind (at + 1) o ≡ place_behind at (one_more o)
place_more at None = refl
place_more at (Some n) = ap Some (omega arith)

pub closing_close : (depth next b : ℕ) (bs : List ℕ) → nat_eq b 10 ≡ false → begins_comment (b ∷ bs) ≡ false → b ≡ 41 → (depth ≡ 0 → ⊥) → next ≡ depth - 1 → closing depth (b ∷ bs) ≡ one_more (closing next bs)
closing_close depth next b bs l f h n e = let z = ne_eqb depth 0 n in let r : nat_eq b 41 ≡ true = eq-eqb b 41 h in rw (l, f, r, z, e) refl

pub closing_open : (depth next b : ℕ) (bs : List ℕ) → nat_eq b 10 ≡ false → begins_comment (b ∷ bs) ≡ false → b ≡ 40 → next ≡ depth + 1 → closing depth (b ∷ bs) ≡ one_more (closing next bs)
closing_open depth next b bs l f h e =
    let s : next ≡ suc depth = omega (arith, e) in
    let r : nat_eq b 41 ≡ false = ne_eqb b 41 (λ k. omega (arith, h, k)) in
    let o : nat_eq b 40 ≡ true = eq-eqb b 40 h in
    rw (l, f, r, o, s) refl

pub closing_other : (depth next b : ℕ) (bs : List ℕ) → nat_eq b 10 ≡ false → begins_comment (b ∷ bs) ≡ false → (b ≡ 41 → ⊥) → (b ≡ 40 → ⊥) → next ≡ depth → closing depth (b ∷ bs) ≡ one_more (closing next bs)
closing_other depth next b bs l f n m e =
    let r = ne_eqb b 41 n in
    let o = ne_eqb b 40 m in
    rw (l, f, r, o, e) refl

-- the loop that looks for the end goes on
pub closing_on : (bytes : List ℕ) (at end depth next b : ℕ) → drop end bytes ≡ b ∷ drop (end + 1) bytes → place_behind end (closing depth (drop end bytes)) ≡ place_behind at (closing 0 (drop at bytes))
    → closing depth (b ∷ drop (end + 1) bytes) ≡ one_more (closing next (drop (end + 1) bytes)) → place_behind (end + 1) (closing next (drop (end + 1) bytes)) ≡ place_behind at (closing 0 (drop at bytes))
closing_on bytes at end depth next b e h k = place_more end (closing next (drop (end + 1) bytes)) ∙ ap (place_behind end) (sym k) ∙ ap (λ z. place_behind end (closing depth z)) (sym e) ∙ h
