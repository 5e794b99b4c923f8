-- What stands at a place of a filter's text.
use Rattle.std.proofs.Common.{ℕ, suc, ◌+◌, ◌-◌, ◌≤◌, ◌<◌, ◌≡◌, Bool, true, false, nat_eq, if◌then◌else◌, List, [], ◌∷◌, ◌++◌, length, take, drop, get_or, drop-drop, length-append, length-drop, Option, Some, None, codes, refl, sym, ap, subst, ◌∙◌, append_assoc, arith}
use Rattle.std.proofs.Math.Seq.{take-append_seam}
use Rattle.std.proofs.lemmas.Bool.{eqb-true, eqb-false, ne_eqb}
use Rattle.std.proofs.lemmas.List.{drop_more, drop_all, take-append-drop}
use Rattle.loom_tree.specs.declared.expression.Expr.{Expr}
use Rattle.loom_tree.specs.Tree.{expression_of}
use Rattle.loom_lexer.specs.Lexeme.{is, is_part, Each}
use Rattle.loom_lexer.specs.Scan.{begins, run_len}
use Rattle.loom_lexer.proofs.Front.{run_each}
use Rattle.loom_lexer.proofs.Unique.{begins_not}
use Rattle.loom_command.specs.FilterForm.{TestForm, is_file_part, IsTest}
use Rattle.loom_command.specs.FilterText.{is_blank, Piece, AreWritten}
use Rattle.loom_command.specs.FilterText as piece
use Rattle.loom_command.proofs.Pieces.{head}
use Rattle.loom_filter.specs.declared.scan.FilterSign.{FilterSign}
use Rattle.loom_filter.specs.declared.scan.FilterSign.TheVariants as g
use Rattle.loom_filter.specs.declared.scan.FilterToken as rust_token
use Rattle.loom_filter.specs.declared.scan.FilterToken.TheVariants as t
use Rattle.loom_filter.specs.Words.{is_name, first_sign, closing, place_behind, IsOneLine, HasNoComment}
use Rattle.loom_filter.specs.Token.{name, word, sign, test, sign_pieces, BeginsNone}
use Rattle.loom_filter.specs.ReaderView.{token_of, IsSpot, TellsTest}
use Rattle.loom_filter.proofs.Words.{name_is}
use Rattle.loom_filter.proofs.Closing.{closing_told, test_closes}
use Rattle.loom_filter.proofs.OneToken.{sign_first, sign_begins, name_dark, word_dark, not_sign, one_first, test_begins}

-- Blanks

-- behind the blanks stands no blank
pub dark_behind : (bytes : List ℕ) (at end : ℕ) → end ≡ at + run_len is_blank (drop at bytes) → begins is_blank (drop end bytes) ≡ false
dark_behind bytes at end e =
    let n = run_len is_blank (drop at bytes) in
    let there : drop end bytes ≡ drop n (drop at bytes) = ap (λ z. drop z bytes) e ∙ sym (drop-drop n at bytes) in
    rw there (begins_not is_blank (drop n (drop at bytes)) (run_each is_blank (drop at bytes)).1)

-- where no blank stands, none is before a piece
no_blanks : (b : ℕ) (bs blanks ys : List ℕ) → is_blank b ≡ false → Each is_blank blanks → b ∷ bs ≡ blanks ++ ys → b ∷ bs ≡ ys
no_blanks b bs [] ys d h e = e
no_blanks b bs (x ∷ xs) ys d h e = let f : b ≡ x = cc in let g : is_blank b ≡ is_blank x = ap is_blank f in let i = h.0 in cc

dark_head : (b : ℕ) (bs : List ℕ) → is_blank b ≡ false → head (b ∷ bs) ≡ b
dark_head b bs h = rw h refl

-- Signs

first_sign_told : (b : ℕ) (s : FilterSign) → first_sign b ≡ Some s → sign_pieces s ≡ piece.sign_piece (b ∷ [])
first_sign_told b s h = go (nat_eq b 58) (nat_eq b 44) (nat_eq b 59) (nat_eq b 62) (nat_eq b 42) (nat_eq b 123) (nat_eq b 125) refl refl refl refl refl refl refl h
  where
    this : (r : FilterSign) (n : ℕ) → nat_eq b n ≡ true → Some r ≡ Some s → sign_pieces r ≡ piece.sign_piece (n ∷ []) → sign_pieces s ≡ piece.sign_piece (b ∷ [])
    this r n e f i = let j : r ≡ s = cc in ap sign_pieces (sym j) ∙ i ∙ ap (λ z. piece.sign_piece (z ∷ [])) (sym (eqb-true b n e))

    go : (q r u v w x y : Bool) → nat_eq b 58 ≡ q → nat_eq b 44 ≡ r → nat_eq b 59 ≡ u → nat_eq b 62 ≡ v → nat_eq b 42 ≡ w → nat_eq b 123 ≡ x → nat_eq b 125 ≡ y
        → (if q then Some g.Colon else (if r then Some g.Comma else (if u then Some g.Semicolon else (if v then Some g.Before else (if w then Some g.All else (if x then Some g.BraceOpen else (if y then Some g.BraceClose else None))))))) ≡ Some s
        → sign_pieces s ≡ piece.sign_piece (b ∷ [])
    go true r u v w x y qh rh uh vh wh xh yh is = this g.Colon 58 qh is refl
    go false true u v w x y qh rh uh vh wh xh yh is = this g.Comma 44 rh is refl
    go false false true v w x y qh rh uh vh wh xh yh is = this g.Semicolon 59 uh is refl
    go false false false true w x y qh rh uh vh wh xh yh is = this g.Before 62 vh is refl
    go false false false false true x y qh rh uh vh wh xh yh is = this g.All 42 wh is refl
    go false false false false false true y qh rh uh vh wh xh yh is = this g.BraceOpen 123 xh is refl
    go false false false false false false true qh rh uh vh wh xh yh is = this g.BraceClose 125 yh is refl
    go false false false false false false false qh rh uh vh wh xh yh is = cc

sign_spot : (s : FilterSign) (rest bytes : List ℕ) → AreWritten (sign_pieces s) rest bytes → IsSpot bytes rest (t.Sign s)
sign_spot s rest bytes h = record { token = sign s; is = tt; stands = refl; written = h }

pub first_spot : (bytes : List ℕ) (at : ℕ) (s : FilterSign) → at < length bytes → first_sign (get_or bytes at 0) ≡ Some s → IsSpot (drop at bytes) (drop (at + 1) bytes) (t.Sign s)
first_spot bytes at s l h =
    let rest = drop (at + 1) bytes in
    let P : List Piece → Type 0 = λ z. AreWritten z rest (drop at bytes) in
    let w : AreWritten (piece.sign_piece (get_or bytes at 0 ∷ [])) rest (drop at bytes) = ([], rest, drop_more bytes at 0 l, tt, tt, refl) in
    sign_spot s rest (drop at bytes) (subst P (sym (first_sign_told (get_or bytes at 0) s h)) w)

-- two bytes at a place
two_there : (bytes : List ℕ) (at b d : ℕ) → at + 1 < length bytes → get_or bytes at 0 ≡ b → get_or bytes (at + 1) 0 ≡ d → drop at bytes ≡ b ∷ d ∷ drop (at + 1 + 1) bytes
two_there bytes at b d l h k =
    let f : drop at bytes ≡ get_or bytes at 0 ∷ drop (at + 1) bytes = drop_more bytes at 0 (omega (arith, l)) in
    let e : drop (at + 1) bytes ≡ get_or bytes (at + 1) 0 ∷ drop (at + 1 + 1) bytes = drop_more bytes (at + 1) 0 l in
    cc

pub apart_spot : (bytes : List ℕ) (at : ℕ) → at + 1 < length bytes → get_or bytes at 0 ≡ 60 → get_or bytes (at + 1) 0 ≡ 62 → IsSpot (drop at bytes) (drop (at + 1 + 1) bytes) (t.Sign g.Apart)
apart_spot bytes at l h k = sign_spot g.Apart (drop (at + 1 + 1) bytes) (drop at bytes) ([], drop (at + 1 + 1) bytes, two_there bytes at 60 62 l h k, tt, tt, refl)

-- Where no token begins

apart_next : (b : ℕ) (bs rest : List ℕ) → is_blank b ≡ false → AreWritten (sign_pieces g.Apart) rest (b ∷ bs) → begins (is 62) bs ≡ true
apart_next b bs rest d h =
    let e : b ∷ bs ≡ 60 ∷ 62 ∷ h.1 = no_blanks b bs h.0 (60 ∷ 62 ∷ h.1) d h.3 h.2 in
    let f : bs ≡ 62 ∷ h.1 = cc in
    ap (begins (is 62)) f

no_sign : (b : ℕ) (bs rest : List ℕ) (s : FilterSign) → is_blank b ≡ false → nat_eq b 40 ≡ false → first_sign b ≡ None → (b ≡ 60 → begins (is 62) bs ≡ false) → b ≡ sign_first s → AreWritten (sign_pieces s) rest (b ∷ bs) → ⊥
no_sign b bs rest g.Colon d p n a e h = let f : first_sign b ≡ Some g.Colon = ap first_sign e in cc
no_sign b bs rest g.Comma d p n a e h = let f : first_sign b ≡ Some g.Comma = ap first_sign e in cc
no_sign b bs rest g.Semicolon d p n a e h = let f : first_sign b ≡ Some g.Semicolon = ap first_sign e in cc
no_sign b bs rest g.Before d p n a e h = let f : first_sign b ≡ Some g.Before = ap first_sign e in cc
no_sign b bs rest g.Apart d p n a e h = let f = apart_next b bs rest d h in let i = a e in cc
no_sign b bs rest g.All d p n a e h = let f : first_sign b ≡ Some g.All = ap first_sign e in cc
no_sign b bs rest g.BraceOpen d p n a e h = let f : first_sign b ≡ Some g.BraceOpen = ap first_sign e in cc
no_sign b bs rest g.BraceClose d p n a e h = let f : first_sign b ≡ Some g.BraceClose = ap first_sign e in cc
no_sign b bs rest g.Call d p n a e h = eqb-false b 40 p e

none_begins : (b : ℕ) (bs : List ℕ) → is_blank b ≡ false → is_part b ≡ false → nat_eq b 40 ≡ false → first_sign b ≡ None → (b ≡ 60 → begins (is 62) bs ≡ false) → BeginsNone (b ∷ bs)
none_begins b bs d q p n a (name w) rest i h = not_sign w b rest (b ∷ bs) (name_dark w i) h (dark_head b bs d) q
none_begins b bs d q p n a (word w) rest i h = not_sign w b rest (b ∷ bs) (word_dark w i.0) h (dark_head b bs d) q
none_begins b bs d q p n a (sign s) rest i h = no_sign b bs rest s d p n a (sym (dark_head b bs d) ∙ sign_begins s rest (b ∷ bs) h) h
none_begins b bs d q p n a (test x) rest i h = eqb-false b 40 p (sym (dark_head b bs d) ∙ test_begins x.bytes rest (b ∷ bs) h)

-- the byte at a place tells what begins there
pub begins_there : (p : ℕ → Bool) (bytes : List ℕ) (at : ℕ) → at < length bytes → begins p (drop at bytes) ≡ p (get_or bytes at 0)
begins_there p bytes at l = ap (begins p) (drop_more bytes at 0 l)

pub none_there : (bytes : List ℕ) (at : ℕ) → at < length bytes → begins is_blank (drop at bytes) ≡ false → begins is_part (drop at bytes) ≡ false → begins (is 40) (drop at bytes) ≡ false
    → first_sign (get_or bytes at 0) ≡ None → (get_or bytes at 0 ≡ 60 → begins (is 62) (drop (at + 1) bytes) ≡ false) → BeginsNone (drop at bytes)
none_there bytes at l d q p n a =
    let b = get_or bytes at 0 in
    subst BeginsNone (sym (drop_more bytes at 0 l))
    (none_begins b (drop (at + 1) bytes) (sym (begins_there is_blank bytes at l) ∙ d) (sym (begins_there is_part bytes at l) ∙ q) (sym (begins_there (is 40) bytes at l) ∙ p) n a)

-- Words

word_spot : (b : ℕ) (bs : List ℕ) (x : rust_token.FilterToken) → is_part b ≡ true
    → token_of x ≡ (if is_name (b ∷ take (run_len is_file_part bs) bs) then name (b ∷ take (run_len is_file_part bs) bs) else word (b ∷ take (run_len is_file_part bs) bs))
    → IsSpot (b ∷ bs) (drop (run_len is_file_part bs) bs) x
word_spot b bs x p h = go (is_name w) refl h
  where
    w : List ℕ
    w = b ∷ take (run_len is_file_part bs) bs

    go : (v : Bool) → is_name (b ∷ take (run_len is_file_part bs) bs) ≡ v
        → token_of x ≡ (if v then name (b ∷ take (run_len is_file_part bs) bs) else word (b ∷ take (run_len is_file_part bs) bs)) → IsSpot (b ∷ bs) (drop (run_len is_file_part bs) bs) x
    go true e f =
        record {
          token = name (b ∷ take (run_len is_file_part bs) bs);
          is = name_is (b ∷ take (run_len is_file_part bs) bs) e;
          stands = sym f;
          written = ([], drop (run_len is_file_part bs) bs, ap (λ z. b ∷ z) (sym (take-append-drop (run_len is_file_part bs) bs)), tt, (run_each is_file_part bs).1, refl);
        }
    go false e f =
        record {
          token = word (b ∷ take (run_len is_file_part bs) bs);
          is = ((p, (run_each is_file_part bs).0), e);
          stands = sym f;
          written = ([], drop (run_len is_file_part bs) bs, ap (λ z. b ∷ z) (sym (take-append-drop (run_len is_file_part bs) bs)), tt, (run_each is_file_part bs).1, refl);
        }

-- no byte of the text is there, or another one
pub none_next : (p : ℕ → Bool) (bytes : List ℕ) (at : ℕ) → length bytes ≤ at → begins p (drop at bytes) ≡ false
none_next p bytes at l = ap (begins p) (drop_all at bytes l)

pub other_next : (bytes : List ℕ) (at b : ℕ) → at < length bytes → (get_or bytes at 0 ≡ b → ⊥) → begins (is b) (drop at bytes) ≡ false
other_next bytes at b l n = begins_there (is b) bytes at l ∙ ne_eqb (get_or bytes at 0) b n

pub word_there : (bytes : List ℕ) (at end : ℕ) (x : rust_token.FilterToken) → at < length bytes → begins is_part (drop at bytes) ≡ true → end ≡ at + 1 + run_len is_file_part (drop (at + 1) bytes)
    → token_of x ≡ (if is_name (take (end - at) (drop at bytes)) then name (take (end - at) (drop at bytes)) else word (take (end - at) (drop at bytes))) → IsSpot (drop at bytes) (drop end bytes) x
word_there bytes at end x l p e h =
    let b = get_or bytes at 0 in
    let bs = drop (at + 1) bytes in
    let n = run_len is_file_part bs in
    let there : drop at bytes ≡ b ∷ bs = drop_more bytes at 0 l in
    let part : is_part b ≡ true = sym (begins_there is_part bytes at l) ∙ p in
    let size : end - at ≡ suc n = omega (arith, e) in
    let text : take (end - at) (drop at bytes) ≡ b ∷ take n bs = ap (λ z. take z (drop at bytes)) size ∙ ap (λ z. take (suc n) z) there in
    let behind : drop end bytes ≡ drop n bs = ap (λ z. drop z bytes) e ∙ sym (drop-drop n (at + 1) bytes) in
    let P : List ℕ → Type 0 = λ z. token_of x ≡ (if is_name z then name z else word z) in
    let s : IsSpot (b ∷ bs) (drop n bs) x = word_spot b bs x part (subst P text h) in
    let Q : List ℕ → Type 0 = λ z. IsSpot z (drop n bs) x in
    let R : List ℕ → Type 0 = λ z. IsSpot (drop at bytes) z x in
    subst R (sym behind) (subst Q (sym there) s)

-- Parentheses

-- a `(` at a place
pub paren_there : (bytes : List ℕ) (at : ℕ) → at < length bytes → begins (is 40) (drop at bytes) ≡ true → drop at bytes ≡ 40 ∷ drop (at + 1) bytes
paren_there bytes at l p =
    let b : get_or bytes at 0 ≡ 40 = eqb-true (get_or bytes at 0) 40 (sym (begins_there (is 40) bytes at l) ∙ p) in
    drop_more bytes at 0 l ∙ ap (λ z. z ∷ drop (at + 1) bytes) b

-- the place behind blanks
behind_blanks : (bytes : List ℕ) (inside close : ℕ) → close ≡ inside + run_len is_blank (drop inside bytes) → drop close bytes ≡ drop (run_len is_blank (drop inside bytes)) (drop inside bytes)
behind_blanks bytes inside close e = ap (λ z. drop z bytes) e ∙ sym (drop-drop (run_len is_blank (drop inside bytes)) inside bytes)

pub call_spot : (bytes : List ℕ) (at close : ℕ) → at < length bytes → begins (is 40) (drop at bytes) ≡ true → close ≡ at + 1 + run_len is_blank (drop (at + 1) bytes) → close < length bytes → get_or bytes close 0 ≡ 41
    → IsSpot (drop at bytes) (drop (close + 1) bytes) (t.Sign g.Call)
call_spot bytes at close l p e m h =
    let inside = drop (at + 1) bytes in
    let n = run_len is_blank inside in
    let last : drop close bytes ≡ 41 ∷ drop (close + 1) bytes = drop_more bytes close 0 m ∙ ap (λ z. z ∷ drop (close + 1) bytes) h in
    let cut : inside ≡ take n inside ++ (41 ∷ drop (close + 1) bytes) = sym (take-append-drop n inside) ∙ ap (λ z. take n inside ++ z) (sym (behind_blanks bytes (at + 1) close e) ∙ last) in
    sign_spot g.Call (drop (close + 1) bytes) (drop at bytes) ([], inside, paren_there bytes at l p, tt, tt, (take n inside, drop (close + 1) bytes, cut, (run_each is_blank inside).0, tt, refl))

-- Where a test ends.
pub record EndsAt (bytes : List ℕ) (inside end : ℕ) : Type 0 where
  pub rest : List ℕ
  pub there : drop inside bytes ≡ take (end - inside) (drop inside bytes) ++ (41 ∷ rest)
  pub behind : drop (end + 1) bytes ≡ rest
  pub after : inside ≤ end
  pub within : end < length bytes
  pub one_line : IsOneLine (take (end - inside) (drop inside bytes))
  pub no_comment : HasNoComment (take (end - inside) (drop inside bytes))
  pub is : closing 0 (drop inside bytes) ≡ Some (end - inside)

ends_by : (bytes : List ℕ) (inside end n : ℕ) → inside ≤ length bytes → end ≡ inside + n → closing 0 (drop inside bytes) ≡ Some n → EndsAt bytes inside end
ends_by bytes inside end n l e h =
    let i = closing_told 0 (drop inside bytes) n h in
    let cut = i.bytes in
    let count = i.count in
    let size : end - inside ≡ length i.front = omega (arith, e, count) in
    let text : take (end - inside) (drop inside bytes) ≡ i.front =
    ap (λ z. take z (drop inside bytes)) size ∙ ap (λ z. take (length i.front) z) cut ∙ take-append_seam i.front (41 ∷ i.rest) in
    let k : end + 1 ≡ inside + suc (length i.front) = omega (arith, e, count) in
    let tail : drop (suc (length i.front)) (i.front ++ (41 ∷ i.rest)) ≡ i.rest = drop_next i.front 41 i.rest in
    let many : length (drop inside bytes) ≡ length (i.front ++ (41 ∷ i.rest)) = ap length cut in
    record {
      rest = i.rest;
      there = cut ∙ ap (λ z. z ++ (41 ∷ i.rest)) (sym text);
      behind = ap (λ z. drop z bytes) k ∙ sym (drop-drop (suc (length i.front)) inside bytes) ∙ ap (drop (suc (length i.front))) cut ∙ tail;
      after = omega (arith, e);
      within = omega (arith, e, l, count, many, length-drop inside bytes, length-append i.front (41 ∷ i.rest));
      one_line = subst IsOneLine (sym text) i.one_line;
      no_comment = subst HasNoComment (sym text) i.no_comment;
      is = (let f : n ≡ end - inside = omega (arith, e) in h ∙ ap Some f);
    }
  where
    drop_next : (xs : List ℕ) (b : ℕ) (ys : List ℕ) → drop (suc (length xs)) (xs ++ (b ∷ ys)) ≡ ys
    drop_next [] b ys = refl
    drop_next (x ∷ xs) b ys = drop_next xs b ys

pub test_ends_at : (bytes : List ℕ) (inside end : ℕ) → inside ≤ length bytes → Some end ≡ place_behind inside (closing 0 (drop inside bytes)) → EndsAt bytes inside end
test_ends_at bytes inside end l h = go (closing 0 (drop inside bytes)) refl h
  where
    go : (o : Option ℕ) → closing 0 (drop inside bytes) ≡ o → Some end ≡ place_behind inside o → EndsAt bytes inside end
    go None e f = cc
    go (Some n) e f = let i : end ≡ inside + n = cc in ends_by bytes inside end n l i e

pub test_spot : (bytes : List ℕ) (at end : ℕ) (e : Expr) → at < length bytes → begins (is 40) (drop at bytes) ≡ true → EndsAt bytes (at + 1) end
    → IsTest (record { bytes = take (end - (at + 1)) (drop (at + 1) bytes); tree = expression_of e }) → IsSpot (drop at bytes) (drop (end + 1) bytes) (t.Test e)
test_spot bytes at end e l p i h =
    let text = take (end - (at + 1)) (drop (at + 1) bytes) in
    let cut : drop (at + 1) bytes ≡ (text ++ codes ")") ++ i.rest = i.there ∙ sym (append_assoc text (codes ")") i.rest) in
    let whole : drop at bytes ≡ 40 ∷ ((text ++ codes ")") ++ i.rest) = paren_there bytes at l p ∙ ap (λ z. 40 ∷ z) cut in
    record { token = test (record { bytes = text; tree = expression_of e }); is = h; stands = refl; written = ([], i.rest, whole, tt, tt, sym i.behind) }

-- no `()` begins there, and no test
call_closes : (blanks more : List ℕ) → Each is_blank blanks → begins (is 41) (drop (run_len is_blank (blanks ++ (41 ∷ more))) (blanks ++ (41 ∷ more))) ≡ true
call_closes [] more h = refl
call_closes (b ∷ bs) more h = rw h.0 (call_closes bs more h.1)

tail_of : (b d : ℕ) (bs ds : List ℕ) → b ∷ bs ≡ d ∷ ds → bs ≡ ds
tail_of b d bs ds e = cc

no_call_sign : (bs rest : List ℕ) → begins (is 41) (drop (run_len is_blank bs) bs) ≡ false → AreWritten (sign_pieces g.Call) rest (40 ∷ bs) → ⊥
no_call_sign bs rest n h =
    let e : bs ≡ h.1 = tail_of 40 40 bs h.1 (no_blanks 40 bs h.0 (40 ∷ h.1) refl h.3 h.2) in
    let close = h.5 in
    let f : bs ≡ close.0 ++ (41 ∷ close.1) = e ∙ close.2 in
    let P : List ℕ → Type 0 = λ z. begins (is 41) (drop (run_len is_blank z) z) ≡ true in
    let y : begins (is 41) (drop (run_len is_blank bs) bs) ≡ true = subst P (sym f) (call_closes close.0 close.1 close.3) in
    cc

-- the bytes behind the `(` don't begin with a test and its `)`
abbrev pub HasNoTest : List ℕ → Type 0
HasNoTest bs = (x : TestForm) (more : List ℕ) → IsTest x → bs ≡ x.bytes ++ (41 ∷ more) → ⊥

no_test : (bs : List ℕ) (x : TestForm) (rest : List ℕ) → HasNoTest bs → IsTest x → AreWritten (piece.test x.bytes ∷ []) rest (40 ∷ bs) → ⊥
no_test bs x rest n i h =
    let e : bs ≡ (x.bytes ++ codes ")") ++ h.1 = tail_of 40 40 bs ((x.bytes ++ codes ")") ++ h.1) (no_blanks 40 bs h.0 (40 ∷ ((x.bytes ++ codes ")") ++ h.1)) refl h.3 h.2) in
    n x h.1 i (e ∙ append_assoc x.bytes (codes ")") h.1)

paren_begins_none : (bs : List ℕ) → begins (is 41) (drop (run_len is_blank bs) bs) ≡ false → HasNoTest bs → BeginsNone (40 ∷ bs)
paren_begins_none bs n m (name w) rest i h = not_sign w 40 rest (40 ∷ bs) (name_dark w i) h refl refl
paren_begins_none bs n m (word w) rest i h = not_sign w 40 rest (40 ∷ bs) (word_dark w i.0) h refl refl
paren_begins_none bs n m (sign s) rest i h =
    let e : s ≡ g.Call = one_first s g.Call (sym (sign_begins s rest (40 ∷ bs) h)) in
    let P : FilterSign → Type 0 = λ z. AreWritten (sign_pieces z) rest (40 ∷ bs) in
    no_call_sign bs rest n (subst P e h)
paren_begins_none bs n m (test x) rest i h = no_test bs x rest m i h

pub paren_none : (bytes : List ℕ) (at close : ℕ) → at < length bytes → begins (is 40) (drop at bytes) ≡ true → close ≡ at + 1 + run_len is_blank (drop (at + 1) bytes) → begins (is 41) (drop close bytes) ≡ false
    → HasNoTest (drop (at + 1) bytes) → BeginsNone (drop at bytes)
paren_none bytes at close l p e n m =
    subst BeginsNone (sym (paren_there bytes at l p)) (paren_begins_none (drop (at + 1) bytes) (ap (begins (is 41)) (sym (behind_blanks bytes (at + 1) close e)) ∙ n) m)

pub no_test_end : (bs : List ℕ) (inside : ℕ) → None ≡ place_behind inside (closing 0 bs) → HasNoTest bs
no_test_end bs inside h x more i e =
    let f : closing 0 bs ≡ Some (length x.bytes) = ap (closing 0) e ∙ test_closes x more i in
    let k : None ≡ Some (inside + length x.bytes) = h ∙ ap (place_behind inside) f in
    cc

pub no_read : (bytes : List ℕ) (inside end : ℕ) → EndsAt bytes inside end → TellsTest (take (end - inside) (drop inside bytes)) None → HasNoTest (drop inside bytes)
no_read bytes inside end i n x more h e =
    let f : Some (end - inside) ≡ Some (length x.bytes) = sym i.is ∙ ap (closing 0) e ∙ test_closes x more h in
    let size : end - inside ≡ length x.bytes = cc in
    let text : take (end - inside) (drop inside bytes) ≡ x.bytes =
    ap (λ z. take z (drop inside bytes)) size ∙ ap (λ z. take (length x.bytes) z) e ∙ take-append_seam x.bytes (41 ∷ more) in
    let P : List ℕ → Type 0 = λ z. IsTest (record { bytes = z; tree = x.tree }) in
    n x.tree (subst P (sym text) h)
