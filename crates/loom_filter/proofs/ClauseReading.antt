-- What was read of a text so far, and what is told of it where the reader stops.
use Rattle.std.proofs.Common.{ℕ, ◌+◌, ◌≤◌, ◌<◌, ◌≡◌, ◌⊎◌, inl, inr, Bool, false, List, [], ◌∷◌, ◌++◌, length, take, drop, Err, Option, Some, None, IfSome, codes, refl, sym, ap, subst, ◌∙◌, append_assoc, append-nil, arith, length-append, length-drop, take-append-drop}
use Rattle.std.proofs.lemmas.List.{length-map, drop-drop, drop_all}
use Rattle.loom_lexer.specs.Lexeme.{Each, BeginsWithout}
use Rattle.loom_lexer.specs.Scan.{run_len}
use Rattle.loom_lexer.proofs.Front.{run_each}
use Rattle.loom_lexer.proofs.Unique.{one_cut}
use Rattle.loom_expression.specs.Reader.{after}
use Rattle.loom_command.specs.FilterForm.{TestForm, ClauseForm, IsFileWord}
use Rattle.loom_command.specs.FilterText.{is_blank, Piece, piece_bytes, AreWritten}
use Rattle.loom_command.specs.FilterText as piece
use Rattle.loom_command.proofs.Fields.{same_behind}
use Rattle.loom_command.proofs.Pieces.{IsDark, token_of}
use Rattle.loom_filter.specs.declared.scan.FilterSign.TheVariants as g
use Rattle.loom_filter.specs.declared.scan.FilterToken as rust_token
use Rattle.loom_filter.specs.declared.clause.CountedClause as rust_clause
use Rattle.loom_filter.specs.declared.parse.ReadError.{ReadError}
use Rattle.loom_filter.specs.declared.parse.ReadError.TheVariants as read
use Rattle.loom_filter.specs.Token.{FilterToken, name, word, sign, test, token_pieces, tokens_pieces, IsToken, AreFilterTokens, BeginsNone}
use Rattle.loom_filter.specs.Builders.{counted_clause, counted_clauses, plain, written}
use Rattle.loom_filter.specs.Machine.{fresh, feed_filter, feed_all, finish}
use Rattle.loom_filter.specs.ReaderView as view
use Rattle.loom_filter.specs.ReaderView.{IsSpot, clauses_with}
use Rattle.loom_filter.specs.FilterError.{AreClauses, LeavesBehind, IsTokenTaken, IsUnfit, TellsToken, TellsClauses}
use Rattle.loom_filter.proofs.Words.{name_word}
use Rattle.loom_filter.proofs.Natural.{map_if, reader_map, filter_state, finish_state}
use Rattle.loom_filter.proofs.Sound.{Reader, all_more, finished, FinalClauses}
use Rattle.loom_filter.proofs.FormTokens.{pieces_append, filter_spelled}
use Rattle.loom_filter.proofs.Leaves.{run_append, all_sound, fresh_good, Stops, leaves}

abbrev Tokens : Type 0
Tokens = List (FilterToken TestForm)

-- Blanks

each_append : (p : ℕ → Bool) (bs rest : List ℕ) → Each p bs → Each p rest → Each p (bs ++ rest)
each_append p [] rest h k = k
each_append p (b ∷ bs) rest h k = (h.0, each_append p bs rest h.1 k)

dark_stops : (bs rest : List ℕ) → IsDark bs → BeginsWithout is_blank (bs ++ rest)
dark_stops [] rest h = absurd h
dark_stops (b ∷ bs) rest h = h

-- blanks stand from the one place to the other, where none goes on
pub record AreBlanks (bytes : List ℕ) (from at : ℕ) : Type 0 where
  pub blanks : List ℕ
  pub are : drop from bytes ≡ blanks ++ drop at bytes
  pub blank : Each is_blank blanks
  pub stands : BeginsWithout is_blank (drop at bytes)

pub blanks_behind : (bytes : List ℕ) (from at : ℕ) → at ≡ from + run_len is_blank (drop from bytes) → AreBlanks bytes from at
blanks_behind bytes from at e =
    let size = run_len is_blank (drop from bytes) in
    let r = run_each is_blank (drop from bytes) in
    let same : drop size (drop from bytes) ≡ drop at bytes = drop-drop size from bytes ∙ ap (λ z. drop z bytes) (sym e) in
    record {
      blanks = take size (drop from bytes);
      are = sym (take-append-drop size (drop from bytes)) ∙ ap (λ z. take size (drop from bytes) ++ z) same;
      blank = r.0;
      stands = subst (λ z. BeginsWithout is_blank z) same r.1;
    }

blanks_on : (x : Piece) (ps : List Piece) (rest bs more : List ℕ) → Each is_blank bs → AreWritten (x ∷ ps) rest more → AreWritten (x ∷ ps) rest (bs ++ more)
blanks_on x ps rest bs more b h = (bs ++ h.0, h.1, ap (λ z. bs ++ z) h.2 ∙ sym (append_assoc bs h.0 (piece_bytes x ++ h.1)), each_append is_blank bs h.0 b h.3, h.4, h.5)

blanks_off : (x : Piece) (ps : List Piece) (rest bs more : List ℕ) → IsDark (piece_bytes x) → Each is_blank bs → BeginsWithout is_blank more → AreWritten (x ∷ ps) rest (bs ++ more) → AreWritten (x ∷ ps) rest more
blanks_off x ps rest bs more d b s h =
    let behind = piece_bytes x ++ h.1 in
    let same : bs ≡ h.0 = one_cut is_blank bs h.0 more behind b h.3 s (dark_stops (piece_bytes x) h.1 d) h.2 in
    let e : more ≡ behind = same_behind h.0 more behind (ap (λ z. z ++ more) (sym same) ∙ h.2) in
    ([], h.1, e, tt, h.4, h.5)

-- The first piece of a token

pub record HasFirst (t : FilterToken TestForm) : Type 0 where
  pub first : Piece
  pub others : List Piece
  pub are : token_pieces t ≡ first ∷ others
  pub dark : IsDark (piece_bytes first)

word_first : (w : List ℕ) → IsFileWord w → IsDark w
word_first [] h = absurd h
word_first (b ∷ bs) h = (token_of b bs h.0 h.1).dark

pub has_first : (t : FilterToken TestForm) → IsToken t → HasFirst t
has_first (name w) i = record { first = piece.word w; others = []; are = refl; dark = word_first w (name_word w i) }
has_first (word w) i = record { first = piece.word w; others = []; are = refl; dark = word_first w i.0 }
has_first (sign g.Colon) i = record { first = piece.sign (codes ":"); others = []; are = refl; dark = refl }
has_first (sign g.Comma) i = record { first = piece.sign (codes ","); others = []; are = refl; dark = refl }
has_first (sign g.Semicolon) i = record { first = piece.sign (codes ";"); others = []; are = refl; dark = refl }
has_first (sign g.Before) i = record { first = piece.sign (codes ">"); others = []; are = refl; dark = refl }
has_first (sign g.Apart) i = record { first = piece.sign (codes "<>"); others = []; are = refl; dark = refl }
has_first (sign g.All) i = record { first = piece.sign (codes "*"); others = []; are = refl; dark = refl }
has_first (sign g.BraceOpen) i = record { first = piece.sign (codes "{"); others = []; are = refl; dark = refl }
has_first (sign g.BraceClose) i = record { first = piece.sign (codes "}"); others = []; are = refl; dark = refl }
has_first (sign g.Call) i = record { first = piece.sign (codes "("); others = piece.sign_piece (codes ")"); are = refl; dark = refl }
has_first (test x) i = record { first = piece.test x.bytes; others = []; are = refl; dark = refl }

token_on : (t : FilterToken TestForm) (rest bs more : List ℕ) → IsToken t → Each is_blank bs → AreWritten (token_pieces t) rest more → AreWritten (token_pieces t) rest (bs ++ more)
token_on t rest bs more i b h =
    let f = has_first t i in
    let P : List Piece → Type 0 = λ z. AreWritten z rest more in
    let Q : List Piece → Type 0 = λ z. AreWritten z rest (bs ++ more) in
    subst Q (sym f.are) (blanks_on f.first f.others rest bs more b (subst P f.are h))

token_off : (t : FilterToken TestForm) (rest bs more : List ℕ) → IsToken t → Each is_blank bs → BeginsWithout is_blank more → AreWritten (token_pieces t) rest (bs ++ more) → AreWritten (token_pieces t) rest more
token_off t rest bs more i b s h =
    let f = has_first t i in
    let P : List Piece → Type 0 = λ z. AreWritten z rest more in
    let Q : List Piece → Type 0 = λ z. AreWritten z rest (bs ++ more) in
    subst P (sym f.are) (blanks_off f.first f.others rest bs more f.dark b s (subst Q f.are h))

-- A token has a byte.

no_longer : (ps : List Piece) (rest bytes : List ℕ) → AreWritten ps rest bytes → length rest ≤ length bytes
no_longer [] rest bytes h = let e = ap length h in omega (arith, e)
no_longer (x ∷ ps) rest bytes h =
    let e : length bytes ≡ length (h.0 ++ (piece_bytes x ++ h.1)) = ap length h.2 in
    let f = length-append h.0 (piece_bytes x ++ h.1) in
    let k = length-append (piece_bytes x) h.1 in
    let i = no_longer ps rest h.1 h.5 in
    omega (arith, e, f, k, i)

dark_size : (bs : List ℕ) → IsDark bs → 0 < length bs
dark_size [] h = absurd h
dark_size (b ∷ bs) h = omega arith

piece_shorter : (x : Piece) (ps : List Piece) (rest bytes : List ℕ) → IsDark (piece_bytes x) → AreWritten (x ∷ ps) rest bytes → length rest < length bytes
piece_shorter x ps rest bytes d h =
    let e : length bytes ≡ length (h.0 ++ (piece_bytes x ++ h.1)) = ap length h.2 in
    let f = length-append h.0 (piece_bytes x ++ h.1) in
    let k = length-append (piece_bytes x) h.1 in
    let i = no_longer ps rest h.1 h.5 in
    let j = dark_size (piece_bytes x) d in
    omega (arith, e, f, k, i, j)

pub token_shorter : (t : FilterToken TestForm) (rest bytes : List ℕ) → IsToken t → AreWritten (token_pieces t) rest bytes → length rest < length bytes
token_shorter t rest bytes i h =
    let f = has_first t i in
    let P : List Piece → Type 0 = λ z. AreWritten z rest bytes in
    piece_shorter f.first f.others rest bytes f.dark (subst P f.are h)

-- the place behind a token lies further
pub spot_further : (bytes : List ℕ) (at end : ℕ) (x : rust_token.FilterToken) → at ≤ length bytes → end ≤ length bytes → IsSpot (drop at bytes) (drop end bytes) x → at < end
spot_further bytes at end x h k s =
    let l = token_shorter s.token (drop end bytes) (drop at bytes) s.is s.written in
    let e = length-drop at bytes in
    let f = length-drop end bytes in
    omega (arith, l, e, f)

-- One more token

glue : (ps qs : List Piece) (rest middle bytes : List ℕ) → AreWritten ps middle bytes → AreWritten qs rest middle → AreWritten (ps ++ qs) rest bytes
glue [] qs rest middle bytes h k = subst (λ z. AreWritten qs rest z) (sym h) k
glue (x ∷ ps) qs rest middle bytes h k = (h.0, h.1, h.2, h.3, h.4, glue ps qs rest middle h.1 h.5 k)

one_more : (ts : Tokens) (t : FilterToken TestForm) (rest middle bytes : List ℕ) → AreFilterTokens ts middle bytes → IsToken t → AreWritten (token_pieces t) rest middle → AreFilterTokens (ts ++ t ∷ []) rest bytes
one_more ts t rest middle bytes h i k =
    let P : List Piece → Type 0 = λ z. AreWritten z rest bytes in
    let e : tokens_pieces ts ++ token_pieces t ≡ tokens_pieces (ts ++ t ∷ []) = sym (pieces_append ts (t ∷ []) ∙ ap (λ z. tokens_pieces ts ++ z) (append-nil (token_pieces t))) in
    record { each = all_more IsToken ts t h.each i; written = subst P e (glue (tokens_pieces ts) (token_pieces t) rest middle bytes h.written k) }

run_more : (ts : Tokens) (t : FilterToken TestForm) (z y : Reader) → feed_all written fresh ts ≡ Some z → feed_filter written z t ≡ Some y → feed_all written fresh (ts ++ t ∷ []) ≡ Some y
run_more ts t z y e f = run_append fresh ts (t ∷ []) ∙ ap (λ o. after o (λ x. feed_all written x (t ∷ []))) e ∙ ap (λ o. after o (λ x. Some x)) f

-- What was read up to a place: tokens, over which the reader of forms stands where this reader of trees does.
pub record HasRead (bytes : List ℕ) (at : ℕ) (z : view.FilterReader) : Type 0 where
  pub tokens : Tokens
  pub forms : Reader
  pub rest : List ℕ
  pub blanks : List ℕ
  pub are : AreFilterTokens tokens rest bytes
  -- blanks up to the place
  pub behind : rest ≡ blanks ++ drop at bytes
  pub blank : Each is_blank blanks
  pub stands : BeginsWithout is_blank (drop at bytes)
  pub reads : feed_all written fresh tokens ≡ Some forms
  pub same : z ≡ reader_map forms

pub nothing_read : (bytes : List ℕ) (at : ℕ) → at ≡ 0 + run_len is_blank (drop 0 bytes) → HasRead bytes at fresh
nothing_read bytes at e =
    let b = blanks_behind bytes 0 at e in
    record { tokens = []; forms = fresh; rest = bytes; blanks = b.blanks; are = record { each = tt; written = refl }; behind = b.are; blank = b.blank; stands = b.stands; reads = refl; same = refl }

-- values behind a function

record FromSome {A B : Type 0} (f : A → B) (o : Option A) (b : B) : Type 0 where
  value : A
  was : o ≡ Some value
  is : b ≡ f value

from_some : {A B : Type 0} (f : A → B) (o : Option A) (b : B) → Some b ≡ map_if f o → FromSome f o b
from_some f None b e = absurd (let x : Unit {0} ≡ ⊥ = cc in subst (λ z. z) x tt)
from_some f (Some a) b e = record { value = a; was = refl; is = cc }

from_none : {A B : Type 0} (f : A → B) (o : Option A) → None ≡ map_if f o → o ≡ None
from_none f None e = refl
from_none f (Some a) e = cc

-- what the reader of trees does with a token is what the reader of forms does
both_feed : (bytes : List ℕ) (at end : ℕ) (z : view.FilterReader) (x : rust_token.FilterToken) (h : HasRead bytes at z) (s : IsSpot (drop at bytes) (drop end bytes) x)
    → feed_filter plain z (view.token_of x) ≡ map_if reader_map (feed_filter written h.forms s.token)
both_feed bytes at end z x h s =
    ap (λ w. feed_filter plain w (view.token_of x)) h.same ∙ ap (λ t. feed_filter plain (reader_map h.forms) t) (sym s.stands) ∙ filter_state h.forms s.token

token_there : (bytes : List ℕ) (at end : ℕ) (z : view.FilterReader) (x : rust_token.FilterToken) (h : HasRead bytes at z) (s : IsSpot (drop at bytes) (drop end bytes) x) → AreWritten (token_pieces s.token) (drop end bytes) h.rest
token_there bytes at end z x h s =
    let P : List ℕ → Type 0 = λ w. AreWritten (token_pieces s.token) (drop end bytes) w in
    subst P (sym h.behind) (token_on s.token (drop end bytes) h.blanks (drop at bytes) s.is h.blank s.written)

pub token_read : (bytes : List ℕ) (at on : ℕ) (z y : view.FilterReader) → HasRead bytes at z → IsTokenTaken bytes at z y on → HasRead bytes on y
token_read bytes at on z y h k =
    let end = k.spot.end in
    let b = blanks_behind bytes end on k.on_is in
    let m = from_some reader_map (feed_filter written h.forms k.is.token) y (k.feeds ∙ both_feed bytes at end z k.spot.token h k.is) in
    record {
      tokens = h.tokens ++ k.is.token ∷ [];
      forms = m.value;
      rest = drop end bytes;
      blanks = b.blanks;
      are = one_more h.tokens k.is.token (drop end bytes) h.rest bytes h.are k.is.is (token_there bytes at end z k.spot.token h k.is);
      behind = b.are;
      blank = b.blank;
      stands = b.stands;
      reads = run_more h.tokens k.is.token h.forms m.value h.reads m.was;
      same = m.is;
    }

-- the next token stands further
pub on_further : (bytes : List ℕ) (at on : ℕ) (z y : view.FilterReader) → at < length bytes → IsTokenTaken bytes at z y on → at < on
on_further bytes at on z y l k =
    let f = spot_further bytes at k.spot.end k.spot.token (omega arith) k.within k.is in
    let e = k.on_is in
    omega (arith, f, e)

-- where the reader stops

same_number : (z : view.FilterReader) (forms : Reader) → z ≡ reader_map forms → length forms.clauses ≡ length z.clauses
same_number z forms e = sym (ap (λ (w : view.FilterReader). length w.clauses) e ∙ length-map forms.clauses counted_clause)

stops_there : (bytes : List ℕ) (at : ℕ) (z : view.FilterReader) (h : HasRead bytes at z) → Stops h.forms h.rest → LeavesBehind bytes (length z.clauses)
stops_there bytes at z h s = subst (λ n. LeavesBehind bytes n) (same_number z h.forms h.same) (leaves h.tokens h.forms h.rest bytes h.are h.reads s)

-- bytes that begin, and not with a blank, aren't blanks alone
not_blank : (bs more : List ℕ) → BeginsWithout is_blank more → 0 < length more → Each is_blank (bs ++ more) → ⊥
not_blank [] [] s l h = absurd (omega arith)
not_blank [] (b ∷ more) s l h = let e = h.0 in let f : is_blank b ≡ false = s in absurd (let z : Unit {0} ≡ ⊥ = cc in subst (λ u. u) z tt)
not_blank (c ∷ bs) more s l h = not_blank bs more s l h.1

no_token : (bytes : List ℕ) (at : ℕ) (z : view.FilterReader) → HasRead bytes at z → at < length bytes → BeginsNone (drop at bytes) → LeavesBehind bytes (length z.clauses)
no_token bytes at z h l none =
    let P : List ℕ → Type 0 = λ w. Stops h.forms w in
    let long : 0 < length (drop at bytes) = let e = length-drop at bytes in omega (arith, e, l) in
    stops_there bytes at z h (subst P (sym h.behind) (inl ((λ t rest i k. none t rest i (token_off t rest h.blanks (drop at bytes) i h.blank h.stands k)), (λ b. not_blank h.blanks (drop at bytes) h.stands long b))))

no_clause : (bytes : List ℕ) (at : ℕ) (z : view.FilterReader) → HasRead bytes at z → IsUnfit bytes at z → LeavesBehind bytes (length z.clauses)
no_clause bytes at z h k =
    let end = k.spot.end in
    let unfit = from_none reader_map (feed_filter written h.forms k.is.token) (k.feeds ∙ both_feed bytes at end z k.spot.token h k.is) in
    stops_there bytes at z h (inr (inl (k.is.token, drop end bytes, k.is.is, token_there bytes at end z k.spot.token h k.is, unfit)))

pub left_there : (bytes : List ℕ) (at n : ℕ) (z : view.FilterReader) → HasRead bytes at z → at < length bytes → (n ≡ length z.clauses) × (BeginsNone (drop at bytes) ⊎ IsUnfit bytes at z) → LeavesBehind bytes n
left_there bytes at n z h l k = subst (λ m. LeavesBehind bytes m) (sym k.0) (go k.1)
  where
    go : BeginsNone (drop at bytes) ⊎ IsUnfit bytes at z → LeavesBehind bytes (length z.clauses)
    go (inl none) = no_token bytes at z h l none
    go (inr unfit) = no_clause bytes at z h unfit

-- at the end of the text only blanks are left
blanks_alone : (bytes : List ℕ) (at : ℕ) (z : view.FilterReader) (h : HasRead bytes at z) → length bytes ≤ at → Each is_blank h.rest
blanks_alone bytes at z h l =
    let e : h.rest ≡ h.blanks = h.behind ∙ ap (λ w. h.blanks ++ w) (drop_all at bytes l) ∙ append-nil h.blanks in
    subst (λ w. Each is_blank w) (sym e) h.blank

both_finish : (bytes : List ℕ) (at : ℕ) (z : view.FilterReader) (h : HasRead bytes at z) → finish plain z ≡ map_if counted_clauses (finish written h.forms)
both_finish bytes at z h = ap (finish plain) h.same ∙ finish_state h.forms

pub not_whole : (bytes : List ℕ) (at n : ℕ) (z : view.FilterReader) → HasRead bytes at z → length bytes ≤ at → None ≡ finish plain z → n ≡ length z.clauses → LeavesBehind bytes n
not_whole bytes at n z h l f e =
    let unfinished = from_none counted_clauses (finish written h.forms) (f ∙ both_finish bytes at z h) in
    subst (λ m. LeavesBehind bytes m) (sym e) (stops_there bytes at z h (inr (inr (blanks_alone bytes at z h l, unfinished))))

pub all_read : (bytes : List ℕ) (at : ℕ) (z : view.FilterReader) (items : List rust_clause.CountedClause) → HasRead bytes at z → length bytes ≤ at → Some (clauses_with items) ≡ finish plain z → AreClauses bytes items
all_read bytes at z items h l f =
    let m = from_some counted_clauses (finish written h.forms) (clauses_with items) (f ∙ both_finish bytes at z h) in
    let sound = all_sound fresh h.tokens h.forms fresh_good h.are.each h.reads in
    let P : Option (List ClauseForm) → Type 0 = λ o. IfSome o (FinalClauses h.forms) in
    let end : FinalClauses h.forms m.value = subst P m.was (finished h.forms sound.good) in
    let Q : Tokens → Type 0 = λ w. AreWritten (tokens_pieces w) h.rest bytes in
    let R : List Piece → Type 0 = λ w. AreWritten w h.rest bytes in
    record {
      first = end.first;
      others = end.others;
      form = record {
        rules = end.rules;
        blanks = h.rest;
        written = subst R (filter_spelled end.first end.others) (subst Q (sym (end.has ∙ sound.has)) h.are.written);
        blank = blanks_alone bytes at z h l;
      };
      tree = m.is ∙ ap counted_clauses end.are;
    }

-- what is told where a token isn't read
pub error_told : (bytes : List ℕ) (at : ℕ) (z y : view.FilterReader) (e : ReadError) → HasRead bytes at z → at < length bytes → TellsToken bytes at z y (Err e) → TellsClauses bytes (Err e)
error_told bytes at z y (read.Syntax n) h l k = left_there bytes at n z h l k
error_told bytes at z y read.NoMemory h l k = tt
