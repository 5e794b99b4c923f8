-- The pieces of the tokens of a form are the pieces of the form.
use Rattle.std.proofs.Common.{ℕ, ◌≡◌, Bool, true, false, if◌then◌else◌, List, [], ◌∷◌, ◌++◌, map, length, Option, Some, None, codes, refl, sym, ap, subst, ◌∙◌, append_assoc}
use Rattle.std.specs.List.{AllByRecursion}
use Rattle.loom_lexer.specs.Lexeme.{Each, is_part}
use Rattle.loom_command.specs.FilterForm.{TestForm, EventForm, StepForm, RegionForm, between, whole, ClauseForm, order, exclusive, unilateral, IsFileWord, IsNumber, IsTestIf, IsCountIf, IsStep, IsRegion, IsClause}
use Rattle.loom_command.specs.FilterText.{is_blank, Piece, AreWritten, with_glue, sign_piece, test_pieces, event_pieces, count_pieces, step_pieces, events_pieces, region_pieces, clause_pieces, filter_pieces, whole_pieces, IsForm, BeginsWith}
use Rattle.loom_command.specs.FilterText as piece
use Rattle.loom_filter.specs.declared.scan.FilterSign.{FilterSign}
use Rattle.loom_filter.specs.declared.scan.FilterSign.TheVariants as g
use Rattle.loom_filter.specs.Words.{is_name}
use Rattle.loom_filter.specs.Token.{FilterToken, name, word, sign, test, sign_pieces, token_pieces, tokens_pieces, IsToken, AreFilterTokens, word_token, test_tokens, event_tokens, count_tokens, step_tokens, separated, steps_tokens, region_tokens, clause_tokens, filter_tokens, whole_tokens}
use Rattle.loom_command.proofs.Pieces.{head_piece, head_of_blanks, token_of, cut}
use Rattle.loom_filter.proofs.Words.{name_is, name_word, number_word, digits_no_name}
use Rattle.loom_filter.proofs.OneToken.{sign_first, sign_begins}
use Rattle.loom_filter.proofs.Sound.{Reader, clause_read, read, Good}

pub pieces_append : (ts us : List (FilterToken TestForm)) → tokens_pieces (ts ++ us) ≡ tokens_pieces ts ++ tokens_pieces us
pieces_append [] us = refl
pieces_append (t ∷ ts) us = ap (λ z. token_pieces t ++ z) (pieces_append ts us) ∙ sym (append_assoc (token_pieces t) (tokens_pieces ts) (tokens_pieces us))

word_spelled : (w : List ℕ) → token_pieces (word_token w) ≡ piece.word w ∷ []
word_spelled w = elim (is_name w) as (λ b. token_pieces (if b then name w else word w) ≡ piece.word w ∷ []) [ true ↦ refl | false ↦ refl ]

test_spelled : (o : Option TestForm) → tokens_pieces (test_tokens o) ≡ test_pieces o
test_spelled None = refl
test_spelled (Some x) = refl

event_spelled : (x : EventForm) → tokens_pieces (event_tokens x) ≡ event_pieces x
event_spelled x = rw (word_spelled x.file, test_spelled x.test) refl

count_spelled : (c : Option (List ℕ)) → tokens_pieces (count_tokens c) ≡ count_pieces c
count_spelled None = refl
count_spelled (Some d) = refl

pub step_spelled : (x : StepForm) → tokens_pieces (step_tokens x) ≡ step_pieces x
step_spelled x = pieces_append (event_tokens x.event) (count_tokens x.count) ∙ rw (event_spelled x.event, count_spelled x.count) refl

-- things with a sign of one piece between them
separated_spelled : {A : Type 0} (s : FilterSign) (glue : List ℕ) (f : A → List (FilterToken TestForm)) (p : A → List Piece) → sign_pieces s ≡ sign_piece glue → ((x : A) → tokens_pieces (f x) ≡ p x)
    → (x : A) (xs : List A) → tokens_pieces (separated s f x xs) ≡ with_glue (sign_piece glue) (map p (x ∷ xs))
separated_spelled s glue f p g e x [] = e x
separated_spelled s glue f p g e x (y ∷ ys) =
    pieces_append (f x) (sign s ∷ separated s f y ys) ∙ rw (e x, g, separated_spelled s glue f p g e y ys) refl

steps_spelled : (x : StepForm) (xs : List StepForm) → tokens_pieces (steps_tokens x xs) ≡ events_pieces (x ∷ xs)
steps_spelled x xs = separated_spelled g.Comma (codes ",") step_tokens step_pieces refl step_spelled x xs

between_spelled : (e : StepForm) (es : List StepForm) (x : StepForm) (xs : List StepForm) → tokens_pieces (region_tokens (between e es x xs)) ≡ region_pieces (between e es x xs)
between_spelled e es x xs =
    let exits = sign g.Semicolon ∷ steps_tokens x xs ++ (sign g.BraceClose ∷ []) in
    let left = pieces_append (steps_tokens x xs) (sign g.BraceClose ∷ []) in
    ap (λ z. piece.sign (codes "{") ∷ z) (pieces_append (steps_tokens e es) exits ∙ rw (steps_spelled e es, left, steps_spelled x xs) refl)

pub region_spelled : (r : RegionForm) → tokens_pieces (region_tokens r) ≡ region_pieces r
region_spelled (between e es x xs) = between_spelled e es x xs
region_spelled (whole f o) = rw (test_spelled o) refl

pub clause_spelled : (c : ClauseForm) → tokens_pieces (clause_tokens c) ≡ clause_pieces c
clause_spelled (order a b ss) = separated_spelled g.Before (codes ">") step_tokens step_pieces refl step_spelled a (b ∷ ss)
clause_spelled (exclusive r rs) = separated_spelled g.Apart (codes "<>") region_tokens region_pieces refl region_spelled r rs
clause_spelled (unilateral r) = pieces_append (region_tokens r) (sign g.Apart ∷ sign g.All ∷ []) ∙ rw (region_spelled r) refl

pub filter_spelled : (c : ClauseForm) (cs : List ClauseForm) → tokens_pieces (filter_tokens c cs) ≡ filter_pieces (c ∷ cs)
filter_spelled c cs = separated_spelled g.Semicolon (codes ";") clause_tokens clause_pieces refl clause_spelled c cs

pub whole_spelled : (cs : List ClauseForm) → tokens_pieces (whole_tokens cs) ≡ whole_pieces cs
whole_spelled [] = refl
whole_spelled (c ∷ cs) = pieces_append (clause_tokens c) (sign g.Semicolon ∷ whole_tokens cs) ∙ rw (clause_spelled c, whole_spelled cs) refl

-- Each token of a form is one.

abbrev AreEach : List (FilterToken TestForm) → Type 0
AreEach ts = AllByRecursion IsToken ts

both : (ts us : List (FilterToken TestForm)) → AreEach ts → AreEach us → AreEach (ts ++ us)
both [] us h k = k
both (t ∷ ts) us h k = (h.0, both ts us h.1 k)

word_each : (w : List ℕ) → IsFileWord w → IsToken (word_token w)
word_each w h = go (is_name w) refl
  where
    go : (b : Bool) → is_name w ≡ b → IsToken (if b then name w else word w)
    go true e = name_is w e
    go false e = (h, e)

number_each : (w : List ℕ) → IsNumber w → IsToken (word w)
number_each w h = (number_word w h, digits_no_name w h.digits_alone)

test_each : (o : Option TestForm) → IsTestIf o → AreEach (test_tokens o)
test_each None h = tt
test_each (Some x) h = (h, tt)

count_each : (c : Option (List ℕ)) → IsCountIf c → AreEach (count_tokens c)
count_each None h = tt
count_each (Some d) h = (tt, (number_each d h, (tt, tt)))

step_each : (x : StepForm) → IsStep x → AreEach (step_tokens x)
step_each x h =
    let e = h.event in
    both (event_tokens x.event) (count_tokens x.count) (word_each x.event.file e.file, (tt, (number_each x.event.line e.line, test_each x.event.test e.test))) (count_each x.count h.count)

separated_each : {A : Type 0} (Is : A → Type 0) (s : FilterSign) (f : A → List (FilterToken TestForm)) → ((x : A) → Is x → AreEach (f x)) → (x : A) (xs : List A) → AllByRecursion Is (x ∷ xs) → AreEach (separated s f x xs)
separated_each Is s f g x [] h = g x h.0
separated_each Is s f g x (y ∷ ys) h = both (f x) (sign s ∷ separated s f y ys) (g x h.0) (tt, separated_each Is s f g y ys h.1)

steps_each : (x : StepForm) (xs : List StepForm) → AllByRecursion IsStep (x ∷ xs) → AreEach (steps_tokens x xs)
steps_each x xs h = separated_each IsStep g.Comma step_tokens step_each x xs h

region_each : (r : RegionForm) → IsRegion r → AreEach (region_tokens r)
region_each (between e es x xs) h =
    (tt, both (steps_tokens e es) (sign g.Semicolon ∷ steps_tokens x xs ++ (sign g.BraceClose ∷ [])) (steps_each e es h.0) (tt, both (steps_tokens x xs) (sign g.BraceClose ∷ []) (steps_each x xs h.1) (tt, tt)))
region_each (whole f o) h = (h.0, (tt, test_each o h.1))

clause_each : (c : ClauseForm) → IsClause c → AreEach (clause_tokens c)
clause_each (order a b ss) h = separated_each IsStep g.Before step_tokens step_each a (b ∷ ss) (h.0, (h.1, h.2))
clause_each (exclusive r rs) h = separated_each IsRegion g.Apart region_tokens region_each r rs h
clause_each (unilateral r) h = both (region_tokens r) (sign g.Apart ∷ sign g.All ∷ []) (region_each r h) (tt, (tt, tt))

whole_each : (cs : List ClauseForm) → AllByRecursion IsClause cs → AreEach (whole_tokens cs)
whole_each [] h = tt
whole_each (c ∷ cs) h = both (clause_tokens c) (sign g.Semicolon ∷ whole_tokens cs) (clause_each c h.0) (tt, whole_each cs h.1)

-- A text of the grammar is its tokens, and a front of whole clauses too.

pub form_tokens : (bytes : List ℕ) (c : ClauseForm) (cs : List ClauseForm) → (h : IsForm bytes c cs) → AreFilterTokens (filter_tokens c cs) h.blanks bytes
form_tokens bytes c cs h =
    let P : List Piece → Type 0 = λ z. AreWritten z h.blanks bytes in
    record { each = separated_each IsClause g.Semicolon clause_tokens clause_each c cs h.rules; written = subst P (sym (filter_spelled c cs)) h.written }

pub begin_tokens : (bytes : List ℕ) (n : ℕ) → (h : BeginsWith bytes n) → AreFilterTokens (whole_tokens h.clauses) h.rest bytes
begin_tokens bytes n h =
    let P : List Piece → Type 0 = λ z. AreWritten z h.rest bytes in
    record { each = whole_each h.clauses h.rules; written = subst P (sym (whole_spelled h.clauses)) h.written }

-- The clauses that were read whole are a front of the bytes.
pub begun : (bytes : List ℕ) (ts : List (FilterToken TestForm)) (rest : List ℕ) (z : Reader) → AreFilterTokens ts rest bytes → Good z → read z ≡ ts → BeginsWith bytes (length z.clauses)
begun bytes ts rest z h g e =
    let P : List (FilterToken TestForm) → Type 0 = λ y. AreWritten (tokens_pieces y) rest bytes in
    let Q : List Piece → Type 0 = λ y. AreWritten y rest bytes in
    let whole = subst P (sym e) h.written in
    let parts = subst Q (pieces_append (whole_tokens z.clauses) (clause_read z.reader)) whole in
    let c = cut (tokens_pieces (whole_tokens z.clauses)) (tokens_pieces (clause_read z.reader)) rest bytes parts in
    let R : List Piece → Type 0 = λ y. AreWritten y c.middle bytes in
    record { clauses = z.clauses; rules = g.clauses; count = refl; rest = c.middle; written = subst R (whole_spelled z.clauses) c.front }

-- Blanks hold no token: what begins one isn't blank, and 0 stands for the end of blanks.

word_not_blank : (w : List ℕ) (ps : List Piece) (rest bytes : List ℕ) → IsFileWord w → Each is_blank bytes → AreWritten (piece.word w ∷ ps) rest bytes → ⊥
word_not_blank [] ps rest bytes i b h = absurd i
word_not_blank (c ∷ cs) ps rest bytes i b h =
    let t = token_of c cs i.0 i.1 in
    let e : c ≡ 0 = sym (head_piece (piece.word (c ∷ cs)) ps rest bytes t.dark h) ∙ head_of_blanks bytes b in
    let f : is_part c ≡ is_part 0 = ap is_part e in
    let k = i.0 in
    cc

sign_not_blank : (s : FilterSign) (rest bytes : List ℕ) → Each is_blank bytes → AreWritten (sign_pieces s) rest bytes → sign_first s ≡ 0
sign_not_blank s rest bytes b h = sym (sign_begins s rest bytes h) ∙ head_of_blanks bytes b

no_zero : (s : FilterSign) → sign_first s ≡ 0 → ⊥
no_zero g.Colon e = cc
no_zero g.Comma e = cc
no_zero g.Semicolon e = cc
no_zero g.Before e = cc
no_zero g.Apart e = cc
no_zero g.All e = cc
no_zero g.BraceOpen e = cc
no_zero g.BraceClose e = cc
no_zero g.Call e = cc

pub none_in_blanks : (t : FilterToken TestForm) (rest bytes : List ℕ) → IsToken t → Each is_blank bytes → AreWritten (token_pieces t) rest bytes → ⊥
none_in_blanks (name w) rest bytes i b h = word_not_blank w [] rest bytes (name_word w i) b h
none_in_blanks (word w) rest bytes i b h = word_not_blank w [] rest bytes i.0 b h
none_in_blanks (sign s) rest bytes i b h = no_zero s (sign_not_blank s rest bytes b h)
none_in_blanks (test x) rest bytes i b h = no_zero g.Call (sym (head_piece (piece.test x.bytes) [] rest bytes refl h) ∙ head_of_blanks bytes b)
