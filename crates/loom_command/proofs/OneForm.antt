-- The same bytes are the text of a filter in one way.
use Rattle.std.proofs.Common.{ℕ, ◌≡◌, Bool, true, false, List, [], ◌∷◌, ◌++◌, map, Option, Some, None, refl, sym, ap, subst, ◌∙◌, codes, arith, append_assoc}
use Rattle.std.specs.List.{AllByRecursion}
use Rattle.loom_lexer.specs.Lexeme.{is_among, is_part}
use Rattle.loom_lexer.specs.Name.{IsName}
use Rattle.loom_command.specs.FilterForm.{TestForm, EventForm, StepForm, RegionForm, between, whole, order, exclusive, unilateral, IsFileWord, IsNumber, IsTestIf, IsEvent, IsCountIf, IsStep, IsRegion, IsClause, filter_tree}
use Rattle.loom_command.specs.FilterText.{is_blank, Piece, word, sign, test, AreWritten, with_glue, sign_piece, test_pieces, event_pieces, count_pieces, step_pieces, events_pieces, region_pieces, clause_pieces}
use Rattle.loom_command.specs.Laws.{HasOneForm, HasOneFilter}
use Rattle.loom_command.proofs.Fields.{same_behind}
use Rattle.loom_command.proofs.Parentheses.{one_test, one_end}
use Rattle.loom_command.proofs.Pieces.{head, head_of_blanks, head_piece, first_of, one_begin, one_sign, IsToken, token_of, letters_token, digits_part, more_parts, one_word, Cut, cut}

-- two things that are written in the same bytes, with what is behind them, are one
pub record Alike {A : Type 0} (x y : A) (rest other : List ℕ) : Type 0 where
  pub same : x ≡ y
  pub behind : rest ≡ other

-- So it is with all things of a kind, where what is behind them begins with such a byte.
abbrev pub IsOne : {A : Type 0} → (A → Type 0) → (A → List Piece) → (ℕ → Bool) → Type 0
IsOne {A} Is pieces p = (x y : A) (rest other bytes : List ℕ) → Is x → Is y → p (head rest) ≡ true → p (head other) ≡ true
    → AreWritten (pieces x) rest bytes → AreWritten (pieces y) other bytes → Alike x y rest other

-- what may be behind an event, a step, a region, a clause and a filter; 0 is the end
-- (62 is `>`, 60 `<`, 44 `,`, 59 `;`, 123 and 125 are braces)

abbrev ends_event : ℕ → Bool
ends_event b = is_among (123 ∷ 62 ∷ 44 ∷ 59 ∷ 125 ∷ 0 ∷ []) b

abbrev ends_step : ℕ → Bool
ends_step b = is_among (62 ∷ 44 ∷ 59 ∷ 125 ∷ 0 ∷ []) b

abbrev ends_region : ℕ → Bool
ends_region b = is_among (60 ∷ 59 ∷ 0 ∷ []) b

abbrev ends_clause : ℕ → Bool
ends_clause b = is_among (59 ∷ 0 ∷ []) b

abbrev ends_filter : ℕ → Bool
ends_filter b = is_among (0 ∷ []) b

-- a byte isn't another
other_byte : (p : ℕ → Bool) (a b : ℕ) → p a ≡ true → a ≡ b → p b ≡ false → ⊥
other_byte p a b h e n = let f : p a ≡ p b = ap p e in cc

-- Lists

both_cons : {A : Type 0} (x y : A) (xs ys : List A) (rest other : List ℕ) → x ≡ y → Alike xs ys rest other → Alike (x ∷ xs) (y ∷ ys) rest other
both_cons x y xs ys rest other e h = let f = h.same in record { same = cc; behind = h.behind }

pub one_joined : {A : Type 0} (Is : A → Type 0) (pieces : A → List Piece) (p q : ℕ → Bool) (g : ℕ) (gs : List ℕ) → IsOne Is pieces p → is_blank g ≡ false → p g ≡ true → q g ≡ false
    → ((b : ℕ) → q b ≡ true → p b ≡ true) → (x : A) (xs : List A) (y : A) (ys : List A) (rest other bytes : List ℕ)
    → AllByRecursion Is (x ∷ xs) → AllByRecursion Is (y ∷ ys) → q (head rest) ≡ true → q (head other) ≡ true
    → AreWritten (with_glue (sign_piece (g ∷ gs)) (map pieces (x ∷ xs))) rest bytes → AreWritten (with_glue (sign_piece (g ∷ gs)) (map pieces (y ∷ ys))) other bytes → Alike (x ∷ xs) (y ∷ ys) rest other
one_joined Is pieces p q g gs one dark pg qg more x [] y [] rest other bytes i j e f h k =
    let a = one x y rest other bytes i.0 j.0 (more (head rest) e) (more (head other) f) h k in
    let s = a.same in
    record { same = cc; behind = a.behind }
one_joined Is pieces p q g gs one dark pg qg more x [] y (z ∷ ys) rest other bytes i j e f h k =
    let c = cut (pieces y) (sign (g ∷ gs) ∷ with_glue (sign_piece (g ∷ gs)) (map pieces (z ∷ ys))) other bytes k in
    let there : head c.middle ≡ g = head_piece (sign (g ∷ gs)) (with_glue (sign_piece (g ∷ gs)) (map pieces (z ∷ ys))) other c.middle dark c.back in
    let a = one x y rest c.middle bytes i.0 j.0 (more (head rest) e) (ap p there ∙ pg) h c.front in
    absurd (other_byte q (head rest) g e (ap head a.behind ∙ there) qg)
one_joined Is pieces p q g gs one dark pg qg more x (z ∷ xs) y [] rest other bytes i j e f h k =
    let c = cut (pieces x) (sign (g ∷ gs) ∷ with_glue (sign_piece (g ∷ gs)) (map pieces (z ∷ xs))) rest bytes h in
    let there : head c.middle ≡ g = head_piece (sign (g ∷ gs)) (with_glue (sign_piece (g ∷ gs)) (map pieces (z ∷ xs))) rest c.middle dark c.back in
    let a = one x y c.middle other bytes i.0 j.0 (ap p there ∙ pg) (more (head other) f) c.front k in
    absurd (other_byte q (head other) g f (ap head (sym a.behind) ∙ there) qg)
one_joined Is pieces p q g gs one dark pg qg more x (z ∷ xs) y (w ∷ ys) rest other bytes i j e f h k =
    let left = with_glue (sign_piece (g ∷ gs)) (map pieces (z ∷ xs)) in
    let right = with_glue (sign_piece (g ∷ gs)) (map pieces (w ∷ ys)) in
    let c = cut (pieces x) (sign (g ∷ gs) ∷ left) rest bytes h in
    let d = cut (pieces y) (sign (g ∷ gs) ∷ right) other bytes k in
    let c_there : head c.middle ≡ g = head_piece (sign (g ∷ gs)) left rest c.middle dark c.back in
    let d_there : head d.middle ≡ g = head_piece (sign (g ∷ gs)) right other d.middle dark d.back in
    let a = one x y c.middle d.middle bytes i.0 j.0 (ap p c_there ∙ pg) (ap p d_there ∙ pg) c.front d.front in
    let b = one_sign (g ∷ gs) left right rest other d.middle dark (subst (λ m. AreWritten (sign (g ∷ gs) ∷ left) rest m) a.behind c.back) d.back in
    both_cons x y (z ∷ xs) (w ∷ ys) rest other a.same (one_joined Is pieces p q g gs one dark pg qg more z xs w ys rest other b.bytes i.1 j.1 e f b.left b.right)

-- Tests

one_close : (x y : TestForm) (rest other bytes : List ℕ) → IsTestIf (Some x) → IsTestIf (Some y) → AreWritten (test_pieces (Some x)) rest bytes → AreWritten (test_pieces (Some y)) other bytes → Alike (Some x) (Some y) rest other
one_close x y rest other bytes i j h k =
    let begin : 40 ∷ ((x.bytes ++ 41 ∷ []) ++ h.1) ≡ 40 ∷ ((y.bytes ++ 41 ∷ []) ++ k.1) = one_begin (test x.bytes) (test y.bytes) [] [] rest other bytes refl refl h k in
    let inner : (x.bytes ++ 41 ∷ []) ++ h.1 ≡ (y.bytes ++ 41 ∷ []) ++ k.1 = cc in
    let whole : x.bytes ++ (41 ∷ h.1) ≡ y.bytes ++ (41 ∷ k.1) = sym (append_assoc x.bytes (41 ∷ []) h.1) ∙ inner ∙ append_assoc y.bytes (41 ∷ []) k.1 in
    let same : x.bytes ≡ y.bytes = one_end x y h.1 k.1 i j whole in
    let close : 41 ∷ h.1 ≡ 41 ∷ k.1 = same_behind y.bytes (41 ∷ h.1) (41 ∷ k.1) (ap (λ z. z ++ (41 ∷ h.1)) (sym same) ∙ whole) in
    let behind : h.1 ≡ k.1 = cc in
    record { same = ap Some (one_test x y i j same); behind = sym h.5 ∙ behind ∙ k.5 }

one_test_if : (p : ℕ → Bool) → p 40 ≡ false → IsOne IsTestIf test_pieces p
one_test_if p n None None rest other bytes i j e f h k = record { same = refl; behind = sym h ∙ k }
one_test_if p n None (Some y) rest other bytes i j e f h k =
    absurd (other_byte p (head rest) 40 e (ap head (sym h) ∙ head_piece (test y.bytes) [] other bytes refl k) n)
one_test_if p n (Some x) None rest other bytes i j e f h k =
    absurd (other_byte p (head other) 40 f (ap head (sym k) ∙ head_piece (test x.bytes) [] rest bytes refl h) n)
one_test_if p n (Some x) (Some y) rest other bytes i j e f h k = one_close x y rest other bytes i j h k

-- Words

file_token : (f : List ℕ) → IsFileWord f → IsToken f
file_token [] h = absurd h
file_token (b ∷ bs) h = token_of b bs h.0 h.1

name_token : (f : List ℕ) → IsName f → IsToken f
name_token [] h = absurd h
name_token (b ∷ bs) h = letters_token b bs h.0 h.1

number_token : (ds : List ℕ) → IsNumber ds → IsToken ds
number_token [] h = absurd (omega (arith, h.least))
number_token (b ∷ bs) h = let i = digits_part (b ∷ bs) h.digits_alone in token_of b bs i.0 (more_parts bs i.1)

-- no word begins with a sign
not_sign : (f : List ℕ) (ps : List Piece) (b : ℕ) (rest bytes : List ℕ) → IsToken f → AreWritten (word f ∷ ps) rest bytes → head bytes ≡ b → is_part b ≡ false → ⊥
not_sign f ps b rest bytes i h e n = let g : head bytes ≡ first_of f = head_piece (word f) ps rest bytes i.dark h in let j = i.begins in let k : is_part (first_of f) ≡ is_part b = ap is_part (sym g ∙ e) in cc

-- Events and steps

same_event : (a b c d : List ℕ) (s t : Option TestForm) → a ≡ b → c ≡ d → s ≡ t → ◌≡◌ {A = EventForm} (record { file = a; line = c; test = s }) (record { file = b; line = d; test = t })
same_event a b c d s t e f g = rw (e, f, g) refl

one_event : IsOne IsEvent event_pieces ends_event
one_event x y rest other bytes i j e f h k =
    let a = one_word x.file y.file (sign (codes ":") ∷ word x.line ∷ test_pieces x.test) (sign (codes ":") ∷ word y.line ∷ test_pieces y.test) rest other bytes (file_token x.file i.file) (file_token y.file j.file) h k in
    let b = one_sign (codes ":") (word x.line ∷ test_pieces x.test) (word y.line ∷ test_pieces y.test) rest other a.behind.bytes refl a.behind.left a.behind.right in
    let c = one_word x.line y.line (test_pieces x.test) (test_pieces y.test) rest other b.bytes (number_token x.line i.line) (number_token y.line j.line) b.left b.right in
    let d = one_test_if ends_event refl x.test y.test rest other c.behind.bytes i.test j.test e f c.behind.left c.behind.right in
    record { same = same_event x.file y.file x.line y.line x.test y.test a.same c.same d.same; behind = d.behind }

one_count : IsOne IsCountIf count_pieces ends_step
one_count None None rest other bytes i j e f h k = record { same = refl; behind = sym h ∙ k }
one_count None (Some b) rest other bytes i j e f h k =
    absurd (other_byte ends_step (head rest) 123 e (ap head (sym h) ∙ head_piece (sign (codes "{")) (word b ∷ sign (codes "}") ∷ []) other bytes refl k) refl)
one_count (Some a) None rest other bytes i j e f h k =
    absurd (other_byte ends_step (head other) 123 f (ap head (sym k) ∙ head_piece (sign (codes "{")) (word a ∷ sign (codes "}") ∷ []) rest bytes refl h) refl)
one_count (Some a) (Some b) rest other bytes i j e f h k =
    let s = one_sign (codes "{") (word a ∷ sign (codes "}") ∷ []) (word b ∷ sign (codes "}") ∷ []) rest other bytes refl h k in
    let w = one_word a b (sign (codes "}") ∷ []) (sign (codes "}") ∷ []) rest other s.bytes (number_token a i) (number_token b j) s.left s.right in
    let t = one_sign (codes "}") [] [] rest other w.behind.bytes refl w.behind.left w.behind.right in
    record { same = ap Some w.same; behind = sym t.left ∙ t.right }

-- an event ends before a count, and before what is behind the step
step_event : (b : ℕ) → ends_step b ≡ true → ends_event b ≡ true
step_event b h = grind arith

count_ends : (c : Option (List ℕ)) (rest bytes : List ℕ) → ends_step (head rest) ≡ true → AreWritten (count_pieces c) rest bytes → ends_event (head bytes) ≡ true
count_ends None rest bytes e h = step_event (head bytes) (ap (λ z. ends_step (head z)) h ∙ e)
count_ends (Some ds) rest bytes e h = ap ends_event (head_piece (sign (codes "{")) (word ds ∷ sign (codes "}") ∷ []) rest bytes refl h)

same_step : (a b : EventForm) (m n : Option (List ℕ)) → a ≡ b → m ≡ n → ◌≡◌ {A = StepForm} (record { event = a; count = m }) (record { event = b; count = n })
same_step a b m n e f = rw (e, f) refl

one_step : IsOne IsStep step_pieces ends_step
one_step x y rest other bytes i j e f h k =
    let c = cut (event_pieces x.event) (count_pieces x.count) rest bytes h in
    let d = cut (event_pieces y.event) (count_pieces y.count) other bytes k in
    let a = one_event x.event y.event c.middle d.middle bytes i.event j.event (count_ends x.count rest c.middle e c.back) (count_ends y.count other d.middle f d.back) c.front d.front in
    let b = one_count x.count y.count rest other d.middle i.count j.count e f (subst (λ m. AreWritten (count_pieces x.count) rest m) a.behind c.back) d.back in
    record { same = same_step x.event y.event x.count y.count a.same b.same; behind = b.behind }

-- Regions
-- (59 ends the events at which one is entered, 125 those at which it is left)

abbrev ends_events : ℕ → ℕ → Bool
ends_events e b = is_among (e ∷ []) b

entry_step : (b : ℕ) → ends_events 59 b ≡ true → ends_step b ≡ true
entry_step b h = grind arith

exit_step : (b : ℕ) → ends_events 125 b ≡ true → ends_step b ≡ true
exit_step b h = grind arith

abbrev exit_pieces : StepForm → List StepForm → List Piece
exit_pieces x xs = sign (codes ";") ∷ events_pieces (x ∷ xs) ++ sign_piece (codes "}")

record SameRegion (e d : StepForm) (es ds : List StepForm) (x y : StepForm) (xs ys : List StepForm) (rest other : List ℕ) : Type 0 where
  pub entries : e ∷ es ≡ d ∷ ds
  pub exits : x ∷ xs ≡ y ∷ ys
  pub behind : rest ≡ other

one_between : (e d : StepForm) (es ds : List StepForm) (x y : StepForm) (xs ys : List StepForm) (rest other bytes : List ℕ) → IsRegion (between e es x xs) → IsRegion (between d ds y ys)
    → AreWritten (region_pieces (between e es x xs)) rest bytes → AreWritten (region_pieces (between d ds y ys)) other bytes → SameRegion e d es ds x y xs ys rest other
one_between e d es ds x y xs ys rest other bytes i j h k =
    let begin = one_sign (codes "{") (events_pieces (e ∷ es) ++ exit_pieces x xs) (events_pieces (d ∷ ds) ++ exit_pieces y ys) rest other bytes refl h k in
    let a = cut (events_pieces (e ∷ es)) (exit_pieces x xs) rest begin.bytes begin.left in
    let b = cut (events_pieces (d ∷ ds)) (exit_pieces y ys) other begin.bytes begin.right in
    let a_there : head a.middle ≡ 59 = head_piece (sign (codes ";")) (events_pieces (x ∷ xs) ++ sign_piece (codes "}")) rest a.middle refl a.back in
    let b_there : head b.middle ≡ 59 = head_piece (sign (codes ";")) (events_pieces (y ∷ ys) ++ sign_piece (codes "}")) other b.middle refl b.back in
    let entries = one_joined IsStep step_pieces ends_step (ends_events 59) 44 [] one_step refl refl refl entry_step e es d ds a.middle b.middle begin.bytes i.0 j.0
    (ap (ends_events 59) a_there) (ap (ends_events 59) b_there) a.front b.front in
    let middle = one_sign (codes ";") (events_pieces (x ∷ xs) ++ sign_piece (codes "}")) (events_pieces (y ∷ ys) ++ sign_piece (codes "}")) rest other b.middle refl
    (subst (λ m. AreWritten (exit_pieces x xs) rest m) entries.behind a.back) b.back in
    let l = cut (events_pieces (x ∷ xs)) (sign_piece (codes "}")) rest middle.bytes middle.left in
    let r = cut (events_pieces (y ∷ ys)) (sign_piece (codes "}")) other middle.bytes middle.right in
    let l_there : head l.middle ≡ 125 = head_piece (sign (codes "}")) [] rest l.middle refl l.back in
    let r_there : head r.middle ≡ 125 = head_piece (sign (codes "}")) [] other r.middle refl r.back in
    let exits = one_joined IsStep step_pieces ends_step (ends_events 125) 44 [] one_step refl refl refl exit_step x xs y ys l.middle r.middle middle.bytes i.1 j.1
    (ap (ends_events 125) l_there) (ap (ends_events 125) r_there) l.front r.front in
    let last = one_sign (codes "}") [] [] rest other r.middle refl (subst (λ m. AreWritten (sign_piece (codes "}")) rest m) exits.behind l.back) r.back in
    record { entries = entries.same; exits = exits.same; behind = sym last.left ∙ last.right }

same_between : (e d : StepForm) (es ds : List StepForm) (x y : StepForm) (xs ys : List StepForm) → e ∷ es ≡ d ∷ ds → x ∷ xs ≡ y ∷ ys → between e es x xs ≡ between d ds y ys
same_between e d es ds x y xs ys h k = cc

one_whole : (f g : List ℕ) (s t : Option TestForm) (rest other bytes : List ℕ) → IsRegion (whole f s) → IsRegion (whole g t) → ends_region (head rest) ≡ true → ends_region (head other) ≡ true
    → AreWritten (region_pieces (whole f s)) rest bytes → AreWritten (region_pieces (whole g t)) other bytes → Alike (whole f s) (whole g t) rest other
one_whole f g s t rest other bytes i j e d h k =
    let a = one_word f g (sign (codes "(") ∷ sign (codes ")") ∷ test_pieces s) (sign (codes "(") ∷ sign (codes ")") ∷ test_pieces t) rest other bytes (name_token f i.0) (name_token g j.0) h k in
    let b = one_sign (codes "(") (sign (codes ")") ∷ test_pieces s) (sign (codes ")") ∷ test_pieces t) rest other a.behind.bytes refl a.behind.left a.behind.right in
    let c = one_sign (codes ")") (test_pieces s) (test_pieces t) rest other b.bytes refl b.left b.right in
    let l = one_test_if ends_region refl s t rest other c.bytes i.1 j.1 e d c.left c.right in
    record { same = ap (λ z. whole z s) a.same ∙ ap (whole g) l.same; behind = l.behind }

-- the first byte of a region between events
brace_first : (e : StepForm) (es : List StepForm) (x : StepForm) (xs : List StepForm) (rest bytes : List ℕ) → AreWritten (region_pieces (between e es x xs)) rest bytes → head bytes ≡ 123
brace_first e es x xs rest bytes h = head_piece (sign (codes "{")) (events_pieces (e ∷ es) ++ exit_pieces x xs) rest bytes refl h

abbrev whole_behind : Option TestForm → List Piece
whole_behind t = sign (codes "(") ∷ sign (codes ")") ∷ test_pieces t

one_region : IsOne IsRegion region_pieces ends_region
one_region (between e es x xs) (between d ds y ys) rest other bytes i j l r h k =
    let s = one_between e d es ds x y xs ys rest other bytes i j h k in
    record { same = same_between e d es ds x y xs ys s.entries s.exits; behind = s.behind }
one_region (between e es x xs) (whole g t) rest other bytes i j l r h k =
    absurd (not_sign g (whole_behind t) 123 other bytes (name_token g j.0) k (brace_first e es x xs rest bytes h) refl)
one_region (whole f s) (between d ds y ys) rest other bytes i j l r h k =
    absurd (not_sign f (whole_behind s) 123 rest bytes (name_token f i.0) h (brace_first d ds y ys other bytes k) refl)
one_region (whole f s) (whole g t) rest other bytes i j l r h k = one_whole f g s t rest other bytes i j l r h k

-- Clauses

clause_step : (b : ℕ) → ends_clause b ≡ true → ends_step b ≡ true
clause_step b h = grind arith

clause_region : (b : ℕ) → ends_clause b ≡ true → ends_region b ≡ true
clause_region b h = grind arith

-- an event is no beginning of a region
no_region : (x : EventForm) (r : RegionForm) (rest other bytes : List ℕ) → IsEvent x → IsRegion r → AreWritten (event_pieces x) rest bytes → AreWritten (region_pieces r) other bytes → ⊥
no_region x (between e es y ys) rest other bytes i j h k =
    not_sign x.file (sign (codes ":") ∷ word x.line ∷ test_pieces x.test) 123 rest bytes (file_token x.file i.file) h (brace_first e es y ys other bytes k) refl
no_region x (whole f t) rest other bytes i j h k =
    let a = one_word x.file f (sign (codes ":") ∷ word x.line ∷ test_pieces x.test) (whole_behind t) rest other bytes (file_token x.file i.file) (name_token f j.0) h k in
    let colon : head a.behind.bytes ≡ 58 = head_piece (sign (codes ":")) (word x.line ∷ test_pieces x.test) rest a.behind.bytes refl a.behind.left in
    let begin : head a.behind.bytes ≡ 40 = head_piece (sign (codes "(")) (sign (codes ")") ∷ test_pieces t) other a.behind.bytes refl a.behind.right in
    let e : 58 ≡ 40 = sym colon ∙ begin in
    omega (arith, e)

-- a star is no beginning of one
no_star : (r : RegionForm) (ps : List Piece) (rest other bytes : List ℕ) → IsRegion r → AreWritten (region_pieces r) rest bytes → AreWritten (sign (codes "*") ∷ ps) other bytes → ⊥
no_star (between e es x xs) ps rest other bytes i h k =
    let star : head bytes ≡ 42 = head_piece (sign (codes "*")) ps other bytes refl k in
    let e : 42 ≡ 123 = sym star ∙ brace_first e es x xs rest bytes h in
    omega (arith, e)
no_star (whole f t) ps rest other bytes i h k =
    not_sign f (whole_behind t) 42 rest bytes (name_token f i.0) h (head_piece (sign (codes "*")) ps other bytes refl k) refl

-- the first of things that are joined
abbrev joined_behind : List Piece → List (List Piece) → List Piece
joined_behind glue [] = []
joined_behind glue (x ∷ xs) = glue ++ with_glue glue (x ∷ xs)

first_cut : (glue x : List Piece) (xs : List (List Piece)) (rest bytes : List ℕ) → AreWritten (with_glue glue (x ∷ xs)) rest bytes → Cut x (joined_behind glue xs) rest bytes
first_cut glue x [] rest bytes h = record { middle = rest; front = h; back = refl }
first_cut glue x (y ∷ xs) rest bytes h = cut x (glue ++ with_glue glue (y ∷ xs)) rest bytes h

abbrev later_steps : StepForm → List StepForm → List Piece
later_steps b ss = sign (codes ">") ∷ with_glue (sign_piece (codes ">")) (map step_pieces (b ∷ ss))

abbrev later_regions : List RegionForm → List Piece
later_regions rs = joined_behind (sign_piece (codes "<>")) (map region_pieces rs)

abbrev all_others : List Piece
all_others = sign (codes "<>") ∷ sign_piece (codes "*")

-- an order is no clause of regions
no_regions : (a b : StepForm) (ss : List StepForm) (r : RegionForm) (rest other bytes : List ℕ) → IsStep a → IsRegion r → AreWritten (clause_pieces (order a b ss)) rest bytes → AreWritten (region_pieces r) other bytes → ⊥
no_regions a b ss r rest other bytes i j h k =
    let c = cut (step_pieces a) (later_steps b ss) rest bytes h in
    let d = cut (event_pieces a.event) (count_pieces a.count) c.middle bytes c.front in
    no_region a.event r d.middle other bytes i.event j d.front k

-- a clause that excludes everything is no other clause of regions
no_exclusive : (r : RegionForm) (rs : List RegionForm) (s : RegionForm) (rest other bytes : List ℕ) → AllByRecursion IsRegion (r ∷ rs) → IsRegion s → ends_clause (head rest) ≡ true
    → AreWritten (clause_pieces (exclusive r rs)) rest bytes → AreWritten (clause_pieces (unilateral s)) other bytes → ⊥
no_exclusive r [] s rest other bytes i j e h k =
    let d = cut (region_pieces s) all_others other bytes k in
    let there : head d.middle ≡ 60 = head_piece (sign (codes "<>")) (sign_piece (codes "*")) other d.middle refl d.back in
    let a = one_region r s rest d.middle bytes i.0 j (clause_region (head rest) e) (ap ends_region there) h d.front in
    other_byte ends_clause (head rest) 60 e (ap head a.behind ∙ there) refl
no_exclusive r (t ∷ rs) s rest other bytes i j e h k =
    let right = with_glue (sign_piece (codes "<>")) (map region_pieces (t ∷ rs)) in
    let c = cut (region_pieces r) (sign (codes "<>") ∷ right) rest bytes h in
    let d = cut (region_pieces s) all_others other bytes k in
    let c_there : head c.middle ≡ 60 = head_piece (sign (codes "<>")) right rest c.middle refl c.back in
    let d_there : head d.middle ≡ 60 = head_piece (sign (codes "<>")) (sign_piece (codes "*")) other d.middle refl d.back in
    let a = one_region r s c.middle d.middle bytes i.0 j (ap ends_region c_there) (ap ends_region d_there) c.front d.front in
    let b = one_sign (codes "<>") right (sign_piece (codes "*")) rest other d.middle refl (subst (λ m. AreWritten (sign (codes "<>") ∷ right) rest m) a.behind c.back) d.back in
    let f = first_cut (sign_piece (codes "<>")) (region_pieces t) (map region_pieces rs) rest b.bytes b.left in
    no_star t [] f.middle other b.bytes i.1.0 f.front b.right

same_order : (a b c d : StepForm) (ss ts : List StepForm) → a ∷ b ∷ ss ≡ c ∷ d ∷ ts → order a b ss ≡ order c d ts
same_order a b c d ss ts h = cc

same_exclusive : (r s : RegionForm) (rs ss : List RegionForm) → r ∷ rs ≡ s ∷ ss → exclusive r rs ≡ exclusive s ss
same_exclusive r s rs ss h = cc

one_unilateral : (r s : RegionForm) (rest other bytes : List ℕ) → IsRegion r → IsRegion s → AreWritten (clause_pieces (unilateral r)) rest bytes → AreWritten (clause_pieces (unilateral s)) other bytes
    → Alike (unilateral r) (unilateral s) rest other
one_unilateral r s rest other bytes i j h k =
    let c = cut (region_pieces r) all_others rest bytes h in
    let d = cut (region_pieces s) all_others other bytes k in
    let c_there : head c.middle ≡ 60 = head_piece (sign (codes "<>")) (sign_piece (codes "*")) rest c.middle refl c.back in
    let d_there : head d.middle ≡ 60 = head_piece (sign (codes "<>")) (sign_piece (codes "*")) other d.middle refl d.back in
    let a = one_region r s c.middle d.middle bytes i j (ap ends_region c_there) (ap ends_region d_there) c.front d.front in
    let b = one_sign (codes "<>") (sign_piece (codes "*")) (sign_piece (codes "*")) rest other d.middle refl (subst (λ m. AreWritten all_others rest m) a.behind c.back) d.back in
    let l = one_sign (codes "*") [] [] rest other b.bytes refl b.left b.right in
    record { same = ap unilateral a.same; behind = sym l.left ∙ l.right }

one_clause : IsOne IsClause clause_pieces ends_clause
one_clause (order a b ss) (order c d ts) rest other bytes i j e f h k =
    let s = one_joined IsStep step_pieces ends_step ends_clause 62 [] one_step refl refl refl clause_step a (b ∷ ss) c (d ∷ ts) rest other bytes (i.0, (i.1, i.2)) (j.0, (j.1, j.2)) e f h k in
    record { same = same_order a b c d ss ts s.same; behind = s.behind }
one_clause (order a b ss) (exclusive r rs) rest other bytes i j e f h k =
    let m = first_cut (sign_piece (codes "<>")) (region_pieces r) (map region_pieces rs) other bytes k in
    absurd (no_regions a b ss r rest m.middle bytes i.0 j.0 h m.front)
one_clause (order a b ss) (unilateral r) rest other bytes i j e f h k =
    let m = cut (region_pieces r) all_others other bytes k in
    absurd (no_regions a b ss r rest m.middle bytes i.0 j h m.front)
one_clause (exclusive r rs) (order a b ss) rest other bytes i j e f h k =
    let m = first_cut (sign_piece (codes "<>")) (region_pieces r) (map region_pieces rs) rest bytes h in
    absurd (no_regions a b ss r other m.middle bytes j.0 i.0 k m.front)
one_clause (exclusive r rs) (exclusive s ss) rest other bytes i j e f h k =
    let a = one_joined IsRegion region_pieces ends_region ends_clause 60 (62 ∷ []) one_region refl refl refl clause_region r rs s ss rest other bytes i j e f h k in
    record { same = same_exclusive r s rs ss a.same; behind = a.behind }
one_clause (exclusive r rs) (unilateral s) rest other bytes i j e f h k = absurd (no_exclusive r rs s rest other bytes i j e h k)
one_clause (unilateral r) (order a b ss) rest other bytes i j e f h k =
    let m = cut (region_pieces r) all_others rest bytes h in
    absurd (no_regions a b ss r other m.middle bytes j.0 i k m.front)
one_clause (unilateral r) (exclusive s ss) rest other bytes i j e f h k = absurd (no_exclusive s ss r other rest bytes j i f k h)
one_clause (unilateral r) (unilateral s) rest other bytes i j e f h k = one_unilateral r s rest other bytes i j h k

-- Filters

filter_clause : (b : ℕ) → ends_filter b ≡ true → ends_clause b ≡ true
filter_clause b h = grind arith

pub one_form : HasOneForm
one_form bytes c d cs ds h k =
    let a = one_joined IsClause clause_pieces ends_clause ends_filter 59 [] one_clause refl refl refl filter_clause c cs d ds h.blanks k.blanks bytes h.rules k.rules
    (ap ends_filter (head_of_blanks h.blanks h.blank)) (ap ends_filter (head_of_blanks k.blanks k.blank)) h.written k.written in
    a.same

pub one_filter : HasOneFilter
one_filter bytes f g h k = h.tree ∙ ap filter_tree (one_form bytes h.first k.first h.others k.others h.form k.form) ∙ sym k.tree
