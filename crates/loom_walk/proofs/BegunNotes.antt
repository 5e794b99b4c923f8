-- Notes of the events that began with open statements.
use Rattle.std.proofs.Common.{ℕ, zero, suc, ◌-◌, ◌<◌, ◌≡◌, ◌==◌, Bool, true, false, ◌&&◌, List, [], ◌∷◌, ◌++◌, length, take, map, slice_get, Option, Some, None, if◌then◌else◌, refl, sym, ap, ◌∙◌, append_assoc, arith}
use Rattle.std.specs.List.{list_any}
use Rattle.std.proofs.lemmas.Bool.{ne_eqb, eq-eqb, and_left, and_right, or_parts, or_from}
use Rattle.std.proofs.lemmas.List.{reverse-append}
use Rattle.std.proofs.lemmas.List.Folds.{list_any-append}
use Rattle.loom_law.specs.Filter.{has}
use Rattle.loom_law.specs.Walk.{OpenStatement, OpenFrame, Inside, in_frame, close_statement, without_first, begun_with, events_of_filter, note_events}
use Rattle.loom_plan.specs.Sets.{event_numbers}
use Rattle.loom_walk.specs.declared.event_notes.EventNote.{EventNote}
use Rattle.loom_walk.specs.Notes.{IsFirstStatement, IsTopStatement, IsFirstAlone, IsInnermost, BegunEvents, begun_of, begun_by, begun_with_statement, begun_in_frame, begun_in, AreEventNotes, is_of_statement, is_of_frame, is_first_of, events_of_statement, behind_those}

abbrev begun : ℕ → ℕ → ℕ → List ℕ → BegunEvents
begun d l k ns = record { depth = d; line = l; filter = k; events = ns }

-- At the front

events_end : (d l k : ℕ) (b : BegunEvents) (bs : List BegunEvents) → is_of_statement d l b ≡ false → events_of_statement d l k (b ∷ bs) ≡ []
events_end d l k b bs h = ap (λ (t : Bool). if t then (if b.filter == k then b.events else events_of_statement d l k bs) else []) h

events_first : (d l k : ℕ) (b : BegunEvents) (bs : List BegunEvents) → is_of_statement d l b ≡ true
    → events_of_statement d l k (b ∷ bs) ≡ (if b.filter == k then b.events else events_of_statement d l k bs)
events_first d l k b bs h = ap (λ (t : Bool). if t then (if b.filter == k then b.events else events_of_statement d l k bs) else []) h

step_behind : (test : BegunEvents → Bool) (b : BegunEvents) (bs : List BegunEvents) → test b ≡ true → behind_those test (b ∷ bs) ≡ behind_those test bs
step_behind test b bs h = ap (λ (t : Bool). if t then behind_those test bs else b ∷ bs) h

stop_behind : (test : BegunEvents → Bool) (b : BegunEvents) (bs : List BegunEvents) → test b ≡ false → behind_those test (b ∷ bs) ≡ b ∷ bs
stop_behind test b bs h = ap (λ (t : Bool). if t then behind_those test bs else b ∷ bs) h

-- What is passed over, and what is left

none_behind : (test : BegunEvents → Bool) (bs : List BegunEvents) → list_any test bs ≡ false → behind_those test bs ≡ bs
none_behind test [] h = refl
none_behind test (b ∷ bs) h = stop_behind test b bs (or_parts (test b) (list_any test bs) h).0

own_behind : (test : BegunEvents → Bool) (d l : ℕ) (es : List (ℕ × List ℕ)) (rest : List BegunEvents) → ((k : ℕ) (ns : List ℕ) → test (begun d l k ns) ≡ true)
    → behind_those test (begun_with_statement d l es ++ rest) ≡ behind_those test rest
own_behind test d l [] rest own = refl
own_behind test d l (e ∷ es) rest own =
    step_behind test (begun d l e.0 e.1) (begun_with_statement d l es ++ rest) (own e.0 e.1) ∙ own_behind test d l es rest own

other_statement : (test : BegunEvents → Bool) (d l : ℕ) (es : List (ℕ × List ℕ)) → ((k : ℕ) (ns : List ℕ) → test (begun d l k ns) ≡ false)
    → list_any test (begun_with_statement d l es) ≡ false
other_statement test d l [] other = refl
other_statement test d l (e ∷ es) other =
    or_from (test (begun d l e.0 e.1)) (list_any test (begun_with_statement d l es)) (other e.0 e.1) (other_statement test d l es other)

other_frame : (test : BegunEvents → Bool) (d : ℕ) (ss : List OpenStatement) → ((l k : ℕ) (ns : List ℕ) → test (begun d l k ns) ≡ false)
    → list_any test (begun_in_frame d ss) ≡ false
other_frame test d [] other = refl
other_frame test d (s ∷ ss) other =
    list_any-append test (begun_with_statement d s.line s.events) (begun_in_frame d ss)
    ∙ or_from (list_any test (begun_with_statement d s.line s.events)) (list_any test (begun_in_frame d ss))
    (other_statement test d s.line s.events (λ k ns. other s.line k ns)) (other_frame test d ss other)

frames_below : (test : BegunEvents → Bool) (fs : List OpenFrame) (d : ℕ) → ((e l k : ℕ) (ns : List ℕ) → (e == d) ≡ false → test (begun e l k ns) ≡ false)
    → length fs < d → list_any test (begun_in fs) ≡ false
frames_below test [] d other h = refl
frames_below test (x ∷ xs) d other h =
    list_any-append test (begun_in_frame (suc (length xs)) x.statements) (begun_in xs)
    ∙ or_from (list_any test (begun_in_frame (suc (length xs)) x.statements)) (list_any test (begun_in xs))
    (other_frame test (suc (length xs)) x.statements (λ l k ns. other (suc (length xs)) l k ns (ne_eqb (suc (length xs)) d (λ e. omega arith))))
    (frames_below test xs d other (omega arith))

-- The innermost statement

own : (d l : ℕ) → ((d == d) && (l == l)) ≡ true
own d l = ap (λ (t : Bool). t && (l == l)) (eq-eqb d d refl) ∙ eq-eqb l l refl

outer_statements : (d l : ℕ) (ss : List OpenStatement) → has (map (λ (s : OpenStatement). s.line) ss) l ≡ false
    → list_any (is_of_statement d l) (begun_in_frame d ss) ≡ false
outer_statements d l [] h = refl
outer_statements d l (s ∷ ss) h =
    let two = or_parts (s.line == l) (has (map (λ (x : OpenStatement). x.line) ss) l) h in
    list_any-append (is_of_statement d l) (begun_with_statement d s.line s.events) (begun_in_frame d ss)
    ∙ or_from (list_any (is_of_statement d l) (begun_with_statement d s.line s.events)) (list_any (is_of_statement d l) (begun_in_frame d ss))
    (other_statement (is_of_statement d l) d s.line s.events (λ k ns. and_right (d == d) (s.line == l) two.0)) (outer_statements d l ss two.1)

outer_rest : (xs : List OpenFrame) (ss : List OpenStatement) (l : ℕ) → has (map (λ (s : OpenStatement). s.line) ss) l ≡ false
    → list_any (is_of_statement (suc (length xs)) l) (begun_in_frame (suc (length xs)) ss ++ begun_in xs) ≡ false
outer_rest xs ss l h =
    list_any-append (is_of_statement (suc (length xs)) l) (begun_in_frame (suc (length xs)) ss) (begun_in xs)
    ∙ or_from (list_any (is_of_statement (suc (length xs)) l) (begun_in_frame (suc (length xs)) ss)) (list_any (is_of_statement (suc (length xs)) l) (begun_in xs))
    (outer_statements (suc (length xs)) l ss h)
    (frames_below (is_of_statement (suc (length xs)) l) xs (suc (length xs)) (λ e m k ns z. and_left (e == suc (length xs)) (m == l) z) (omega arith))

-- the first statement stands alone at the front
first_apart : (xs : List OpenFrame) (s : OpenStatement) (ss : List OpenStatement) (l : ℕ) → s.line ≡ l
    → begun_in_frame (suc (length xs)) (s ∷ ss) ++ begun_in xs ≡ begun_with_statement (suc (length xs)) l s.events ++ (begun_in_frame (suc (length xs)) ss ++ begun_in xs)
first_apart xs s ss l e =
    append_assoc (begun_with_statement (suc (length xs)) s.line s.events) (begun_in_frame (suc (length xs)) ss) (begun_in xs)
    ∙ ap (λ (m : ℕ). begun_with_statement (suc (length xs)) m s.events ++ (begun_in_frame (suc (length xs)) ss ++ begun_in xs)) e

behind_top : (xs : List OpenFrame) (ss : List OpenStatement) (l : ℕ) → IsFirstAlone l ss
    → behind_those (is_of_statement (suc (length xs)) l) (begun_in_frame (suc (length xs)) ss ++ begun_in xs) ≡ begun_in_frame (suc (length xs)) (without_first ss) ++ begun_in xs
behind_top xs [] l h = absurd h
behind_top xs (s ∷ ss) l h =
    ap (λ (bs : List BegunEvents). behind_those (is_of_statement (suc (length xs)) l) bs) (first_apart xs s ss l h.0)
    ∙ (own_behind (is_of_statement (suc (length xs)) l) (suc (length xs)) l s.events (begun_in_frame (suc (length xs)) ss ++ begun_in xs) (λ k ns. own (suc (length xs)) l)
    ∙ none_behind (is_of_statement (suc (length xs)) l) (begun_in_frame (suc (length xs)) ss ++ begun_in xs) (outer_rest xs ss l h.1))

pub done_told : (old new : List EventNote) (fs : List OpenFrame) (d l : ℕ) → begun_by new ≡ behind_those (is_of_statement d l) (begun_by old) → AreEventNotes old fs
    → length fs ≡ d → IsInnermost l fs → AreEventNotes new (in_frame close_statement fs)
done_told old new [] d l e are n h = absurd h
done_told old new (x ∷ xs) d l e are n h =
    e
    ∙ (ap (λ (bs : List BegunEvents). behind_those (is_of_statement d l) bs) are
    ∙ (ap (λ (m : ℕ). behind_those (is_of_statement m l) (begun_in (x ∷ xs))) (sym n) ∙ behind_top xs x.statements l h))

events_own : (d l k : ℕ) (es : List (ℕ × List ℕ)) (rest : List BegunEvents) → events_of_statement d l k rest ≡ []
    → events_of_statement d l k (begun_with_statement d l es ++ rest) ≡ events_of_filter k es
events_own d l k [] rest h = h
events_own d l k (e ∷ es) rest h =
    events_first d l k (begun d l e.0 e.1) (begun_with_statement d l es ++ rest) (own d l)
    ∙ ap (λ (ns : List ℕ). if e.0 == k then e.1 else ns) (events_own d l k es rest h)

events_none : (d l k : ℕ) (bs : List BegunEvents) → list_any (is_of_statement d l) bs ≡ false → events_of_statement d l k bs ≡ []
events_none d l k [] h = refl
events_none d l k (b ∷ bs) h = events_end d l k b bs (or_parts (is_of_statement d l b) (list_any (is_of_statement d l) bs) h).0

events_top : (xs : List OpenFrame) (func : ℕ) (ss : List OpenStatement) (is : List Inside) (l k : ℕ) → IsFirstAlone l ss
    → events_of_statement (suc (length xs)) l k (begun_in_frame (suc (length xs)) ss ++ begun_in xs)
    ≡ events_of_filter k (begun_with (record { func = func; statements = ss; inside = is } ∷ xs))
events_top xs func [] is l k h = absurd h
events_top xs func (s ∷ ss) is l k h =
    ap (λ (bs : List BegunEvents). events_of_statement (suc (length xs)) l k bs) (first_apart xs s ss l h.0)
    ∙ events_own (suc (length xs)) l k s.events (begun_in_frame (suc (length xs)) ss ++ begun_in xs)
    (events_none (suc (length xs)) l k (begun_in_frame (suc (length xs)) ss ++ begun_in xs) (outer_rest xs ss l h.1))

pub events_told : (notes : List EventNote) (fs : List OpenFrame) (d l k : ℕ) → AreEventNotes notes fs → length fs ≡ d → IsInnermost l fs
    → events_of_statement d l k (begun_by notes) ≡ events_of_filter k (begun_with fs)
events_told notes [] d l k are n h = absurd h
events_told notes (x ∷ xs) d l k are n h =
    ap (λ (bs : List BegunEvents). events_of_statement d l k bs) are
    ∙ (ap (λ (m : ℕ). events_of_statement m l k (begun_in (x ∷ xs))) (sym n) ∙ events_top xs x.func x.statements x.inside l k h)

-- The newest note is the last one.

no_more : (ns : List EventNote) → length ns ≡ 0 → ns ≡ []
no_more [] h = refl
no_more (n ∷ ns) h = absurd (omega arith)

some_same : (a b : EventNote) → Some a ≡ Some b → a ≡ b
some_same a b e = cc

last_at : (ns : List EventNote) (i : ℕ) (x : EventNote) → suc i ≡ length ns → slice_get ns i ≡ Some x → ns ≡ take i ns ++ x ∷ []
last_at [] i x h e = absurd (omega arith)
last_at (n ∷ ns) zero x h e = ap (λ (z : List EventNote). n ∷ z) (no_more ns (omega arith)) ∙ ap (λ (z : EventNote). z ∷ []) (some_same n x e)
last_at (n ∷ ns) (suc i) x h e = ap (λ (z : List EventNote). n ∷ z) (last_at ns i x (omega arith) e)

last_of : (ns : List EventNote) (x : EventNote) → Some x ≡ slice_get ns (length ns - 1) → ns ≡ take (length ns - 1) ns ++ x ∷ []
last_of [] x e = cc
last_of (n ∷ ns) x e = last_at (n ∷ ns) (length (n ∷ ns) - 1) x (omega arith) (sym e)

first_of_last : (notes front : List EventNote) (n : EventNote) (d l : ℕ) → notes ≡ front ++ n ∷ [] → ((n.depth == d) && (n.line == l)) ≡ is_first_of d l (begun_by notes)
first_of_last notes front n d l e =
    sym (ap (λ (ns : List EventNote). is_first_of d l (begun_by ns)) e ∙ ap (λ (ns : List EventNote). is_first_of d l (map begun_of ns)) (reverse-append front (n ∷ [])))

pub newest_is : (notes : List EventNote) (n : EventNote) (d l : ℕ) → Some n ≡ slice_get notes (length notes - 1)
    → ((n.depth == d) && (n.line == l)) ≡ is_first_of d l (begun_by notes)
newest_is notes n d l e = first_of_last notes (take (length notes - 1) notes) n d l (last_of notes n e)

pub newest_none : (notes : List EventNote) (d l : ℕ) → None ≡ slice_get notes (length notes - 1) → false ≡ is_first_of d l (begun_by notes)
newest_none [] d l e = refl
newest_none (n ∷ ns) d l e = absurd (there (n ∷ ns) (length (n ∷ ns) - 1) (omega arith) (sym e))
  where
    there : (ms : List EventNote) (i : ℕ) → i < length ms → slice_get ms i ≡ None → ⊥
    there [] i low e = omega arith
    there (m ∷ ms) zero low e = cc
    there (m ∷ ms) (suc i) low e = there ms i (omega arith) e

-- Where the first of all is of another statement, nothing began with this one.

none_of_first : (xs : List OpenFrame) (func l : ℕ) (ss : List OpenStatement) (is : List Inside) → IsFirstAlone l ss
    → is_first_of (suc (length xs)) l (begun_in_frame (suc (length xs)) ss ++ begun_in xs) ≡ false
    → begun_with (record { func = func; statements = ss; inside = is } ∷ xs) ≡ []
none_of_first xs func l [] is alone other = refl
none_of_first xs func l (s ∷ ss) is alone other = by s.events (ap (λ (bs : List BegunEvents). is_first_of (suc (length xs)) l bs) (sym (first_apart xs s ss l alone.0)) ∙ other)
  where
    by : (es : List (ℕ × List ℕ)) → is_first_of (suc (length xs)) l (begun_with_statement (suc (length xs)) l es ++ (begun_in_frame (suc (length xs)) ss ++ begun_in xs)) ≡ false → es ≡ []
    by [] h = refl
    by (e ∷ es) h = let clash : true ≡ false = sym (own (suc (length xs)) l) ∙ h in absurd cc

pub none_began : (notes : List EventNote) (fs : List OpenFrame) (d l : ℕ) → AreEventNotes notes fs → length fs ≡ d → IsInnermost l fs → is_first_of d l (begun_by notes) ≡ false
    → begun_with fs ≡ []
none_began notes [] d l are n h other = absurd h
none_began notes (x ∷ xs) d l are n h other =
    none_of_first xs x.func l x.statements x.inside h
    (ap (λ (m : ℕ). is_first_of m l (begun_in (x ∷ xs))) n ∙ (ap (λ (bs : List BegunEvents). is_first_of d l bs) (sym are) ∙ other))

-- A frame

frame_behind : (d : ℕ) (ss : List OpenStatement) (rest : List BegunEvents) → behind_those (is_of_frame d) (begun_in_frame d ss ++ rest) ≡ behind_those (is_of_frame d) rest
frame_behind d [] rest = refl
frame_behind d (s ∷ ss) rest =
    ap (λ (bs : List BegunEvents). behind_those (is_of_frame d) bs) (append_assoc (begun_with_statement d s.line s.events) (begun_in_frame d ss) rest)
    ∙ (own_behind (is_of_frame d) d s.line s.events (begun_in_frame d ss ++ rest) (λ k ns. eq-eqb d d refl) ∙ frame_behind d ss rest)

pub out_told : (old new : List EventNote) (fs : List OpenFrame) (d : ℕ) → begun_by new ≡ behind_those (is_of_frame d) (begun_by old) → AreEventNotes old fs
    → length fs ≡ d → AreEventNotes new (without_first fs)
out_told old new [] d e are n = e ∙ ap (λ (bs : List BegunEvents). behind_those (is_of_frame d) bs) are
out_told old new (x ∷ xs) d e are n =
    e
    ∙ (ap (λ (bs : List BegunEvents). behind_those (is_of_frame d) bs) are
    ∙ (ap (λ (m : ℕ). behind_those (is_of_frame m) (begun_in (x ∷ xs))) (sym n)
    ∙ (frame_behind (suc (length xs)) x.statements (begun_in xs)
    ∙ none_behind (is_of_frame (suc (length xs))) (begun_in xs) (frames_below (is_of_frame (suc (length xs))) xs (suc (length xs)) (λ e l k ns z. z) (omega arith)))))

-- A new note

note_top : (n : EventNote) (xs : List OpenFrame) (ss : List OpenStatement) → n.depth ≡ suc (length xs) → IsFirstStatement n.line ss
    → begun_of n ∷ (begun_in_frame (suc (length xs)) ss ++ begun_in xs) ≡ begun_in_frame (suc (length xs)) (note_events n.filter (event_numbers n.events) ss) ++ begun_in xs
note_top n xs [] d h = absurd h
note_top n xs (s ∷ ss) d h =
    let first : begun_of n ≡ begun (suc (length xs)) s.line n.filter (event_numbers n.events)
    = ap (λ (m : ℕ). begun m n.line n.filter (event_numbers n.events)) d ∙ ap (λ (m : ℕ). begun (suc (length xs)) m n.filter (event_numbers n.events)) (sym h) in
    ap (λ (b : BegunEvents). b ∷ ((begun_with_statement (suc (length xs)) s.line s.events ++ begun_in_frame (suc (length xs)) ss) ++ begun_in xs)) first

-- a note of the innermost statement, and of the events that begin with it
pub note_told : (notes : List EventNote) (n : EventNote) (fs : List OpenFrame) → AreEventNotes notes fs → n.depth ≡ length fs → IsTopStatement n.line fs
    → AreEventNotes (notes ++ n ∷ []) (in_frame (λ (x : OpenFrame). record x { statements = note_events n.filter (event_numbers n.events) x.statements }) fs)
note_told notes n [] are d h = absurd h
note_told notes n (x ∷ xs) are d h =
    ap (λ (ys : List EventNote). map begun_of ys) (reverse-append notes (n ∷ []))
    ∙ (ap (λ (bs : List BegunEvents). begun_of n ∷ bs) are ∙ note_top n xs x.statements d h)
