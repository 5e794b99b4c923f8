-- A line has one entry, and a text one journal.
use Rattle.std.proofs.Common.{ℕ, zero, suc, ◌≡◌, Bool, true, ℤ, pos, negsuc, List, [], ◌∷◌, ◌++◌, get_or, map, codes, Option, Some, None, refl, sym, ap, subst, ◌∙◌, arith}
use Rattle.std.specs.List.{list_all}
use Rattle.std.proofs.lemmas.Bool.{lt-ltb, and_parts}
use Rattle.loom_trace.specs.declared.entry.Ending.{Ending}
use Rattle.loom_trace.specs.declared.entry.Ending.TheVariants as ending
use Rattle.loom_trace.specs.declared.entry.What.{What}
use Rattle.loom_trace.specs.declared.entry.What.TheVariants as what
use Rattle.loom_trace.specs.declared.entry.Entry.{Entry}
use Rattle.loom_trace.specs.declared.entry.Entry.TheVariants as e
use Rattle.loom_tree.specs.Decimal.{decimal, signed_decimal}
use Rattle.loom_tree.specs.Lines.{ended}
use Rattle.loom_trace.specs.Text.{spaced, what_fields, ending_word, entry_line, printed_line, printed_lines, journal_lines, journal_text}
use Rattle.loom_trace.specs.Parts.{thread_and_line, word_of, fields_of}
use Rattle.loom_trace.proofs.Cut.{Each, Stops, one_cut, same_rest, each_append, above, each_weaker}
use Rattle.loom_trace.proofs.Numbers.{Digits, digits_told, each_decimal, each_signed}
use Rattle.loom_trace.proofs.EntryFields.{behind_place, line_fields, entry_of, entry_told}

-- each byte of each list is above a number
abbrev pub AllAbove : ℕ → List (List ℕ) → Type 0
AllAbove n [] = Unit {0}
AllAbove n (f ∷ fs) = Each (above n) f × AllAbove n fs

all_append : (n : ℕ) (fs gs : List (List ℕ)) → AllAbove n fs → AllAbove n gs → AllAbove n (fs ++ gs)
all_append n [] gs h k = k
all_append n (f ∷ fs) gs h k = (h.0, all_append n fs gs h.1 k)

each_tested : (n : ℕ) (bs : List ℕ) → list_all (above n) bs ≡ true → Each (above n) bs
each_tested n [] h = tt
each_tested n (b ∷ bs) h = let p = and_parts (above n b) (list_all (above n) bs) h in (p.0, each_tested n bs p.1)

-- fields have no byte up to the space

plain_number : (n : ℕ) → Each (above 32) (decimal n)
plain_number n = each_decimal 32 n (omega arith)

plain_value : (z : ℤ) → Each (above 32) (signed_decimal z)
plain_value z = each_signed 32 z (omega arith)

plain_numbers : (ns : List ℕ) → AllAbove 32 (map decimal ns)
plain_numbers [] = tt
plain_numbers (n ∷ ns) = (plain_number n, plain_numbers ns)

plain_values : (zs : List ℤ) → AllAbove 32 (map signed_decimal zs)
plain_values [] = tt
plain_values (z ∷ zs) = (plain_value z, plain_values zs)

plain_what : (w : What) → AllAbove 32 (what_fields w)
plain_what (what.Lock m) = (each_tested 32 (codes "lock") refl, (plain_number m, tt))
plain_what (what.Down s) = (each_tested 32 (codes "down") refl, (plain_number s, tt))
plain_what (what.Join child) = (each_tested 32 (codes "join") refl, (plain_number child, tt))
plain_what (what.Enter k clause) = (each_tested 32 (codes "enter") refl, (plain_number k, (plain_number clause, tt)))
plain_what (what.Wait k event) = (each_tested 32 (codes "wait") refl, (plain_number k, (plain_number event, tt)))

plain_ending : (kind : Ending) → AllAbove 32 (ending_word kind ∷ [])
plain_ending ending.Done = (each_tested 32 (codes "done") refl, tt)
plain_ending ending.Stuck = (each_tested 32 (codes "stuck") refl, tt)
plain_ending ending.Limit = (each_tested 32 (codes "limit") refl, tt)
plain_ending ending.Stopped = (each_tested 32 (codes "stopped") refl, tt)

plain_word : (x : Entry) → list_all (above 32) (word_of x) ≡ true
plain_word (e.Begin t l) = refl
plain_word (e.End t l) = refl
plain_word (e.Trap t l reason) = refl
plain_word (e.Read t l word value) = refl
plain_word (e.Write t l word value) = refl
plain_word (e.Lock t l m) = refl
plain_word (e.Unlock t l m) = refl
plain_word (e.Down t l s) = refl
plain_word (e.Up t l s) = refl
plain_word (e.Spawn t l child func args) = refl
plain_word (e.Join t l child) = refl
plain_word (e.Print t l value) = refl
plain_word (e.Tick t l place) = refl
plain_word (e.Blocked t l what) = refl
plain_word (e.At t l k events) = refl
plain_word (e.Past t l k events) = refl
plain_word (e.Back t l) = refl
plain_word (e.Enter t l k clause) = refl
plain_word (e.Leave t l k clause) = refl
plain_word (e.Post t l k event) = refl
plain_word (e.Wait t l k event) = refl
plain_word (e.Cross t l place version passed) = refl
plain_word (e.Asked k) = refl
plain_word (e.Refused k number clause) = refl
plain_word (e.Installed k version places) = refl
plain_word (e.Removed k version places) = refl
plain_word (e.Stalled k thread line) = refl
plain_word (e.Cut k) = refl
plain_word (e.Unreached k) = refl
plain_word (e.Finish kind) = refl

plain_fields : (x : Entry) → AllAbove 32 (fields_of x)
plain_fields (e.Begin t l) = tt
plain_fields (e.End t l) = tt
plain_fields (e.Trap t l reason) = (plain_number reason, tt)
plain_fields (e.Read t l word value) = (plain_number word, (plain_value value, tt))
plain_fields (e.Write t l word value) = (plain_number word, (plain_value value, tt))
plain_fields (e.Lock t l m) = (plain_number m, tt)
plain_fields (e.Unlock t l m) = (plain_number m, tt)
plain_fields (e.Down t l s) = (plain_number s, tt)
plain_fields (e.Up t l s) = (plain_number s, tt)
plain_fields (e.Spawn t l child func args) = (plain_number child, (plain_number func, plain_values args))
plain_fields (e.Join t l child) = (plain_number child, tt)
plain_fields (e.Print t l value) = (plain_value value, tt)
plain_fields (e.Tick t l place) = (plain_number place, tt)
plain_fields (e.Blocked t l what) = plain_what what
plain_fields (e.At t l k events) = (plain_number k, plain_numbers events)
plain_fields (e.Past t l k events) = (plain_number k, plain_numbers events)
plain_fields (e.Back t l) = tt
plain_fields (e.Enter t l k clause) = (plain_number k, (plain_number clause, tt))
plain_fields (e.Leave t l k clause) = (plain_number k, (plain_number clause, tt))
plain_fields (e.Post t l k event) = (plain_number k, (plain_number event, tt))
plain_fields (e.Wait t l k event) = (plain_number k, (plain_number event, tt))
plain_fields (e.Cross t l place version passed) = (plain_number place, (plain_number version, (plain_number passed, tt)))
plain_fields (e.Asked k) = (plain_number k, tt)
plain_fields (e.Refused k number clause) = (plain_number k, (plain_number number, (plain_number clause, tt)))
plain_fields (e.Installed k version places) = (plain_number k, (plain_number version, plain_numbers places))
plain_fields (e.Removed k version places) = (plain_number k, (plain_number version, plain_numbers places))
plain_fields (e.Stalled k thread line) = (plain_number k, (plain_number thread, (plain_number line, tt)))
plain_fields (e.Cut k) = (plain_number k, tt)
plain_fields (e.Unreached k) = (plain_number k, tt)
plain_fields (e.Finish kind) = plain_ending kind

plain_place : (place : Option (ℕ × ℕ)) (fs : List (List ℕ)) → AllAbove 32 fs → AllAbove 32 (behind_place place fs)
plain_place None fs h = h
plain_place (Some p) fs h = (each_append (above 32) (decimal p.0) (58 ∷ decimal p.1) (plain_number p.0) (refl, plain_number p.1), h)

plain_line : (x : Entry) → AllAbove 32 (line_fields x)
plain_line x = plain_place (thread_and_line x) (word_of x ∷ fields_of x) (each_tested 32 (word_of x) (plain_word x), plain_fields x)

-- the line of an entry is its fields
line_spaced : (x : Entry) → spaced (line_fields x) ≡ 32 ∷ entry_line x
line_spaced (e.Begin t l) = refl
line_spaced (e.End t l) = refl
line_spaced (e.Trap t l reason) = refl
line_spaced (e.Read t l word value) = refl
line_spaced (e.Write t l word value) = refl
line_spaced (e.Lock t l m) = refl
line_spaced (e.Unlock t l m) = refl
line_spaced (e.Down t l s) = refl
line_spaced (e.Up t l s) = refl
line_spaced (e.Spawn t l child func args) = refl
line_spaced (e.Join t l child) = refl
line_spaced (e.Print t l value) = refl
line_spaced (e.Tick t l place) = refl
line_spaced (e.Blocked t l what) = refl
line_spaced (e.At t l k events) = refl
line_spaced (e.Past t l k events) = refl
line_spaced (e.Back t l) = refl
line_spaced (e.Enter t l k clause) = refl
line_spaced (e.Leave t l k clause) = refl
line_spaced (e.Post t l k event) = refl
line_spaced (e.Wait t l k event) = refl
line_spaced (e.Cross t l place version passed) = refl
line_spaced (e.Asked k) = refl
line_spaced (e.Refused k number clause) = refl
line_spaced (e.Installed k version places) = refl
line_spaced (e.Removed k version places) = refl
line_spaced (e.Stalled k thread line) = refl
line_spaced (e.Cut k) = refl
line_spaced (e.Unreached k) = refl
line_spaced (e.Finish kind) = refl

spaced_stops : (fs : List (List ℕ)) → Stops (above 32) (spaced fs)
spaced_stops [] = tt
spaced_stops (f ∷ fs) = refl

one_spaced : (fs gs : List (List ℕ)) → AllAbove 32 fs → AllAbove 32 gs → spaced fs ≡ spaced gs → fs ≡ gs
one_spaced [] [] h k e = refl
one_spaced [] (g ∷ gs) h k e = cc
one_spaced (f ∷ fs) [] h k e = cc
one_spaced (f ∷ fs) (g ∷ gs) h k e =
    let r : f ++ spaced fs ≡ g ++ spaced gs = cc in
    let s : f ≡ g = one_cut (above 32) f g (spaced fs) (spaced gs) h.0 k.0 (spaced_stops fs) (spaced_stops gs) r in
    let t : fs ≡ gs = one_spaced fs gs h.1 k.1 (same_rest f g (spaced fs) (spaced gs) s r) in
    cc

pub one_entry : (x y : Entry) → entry_line x ≡ entry_line y → x ≡ y
one_entry x y e =
    let s : spaced (line_fields x) ≡ spaced (line_fields y) = line_spaced x ∙ ap (λ (z : List ℕ). 32 ∷ z) e ∙ sym (line_spaced y) in
    sym (entry_told x) ∙ ap entry_of (one_spaced (line_fields x) (line_fields y) (plain_line x) (plain_line y) s) ∙ entry_told y

-- lines have no byte below the space

spaced_above : (fs : List (List ℕ)) → AllAbove 32 fs → Each (above 31) (spaced fs)
spaced_above [] h = tt
spaced_above (f ∷ fs) h = (refl, each_append (above 31) f (spaced fs) (each_weaker 31 32 f (omega arith) h.0) (spaced_above fs h.1))

entry_above : (x : Entry) → Each (above 31) (entry_line x)
entry_above x =
    let P : List ℕ → Type 0 = λ z. Each (above 31) z in
    (subst P (line_spaced x) (spaced_above (line_fields x) (plain_line x))).1

entries_above : (es : List Entry) → AllAbove 31 (map entry_line es)
entries_above [] = tt
entries_above (x ∷ es) = (entry_above x, entries_above es)

printed_above : (x : Entry) → AllAbove 31 (printed_line x)
printed_above (e.Print t l value) = (each_signed 31 value (omega arith), tt)
printed_above _ = tt

all_printed_above : (es : List Entry) → AllAbove 31 (printed_lines es)
all_printed_above [] = tt
all_printed_above (x ∷ es) = all_append 31 (printed_line x) (printed_lines es) (printed_above x) (all_printed_above es)

lines_above : (es : List Entry) → AllAbove 31 (journal_lines es)
lines_above es = all_append 31 (printed_lines es) (codes "---" ∷ map entry_line es) (all_printed_above es) (each_tested 31 (codes "---") refl, entries_above es)

one_ended : (ls ms : List (List ℕ)) → AllAbove 31 ls → AllAbove 31 ms → ended ls ≡ ended ms → ls ≡ ms
one_ended [] [] h k e = refl
one_ended [] ([] ∷ ms) h k e = cc
one_ended [] ((b ∷ m) ∷ ms) h k e = cc
one_ended ([] ∷ ls) [] h k e = cc
one_ended ((b ∷ l) ∷ ls) [] h k e = cc
one_ended (l ∷ ls) (m ∷ ms) h k e =
    let s : l ≡ m = one_cut (above 31) l m (10 ∷ ended ls) (10 ∷ ended ms) h.0 k.0 refl refl e in
    let r : 10 ∷ ended ls ≡ 10 ∷ ended ms = same_rest l m (10 ∷ ended ls) (10 ∷ ended ms) s e in
    let t : ls ≡ ms = one_ended ls ms h.1 k.1 (let q : ended ls ≡ ended ms = cc in q) in
    cc

-- what is printed has a digit where `---` has its second byte

abbrev is_printed : List ℕ → Bool
is_printed line = above 47 (get_or line 1 48)

digit_there : (ds : List ℕ) (i : ℕ) → Digits ds → above 47 (get_or ds i 48) ≡ true
digit_there [] i h = refl
digit_there (b ∷ ds) zero h = lt-ltb 47 b (omega (arith, h.0))
digit_there (b ∷ ds) (suc i) h = digit_there ds i h.2

value_printed : (z : ℤ) → is_printed (signed_decimal z) ≡ true
value_printed (pos n) = digit_there (decimal n) 1 (digits_told n)
value_printed (negsuc n) = digit_there (decimal (suc n)) 0 (digits_told (suc n))

line_printed : (x : Entry) → Each is_printed (printed_line x)
line_printed (e.Print t l value) = (value_printed value, tt)
line_printed _ = tt

lines_printed : (es : List Entry) → Each is_printed (printed_lines es)
lines_printed [] = tt
lines_printed (x ∷ es) = each_append is_printed (printed_line x) (printed_lines es) (line_printed x) (lines_printed es)

one_list : (es fs : List Entry) → map entry_line es ≡ map entry_line fs → es ≡ fs
one_list [] [] e = refl
one_list [] (y ∷ fs) e = cc
one_list (x ∷ es) [] e = cc
one_list (x ∷ es) (y ∷ fs) e =
    let l : entry_line x ≡ entry_line y = cc in
    let s : x ≡ y = one_entry x y l in
    let r : map entry_line es ≡ map entry_line fs = cc in
    let t : es ≡ fs = one_list es fs r in
    cc

pub one_journal : (es fs : List Entry) → journal_text es ≡ journal_text fs → es ≡ fs
one_journal es fs e =
    let l : journal_lines es ≡ journal_lines fs = one_ended (journal_lines es) (journal_lines fs) (lines_above es) (lines_above fs) e in
    let p : printed_lines es ≡ printed_lines fs =
    one_cut is_printed (printed_lines es) (printed_lines fs) (codes "---" ∷ map entry_line es) (codes "---" ∷ map entry_line fs) (lines_printed es) (lines_printed fs) refl refl l in
    let r : codes "---" ∷ map entry_line es ≡ codes "---" ∷ map entry_line fs = same_rest (printed_lines es) (printed_lines fs) (codes "---" ∷ map entry_line es) (codes "---" ∷ map entry_line fs) p l in
    let m : map entry_line es ≡ map entry_line fs = cc in
    one_list es fs m
