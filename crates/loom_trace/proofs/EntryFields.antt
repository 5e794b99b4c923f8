-- An entry is told from its fields.
use Rattle.std.proofs.Common.{ℕ, ◌≡◌, Bool, true, false, nat_eq, if◌then◌else◌, ℤ, List, [], ◌∷◌, ◌++◌, get_or, drop, map, codes, Option, Some, None, refl, arith}
use Rattle.std.specs.Str.{bytes_eq}
use Rattle.std.proofs.lemmas.Bool.{ne_eqb}
use Rattle.loom_trace.specs.declared.entry.Ending.{Ending}
use Rattle.loom_trace.specs.declared.entry.Ending.TheVariants as ending
use Rattle.loom_trace.specs.declared.entry.What.{What}
use Rattle.loom_trace.specs.declared.entry.What.TheVariants as what
use Rattle.loom_trace.specs.declared.entry.Entry.{Entry}
use Rattle.loom_trace.specs.declared.entry.Entry.TheVariants as e
use Rattle.loom_tree.specs.Decimal.{decimal}
use Rattle.loom_trace.specs.Text.{thread_prefix, what_fields, ending_word}
use Rattle.loom_trace.specs.Parts.{thread_and_line, word_of, fields_of}
use Rattle.loom_trace.proofs.Numbers.{number, signed_number, Digits, digits_told, number_told, signed_told, numbers_told, values_told}

-- the fields of a line: where a thread does something, the word, and the fields behind it
abbrev pub behind_place : Option (ℕ × ℕ) → List (List ℕ) → List (List ℕ)
behind_place None fs = fs
behind_place (Some place) fs = thread_prefix place.0 place.1 ∷ fs

abbrev pub line_fields : Entry → List (List ℕ)
line_fields x = behind_place (thread_and_line x) (word_of x ∷ fields_of x)

-- what stands before the first colon, and what behind it
abbrev pub has_colon : List ℕ → Bool
has_colon [] = false
has_colon (b ∷ bs) = if nat_eq b 58 then true else has_colon bs

abbrev pub before_colon : List ℕ → List ℕ
before_colon [] = []
before_colon (b ∷ bs) = if nat_eq b 58 then [] else b ∷ before_colon bs

abbrev pub behind_colon : List ℕ → List ℕ
behind_colon [] = []
behind_colon (b ∷ bs) = if nat_eq b 58 then bs else behind_colon bs

abbrev pub field : ℕ → List (List ℕ) → List ℕ
field i fs = get_or fs i []

abbrev pub number_at : ℕ → List (List ℕ) → ℕ
number_at i fs = number (field i fs)

abbrev pub value_at : ℕ → List (List ℕ) → ℤ
value_at i fs = signed_number (field i fs)

abbrev pub what_by : List ℕ → List (List ℕ) → What
what_by word fs =
    if bytes_eq word (codes "lock") then what.Lock (number_at 0 fs) else
    (if bytes_eq word (codes "down") then what.Down (number_at 0 fs) else
    (if bytes_eq word (codes "join") then what.Join (number_at 0 fs) else
    (if bytes_eq word (codes "enter") then what.Enter (number_at 0 fs) (number_at 1 fs) else
    what.Wait (number_at 0 fs) (number_at 1 fs))))

abbrev pub what_of : List (List ℕ) → What
what_of fs = what_by (field 0 fs) (drop 1 fs)

abbrev pub ending_of : List ℕ → Ending
ending_of word =
    if bytes_eq word (codes "done") then ending.Done else
    (if bytes_eq word (codes "stuck") then ending.Stuck else
    (if bytes_eq word (codes "limit") then ending.Limit else ending.Stopped))

abbrev pub thread_entry : ℕ → ℕ → List ℕ → List (List ℕ) → Entry
thread_entry t l word fs =
    if bytes_eq word (codes "begin") then e.Begin t l else
    (if bytes_eq word (codes "end") then e.End t l else
    (if bytes_eq word (codes "trap") then e.Trap t l (number_at 0 fs) else
    (if bytes_eq word (codes "read") then e.Read t l (number_at 0 fs) (value_at 1 fs) else
    (if bytes_eq word (codes "write") then e.Write t l (number_at 0 fs) (value_at 1 fs) else
    (if bytes_eq word (codes "lock") then e.Lock t l (number_at 0 fs) else
    (if bytes_eq word (codes "unlock") then e.Unlock t l (number_at 0 fs) else
    (if bytes_eq word (codes "down") then e.Down t l (number_at 0 fs) else
    (if bytes_eq word (codes "up") then e.Up t l (number_at 0 fs) else
    (if bytes_eq word (codes "spawn") then e.Spawn t l (number_at 0 fs) (number_at 1 fs) (map signed_number (drop 2 fs)) else
    (if bytes_eq word (codes "join") then e.Join t l (number_at 0 fs) else
    (if bytes_eq word (codes "print") then e.Print t l (value_at 0 fs) else
    (if bytes_eq word (codes "tick") then e.Tick t l (number_at 0 fs) else
    (if bytes_eq word (codes "blocked") then e.Blocked t l (what_of fs) else
    (if bytes_eq word (codes "at") then e.At t l (number_at 0 fs) (map number (drop 1 fs)) else
    (if bytes_eq word (codes "past") then e.Past t l (number_at 0 fs) (map number (drop 1 fs)) else
    (if bytes_eq word (codes "back") then e.Back t l else
    (if bytes_eq word (codes "enter") then e.Enter t l (number_at 0 fs) (number_at 1 fs) else
    (if bytes_eq word (codes "leave") then e.Leave t l (number_at 0 fs) (number_at 1 fs) else
    (if bytes_eq word (codes "post") then e.Post t l (number_at 0 fs) (number_at 1 fs) else
    (if bytes_eq word (codes "wait") then e.Wait t l (number_at 0 fs) (number_at 1 fs) else
    e.Cross t l (number_at 0 fs) (number_at 1 fs) (number_at 2 fs)))))))))))))))))))))

abbrev pub control_entry : List ℕ → List (List ℕ) → Entry
control_entry word fs =
    if bytes_eq word (codes "asked") then e.Asked (number_at 0 fs) else
    (if bytes_eq word (codes "refused") then e.Refused (number_at 0 fs) (number_at 1 fs) (number_at 2 fs) else
    (if bytes_eq word (codes "installed") then e.Installed (number_at 0 fs) (number_at 1 fs) (map number (drop 2 fs)) else
    (if bytes_eq word (codes "removed") then e.Removed (number_at 0 fs) (number_at 1 fs) (map number (drop 2 fs)) else
    (if bytes_eq word (codes "stalled") then e.Stalled (number_at 0 fs) (number_at 1 fs) (number_at 2 fs) else
    (if bytes_eq word (codes "cut") then e.Cut (number_at 0 fs) else
    (if bytes_eq word (codes "unreached") then e.Unreached (number_at 0 fs) else
    e.Finish (ending_of (field 0 fs))))))))

abbrev pub entry_of : List (List ℕ) → Entry
entry_of [] = e.Back 0 0
entry_of (f ∷ fs) =
    if has_colon f then thread_entry (number (before_colon f)) (number (behind_colon f)) (field 0 fs) (drop 1 fs) else control_entry f fs

colon_told : (ds xs : List ℕ) → Digits ds → has_colon (ds ++ 58 ∷ xs) ≡ true
colon_told [] xs h = refl
colon_told (b ∷ ds) xs h = rw (ne_eqb b 58 (λ e. omega (arith, e, h.1)), colon_told ds xs h.2) refl

before_told : (ds xs : List ℕ) → Digits ds → before_colon (ds ++ 58 ∷ xs) ≡ ds
before_told [] xs h = refl
before_told (b ∷ ds) xs h = rw (ne_eqb b 58 (λ e. omega (arith, e, h.1)), before_told ds xs h.2) refl

behind_told : (ds xs : List ℕ) → Digits ds → behind_colon (ds ++ 58 ∷ xs) ≡ xs
behind_told [] xs h = refl
behind_told (b ∷ ds) xs h = rw (ne_eqb b 58 (λ e. omega (arith, e, h.1)), behind_told ds xs h.2) refl

place_colon : (t l : ℕ) → has_colon (thread_prefix t l) ≡ true
place_colon t l = colon_told (decimal t) (decimal l) (digits_told t)

place_before : (t l : ℕ) → before_colon (thread_prefix t l) ≡ decimal t
place_before t l = before_told (decimal t) (decimal l) (digits_told t)

place_behind : (t l : ℕ) → behind_colon (thread_prefix t l) ≡ decimal l
place_behind t l = behind_told (decimal t) (decimal l) (digits_told t)

what_told : (w : What) → what_of (what_fields w) ≡ w
what_told (what.Lock m) = simp number_told
what_told (what.Down s) = simp number_told
what_told (what.Join child) = simp number_told
what_told (what.Enter k clause) = simp number_told
what_told (what.Wait k event) = simp number_told

ending_told : (kind : Ending) → ending_of (ending_word kind) ≡ kind
ending_told ending.Done = refl
ending_told ending.Stuck = refl
ending_told ending.Limit = refl
ending_told ending.Stopped = refl

ruleset tells = (place_colon, place_before, place_behind, number_told, signed_told, numbers_told, values_told, what_told, ending_told)

pub entry_told : (x : Entry) → entry_of (line_fields x) ≡ x
entry_told (e.Begin t l) = simp tells
entry_told (e.End t l) = simp tells
entry_told (e.Trap t l reason) = simp tells
entry_told (e.Read t l word value) = simp tells
entry_told (e.Write t l word value) = simp tells
entry_told (e.Lock t l m) = simp tells
entry_told (e.Unlock t l m) = simp tells
entry_told (e.Down t l s) = simp tells
entry_told (e.Up t l s) = simp tells
entry_told (e.Spawn t l child func args) = simp tells
entry_told (e.Join t l child) = simp tells
entry_told (e.Print t l value) = simp tells
entry_told (e.Tick t l place) = simp tells
entry_told (e.Blocked t l what) = simp tells
entry_told (e.At t l k events) = simp tells
entry_told (e.Past t l k events) = simp tells
entry_told (e.Back t l) = simp tells
entry_told (e.Enter t l k clause) = simp tells
entry_told (e.Leave t l k clause) = simp tells
entry_told (e.Post t l k event) = simp tells
entry_told (e.Wait t l k event) = simp tells
entry_told (e.Cross t l place version passed) = simp tells
entry_told (e.Asked k) = simp tells
entry_told (e.Refused k number clause) = simp tells
entry_told (e.Installed k version places) = simp tells
entry_told (e.Removed k version places) = simp tells
entry_told (e.Stalled k thread line) = simp tells
entry_told (e.Cut k) = simp tells
entry_told (e.Unreached k) = simp tells
entry_told (e.Finish kind) = simp tells
