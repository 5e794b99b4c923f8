-- The parts of which the line of an entry is put together.
use Rattle.std.specs.Prelude.{ℕ, List, [], ◌∷◌, ◌++◌, map, codes, Option, Some, None}
use Rattle.loom_trace.specs.declared.entry.Entry.{Entry}
use Rattle.loom_trace.specs.declared.entry.Entry.TheVariants as e
use Rattle.loom_tree.specs.Decimal.{decimal, signed_decimal}
use Rattle.loom_trace.specs.Text.{thread_prefix, what_fields, ending_word}

-- where a thread does something, and a space
abbrev pub thread_before : ℕ → ℕ → List ℕ
thread_before thread line = thread_prefix thread line ++ 32 ∷ []

-- what stands before a word
abbrev pub place_prefix : Option (ℕ × ℕ) → List ℕ
place_prefix None = []
place_prefix (Some place) = thread_before place.0 place.1

-- the thread and the line of what a thread does
abbrev pub thread_and_line : Entry → Option (ℕ × ℕ)
thread_and_line (e.Begin t l) = Some (t, l)
thread_and_line (e.End t l) = Some (t, l)
thread_and_line (e.Trap t l reason) = Some (t, l)
thread_and_line (e.Read t l word value) = Some (t, l)
thread_and_line (e.Write t l word value) = Some (t, l)
thread_and_line (e.Lock t l m) = Some (t, l)
thread_and_line (e.Unlock t l m) = Some (t, l)
thread_and_line (e.Down t l s) = Some (t, l)
thread_and_line (e.Up t l s) = Some (t, l)
thread_and_line (e.Spawn t l child func args) = Some (t, l)
thread_and_line (e.Join t l child) = Some (t, l)
thread_and_line (e.Print t l value) = Some (t, l)
thread_and_line (e.Tick t l place) = Some (t, l)
thread_and_line (e.Blocked t l what) = Some (t, l)
thread_and_line (e.At t l k events) = Some (t, l)
thread_and_line (e.Past t l k events) = Some (t, l)
thread_and_line (e.Back t l) = Some (t, l)
thread_and_line (e.Enter t l k clause) = Some (t, l)
thread_and_line (e.Leave t l k clause) = Some (t, l)
thread_and_line (e.Post t l k event) = Some (t, l)
thread_and_line (e.Wait t l k event) = Some (t, l)
thread_and_line (e.Cross t l place version passed) = Some (t, l)
thread_and_line _ = None

-- the word
abbrev pub word_of : Entry → List ℕ
word_of (e.Begin t l) = codes "begin"
word_of (e.End t l) = codes "end"
word_of (e.Trap t l reason) = codes "trap"
word_of (e.Read t l word value) = codes "read"
word_of (e.Write t l word value) = codes "write"
word_of (e.Lock t l m) = codes "lock"
word_of (e.Unlock t l m) = codes "unlock"
word_of (e.Down t l s) = codes "down"
word_of (e.Up t l s) = codes "up"
word_of (e.Spawn t l child func args) = codes "spawn"
word_of (e.Join t l child) = codes "join"
word_of (e.Print t l value) = codes "print"
word_of (e.Tick t l place) = codes "tick"
word_of (e.Blocked t l what) = codes "blocked"
word_of (e.At t l k events) = codes "at"
word_of (e.Past t l k events) = codes "past"
word_of (e.Back t l) = codes "back"
word_of (e.Enter t l k clause) = codes "enter"
word_of (e.Leave t l k clause) = codes "leave"
word_of (e.Post t l k event) = codes "post"
word_of (e.Wait t l k event) = codes "wait"
word_of (e.Cross t l place version passed) = codes "cross"
word_of (e.Asked k) = codes "asked"
word_of (e.Refused k number clause) = codes "refused"
word_of (e.Installed k version places) = codes "installed"
word_of (e.Removed k version places) = codes "removed"
word_of (e.Stalled k thread line) = codes "stalled"
word_of (e.Cut k) = codes "cut"
word_of (e.Unreached k) = codes "unreached"
word_of (e.Finish kind) = codes "finish"

-- the fields behind the word
abbrev pub fields_of : Entry → List (List ℕ)
fields_of (e.Begin t l) = []
fields_of (e.End t l) = []
fields_of (e.Trap t l reason) = decimal reason ∷ []
fields_of (e.Read t l word value) = decimal word ∷ signed_decimal value ∷ []
fields_of (e.Write t l word value) = decimal word ∷ signed_decimal value ∷ []
fields_of (e.Lock t l m) = decimal m ∷ []
fields_of (e.Unlock t l m) = decimal m ∷ []
fields_of (e.Down t l s) = decimal s ∷ []
fields_of (e.Up t l s) = decimal s ∷ []
fields_of (e.Spawn t l child func args) = decimal child ∷ decimal func ∷ map signed_decimal args
fields_of (e.Join t l child) = decimal child ∷ []
fields_of (e.Print t l value) = signed_decimal value ∷ []
fields_of (e.Tick t l place) = decimal place ∷ []
fields_of (e.Blocked t l what) = what_fields what
fields_of (e.At t l k events) = decimal k ∷ map decimal events
fields_of (e.Past t l k events) = decimal k ∷ map decimal events
fields_of (e.Back t l) = []
fields_of (e.Enter t l k clause) = decimal k ∷ decimal clause ∷ []
fields_of (e.Leave t l k clause) = decimal k ∷ decimal clause ∷ []
fields_of (e.Post t l k event) = decimal k ∷ decimal event ∷ []
fields_of (e.Wait t l k event) = decimal k ∷ decimal event ∷ []
fields_of (e.Cross t l place version passed) = decimal place ∷ decimal version ∷ decimal passed ∷ []
fields_of (e.Asked k) = decimal k ∷ []
fields_of (e.Refused k number clause) = decimal k ∷ decimal number ∷ decimal clause ∷ []
fields_of (e.Installed k version places) = decimal k ∷ decimal version ∷ map decimal places
fields_of (e.Removed k version places) = decimal k ∷ decimal version ∷ map decimal places
fields_of (e.Stalled k thread line) = decimal k ∷ decimal thread ∷ decimal line ∷ []
fields_of (e.Cut k) = decimal k ∷ []
fields_of (e.Unreached k) = decimal k ∷ []
fields_of (e.Finish kind) = ending_word kind ∷ []
