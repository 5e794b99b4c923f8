-- The text of a journal.
use Rattle.std.specs.Prelude.{ℕ, List, [], ◌∷◌, ◌++◌, map, codes}
use Rattle.loom_tree.specs.Decimal.{decimal, signed_decimal}
use Rattle.loom_tree.specs.Lines.{ended}
use Rattle.loom_trace.specs.declared.entry.Ending.{Ending}
use Rattle.loom_trace.specs.declared.entry.Ending.TheVariants as ending
use Rattle.loom_trace.specs.declared.entry.What.{What}
use Rattle.loom_trace.specs.declared.entry.What.TheVariants as what
use Rattle.loom_trace.specs.declared.entry.Entry.{Entry}
use Rattle.loom_trace.specs.declared.entry.Entry.TheVariants as e

-- fields, each behind a space
abbrev pub spaced : List (List ℕ) → List ℕ
spaced [] = []
spaced (f ∷ fs) = 32 ∷ f ++ spaced fs

-- a thread, a colon and a line
abbrev pub thread_prefix : ℕ → ℕ → List ℕ
thread_prefix thread line = decimal thread ++ 58 ∷ decimal line

-- the line of text of what a thread does: where it does it, a word and fields
abbrev pub thread_line : ℕ → ℕ → List ℕ → List (List ℕ) → List ℕ
thread_line thread line word fields = thread_prefix thread line ++ spaced (word ∷ fields)

-- the line of text of what the controller does: a word and fields
abbrev pub control_line : List ℕ → List (List ℕ) → List ℕ
control_line word fields = word ++ spaced fields

abbrev pub what_fields : What → List (List ℕ)
what_fields (what.Lock m) = codes "lock" ∷ decimal m ∷ []
what_fields (what.Down s) = codes "down" ∷ decimal s ∷ []
what_fields (what.Join child) = codes "join" ∷ decimal child ∷ []
what_fields (what.Enter k clause) = codes "enter" ∷ decimal k ∷ decimal clause ∷ []
what_fields (what.Wait k event) = codes "wait" ∷ decimal k ∷ decimal event ∷ []

abbrev pub ending_word : Ending → List ℕ
ending_word ending.Done = codes "done"
ending_word ending.Stuck = codes "stuck"
ending_word ending.Limit = codes "limit"
ending_word ending.Stopped = codes "stopped"

-- the line of an entry, without what ends it
abbrev pub entry_line : Entry → List ℕ
entry_line (e.Begin t l) = thread_line t l (codes "begin") []
entry_line (e.End t l) = thread_line t l (codes "end") []
entry_line (e.Trap t l reason) = thread_line t l (codes "trap") (decimal reason ∷ [])
entry_line (e.Read t l word value) = thread_line t l (codes "read") (decimal word ∷ signed_decimal value ∷ [])
entry_line (e.Write t l word value) = thread_line t l (codes "write") (decimal word ∷ signed_decimal value ∷ [])
entry_line (e.Lock t l m) = thread_line t l (codes "lock") (decimal m ∷ [])
entry_line (e.Unlock t l m) = thread_line t l (codes "unlock") (decimal m ∷ [])
entry_line (e.Down t l s) = thread_line t l (codes "down") (decimal s ∷ [])
entry_line (e.Up t l s) = thread_line t l (codes "up") (decimal s ∷ [])
entry_line (e.Spawn t l child func args) = thread_line t l (codes "spawn") (decimal child ∷ decimal func ∷ map signed_decimal args)
entry_line (e.Join t l child) = thread_line t l (codes "join") (decimal child ∷ [])
entry_line (e.Print t l value) = thread_line t l (codes "print") (signed_decimal value ∷ [])
entry_line (e.Tick t l place) = thread_line t l (codes "tick") (decimal place ∷ [])
entry_line (e.Blocked t l what) = thread_line t l (codes "blocked") (what_fields what)
entry_line (e.At t l k events) = thread_line t l (codes "at") (decimal k ∷ map decimal events)
entry_line (e.Past t l k events) = thread_line t l (codes "past") (decimal k ∷ map decimal events)
entry_line (e.Back t l) = thread_line t l (codes "back") []
entry_line (e.Enter t l k clause) = thread_line t l (codes "enter") (decimal k ∷ decimal clause ∷ [])
entry_line (e.Leave t l k clause) = thread_line t l (codes "leave") (decimal k ∷ decimal clause ∷ [])
entry_line (e.Post t l k event) = thread_line t l (codes "post") (decimal k ∷ decimal event ∷ [])
entry_line (e.Wait t l k event) = thread_line t l (codes "wait") (decimal k ∷ decimal event ∷ [])
entry_line (e.Cross t l place version passed) = thread_line t l (codes "cross") (decimal place ∷ decimal version ∷ decimal passed ∷ [])
entry_line (e.Asked k) = control_line (codes "asked") (decimal k ∷ [])
entry_line (e.Refused k number clause) = control_line (codes "refused") (decimal k ∷ decimal number ∷ decimal clause ∷ [])
entry_line (e.Installed k version places) = control_line (codes "installed") (decimal k ∷ decimal version ∷ map decimal places)
entry_line (e.Removed k version places) = control_line (codes "removed") (decimal k ∷ decimal version ∷ map decimal places)
entry_line (e.Stalled k thread line) = control_line (codes "stalled") (decimal k ∷ decimal thread ∷ decimal line ∷ [])
entry_line (e.Cut k) = control_line (codes "cut") (decimal k ∷ [])
entry_line (e.Unreached k) = control_line (codes "unreached") (decimal k ∷ [])
entry_line (e.Finish kind) = control_line (codes "finish") (ending_word kind ∷ [])

-- the line of what an entry prints, or none
abbrev pub printed_line : Entry → List (List ℕ)
printed_line (e.Print t l value) = signed_decimal value ∷ []
printed_line _ = []

abbrev pub printed_lines : List Entry → List (List ℕ)
printed_lines [] = []
printed_lines (x ∷ es) = printed_line x ++ printed_lines es

-- the lines of a journal: what is printed, `---`, and the entries
abbrev pub journal_lines : List Entry → List (List ℕ)
journal_lines es = printed_lines es ++ codes "---" ∷ map entry_line es

abbrev pub journal_text : List Entry → List ℕ
journal_text es = ended (journal_lines es)
