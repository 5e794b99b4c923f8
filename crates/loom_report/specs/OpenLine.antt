-- The line of a text that isn't at its end yet.
use Rattle.std.specs.Prelude.{ℕ, ◌≡◌, false, List, [], ◌∷◌, ◌++◌, nat_eq, if◌then◌else◌}
use Rattle.loom_report.specs.declared.refusal_notes.RefusalNotes.{RefusalNotes}

-- a line with one more byte of the text: at a line feed the next line begins
abbrev pub line_with : List ℕ → ℕ → List ℕ
line_with line b = if nat_eq b 10 then [] else line ++ b ∷ []

-- the line on which a text ends, where it goes on with this one: what stands behind the last line feed
abbrev pub line_behind : List ℕ → List ℕ → List ℕ
line_behind line [] = line
line_behind line (b ∷ text) = line_behind (line_with line b) text

-- Where the notes look at the line that isn't at its end, they have each of its bytes.
abbrev pub HasLine : List ℕ → RefusalNotes → Type 0
HasLine line notes = notes.is_other ≡ false → notes.line.items ≡ line
