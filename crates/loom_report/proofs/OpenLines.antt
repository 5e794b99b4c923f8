-- The line on which a text ends, byte by byte.
use Rattle.std.proofs.Common.{ℕ, ◌≡◌, ◌<◌, ◌+◌, suc, true, false, true≢false, refl, sym, ap, ◌∙◌, List, [], ◌∷◌, ◌++◌, nat_eq, if◌then◌else◌, length, take, get_or, arith}
use Rattle.std.proofs.Math.Seq.{take-suc}
use Rattle.loom_report.specs.OpenLine.{line_with, line_behind, HasLine}
use Rattle.loom_report.specs.declared.refusal_notes.RefusalNotes.{RefusalNotes}

-- with a byte behind the text
line_behind_one : (line text : List ℕ) (b : ℕ) → line_behind line (text ++ b ∷ []) ≡ line_with (line_behind line text) b
line_behind_one line [] b = refl
line_behind_one line (x ∷ text) b = line_behind_one (line_with line x) text b

-- with the next byte of a text
line_behind_next : (line text : List ℕ) (i : ℕ) → i < length text
    → line_behind line (take (i + 1) text) ≡ line_with (line_behind line (take i text)) (get_or text i 0)
line_behind_next line text i h =
    let e : i + 1 ≡ suc i = omega arith in
    ap (λ n. line_behind line (take n text)) e
    ∙ ap (line_behind line) (take-suc text i 0 h)
    ∙ line_behind_one line (take i text) (get_or text i 0)

-- where that is a line feed
pub line_behind_feed : (line text : List ℕ) (i : ℕ) → i < length text → nat_eq (get_or text i 0) 10 ≡ true
    → line_behind line (take (i + 1) text) ≡ []
line_behind_feed line text i h e = line_behind_next line text i h
    ∙ ap (λ t. if t then [] else line_behind line (take i text) ++ get_or text i 0 ∷ []) e

-- where it is another one
pub line_behind_byte : (line text : List ℕ) (i : ℕ) → i < length text → nat_eq (get_or text i 0) 10 ≡ false
    → line_behind line (take (i + 1) text) ≡ line_behind line (take i text) ++ get_or text i 0 ∷ []
line_behind_byte line text i h e = line_behind_next line text i h
    ∙ ap (λ t. if t then [] else line_behind line (take i text) ++ get_or text i 0 ∷ []) e

-- Notes that don't look at the line have any.
pub other_line : (line : List ℕ) (notes : RefusalNotes) → notes.is_other ≡ true → HasLine line notes
other_line line notes t o = absurd (true≢false (sym t ∙ o))
