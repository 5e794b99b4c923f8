-- Numbers, names and texts of filters, as functions of bytes.
use Rattle.std.specs.Prelude.{ℕ, ◌+◌, ◌-◌, ◌*◌, Bool, false, ◌&&◌, nat_eq, nat_le, nat_lt, List, [], ◌∷◌, length, Option, Some, None, if◌then◌else◌}
use Rattle.std.specs.List.{list_all}
use Rattle.loom_lexer.specs.Lexeme.{is_letter, is_digit, is_part}
use Rattle.loom_command.specs.FilterText.{is_blank}
use Rattle.loom_command.specs.Script.{latest, longest_name}
use Rattle.loom_script.specs.Fields.{from_dark}

-- the number that digits are, behind those that have the value v; None where one isn't a digit, or it is too large
-- (48 is `0`)
abbrev pub moment_from : ℕ → List ℕ → Option ℕ
moment_from v [] = Some v
moment_from v (b ∷ bs) =
    if is_digit b then (if nat_lt latest (10 * v + (b - 48)) then None else moment_from (10 * v + (b - 48)) bs) else None

-- more bytes than one, of which the first is `0`
abbrev pub has_leading_zero : List ℕ → Bool
has_leading_zero [] = false
has_leading_zero (b ∷ []) = false
has_leading_zero (b ∷ c ∷ bs) = nat_eq b 48

-- the number that the bytes are in decimal, where it isn't too large
abbrev pub moment_by : List ℕ → Option ℕ
moment_by [] = None
moment_by (b ∷ bs) = if has_leading_zero (b ∷ bs) then None else moment_from 0 (b ∷ bs)

-- letters, digits and `_`, with no digit first
abbrev pub is_word : List ℕ → Bool
is_word [] = false
is_word (b ∷ bs) = is_letter b && list_all is_part bs

abbrev pub is_filter_name : List ℕ → Bool
is_filter_name name = is_word name && nat_le (length name) longest_name

-- a byte before these, which don't end with a blank
abbrev pub before_dark : ℕ → List ℕ → List ℕ
before_dark b [] = if is_blank b then [] else b ∷ []
before_dark b (c ∷ cs) = b ∷ c ∷ cs

-- the bytes without the blanks at their end
abbrev pub without_blank_end : List ℕ → List ℕ
without_blank_end [] = []
without_blank_end (b ∷ bs) = before_dark b (without_blank_end bs)

-- the text of a filter, in the rest of its line
abbrev pub filter_text : List ℕ → List ℕ
filter_text rest = without_blank_end (from_dark rest)
