-- The fields of a line, as functions of bytes.
use Rattle.std.specs.Prelude.{ℕ, Bool, true, nat_eq, List, [], ◌∷◌, length, take, drop}
use Rattle.loom_lexer.specs.Scan.{run_len}
use Rattle.loom_command.specs.FilterText.{is_blank}
use Rattle.loom_command.specs.Script.{is_dark}

-- the bytes from the first one on that isn't blank
abbrev pub from_dark : List ℕ → List ℕ
from_dark bytes = drop (run_len is_blank bytes) bytes

-- The first field; no byte where there is none.
unfoldable pub first_field : List ℕ → List ℕ
first_field bytes = take (run_len is_dark (from_dark bytes)) (from_dark bytes)

-- What is behind it.
unfoldable pub behind_field : List ℕ → List ℕ
behind_field bytes = drop (run_len is_dark (from_dark bytes)) (from_dark bytes)

abbrev pub are_blanks : List ℕ → Bool
are_blanks bytes = nat_eq (run_len is_blank bytes) (length bytes)

-- A line of which this is the first field is skipped.
-- (35 is `#`)
abbrev pub skips : List ℕ → Bool
skips [] = true
skips (b ∷ bs) = nat_eq b 35

abbrev pub is_skipped : List ℕ → Bool
is_skipped line = skips (first_field line)
