-- The lines of a script, from a place on.
use Rattle.std.specs.Prelude.{ℕ, ◌-◌, Bool, not, nat_eq, nat_le, nat_lt, List, [], length, take, drop, if◌then◌else◌}
use Rattle.loom_command.specs.Script.{without_return, script_lines}

abbrev pub is_inside_line : ℕ → Bool
is_inside_line b = not (nat_eq b 10)

-- the line from a place to its end, which is an LF or the end of the bytes
abbrev pub line_text : List ℕ → ℕ → ℕ → List ℕ
line_text bytes at end = if nat_lt end (length bytes) then without_return (take (end - at) (drop at bytes)) else take (end - at) (drop at bytes)

-- the lines from a place on; beyond the end of the bytes there is none
abbrev pub lines_left : List ℕ → ℕ → List (List ℕ)
lines_left bytes at = if nat_le at (length bytes) then script_lines (drop at bytes) else []
