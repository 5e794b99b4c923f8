-- The command of a line, and the commands behind it, as functions of bytes.
use Rattle.std.specs.Prelude.{ℕ, ◌&&◌, nat_le, List, [], ◌∷◌, ◌++◌, length, codes, Option, Some, None, if◌then◌else◌}
use Rattle.std.specs.Str.{bytes_eq}
use Rattle.loom_command.specs.Script.{Trigger, at, stall, ScriptAction, install, remove, ScriptCommand, most_commands}
use Rattle.loom_script.specs.Words.{moment_by, is_filter_name, filter_text}
use Rattle.loom_script.specs.Fields.{first_field, behind_field, are_blanks, is_skipped}
use Rattle.loom_script.specs.Stalls.{is_stall}

abbrev pub at_moment : Option ℕ → Option Trigger
at_moment None = None
at_moment (Some n) = Some (at n)

-- what the first two fields say
abbrev pub trigger_by : List ℕ → List ℕ → Option Trigger
trigger_by when which =
    if bytes_eq when (codes "at") then at_moment (moment_by which) else
    (if bytes_eq when (codes "on") && bytes_eq which (codes "stall") then Some stall else None)

-- what the third field says, and what is behind the fourth
abbrev pub action_by : List ℕ → List ℕ → Option ScriptAction
action_by verb rest =
    if bytes_eq verb (codes "install") then Some (install (filter_text rest)) else
    (if bytes_eq verb (codes "remove") && are_blanks rest then Some remove else None)

-- what both say
abbrev pub command_with : ℕ → List ℕ → Option Trigger → Option ScriptAction → Option ScriptCommand
command_with number name None a = None
command_with number name (Some t) None = None
command_with number name (Some t) (Some a) = Some (record { line = number; trigger = t; name = name; action = a })

-- the command of these fields
abbrev pub command_from : ℕ → List ℕ → List ℕ → List ℕ → List ℕ → List ℕ → Option ScriptCommand
command_from number when which verb name rest =
    if is_filter_name name then command_with number name (trigger_by when which) (action_by verb rest) else None

-- the command of a line
abbrev pub command_by : ℕ → List ℕ → Option ScriptCommand
command_by number line =
    command_from number (first_field line) (first_field (behind_field line)) (first_field (behind_field (behind_field line)))
    (first_field (behind_field (behind_field (behind_field line)))) (behind_field (behind_field (behind_field (behind_field line))))

-- the commands with one more, which for now may not wait for a stall
abbrev pub with_command : List ScriptCommand → Option ScriptCommand → Option (List ScriptCommand)
with_command cs None = None
with_command cs (Some c) = if is_stall c.trigger then None else Some (cs ++ c ∷ [])

-- the commands behind a line; None where it is refused
abbrev pub behind_line : ℕ → List ℕ → List ScriptCommand → Option (List ScriptCommand)
behind_line number line cs =
    if is_skipped line then Some cs else
    (if nat_le most_commands (length cs) then None else with_command cs (command_by number line))
