-- What it means to read a script.
use Rattle.std.specs.Prelude.{ℕ, ◌-◌, ◌≤◌, ◌≡◌, ◌⊎◌, true, List, length, take, slice_get, Result, Ok, Err, Option, Some, None}
use Rattle.loom_command.specs.Script.{ScriptCommand, script_lines, IsCommandLine, most_commands, AreCommands, IsScript, IsBadLine}
use Rattle.loom_script.specs.declared.script.Script.{Script}
use Rattle.loom_script.specs.declared.parse.ScriptError.{ScriptError}
use Rattle.loom_script.specs.declared.parse.ScriptError.TheVariants as e
use Rattle.loom_script.specs.View.{script_of}
use Rattle.loom_script.specs.Stalls.{is_stall, HasNoStall}

-- how many bytes a script has at most
abbrev pub script_limit : ℕ
script_limit = 65536

-- The bytes are this script, and no command of it waits for a stall.
pub record IsScriptWithoutStall (bytes : List ℕ) (cs : List ScriptCommand) : Type 0 where
  pub script : IsScript bytes cs
  pub no_stall : HasNoStall cs

-- The line is a command that waits for a stall.
pub record IsStallLine (number : ℕ) (line : List ℕ) : Type 0 where
  pub command : ScriptCommand
  pub is : IsCommandLine number line command
  pub waits : is_stall command.trigger ≡ true

-- Where the bytes are no such script: the first line, counted from 1, that is bad or waits for a stall.
pub record IsRefusedWithoutStall (bytes : List ℕ) (number : ℕ) : Type 0 where
  pub commands : List ScriptCommand
  pub before : AreCommands 1 (take (number - 1) (script_lines bytes)) commands
  pub few : length commands ≤ most_commands
  pub no_stall : HasNoStall commands
  pub line : List ℕ
  pub there : slice_get (script_lines bytes) (number - 1) ≡ Some line
  pub counted : 1 ≤ number
  pub bad : IsBadLine number line (length commands) ⊎ IsStallLine number line

-- what is told of the line of this number: the commands behind it, or that it is refused
abbrev pub TellsPut : {T : Type 0} → ℕ → Option (List ScriptCommand) → List ScriptCommand → Result T ScriptError → Type 0
TellsPut number o ds (Ok u) = o ≡ Some ds
TellsPut number o ds (Err (e.Refused r)) = (r.line ≡ number) × (o ≡ None)
TellsPut number o ds (Err e.NoMemory) = Unit {0}

abbrev pub TellsScript : List ℕ → Result Script ScriptError → Type 0
TellsScript bytes (Ok s) = IsScriptWithoutStall bytes (script_of s)
TellsScript bytes (Err (e.Refused r)) = IsRefusedWithoutStall bytes r.line
TellsScript bytes (Err e.NoMemory) = Unit {0}
