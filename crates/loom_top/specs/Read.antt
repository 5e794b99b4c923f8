-- What is told of a file that is read, and of a script.
use Rattle.std.specs.Prelude.{ℕ, ◌<◌, ◌≤◌, ◌≡◌, ◌≢◌, List, length, Result, Ok, Err}
use Rattle.loom_io.specs.FaultCount.{Rose}
use Rattle.loom_io.specs.Shelf.{FileState, Untold, Missing, Present}
use Rattle.loom_lang.specs.Limits.{file_limit}
use Rattle.loom_command.specs.Script.{ScriptCommand, most_commands}
use Rattle.loom_filter.specs.FilterError.{text_limit}
use Rattle.loom_script.specs.declared.script.Script.{Script}
use Rattle.loom_script.specs.View.{script_of}
use Rattle.loom_script.specs.Stalls.{HasNoStall}
use Rattle.loom_script.specs.Laws.{HaveShortTexts}
use Rattle.loom_script.specs.ScriptError.{IsScriptWithoutStall, IsRefusedWithoutStall}
use Rattle.loom_top.specs.declared.read.FileFault.{FileFault}
use Rattle.loom_top.specs.declared.read.FileFault.TheVariants as fault
use Rattle.loom_top.specs.declared.read.ScriptFault.{ScriptFault}
use Rattle.loom_top.specs.declared.read.ScriptFault.TheVariants as script

-- These bytes may be those of a file of which the shelf tells this.
abbrev pub CanBe : FileState → List ℕ → Type 0
CanBe Untold file = Unit {0}
CanBe Missing file = ⊥
CanBe (Present told) file = told ≡ file

-- The bytes of a file of which the shelf tells this, no more than a file may have; or why they aren't had. The counts are those of its faults.
abbrev pub TellsRead : FileState → ℕ → ℕ → Result (List ℕ) FileFault → Type 0
TellsRead told before now (Ok file) = CanBe told file × (length file ≤ file_limit)
TellsRead told before now (Err fault.Failed) = Rose before now
TellsRead told before now (Err fault.TooLong) = (file : List ℕ) × (CanBe told file × (file_limit < length file))
TellsRead told before now (Err fault.NoMemory) = told ≢ Missing

-- The bytes are no script so far: they are refused at this line.
pub record IsNoScript (bytes : List ℕ) (line : ℕ) : Type 0 where
  pub refused : IsRefusedWithoutStall bytes line
  pub none : (ss : List ScriptCommand) → IsScriptWithoutStall bytes ss → ⊥

-- The same of a script's file: the script that its bytes are, or why there is none.
abbrev pub TellsScriptRead : FileState → ℕ → ℕ → Result Script ScriptFault → Type 0
TellsScriptRead told before now (Ok s) = (bytes : List ℕ) × (CanBe told bytes × ((length bytes ≤ file_limit) × IsScriptWithoutStall bytes (script_of s)))
TellsScriptRead told before now (Err (script.NoScript r)) = (bytes : List ℕ) × (CanBe told bytes × ((length bytes ≤ file_limit) × IsNoScript bytes r.line))
TellsScriptRead told before now (Err (script.File f)) = TellsRead told before now (Err f)

-- A run can take the commands: there are no more than a script may have, their texts are no longer than a filter's, and none waits for a stall.
pub record CanBeRun (ss : List ScriptCommand) : Type 0 where
  pub few : length ss ≤ most_commands
  pub short : HaveShortTexts text_limit ss
  pub no_stall : HasNoStall ss
