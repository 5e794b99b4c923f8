-- What the top call answers, and what it writes.
use Rattle.std.specs.Prelude.{ℕ, ◌<◌, ◌≤◌, ◌≡◌, ◌≢◌, ◌⊎◌, List, [], ◌++◌, codes, length, Option, Some, None}
use Rattle.std.specs.Io.KnownBytes.{Appends}
use Rattle.loom_io.specs.FaultCount.{Rose}
use Rattle.loom_io.specs.Shelf.{FileState, Missing, Present}
use Rattle.loom_io.specs.Sink.{TookFront}
use Rattle.loom_tree.specs.Tree.{Source}
use Rattle.loom_trace.specs.declared.entry.Entry.{Entry}
use Rattle.loom_trace.specs.declared.entry.Ending.{Ending}
use Rattle.loom_trace.specs.declared.entry.Ending.TheVariants as k
use Rattle.loom_trace.specs.Text.{journal_text}
use Rattle.loom_lang.specs.Canonical.{canonical_text}
use Rattle.loom_lang.specs.Limits.{file_limit}
use Rattle.loom_lang.specs.declared.refusal.Reason.{Reason}
use Rattle.loom_lang.specs.Program.{IsProgram}
use Rattle.loom_lang.specs.Refusal.{IsRefusedProgram}
use Rattle.loom_command.specs.Script.{ScriptCommand}
use Rattle.loom_script.specs.ScriptError.{IsScriptWithoutStall}
use Rattle.loom_event.specs.Entries.{IsFinished}
use Rattle.loom_law.specs.Control.{Command}
use Rattle.loom_law.specs.Judgement.{file_name}
use Rattle.loom_law.specs.Lawful.{IsLawful}
use Rattle.loom_law.specs.Promises.{Promises}
use Rattle.loom_world.specs.Book.{setting_of}
use Rattle.loom_world.specs.Commands.{AreCommandsSoFar}
use Rattle.loom_top.specs.declared.status.Status.{Status}
use Rattle.loom_top.specs.declared.status.Status.TheVariants as status
use Rattle.loom_top.specs.Invocation.{Task, run, show, show_filter, script_in, Invocation, IsInvocation}
use Rattle.loom_top.specs.Read.{CanBe, IsNoScript}
use Rattle.loom_top.specs.RefusalLine.{refusal_line, script_line}
use Rattle.loom_top.specs.ShowText.{IsFilterText}

-- Runs

-- There is no stop test, so no run is stopped.
abbrev pub CanEnd : Ending → Type 0
CanEnd k.Stopped = ⊥
CanEnd _ = Unit {0}

-- The last entry is `Finish` of this kind, and a run can end so.
pub record EndsIn (journal : List Entry) (kind : Ending) : Type 0 where
  pub finished : IsFinished journal kind
  pub ends : CanEnd kind

-- The journal of a run that ended in this way, with any number of threads: it is lawful for the program, the commands and the limit of thread entries,
-- without a stop test. So it keeps what is promised of every journal.
pub record IsRunOf (p : Source) (cs : List Command) (limit : ℕ) (kind : Ending) (journal : List Entry) : Type 0 where
  pub lawful : IsLawful (setting_of p cs limit) journal
  pub promises : Promises (setting_of p cs limit) journal lawful
  pub ended : EndsIn journal kind

-- The text is that of the journal of a run of the program with the commands of a script, which ended in this way. The word names the program's file,
-- by which the commands' filters are judged.
abbrev pub IsRunText : Source → List ℕ → List ScriptCommand → ℕ → Ending → List ℕ → Type 0
IsRunText p word ss limit kind text =
    (cs : List Command) × AreCommandsSoFar p (file_name word) ss cs × (journal : List Entry) × IsRunOf p cs limit kind journal × (text ≡ journal_text journal)

-- What is to be written of that run, and with which status.
abbrev pub CommandsOwe : Source → List ℕ → List ScriptCommand → ℕ → Status → List ℕ → Type 0
CommandsOwe p word ss limit status.Done text = IsRunText p word ss limit k.Done text
CommandsOwe p word ss limit status.Stuck text = IsRunText p word ss limit k.Stuck text
CommandsOwe p word ss limit status.Limit text = IsRunText p word ss limit k.Limit text
CommandsOwe p word ss limit status.NoMemory text = text ≡ codes "no memory\n"
CommandsOwe p word ss limit _ text = ⊥

-- Files

-- what a call saw and left
pub record TopCall : Type 0 where
  -- what the shelf tells of its files, and its counts of faults
  pub told : List ℕ → FileState
  pub faults_before : List ℕ → ℕ
  pub faults_after : List ℕ → ℕ
  -- what the sink tells that it took, and its count of faults
  pub taken_before : Option (List ℕ)
  pub taken_after : Option (List ℕ)
  pub sink_before : ℕ
  pub sink_after : ℕ

-- what a call saw and left, of a shelf and a sink with these ghosts
abbrev pub call_of : {F K : Type 0} → (F → List ℕ → FileState) → (F → List ℕ → ℕ) → (K → Option (List ℕ)) → (K → ℕ) → F → F → K → K → TopCall
call_of told faults taken sink_faults shelf_before shelf_after sink_before sink_after = record {
  told = told shelf_before;
  faults_before = faults shelf_before;
  faults_after = faults shelf_after;
  taken_before = taken sink_before;
  taken_after = taken sink_after;
  sink_before = sink_faults sink_before;
  sink_after = sink_faults sink_after;
}

-- The file of that name is these bytes, where the shelf tells it.
abbrev pub IsFileOf : TopCall → List ℕ → List ℕ → Type 0
IsFileOf s name file = CanBe (s.told name) file

-- What is written where the file of that name can't be read: then its count of faults rose.
abbrev pub IsReadFault : TopCall → List ℕ → List ℕ → Type 0
IsReadFault s name text = Rose (s.faults_before name) (s.faults_after name) × (text ≡ codes "read fault: " ++ (name ++ codes "\n"))

-- What is written where it is longer than it may be.
abbrev pub IsLongFile : TopCall → List ℕ → List ℕ → Type 0
IsLongFile s name text = (file : List ℕ) × IsFileOf s name file × (file_limit < length file) × (text ≡ codes "too long: " ++ (name ++ codes "\n"))

-- What is written where the bytes are no program: why they are none.
abbrev pub IsRefusalText : List ℕ → List ℕ → Type 0
IsRefusalText file text = (line : ℕ) × (why : Reason) × IsRefusedProgram file line why × ((p : Source) → IsProgram file p → ⊥) × (text ≡ refusal_line line why)

-- Scripts

-- The file of that name is a script of these commands; without a name there are none.
abbrev pub IsScriptOf : TopCall → Option (List ℕ) → List ScriptCommand → Type 0
IsScriptOf s None ss = ss ≡ []
IsScriptOf s (Some name) ss = (bytes : List ℕ) × IsFileOf s name bytes × (length bytes ≤ file_limit) × IsScriptWithoutStall bytes ss

-- What is written where its bytes are no script: the first line that is none of a script.
abbrev pub IsNoScriptText : TopCall → List ℕ → List ℕ → Type 0
IsNoScriptText s name text =
    (bytes : List ℕ) × IsFileOf s name bytes × (length bytes ≤ file_limit) × (line : ℕ) × IsNoScript bytes line × (text ≡ script_line line)

-- It is so with the script's file that is named.
abbrev pub OfScriptFile : Option (List ℕ) → (List ℕ → Type 0) → Type 0
OfScriptFile script Is = (name : List ℕ) × (script ≡ Some name) × Is name

-- The text is that of a run of the program, with the script's commands.
abbrev pub IsScriptRunText : TopCall → Source → List ℕ → Option (List ℕ) → ℕ → Ending → List ℕ → Type 0
IsScriptRunText s p word script limit kind text = (ss : List ScriptCommand) × IsScriptOf s script ss × IsRunText p word ss limit kind text

-- Tasks

-- The text is what `show` writes of the program that the bytes are, in the file that the word names: the canonical text, or what a filter's text is.
abbrev pub IsShownText : List ℕ → (Source → List ℕ → Type 0) → List ℕ → Type 0
IsShownText file IsOf text = (p : Source) × IsProgram file p × IsOf p text

abbrev pub ShowOwes : List ℕ → (Source → List ℕ → Type 0) → Status → List ℕ → Type 0
ShowOwes file IsOf status.Done text = IsShownText file IsOf text
ShowOwes file IsOf status.Refused text = IsRefusalText file text
ShowOwes file IsOf status.NoMemory text = text ≡ codes "no memory\n"
ShowOwes file IsOf _ text = ⊥

-- what is to be written for a program that is run
abbrev pub ProgramOwes : TopCall → Source → List ℕ → Option (List ℕ) → ℕ → Status → List ℕ → Type 0
ProgramOwes s p word script limit status.Done text = IsScriptRunText s p word script limit k.Done text
ProgramOwes s p word script limit status.Stuck text = IsScriptRunText s p word script limit k.Stuck text
ProgramOwes s p word script limit status.Limit text = IsScriptRunText s p word script limit k.Limit text
ProgramOwes s p word script limit status.NoScript text = OfScriptFile script (λ name. IsNoScriptText s name text)
ProgramOwes s p word script limit status.ReadFault text = OfScriptFile script (λ name. IsReadFault s name text)
ProgramOwes s p word script limit status.TooLong text = OfScriptFile script (λ name. IsLongFile s name text)
ProgramOwes s p word script limit status.NoMemory text = text ≡ codes "no memory\n"
ProgramOwes s p word script limit _ text = ⊥

abbrev pub RunOwes : TopCall → List ℕ → List ℕ → Option (List ℕ) → ℕ → Status → List ℕ → Type 0
RunOwes s word file script limit status.Refused text = IsRefusalText file text
RunOwes s word file script limit status.NoMemory text = text ≡ codes "no memory\n"
RunOwes s word file script limit x text = (p : Source) × IsProgram file p × ProgramOwes s p word script limit x text

-- What is to be written for a program's bytes and a task, and with which status. The word names their file. A script is read and tested behind the program.
abbrev pub FileOwes : TopCall → List ℕ → List ℕ → Task → Status → List ℕ → Type 0
FileOwes s word file (run script limit) x text = RunOwes s word file script limit x text
FileOwes s word file show x text = ShowOwes file (λ p shown. shown ≡ canonical_text p) x text
FileOwes s word file (show_filter filter) x text = ShowOwes file (λ p shown. IsFilterText p (file_name word) filter shown) x text

-- The same, where the words name a file that the shelf tells, and it is no longer than a program may be.
abbrev pub InvocationOwes : TopCall → List (List ℕ) → Status → List ℕ → Type 0
InvocationOwes s words x text = (c : Invocation) × IsInvocation words c × (file : List ℕ) × IsFileOf s c.name file × (length file ≤ file_limit) × FileOwes s c.name file c.task x text

-- It is so with the program's file that the words name.
abbrev pub OfProgramFile : List (List ℕ) → (List ℕ → Type 0) → Type 0
OfProgramFile words Is = (c : Invocation) × IsInvocation words c × Is c.name

-- What the call is to write, and with which status. It tests the words, the program's read, its length and itself, the script's read, its length and
-- itself, and then the task, in this order.
abbrev pub CallOwes : TopCall → List (List ℕ) → Status → List ℕ → Type 0
CallOwes s words status.Usage text = ((c : Invocation) → IsInvocation words c → ⊥) × (text ≡ codes "usage\n")
CallOwes s words status.ReadFault text = OfProgramFile words (λ name. IsReadFault s name text) ⊎ InvocationOwes s words status.ReadFault text
CallOwes s words status.TooLong text = OfProgramFile words (λ name. IsLongFile s name text) ⊎ InvocationOwes s words status.TooLong text
CallOwes s words status.NoMemory text = (c : Invocation) × IsInvocation words c × (s.told c.name ≢ Missing) × (text ≡ codes "no memory\n")
CallOwes s words status.WriteFault text = ⊥
CallOwes s words x text = InvocationOwes s words x text

-- What a call did: it wrote all that it was to write, or the sink failed behind a front of that.
abbrev pub AnswersCall : TopCall → List (List ℕ) → Status → Type 0
AnswersCall s words status.WriteFault = Rose s.sink_before s.sink_after × (owed : Status) × (text : List ℕ) × CallOwes s words owed text × TookFront s.taken_before s.taken_after text
AnswersCall s words x = (text : List ℕ) × CallOwes s words x text × Appends s.taken_before s.taken_after text

-- The shelf tells the file of that name, and it is a script; its count didn't rise.
pub record IsValidScript (s : TopCall) (name : List ℕ) : Type 0 where
  pub bytes : List ℕ
  pub told : s.told name ≡ Present bytes
  pub small : length bytes ≤ file_limit
  pub commands : List ScriptCommand
  pub is : IsScriptWithoutStall bytes commands
  pub read : Rose (s.faults_before name) (s.faults_after name) → ⊥

abbrev pub HasValidScript : TopCall → Option (List ℕ) → Type 0
HasValidScript s None = Unit {0}
HasValidScript s (Some name) = IsValidScript s name

-- The words name a file that the shelf tells, and it is a program.
pub record NamesProgram (s : TopCall) (words : List (List ℕ)) : Type 0 where
  pub invocation : Invocation
  pub asks : IsInvocation words invocation
  pub file : List ℕ
  pub told : s.told invocation.name ≡ Present file
  pub small : length file ≤ file_limit
  pub program : Source
  pub is : IsProgram file program

-- So it is, and with the script that they name, if there is one; no count rose.
pub record IsValid (s : TopCall) (words : List (List ℕ)) : Type 0 where
  pub names : NamesProgram s words
  pub script : HasValidScript s (script_in names.invocation.task)
  pub read : Rose (s.faults_before names.invocation.name) (s.faults_after names.invocation.name) → ⊥
  pub written : Rose s.sink_before s.sink_after → ⊥

-- The words name a file that the shelf tells to be missing.
pub record IsMissing (s : TopCall) (words : List (List ℕ)) : Type 0 where
  pub invocation : Invocation
  pub asks : IsInvocation words invocation
  pub told : s.told invocation.name ≡ Missing

-- They name a program, and a script that the shelf tells to be missing.
pub record IsMissingScript (s : TopCall) (words : List (List ℕ)) : Type 0 where
  pub names : NamesProgram s words
  pub name : List ℕ
  pub is : script_in names.invocation.task ≡ Some name
  pub told : s.told name ≡ Missing

-- What a writer of one text leaves: all of it and its status, or a fault of the sink behind a front of the text.
abbrev pub Put : Option (List ℕ) → Option (List ℕ) → ℕ → ℕ → List ℕ → Status → Status → Type 0
Put old new before now text owed result = ((result ≡ owed) × Appends old new text) ⊎ ((result ≡ status.WriteFault) × Rose before now × TookFront old new text)

-- What a writer leaves that owes this: a status with a text, and that text was put.
abbrev pub SinkEnds : Option (List ℕ) → Option (List ℕ) → ℕ → ℕ → (Status → List ℕ → Type 0) → Status → Type 0
SinkEnds old new before now Owes result = (owed : Status) × (text : List ℕ) × Owes owed text × Put old new before now text owed result

-- the same of a call
abbrev pub CallEnds : TopCall → (Status → List ℕ → Type 0) → Status → Type 0
CallEnds s Owes result = SinkEnds s.taken_before s.taken_after s.sink_before s.sink_after Owes result

-- the statuses of a task that was done, and that of want of memory
abbrev pub EndsWith : Task → ℕ → Type 0
EndsWith (run script limit) n = (n ≡ 0) ⊎ ((n ≡ 7) ⊎ ((n ≡ 8) ⊎ (n ≡ 6)))
EndsWith show n = (n ≡ 0) ⊎ (n ≡ 6)
EndsWith (show_filter text) n = (n ≡ 0) ⊎ (n ≡ 6)
