-- From what was owed and what was put to what the top call answers.
use Rattle.std.proofs.Common.{ℕ, suc, ◌+◌, ◌-◌, ◌^◌, ◌<◌, ◌≤◌, ◌≡◌, ◌≢◌, ◌⊎◌, inl, inr, true, false, List, [], ◌++◌, codes, Option, Some, None, Result, Ok, Err, OnErr, length, min, refl, sym, ap, subst, ◌∙◌, append-nil, arith}
use Rattle.std.proofs.lemmas.List.{take_all, length-take}
use Rattle.std.specs.Io.KnownBytes.{Appends}
use Rattle.loom_io.specs.FaultCount.{Rose}
use Rattle.loom_io.specs.declared.shelf.ShelfError.{ShelfError}
use Rattle.loom_io.specs.declared.shelf.ShelfError.TheVariants as error
use Rattle.loom_io.specs.Shelf.{FileState, Untold, Missing, Present, IsRead}
use Rattle.loom_io.specs.Sink.{TookFront}
use Rattle.loom_io.proofs.Pages.{front_behind}
use Rattle.loom_tree.specs.Tree.{Source}
use Rattle.loom_trace.specs.declared.entry.Entry.{Entry}
use Rattle.loom_trace.specs.declared.entry.Entry.TheVariants as e
use Rattle.loom_trace.specs.declared.entry.Ending.{Ending}
use Rattle.loom_trace.specs.declared.entry.Ending.TheVariants as k
use Rattle.loom_trace.specs.Text.{journal_text}
use Rattle.loom_lang.specs.Limits.{file_limit}
use Rattle.loom_lang.specs.Program.{IsProgram}
use Rattle.loom_command.specs.Script.{ScriptCommand}
use Rattle.loom_script.specs.ScriptError.{IsScriptWithoutStall}
use Rattle.loom_event.specs.Entries.{IsFinished}
use Rattle.loom_event.proofs.Stops.{never_stopped}
use Rattle.loom_law.specs.Control.{Command}
use Rattle.loom_law.specs.Judgement.{file_name}
use Rattle.loom_law.specs.Lawful.{Front, Ends, front_at, IsLawful}
use Rattle.loom_law.proofs.Promises.{always_promises}
use Rattle.loom_world.specs.Book.{Book, setting_of, IsNewBook, IsOfSameRun, HasLawfulJournal}
use Rattle.loom_world.specs.Commands.{AreCommandsSoFar}
use Rattle.loom_world.specs.Idle.{HasFinish}
use Rattle.loom_top.specs.declared.read.FileFault.{FileFault}
use Rattle.loom_top.specs.declared.read.FileFault.TheVariants as fault
use Rattle.loom_top.specs.declared.status.Status.{Status}
use Rattle.loom_top.specs.declared.status.Status.TheVariants as status
use Rattle.loom_top.specs.Code.{code, ended_as, fault_status, fault_told}
use Rattle.loom_top.specs.Invocation.{Task, run, show, show_filter, script_in, Invocation, IsInvocation}
use Rattle.loom_top.specs.Read.{CanBe, TellsRead}
use Rattle.loom_top.specs.TopCall.{CanEnd, EndsIn, IsRunOf, CommandsOwe, TopCall, IsFileOf, IsReadFault, IsLongFile, IsRefusalText, IsScriptOf, IsNoScriptText, OfScriptFile, IsScriptRunText, ProgramOwes, RunOwes, FileOwes, InvocationOwes, CallOwes, AnswersCall, IsValidScript, HasValidScript, NamesProgram, IsValid, IsMissing, IsMissingScript, Put, CallEnds, EndsWith}
use Rattle.loom_top.proofs.Words.{one_invocation}

-- a text, and then a front of another
pub front_after : (a b c : Option (List ℕ)) (x y : List ℕ) → Appends a b x → TookFront b c y → TookFront a c (x ++ y)
front_after a b c x y h k = front_behind a b c [] [] x y (record { taken = x; appended = h; whole = sym (append-nil x) }) k

-- what is owed and was put is what the call answers
pub answered : (s : TopCall) (words : List (List ℕ)) (text : List ℕ) (owed result : Status) → CallOwes s words owed text
    → Put s.taken_before s.taken_after s.sink_before s.sink_after text owed result → AnswersCall s words result
answered s words text owed result o (inr h) =
    let P : Status → Type 0 = λ z. AnswersCall s words z in
    subst P (sym h.0) (h.1, owed, text, o, h.2)
answered s words text owed result o (inl h) =
    let P : Status → Type 0 = λ z. AnswersCall s words z in
    subst P (sym h.0) (whole owed o)
  where
    whole : (x : Status) → CallOwes s words x text → AnswersCall s words x
    whole status.Done k = (text, k, h.1)
    whole status.Usage k = (text, k, h.1)
    whole status.Refused k = (text, k, h.1)
    whole status.NoScript k = (text, k, h.1)
    whole status.ReadFault k = (text, k, h.1)
    whole status.WriteFault k = absurd k
    whole status.NoMemory k = (text, k, h.1)
    whole status.Stuck k = (text, k, h.1)
    whole status.Limit k = (text, k, h.1)
    whole status.TooLong k = (text, k, h.1)

-- Reads

pub whole_file : (told : FileState) (bytes : List ℕ) → IsRead told file_limit bytes → length bytes ≤ file_limit → CanBe told bytes
whole_file Untold bytes h l = tt
whole_file Missing bytes h l = absurd h
whole_file (Present file) bytes h l = sym (h ∙ take_all (suc file_limit) file (omega (arith, ap length h, l, length-take (suc file_limit) file)))

-- A file with more bytes is told to be longer than a file may be.
pub long_file : (told : FileState) (bytes : List ℕ) → IsRead told file_limit bytes → file_limit < length bytes → (file : List ℕ) × (CanBe told file × (file_limit < length file))
long_file Untold bytes h l = (bytes, (tt, l))
long_file Missing bytes h l = absurd h
long_file (Present file) bytes h l = (file, (refl, omega (arith, ap length h, l, length-take (suc file_limit) file)))

-- Where memory ran out, no file was missing.
pub other_error : {T : Type 0} {told : FileState} {x : ShelfError} → x ≡ error.NoMemory → (told ≡ Missing → let failed : Result T ShelfError = Err x in failed ≡ Err error.Failed) → told ≢ Missing
other_error is h e = let f = h e in cc

-- A file that has bytes isn't missing.
pub not_missing : (told : FileState) (bytes : List ℕ) → CanBe told bytes → told ≢ Missing
not_missing told bytes h e = subst (λ (z : FileState). CanBe z bytes) e h

next_later : (a b n : ℕ) → a ≤ b → min (b + 1) (2 ^ 64 - 1) ≤ n → min (a + 1) (2 ^ 64 - 1) ≤ n
next_later a b n l h = omega (arith, l, h)

-- A count that rose later rose since.
rose_since : (a b n : ℕ) → a ≤ b → Rose b n → Rose a n
rose_since a b n l h = next_later a b n l h

-- What is owed for a file's bytes

-- what is the same for each task

no_memory_owed : (s : TopCall) (word file : List ℕ) (t : Task) (text : List ℕ) → FileOwes s word file t status.NoMemory text → text ≡ codes "no memory\n"
no_memory_owed s word file (run script limit) text o = o
no_memory_owed s word file show text o = o
no_memory_owed s word file (show_filter filter) text o = o

refusal_owed : (s : TopCall) (word file : List ℕ) (t : Task) (text : List ℕ) → FileOwes s word file t status.Refused text → IsRefusalText file text
refusal_owed s word file (run script limit) text o = o
refusal_owed s word file show text o = o
refusal_owed s word file (show_filter filter) text o = o

no_usage_owed : (s : TopCall) (word file : List ℕ) (t : Task) (text : List ℕ) → FileOwes s word file t status.Usage text → ⊥
no_usage_owed s word file (run script limit) text o = o.2
no_usage_owed s word file show text o = o
no_usage_owed s word file (show_filter filter) text o = o

no_write_fault_owed : (s : TopCall) (word file : List ℕ) (t : Task) (text : List ℕ) → FileOwes s word file t status.WriteFault text → ⊥
no_write_fault_owed s word file (run script limit) text o = o.2
no_write_fault_owed s word file show text o = o
no_write_fault_owed s word file (show_filter filter) text o = o

pub owes_file : (s : TopCall) (words : List (List ℕ)) (a : Invocation) (file text : List ℕ) (owed : Status) → IsInvocation words a → IsFileOf s a.name file
    → length file ≤ file_limit → FileOwes s a.name file a.task owed text → CallOwes s words owed text
owes_file s words a file text status.Done c t l o = (a, c, file, t, l, o)
owes_file s words a file text status.Stuck c t l o = (a, c, file, t, l, o)
owes_file s words a file text status.Limit c t l o = (a, c, file, t, l, o)
owes_file s words a file text status.Refused c t l o = (a, c, file, t, l, o)
owes_file s words a file text status.NoScript c t l o = (a, c, file, t, l, o)
owes_file s words a file text status.ReadFault c t l o = inr (a, c, file, t, l, o)
owes_file s words a file text status.TooLong c t l o = inr (a, c, file, t, l, o)
owes_file s words a file text status.NoMemory c t l o = (a, c, not_missing (s.told a.name) file t, no_memory_owed s a.name file a.task text o)
owes_file s words a file text status.Usage c t l o = absurd (no_usage_owed s a.name file a.task text o)
owes_file s words a file text status.WriteFault c t l o = absurd (no_write_fault_owed s a.name file a.task text o)

-- The call, and the part of it that begins where the shelf has these counts.

abbrev pub part_of : TopCall → (List ℕ → FileState) → (List ℕ → ℕ) → TopCall
part_of s told before = record s { told = told; faults_before = before }

pub record IsPart (s : TopCall) (told : List ℕ → FileState) (before : List ℕ → ℕ) : Type 0 where
  pub kept : (n : List ℕ) → told n ≡ s.told n
  pub later : (n : List ℕ) → s.faults_before n ≤ before n

told_part : (s : TopCall) (told : List ℕ → FileState) (before : List ℕ → ℕ) (name file : List ℕ) → IsPart s told before → CanBe (told name) file → IsFileOf s name file
told_part s told before name file h is = let P : FileState → Type 0 = λ z. CanBe z file in subst P (h.kept name) is

script_part : (s : TopCall) (told : List ℕ → FileState) (before : List ℕ → ℕ) (script : Option (List ℕ)) (ss : List ScriptCommand) → IsPart s told before
    → IsScriptOf (part_of s told before) script ss → IsScriptOf s script ss
script_part s told before None ss h is = is
script_part s told before (Some name) ss h is = (is.0, told_part s told before name is.0 h is.1, is.2, is.3)

run_part : (s : TopCall) (told : List ℕ → FileState) (before : List ℕ → ℕ) (p : Source) (word : List ℕ) (script : Option (List ℕ)) (limit : ℕ) (kind : Ending) (text : List ℕ)
    → IsPart s told before → IsScriptRunText (part_of s told before) p word script limit kind text → IsScriptRunText s p word script limit kind text
run_part s told before p word script limit kind text h o = (o.0, script_part s told before script o.0 h o.1, o.2)

program_part : (s : TopCall) (told : List ℕ → FileState) (before : List ℕ → ℕ) (p : Source) (word : List ℕ) (script : Option (List ℕ)) (limit : ℕ) (x : Status) (text : List ℕ)
    → IsPart s told before → ProgramOwes (part_of s told before) p word script limit x text → ProgramOwes s p word script limit x text
program_part s told before p word script limit status.Done text h o = run_part s told before p word script limit k.Done text h o
program_part s told before p word script limit status.Stuck text h o = run_part s told before p word script limit k.Stuck text h o
program_part s told before p word script limit status.Limit text h o = run_part s told before p word script limit k.Limit text h o
program_part s told before p word script limit status.NoScript text h o =
    let q = o.2 in
    (o.0, o.1, (q.0, told_part s told before o.0 q.0 h q.1, q.2, q.3, q.4, q.5))
program_part s told before p word script limit status.ReadFault text h o =
    let q = o.2 in
    (o.0, o.1, (rose_since (s.faults_before o.0) (before o.0) (s.faults_after o.0) (h.later o.0) q.0, q.1))
program_part s told before p word script limit status.TooLong text h o =
    let q = o.2 in
    (o.0, o.1, (q.0, told_part s told before o.0 q.0 h q.1, q.2, q.3))
program_part s told before p word script limit status.NoMemory text h o = o
program_part s told before p word script limit status.Usage text h o = absurd o
program_part s told before p word script limit status.Refused text h o = absurd o
program_part s told before p word script limit status.WriteFault text h o = absurd o

run_owed_part : (s : TopCall) (told : List ℕ → FileState) (before : List ℕ → ℕ) (word file : List ℕ) (script : Option (List ℕ)) (limit : ℕ) (x : Status) (text : List ℕ)
    → IsPart s told before → RunOwes (part_of s told before) word file script limit x text → RunOwes s word file script limit x text
run_owed_part s told before word file script limit status.Refused text h o = o
run_owed_part s told before word file script limit status.NoMemory text h o = o
run_owed_part s told before word file script limit status.Done text h o = (o.0, o.1, program_part s told before o.0 word script limit status.Done text h o.2)
run_owed_part s told before word file script limit status.Stuck text h o = (o.0, o.1, program_part s told before o.0 word script limit status.Stuck text h o.2)
run_owed_part s told before word file script limit status.Limit text h o = (o.0, o.1, program_part s told before o.0 word script limit status.Limit text h o.2)
run_owed_part s told before word file script limit status.NoScript text h o = (o.0, o.1, program_part s told before o.0 word script limit status.NoScript text h o.2)
run_owed_part s told before word file script limit status.ReadFault text h o = (o.0, o.1, program_part s told before o.0 word script limit status.ReadFault text h o.2)
run_owed_part s told before word file script limit status.TooLong text h o = (o.0, o.1, program_part s told before o.0 word script limit status.TooLong text h o.2)
run_owed_part s told before word file script limit status.Usage text h o = absurd o.2
run_owed_part s told before word file script limit status.WriteFault text h o = absurd o.2

-- What is owed for the part is owed for the call.
file_part : (s : TopCall) (told : List ℕ → FileState) (before : List ℕ → ℕ) (word file : List ℕ) (t : Task) (x : Status) (text : List ℕ)
    → IsPart s told before → FileOwes (part_of s told before) word file t x text → FileOwes s word file t x text
file_part s told before word file (run script limit) x text h o = run_owed_part s told before word file script limit x text h o
file_part s told before word file show x text h o = o
file_part s told before word file (show_filter filter) x text h o = o

pub file_answered : (s : TopCall) (words : List (List ℕ)) (told : List ℕ → FileState) (before : List ℕ → ℕ) (a : Invocation) (file : List ℕ) (result : Status) → IsInvocation words a
    → IsFileOf s a.name file → length file ≤ file_limit → IsPart s told before
    → CallEnds (part_of s told before) (λ x text. FileOwes (part_of s told before) a.name file a.task x text) result → AnswersCall s words result
file_answered s words told before a file result c t l h e =
    answered s words e.1 e.0 result (owes_file s words a file e.1 e.0 c t l (file_part s told before a.name file a.task e.0 e.1 h e.2)) e.3

-- The program's file isn't had.
fault_owes : (s : TopCall) (words : List (List ℕ)) (a : Invocation) (f : FileFault) → IsInvocation words a
    → (let r : Result (List ℕ) FileFault = Err f in TellsRead (s.told a.name) (s.faults_before a.name) (s.faults_after a.name) r) → CallOwes s words (fault_status f) (fault_told f a.name)
fault_owes s words a fault.Failed c h = inl (a, c, (h, refl))
fault_owes s words a fault.TooLong c h = inl (a, c, (h.0, h.1.0, h.1.1, refl))
fault_owes s words a fault.NoMemory c h = (a, c, h, refl)

pub fault_answered : (s : TopCall) (words : List (List ℕ)) (a : Invocation) (f : FileFault) (result : Status) → IsInvocation words a
    → (let r : Result (List ℕ) FileFault = Err f in TellsRead (s.told a.name) (s.faults_before a.name) (s.faults_after a.name) r)
    → Put s.taken_before s.taken_after s.sink_before s.sink_after (fault_told f a.name) (fault_status f) result → AnswersCall s words result
fault_answered s words a f result c h put = answered s words (fault_told f a.name) (fault_status f) result (fault_owes s words a f c h) put

-- Nor is the script's.
pub script_fault_owes : (s : TopCall) (p : Source) (word : List ℕ) (script : Option (List ℕ)) (limit : ℕ) (name : List ℕ) (f : FileFault) → script ≡ Some name
    → (let r : Result (List ℕ) FileFault = Err f in TellsRead (s.told name) (s.faults_before name) (s.faults_after name) r)
    → ProgramOwes s p word script limit (fault_status f) (fault_told f name)
script_fault_owes s p word script limit name fault.Failed is h = (name, is, (h, refl))
script_fault_owes s p word script limit name fault.TooLong is h = (name, is, (h.0, h.1.0, h.1.1, refl))
script_fault_owes s p word script limit name fault.NoMemory is h = refl

-- Runs

-- A run without a stop test isn't stopped.
never_ends_so : (p : Source) (cs : List Command) (limit : ℕ) (f : Front) (kind : Ending) → Ends (setting_of p cs limit) f kind → CanEnd kind
never_ends_so p cs limit f k.Done h = tt
never_ends_so p cs limit f k.Stuck h = tt
never_ends_so p cs limit f k.Limit h = tt
never_ends_so p cs limit f k.Stopped h = let no : false ≡ true = sym (never_stopped f.entries) ∙ h in cc

lawful_ends : (p : Source) (cs : List Command) (limit : ℕ) (journal : List Entry) (h : IsLawful (setting_of p cs limit) journal) (kind : Ending) → IsFinished journal kind → CanEnd kind
lawful_ends p cs limit journal h kind f =
    never_ends_so p cs limit (front_at (setting_of p cs limit) h.events f.front) kind (h.follows f.front (e.Finish kind) [] f.is).1.1.1

-- A finished lawful journal is that of a run.
pub lawful_run : (p : Source) (cs : List Command) (limit : ℕ) (journal : List Entry) (h : IsLawful (setting_of p cs limit) journal) (kind : Ending) → IsFinished journal kind
    → IsRunOf p cs limit kind journal
lawful_run p cs limit journal h kind f = record {
  lawful = h;
  promises = always_promises (setting_of p cs limit) journal h;
  ended = record { finished = f; ends = lawful_ends p cs limit journal h kind f };
}

-- That of a new world which has run to its end is that of a run of its program with its commands.
pub world_run : (p : Source) (cs : List Command) (limit : ℕ) (a b : Book) → IsNewBook p cs limit a → IsOfSameRun a b → HasLawfulJournal b → HasFinish b
    → (kind : Ending) × IsRunOf p cs limit kind b.entries
world_run p cs limit a b new same h w =
    let program : b.program ≡ p = same.program ∙ new.program in
    let commands : b.commands ≡ cs = same.commands ∙ new.commands in
    let most : b.limit ≡ limit = same.limit ∙ new.limit in
    let P : Source → Type 0 = λ z. IsLawful (setting_of z b.commands b.limit) b.entries in
    let Q : List Command → Type 0 = λ z. IsLawful (setting_of p z b.limit) b.entries in
    let R : ℕ → Type 0 = λ z. IsLawful (setting_of p cs z) b.entries in
    let lawful : IsLawful (setting_of p cs limit) b.entries = subst R most (subst Q commands (subst P program h.lawful)) in
    (w.0, lawful_run p cs limit b.entries lawful w.0 w.1)

-- The run that was made is owed, with the status of its end.
pub run_owes : (p : Source) (word : List ℕ) (ss : List ScriptCommand) (cs : List Command) (limit : ℕ) (journal : List Entry) (kind other : Ending) → AreCommandsSoFar p (file_name word) ss cs
    → IsRunOf p cs limit other journal → EndsIn journal kind → CommandsOwe p word ss limit (ended_as kind) (journal_text journal)
run_owes p word ss cs limit journal k.Done other are r e = (cs, are, journal, record { lawful = r.lawful; promises = r.promises; ended = e }, refl)
run_owes p word ss cs limit journal k.Stuck other are r e = (cs, are, journal, record { lawful = r.lawful; promises = r.promises; ended = e }, refl)
run_owes p word ss cs limit journal k.Limit other are r e = (cs, are, journal, record { lawful = r.lawful; promises = r.promises; ended = e }, refl)
run_owes p word ss cs limit journal k.Stopped other are r e = absurd e.ends

-- With the commands of the script it is owed for the program.
pub commands_owed : (s : TopCall) (p : Source) (word : List ℕ) (script : Option (List ℕ)) (ss : List ScriptCommand) (limit : ℕ) (x : Status) (text : List ℕ) → IsScriptOf s script ss
    → CommandsOwe p word ss limit x text → ProgramOwes s p word script limit x text
commands_owed s p word script ss limit status.Done text is o = (ss, is, o)
commands_owed s p word script ss limit status.Stuck text is o = (ss, is, o)
commands_owed s p word script ss limit status.Limit text is o = (ss, is, o)
commands_owed s p word script ss limit status.NoMemory text is o = o
commands_owed s p word script ss limit status.Usage text is o = absurd o
commands_owed s p word script ss limit status.Refused text is o = absurd o
commands_owed s p word script ss limit status.NoScript text is o = absurd o
commands_owed s p word script ss limit status.ReadFault text is o = absurd o
commands_owed s p word script ss limit status.TooLong text is o = absurd o
commands_owed s p word script ss limit status.WriteFault text is o = absurd o

pub commands_end : (s : TopCall) (p : Source) (word : List ℕ) (script : Option (List ℕ)) (ss : List ScriptCommand) (limit : ℕ) (result : Status) → IsScriptOf s script ss
    → CallEnds s (λ x text. CommandsOwe p word ss limit x text) result → CallEnds s (λ x text. ProgramOwes s p word script limit x text) result
commands_end s p word script ss limit result is e = (e.0, e.1, commands_owed s p word script ss limit e.0 e.1 is e.2, e.3)

-- What is owed for a program is owed for its bytes.
pub program_owed : (s : TopCall) (p : Source) (word file : List ℕ) (script : Option (List ℕ)) (limit : ℕ) (x : Status) (text : List ℕ) → IsProgram file p
    → ProgramOwes s p word script limit x text → RunOwes s word file script limit x text
program_owed s p word file script limit status.Done text c o = (p, c, o)
program_owed s p word file script limit status.Stuck text c o = (p, c, o)
program_owed s p word file script limit status.Limit text c o = (p, c, o)
program_owed s p word file script limit status.NoScript text c o = (p, c, o)
program_owed s p word file script limit status.ReadFault text c o = (p, c, o)
program_owed s p word file script limit status.TooLong text c o = (p, c, o)
program_owed s p word file script limit status.NoMemory text c o = o
program_owed s p word file script limit status.Usage text c o = absurd o
program_owed s p word file script limit status.Refused text c o = absurd o
program_owed s p word file script limit status.WriteFault text c o = absurd o

pub program_ends : (s : TopCall) (p : Source) (word file : List ℕ) (script : Option (List ℕ)) (limit : ℕ) (result : Status) → IsProgram file p
    → CallEnds s (λ x text. ProgramOwes s p word script limit x text) result → CallEnds s (λ x text. RunOwes s word file script limit x text) result
program_ends s p word file script limit result c e = (e.0, e.1, program_owed s p word file script limit e.0 e.1 c e.2, e.3)

-- Completeness

told_so : (s : TopCall) (name : List ℕ) (state : FileState) (file : List ℕ) → s.told name ≡ state → IsFileOf s name file → CanBe state file
told_so s name state file is h = let P : FileState → Type 0 = λ z. CanBe z file in subst P is h

-- no bytes can be those of a missing file
none_told : (s : TopCall) (name file : List ℕ) → s.told name ≡ Missing → IsFileOf s name file → ⊥
none_told s name file is h = told_so s name Missing file is h

-- What is owed for the words is owed for each invocation that they are.
owed_for : (s : TopCall) (words : List (List ℕ)) (x : Status) (text : List ℕ) (a : Invocation) → IsInvocation words a → InvocationOwes s words x text
    → (file : List ℕ) × IsFileOf s a.name file × (length file ≤ file_limit) × FileOwes s a.name file a.task x text
owed_for s words x text a asks o =
    let P : Invocation → Type 0 = λ z. (file : List ℕ) × IsFileOf s z.name file × (length file ≤ file_limit) × FileOwes s z.name file z.task x text in
    subst P (one_invocation words o.0 a o.1 asks) (o.2, o.3, o.4, o.5)

-- A program isn't refused.
not_refused : (s : TopCall) (words : List (List ℕ)) (text : List ℕ) → NamesProgram s words → InvocationOwes s words status.Refused text → ⊥
not_refused s words text v o =
    let f = owed_for s words status.Refused text v.invocation v.asks o in
    let same : v.file ≡ f.0 = told_so s v.invocation.name (Present v.file) f.0 v.told f.1 in
    let P : List ℕ → Type 0 = λ z. IsProgram z v.program in
    let refused : IsRefusalText f.0 text = refusal_owed s v.invocation.name f.0 v.invocation.task text f.3 in
    refused.3 v.program (subst P same v.is)

-- Nor is it too long.
not_long : (s : TopCall) (name file text : List ℕ) → s.told name ≡ Present file → length file ≤ file_limit → IsLongFile s name text → ⊥
not_long s name file text told small o =
    let same : file ≡ o.0 = told_so s name (Present file) o.0 told o.1 in
    absurd (omega (arith, ap length same, o.2, small))

program_not_long : (s : TopCall) (words : List (List ℕ)) (text : List ℕ) → NamesProgram s words → (c : Invocation) → IsInvocation words c → IsLongFile s c.name text → ⊥
program_not_long s words text v c asks o =
    let P : Invocation → Type 0 = λ z. IsLongFile s z.name text in
    not_long s v.invocation.name v.file text v.told v.small (subst P (one_invocation words c v.invocation asks v.asks) o)

-- What is owed of a script's file is owed of the script that the task names.

no_script_owed : (s : TopCall) (word file : List ℕ) (t : Task) (text : List ℕ) → FileOwes s word file t status.NoScript text → OfScriptFile (script_in t) (λ name. IsNoScriptText s name text)
no_script_owed s word file (run script limit) text o = o.2
no_script_owed s word file show text o = absurd o
no_script_owed s word file (show_filter filter) text o = absurd o

read_fault_owed : (s : TopCall) (word file : List ℕ) (t : Task) (text : List ℕ) → FileOwes s word file t status.ReadFault text → OfScriptFile (script_in t) (λ name. IsReadFault s name text)
read_fault_owed s word file (run script limit) text o = o.2
read_fault_owed s word file show text o = absurd o
read_fault_owed s word file (show_filter filter) text o = absurd o

too_long_owed : (s : TopCall) (word file : List ℕ) (t : Task) (text : List ℕ) → FileOwes s word file t status.TooLong text → OfScriptFile (script_in t) (λ name. IsLongFile s name text)
too_long_owed s word file (run script limit) text o = o.2
too_long_owed s word file show text o = absurd o
too_long_owed s word file (show_filter filter) text o = absurd o

valid_script : (s : TopCall) (script : Option (List ℕ)) (name : List ℕ) → script ≡ Some name → HasValidScript s script → IsValidScript s name
valid_script s script name is h = let P : Option (List ℕ) → Type 0 = λ z. HasValidScript s z in subst P is h

-- of a valid script

script_is_read : (s : TopCall) (script : Option (List ℕ)) (text : List ℕ) → HasValidScript s script → OfScriptFile script (λ name. IsReadFault s name text) → ⊥
script_is_read s script text v o = let w = valid_script s script o.0 o.1 v in w.read o.2.0

script_not_long : (s : TopCall) (script : Option (List ℕ)) (text : List ℕ) → HasValidScript s script → OfScriptFile script (λ name. IsLongFile s name text) → ⊥
script_not_long s script text v o = let w = valid_script s script o.0 o.1 v in not_long s o.0 w.bytes text w.told w.small o.2

script_is_one : (s : TopCall) (script : Option (List ℕ)) (text : List ℕ) → HasValidScript s script → OfScriptFile script (λ name. IsNoScriptText s name text) → ⊥
script_is_one s script text v o =
    let w = valid_script s script o.0 o.1 v in
    let q = o.2 in
    let same : w.bytes ≡ q.0 = told_so s o.0 (Present w.bytes) q.0 w.told q.1 in
    let P : List ℕ → Type 0 = λ z. IsScriptWithoutStall z w.commands in
    q.4.none w.commands (subst P same w.is)

-- each task can end so
done_ends : (t : Task) → EndsWith t 0
done_ends (run script limit) = inl refl
done_ends show = inl refl
done_ends (show_filter filter) = inl refl

no_memory_ends : (t : Task) → EndsWith t 6
no_memory_ends (run script limit) = inr (inr (inr refl))
no_memory_ends show = inr refl
no_memory_ends (show_filter filter) = inr refl

-- A run alone is stuck, or comes to its limit.
stuck_ends : (s : TopCall) (word file : List ℕ) (t : Task) (text : List ℕ) → FileOwes s word file t status.Stuck text → EndsWith t 7
stuck_ends s word file (run script limit) text o = inr (inl refl)
stuck_ends s word file show text o = absurd o
stuck_ends s word file (show_filter filter) text o = absurd o

limit_ends : (s : TopCall) (word file : List ℕ) (t : Task) (text : List ℕ) → FileOwes s word file t status.Limit text → EndsWith t 8
limit_ends s word file (run script limit) text o = inr (inr (inl refl))
limit_ends s word file show text o = absurd o
limit_ends s word file (show_filter filter) text o = absurd o

no_read_fault : (s : TopCall) (words : List (List ℕ)) (text : List ℕ) → IsValid s words → CallOwes s words status.ReadFault text → ⊥
no_read_fault s words text v (inl o) =
    let P : Invocation → Type 0 = λ z. IsReadFault s z.name text in
    let here = subst P (one_invocation words o.0 v.names.invocation o.1 v.names.asks) o.2 in
    v.read here.0
no_read_fault s words text v (inr o) =
    let f = owed_for s words status.ReadFault text v.names.invocation v.names.asks o in
    script_is_read s (script_in v.names.invocation.task) text v.script (read_fault_owed s v.names.invocation.name f.0 v.names.invocation.task text f.3)

none_too_long : (s : TopCall) (words : List (List ℕ)) (text : List ℕ) → IsValid s words → CallOwes s words status.TooLong text → ⊥
none_too_long s words text v (inl o) = program_not_long s words text v.names o.0 o.1 o.2
none_too_long s words text v (inr o) =
    let f = owed_for s words status.TooLong text v.names.invocation v.names.asks o in
    script_not_long s (script_in v.names.invocation.task) text v.script (too_long_owed s v.names.invocation.name f.0 v.names.invocation.task text f.3)

pub complete : (s : TopCall) (words : List (List ℕ)) (x : Status) → AnswersCall s words x → (v : IsValid s words) → EndsWith v.names.invocation.task (code x)
complete s words status.Done h v = done_ends v.names.invocation.task
complete s words status.NoMemory h v = no_memory_ends v.names.invocation.task
complete s words status.Stuck h v =
    let f = owed_for s words status.Stuck h.0 v.names.invocation v.names.asks h.1 in
    stuck_ends s v.names.invocation.name f.0 v.names.invocation.task h.0 f.3
complete s words status.Limit h v =
    let f = owed_for s words status.Limit h.0 v.names.invocation v.names.asks h.1 in
    limit_ends s v.names.invocation.name f.0 v.names.invocation.task h.0 f.3
complete s words status.Usage h v = absurd (h.1.0 v.names.invocation v.names.asks)
complete s words status.ReadFault h v = absurd (no_read_fault s words h.0 v h.1)
complete s words status.TooLong h v = absurd (none_too_long s words h.0 v h.1)
complete s words status.Refused h v = absurd (not_refused s words h.0 v.names h.1)
complete s words status.NoScript h v =
    let f = owed_for s words status.NoScript h.0 v.names.invocation v.names.asks h.1 in
    absurd (script_is_one s (script_in v.names.invocation.task) h.0 v.script (no_script_owed s v.names.invocation.name f.0 v.names.invocation.task h.0 f.3))
complete s words status.WriteFault h v = absurd (v.written h.0)

-- Missing files

owes_no_missing : (s : TopCall) (words : List (List ℕ)) (x : Status) (text : List ℕ) → IsMissing s words → InvocationOwes s words x text → ⊥
owes_no_missing s words x text v o =
    let f = owed_for s words x text v.invocation v.asks o in
    none_told s v.invocation.name f.0 v.told f.1

missing_not_long : (s : TopCall) (words : List (List ℕ)) (text : List ℕ) → IsMissing s words → CallOwes s words status.TooLong text → ⊥
missing_not_long s words text v (inl o) =
    let P : Invocation → Type 0 = λ z. IsLongFile s z.name text in
    let here = subst P (one_invocation words o.0 v.invocation o.1 v.asks) o.2 in
    none_told s v.invocation.name here.0 v.told here.1
missing_not_long s words text v (inr o) = owes_no_missing s words status.TooLong text v o

-- A missing program is told as a read fault, or the sink fails.
pub only_fault : (s : TopCall) (words : List (List ℕ)) (x : Status) → AnswersCall s words x → IsMissing s words → (code x ≡ 4) ⊎ (code x ≡ 5)
only_fault s words status.ReadFault h v = inl refl
only_fault s words status.WriteFault h v = inr refl
only_fault s words status.Usage h v = absurd (h.1.0 v.invocation v.asks)
only_fault s words status.NoMemory h v =
    let P : Invocation → Type 0 = λ z. s.told z.name ≡ Missing in
    absurd (h.1.2 (subst P (one_invocation words v.invocation h.1.0 v.asks h.1.1) v.told))
only_fault s words status.Done h v = absurd (owes_no_missing s words status.Done h.0 v h.1)
only_fault s words status.Stuck h v = absurd (owes_no_missing s words status.Stuck h.0 v h.1)
only_fault s words status.Limit h v = absurd (owes_no_missing s words status.Limit h.0 v h.1)
only_fault s words status.Refused h v = absurd (owes_no_missing s words status.Refused h.0 v h.1)
only_fault s words status.NoScript h v = absurd (owes_no_missing s words status.NoScript h.0 v h.1)
only_fault s words status.TooLong h v = absurd (missing_not_long s words h.0 v h.1)

-- A missing script has no bytes, and no run has its commands.

same_name : (script : Option (List ℕ)) (a b : List ℕ) → script ≡ Some a → script ≡ Some b → a ≡ b
same_name script a b h k = let e : Some a ≡ Some b = sym h ∙ k in cc

none_of_script : (s : TopCall) (script : Option (List ℕ)) (a b file : List ℕ) → script ≡ Some a → script ≡ Some b → s.told a ≡ Missing → IsFileOf s b file → ⊥
none_of_script s script a b file h k told is =
    let P : List ℕ → Type 0 = λ z. IsFileOf s z file in
    none_told s a file told (subst P (sym (same_name script a b h k)) is)

no_run_of_missing : (s : TopCall) (p : Source) (word : List ℕ) (script : Option (List ℕ)) (limit : ℕ) (kind : Ending) (text name : List ℕ) → script ≡ Some name → s.told name ≡ Missing
    → IsScriptRunText s p word script limit kind text → ⊥
no_run_of_missing s p word script limit kind text name is told o =
    let P : Option (List ℕ) → Type 0 = λ z. IsScriptOf s z o.0 in
    let here = subst P is o.1 in
    none_told s name here.0 told here.1

done_of_missing : (s : TopCall) (word file : List ℕ) (t : Task) (text name : List ℕ) → script_in t ≡ Some name → s.told name ≡ Missing → FileOwes s word file t status.Done text → ⊥
done_of_missing s word file (run script limit) text name is told o = no_run_of_missing s o.0 word script limit k.Done text name is told o.2
done_of_missing s word file show text name is told o = absurd cc
done_of_missing s word file (show_filter filter) text name is told o = absurd cc

stuck_of_missing : (s : TopCall) (word file : List ℕ) (t : Task) (text name : List ℕ) → script_in t ≡ Some name → s.told name ≡ Missing → FileOwes s word file t status.Stuck text → ⊥
stuck_of_missing s word file (run script limit) text name is told o = no_run_of_missing s o.0 word script limit k.Stuck text name is told o.2
stuck_of_missing s word file show text name is told o = o
stuck_of_missing s word file (show_filter filter) text name is told o = o

limit_of_missing : (s : TopCall) (word file : List ℕ) (t : Task) (text name : List ℕ) → script_in t ≡ Some name → s.told name ≡ Missing → FileOwes s word file t status.Limit text → ⊥
limit_of_missing s word file (run script limit) text name is told o = no_run_of_missing s o.0 word script limit k.Limit text name is told o.2
limit_of_missing s word file show text name is told o = o
limit_of_missing s word file (show_filter filter) text name is told o = o

long_script_of_missing : (s : TopCall) (words : List (List ℕ)) (text : List ℕ) → IsMissingScript s words → CallOwes s words status.TooLong text → ⊥
long_script_of_missing s words text v (inl o) = program_not_long s words text v.names o.0 o.1 o.2
long_script_of_missing s words text v (inr o) =
    let a = v.names.invocation in
    let f = owed_for s words status.TooLong text a v.names.asks o in
    let q = too_long_owed s a.name f.0 a.task text f.3 in
    none_of_script s (script_in a.task) v.name q.0 q.2.0 v.is q.1 v.told q.2.1

-- It is told as a read fault, the sink fails, or memory ran out.
pub only_script_fault : (s : TopCall) (words : List (List ℕ)) (x : Status) → AnswersCall s words x → IsMissingScript s words → (code x ≡ 4) ⊎ ((code x ≡ 5) ⊎ (code x ≡ 6))
only_script_fault s words status.ReadFault h v = inl refl
only_script_fault s words status.WriteFault h v = inr (inl refl)
only_script_fault s words status.NoMemory h v = inr (inr refl)
only_script_fault s words status.Usage h v = absurd (h.1.0 v.names.invocation v.names.asks)
only_script_fault s words status.Refused h v = absurd (not_refused s words h.0 v.names h.1)
only_script_fault s words status.TooLong h v = absurd (long_script_of_missing s words h.0 v h.1)
only_script_fault s words status.NoScript h v =
    let a = v.names.invocation in
    let f = owed_for s words status.NoScript h.0 a v.names.asks h.1 in
    let q = no_script_owed s a.name f.0 a.task h.0 f.3 in
    absurd (none_of_script s (script_in a.task) v.name q.0 q.2.0 v.is q.1 v.told q.2.1)
only_script_fault s words status.Done h v =
    let a = v.names.invocation in
    let f = owed_for s words status.Done h.0 a v.names.asks h.1 in
    absurd (done_of_missing s a.name f.0 a.task h.0 v.name v.is v.told f.3)
only_script_fault s words status.Stuck h v =
    let a = v.names.invocation in
    let f = owed_for s words status.Stuck h.0 a v.names.asks h.1 in
    absurd (stuck_of_missing s a.name f.0 a.task h.0 v.name v.is v.told f.3)
only_script_fault s words status.Limit h v =
    let a = v.names.invocation in
    let f = owed_for s words status.Limit h.0 a v.names.asks h.1 in
    absurd (limit_of_missing s a.name f.0 a.task h.0 v.name v.is v.told f.3)

-- Answers

pub on_err : {A E P : Type 0} (r : Result A E) → P → OnErr r P
on_err (Ok x) h = tt
on_err (Err e) h = h

pub on_err_then : {A E P Q : Type 0} (r : Result A E) → OnErr r P → (P → Q) → OnErr r Q
on_err_then (Ok x) h f = tt
on_err_then (Err e) h f = f h
