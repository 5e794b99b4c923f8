-- What a book keeps between its calls.
use Rattle.std.specs.Prelude.{ℕ, suc, ◌≡◌, ◌⊎◌, ◌+◌, ◌*◌, ◌≤◌, Bool, true, false, not, ◌<◌, List, [], ◌∷◌, length, Option, Some, None, slice_get}
use Rattle.loom_trace.specs.declared.entry.Entry.{Entry}
use Rattle.loom_trace.specs.declared.entry.Entry.TheVariants as e
use Rattle.loom_trace.specs.declared.entry.What.{What}
use Rattle.loom_event.specs.Answer.{IsFunctionWith}
use Rattle.loom_event.specs.Entries.{thread_entries, last_of_thread}
use Rattle.loom_trace.specs.Limits.{thread_limit, entry_limit, control_limit}
use Rattle.loom_event.specs.Replay.{ThreadState, Store, thread_at}
use Rattle.loom_command.specs.Script.{most_commands}
use Rattle.loom_law.specs.Walk.{Version}
use Rattle.loom_law.specs.Filter.{Plan}
use Rattle.loom_law.specs.Control.{Command, command_at, install, means, have_one_name, Control, entries_of, listed_places}
use Rattle.loom_law.specs.Lawful.{plans, run_is_over, Lives, IsBlocked, is_installed}
use Rattle.loom_law.specs.Laws.{IsUnfinished}
use Rattle.loom_strand.specs.Life.{has_none, has_ended}
use Rattle.loom_version.specs.Version.{AreBelow}
use Rattle.loom_ops.specs.Ops.{Ops}
use Rattle.loom_ops.specs.Laws.{IsOpsOf}
use Rattle.loom_store.specs.declared.answer.Answer.{Answer}
use Rattle.loom_store.specs.declared.answer.Answer.TheVariants as a
use Rattle.loom_store.specs.Answer.{CanWait}
use Rattle.loom_trace.specs.declared.entry.What.TheVariants as v
use Rattle.loom_world.specs.Book.{Book, setting, front, HasLawfulJournal, AreEmptyNotes}
use Rattle.loom_world.specs.Flags.{HasFlagSets}
use Rattle.loom_world.specs.Idle.{HasFinish}

-- What a book keeps beside its journal and its store.
pub record Notes : Type 0 where
  -- how many entries threads made
  pub entry_count : ℕ
  pub finished : Bool
  -- how many more entries the journal has room for
  pub room : ℕ
  -- the number of the next command, from 1
  pub next : ℕ
  -- the command that is asked
  pub asked : Option ℕ
  -- a command wasn't reached
  pub closing : Bool
  -- for each thread what its last entry is blocked at, unless it goes over to a newer version next
  pub waits : List (Option What)
  -- the newest version, and the locks of its filters
  pub version : Version
  pub ops : Ops
  -- the flags of each command that puts a filter in, all places, and none
  pub flags : List (Option (List ℕ))
  pub all_places : List ℕ
  pub no_places : List ℕ

-- The journal is finished, or it isn't.
abbrev pub IsAtEnd : Book → Bool → Type 0
IsAtEnd b true = HasFinish b
IsAtEnd b false = IsUnfinished b.entries

-- No thread can make an entry: there are as many as there may be, or each thread that lives is blocked.
abbrev pub NoneGoesOn : Book → Type 0
NoneGoesOn b = (run_is_over (setting b) (front b) ≡ true) ⊎ ((t : ℕ) → Lives b.store t → IsBlocked (setting b) (front b) t)

-- It has noted what the journal says of commands.
pub record HasCommands (b : Book) (n : Notes) : Type 0 where
  pub few : length b.commands ≤ most_commands
  pub next : n.next ≡ Control.next (front b).control
  pub asked : n.asked ≡ Control.asked (front b).control
  pub closing : n.closing ≡ Control.closing (front b).control
  pub first : 1 ≤ n.next
  pub last : n.next ≤ suc (length b.commands)
  -- the one that is asked stands before the next
  pub before : (k : ℕ) → n.asked ≡ Some k → (1 ≤ k) × (suc k ≡ n.next)
  -- the journal has room for what is still to come: there are two control entries at most for each command before the next
  pub count : n.finished ≡ false → length b.entries + 2 ≤ n.entry_count + 2 * n.next
  pub room : length b.entries + n.room ≡ b.limit + control_limit
  pub ends : n.closing ≡ true → NoneGoesOn b

-- How far a thread is, by its entries.
pub record IsAsFar (es : List Entry) (x : ThreadState) : Type 0 where
  pub begun : x.begun ≡ not (has_none es)
  pub ended : x.ended ≡ has_ended es

-- what an entry is blocked at
abbrev pub wait_in : Option Entry → Option What
wait_in (Some (e.Blocked t l what)) = Some what
wait_in _ = None

-- a thread for which places are listed isn't blocked
abbrev pub wait_unless : List ℕ → Option What → Option What
wait_unless [] o = o
wait_unless (y ∷ ys) o = None

-- A thread can wait for what the store has, and for a clause.
abbrev pub CanAwait : Store → What → Type 0
CanAwait s (v.Enter k c) = Unit {0}
CanAwait s x = CanWait s x

-- It has a note for each thread: what its last entry is blocked at, which it can wait for.
pub record HasWaits (b : Book) (waits : List (Option What)) : Type 0 where
  pub count : length waits ≡ thread_limit
  pub each : (i : ℕ) (w : Option What) → slice_get waits i ≡ Some w → w ≡ wait_unless (listed_places (suc i) b.entries) (wait_in (last_of_thread (suc i) None b.entries))
  pub can : (i : ℕ) (w : What) → slice_get waits i ≡ Some (Some w) → CanAwait b.store w

-- Two installed filters have two names.
abbrev pub HasOneOfEachName : Book → Type 0
HasOneOfEachName b = (i j : ℕ) → is_installed (front b).control i ≡ true → is_installed (front b).control j ≡ true → have_one_name b.commands i j ≡ true → i ≡ j

-- the number of the command that is asked, or of the next one
abbrev pub latest : Notes → ℕ
latest n = latest_of n.asked n.next
  where
    latest_of : Option ℕ → ℕ → ℕ
    latest_of None k = k
    latest_of (Some k) j = k

-- It has noted the newest version and its locks. Filters that are installed are those of earlier commands, and there was at most one change for each.
pub record HasVersion (b : Book) (n : Notes) : Type 0 where
  pub version : n.version ≡ Control.version (front b).control
  pub ops : IsOpsOf (plans (setting b)) (front b).control n.ops
  pub below : AreBelow (latest n) n.version.active
  pub number : n.version.number < latest n
  pub names : HasOneOfEachName b
  -- each was put in by an install that meant something
  pub there : (k : ℕ) → is_installed (front b).control k ≡ true → (c : Command) × ((f : Plan) × ((command_at b.commands k ≡ Some c) × (c.action ≡ install (means f))))

pub record BookInvariant (b : Book) (n : Notes) : Type 0 where
  pub journal : HasLawfulJournal b
  pub least : 1 ≤ b.limit
  pub most : b.limit ≤ entry_limit
  pub entry_count : n.entry_count ≡ thread_entries b.entries
  pub few : n.entry_count ≤ b.limit
  pub end : IsAtEnd b n.finished
  pub commands : HasCommands b n
  pub far : (t : ℕ) (x : ThreadState) → thread_at b.store t ≡ Some x → IsAsFar (entries_of t b.entries) x
  -- each thread has a function of the program, with as many arguments as parameters
  pub functions : (t : ℕ) (x : ThreadState) → thread_at b.store t ≡ Some x → IsFunctionWith b.program x.func x.args
  pub version : HasVersion b n
  pub flags : HasFlagSets b n.flags n.all_places n.no_places
  pub few_threads : length b.store.spawned ≤ thread_limit
  pub waits : HasWaits b n.waits

-- what a thread waits for that is answered so
abbrev pub wait_of : Answer → Option What
wait_of (a.Disabled what) = Some what
wait_of _ = None

abbrev pub AreNoWaits : List (Option What) → Type 0
AreNoWaits ws = AreEmptyNotes ws
