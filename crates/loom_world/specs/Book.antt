-- The book of a run: its journal, the store that its events leave, and where its threads were found to stand.
use Rattle.std.specs.Prelude.{ℕ, zero, suc, ◌≡◌, Bool, false, List, [], length, Option, Some, None, slice_get}
use Rattle.std.specs.List.{AllByRecursion}
use Rattle.std.specs.Option.{option_flatten}
use Rattle.loom_tree.specs.Tree.{Source}
use Rattle.loom_lang.specs.Places.{Place, place_at}
use Rattle.loom_lang.specs.Rules as rules
use Rattle.loom_trace.specs.declared.entry.Entry.{Entry}
use Rattle.loom_trace.specs.Limits.{thread_limit}
use Rattle.loom_event.specs.Replay.{ThreadState, Store, thread_at, start, replay}
use Rattle.loom_law.specs.ThreadPart.{ComesTo}
use Rattle.loom_law.specs.Filter.{Plan}
use Rattle.loom_law.specs.Control.{means, install, Command, command_at, control, listed_places, plans_of}
use Rattle.loom_law.specs.Lawful.{Setting, Front, plans, own, running_thread, IsLawful}
use Rattle.loom_plan.specs.Compiled.{Compiled}
use Rattle.loom_version.specs.Plans.{AreFiltersOf, compiled_at, plans_in}
use Rattle.loom_world.specs.Commands.{HaveExclusions}

-- No stop test is given.
abbrev pub never : List Entry → Bool
never es = false

-- A run of the program with these commands, with as many threads as there may be at most, which make at most `limit` entries.
abbrev pub setting_of : Source → List Command → ℕ → Setting
setting_of p cs limit = record { program = p; commands = cs; limit = limit; threads = thread_limit; stop = never }

pub record Book : Type 0 where
  pub program : Source
  -- the filters of the commands, by the commands' numbers
  pub filters : List (Option Compiled)
  pub commands : List Command
  pub limit : ℕ
  pub entries : List Entry
  pub store : Store
  -- for each thread the number of the place at which its latest turn found it to stand, if it did
  pub stands : List (Option ℕ)

abbrev pub setting : Book → Setting
setting b = setting_of b.program b.commands b.limit

-- the end of its journal
abbrev pub front : Book → Front
front b = record { entries = b.entries; store = b.store; control = control b.commands b.entries }

-- Filters

-- The filters are those of the commands, and each is one of exclusions.
pub record HasFilterPlans (b : Book) : Type 0 where
  pub filters : AreFiltersOf b.program b.filters
  pub same : (k : ℕ) → plans_in b.filters k ≡ plans_of b.commands k
  pub there : (k : ℕ) (c : Command) (f : Plan) → command_at b.commands k ≡ Some c → c.action ≡ install (means f) → (x : Compiled) × (compiled_at b.filters k ≡ Some x)
  pub exclusions : HaveExclusions b.program b.commands

-- Where threads stand

abbrev pub stand_at : List (Option ℕ) → ℕ → Option ℕ
stand_at xs zero = None
stand_at xs (suc i) = option_flatten (slice_get xs i)

-- The thread stands at the place of this number: it comes to it behind its last entry, before or with its next request.
pub record IsStandOf (b : Book) (t : ℕ) (state : ThreadState) (k : ℕ) : Type 0 where
  pub place : Place
  pub number : place_at b.program k ≡ Some place
  pub comes : ComesTo b.program (plans (setting b)) (own (setting b) b.entries t state) place

-- Place 0 is that of a thread that doesn't run; else the place is the one that is noted.
abbrev pub found_at : Option ThreadState → Option ℕ → Option ℕ
found_at None o = Some 0
found_at (Some x) o = o

abbrev pub found_place : Book → ℕ → Option ℕ
found_place b t = found_at (running_thread (thread_at b.store t)) (stand_at b.stands t)

pub record HasStands (b : Book) : Type 0 where
  pub count : length b.stands ≡ thread_limit
  pub each : (t : ℕ) (state : ThreadState) (k : ℕ) → running_thread (thread_at b.store t) ≡ Some state → stand_at b.stands t ≡ Some k → IsStandOf b t state k
  -- a thread for which a version lists a place stands there
  pub listed : (t : ℕ) → AllByRecursion (λ k. found_place b t ≡ Some k) (listed_places t b.entries)

-- The program keeps its rules, the journal is lawful, the store is what its events leave, and threads stand where it is noted.
pub record HasLawfulJournal (b : Book) : Type 0 where
  pub rules : rules.KeepsRules b.program
  pub lawful : IsLawful (setting b) b.entries
  pub store : replay (start b.program thread_limit) lawful.events ≡ b.store
  pub plans : HasFilterPlans b
  pub stands : HasStands b

-- there is a note for each thread that there may be, and none says anything
abbrev pub AreEmptyNotes : {A : Type 0} → List (Option A) → Type 0
AreEmptyNotes {A} xs = (length xs ≡ thread_limit) × ((i : ℕ) (x : Option A) → slice_get xs i ≡ Some x → x ≡ None)

abbrev pub AreNoStands : List (Option ℕ) → Type 0
AreNoStands xs = AreEmptyNotes xs

-- Nothing has happened yet, and no thread was found anywhere.
pub record IsNewBook (p : Source) (cs : List Command) (n : ℕ) (b : Book) : Type 0 where
  pub program : b.program ≡ p
  pub commands : b.commands ≡ cs
  pub limit : b.limit ≡ n
  pub entries : b.entries ≡ []
  pub store : b.store ≡ start p thread_limit
  pub stands : AreNoStands b.stands

-- It is the book of the same run.
pub record IsOfSameRun (old new : Book) : Type 0 where
  pub program : new.program ≡ old.program
  pub filters : new.filters ≡ old.filters
  pub commands : new.commands ≡ old.commands
  pub limit : new.limit ≡ old.limit
