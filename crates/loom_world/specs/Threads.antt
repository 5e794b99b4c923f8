-- The threads of a book.
use Rattle.std.specs.Prelude.{ℕ, suc, ◌≡◌, ◌<◌, ◌==◌, true, false, List, [], ◌∷◌, ◌++◌, length, Option, Some, None, slice_get}
use Rattle.loom_trace.specs.Limits.{thread_limit}
use Rattle.loom_trace.specs.declared.entry.Entry.{Entry}
use Rattle.loom_trace.specs.declared.request.Request.{Request}
use Rattle.loom_event.specs.Replay.{ThreadState, Store, thread_at}
use Rattle.loom_law.specs.Control.{Control, entries_of, versions_of, listed_places, since_asked}
use Rattle.loom_law.specs.Lawful.{has_any}
use Rattle.loom_law.specs.Laws.{with_newest}
use Rattle.loom_plan.specs.Compiled.{Compiled}
use Rattle.loom_strand.specs.declared.stage.Birth.{Birth}
use Rattle.loom_strand.specs.Life.{has_none, has_ended}
use Rattle.loom_tree.specs.Tree.{Source}
use Rattle.loom_lang.specs.Places.{Place, place_at}
use Rattle.loom_strand.specs.Strand.{Strand, IsNew, IsStarted, KeepsFrom, WaitsAt, Requests, IsReply}
use Rattle.loom_world.specs.Book.{Book, front, stand_at, HasLawfulJournal}
use Rattle.loom_world.specs.Flags.{IsUnderWay, AreFlagsFor, IsFlaggedNow}

-- A strand that was started has the function and the arguments of its thread.
abbrev pub IsBirthOf : Option ThreadState → Option Birth → Type 0
IsBirthOf x None = Unit {0}
IsBirthOf None (Some b) = ⊥
IsBirthOf (Some x) (Some b) = (b.func ≡ x.func) × (b.args ≡ x.args)

-- Where the thread made an entry since a command was asked that isn't refused, it has passed no flagged place since its last entry.
abbrev pub HasKeptAway : Book → ℕ → Strand → Option Birth → Type 0
HasKeptAway b t s None = Unit {0}
HasKeptAway b t s (Some x) = (k : ℕ) (set : List ℕ) → IsUnderWay b k → AreFlagsFor b k set → has_any (entries_of t (since_asked b.entries)) ≡ true
    → has_ended s.entries ≡ false → KeepsFrom s x set

-- Where nothing is noted of the thread, it has passed no place since its last entry.
abbrev pub HasPassedNone : Book → ℕ → Strand → Option Birth → Type 0
HasPassedNone b t s None = Unit {0}
HasPassedNone b t s (Some x) = stand_at b.stands t ≡ None → has_none s.entries ≡ false → has_ended s.entries ≡ false → (places : List ℕ) → KeepsFrom s x places

-- Where it was found to stand it waits.
abbrev pub WaitsFound : Strand → Option Birth → ℕ → Type 0
WaitsFound s None k = ⊥
WaitsFound s (Some x) k = WaitsAt s x k

-- It waits at no place that is flagged now.
abbrev pub WaitsFree : Book → Strand → Option Birth → Type 0
WaitsFree b s None = ⊥
WaitsFree b s (Some x) = (k : ℕ) (place : Place) → place_at b.program k ≡ Some place → WaitsAt s x k → IsFlaggedNow b place → ⊥

-- The strand is that of thread t: its entries are the thread's part of the journal.
pub record HasStrandPart (b : Book) (t : ℕ) (s : Strand) : Type 0 where
  pub program : s.program ≡ b.program
  pub filters : s.filters ≡ b.filters
  pub versions : s.versions ≡ versions_of b.commands t b.entries
  pub keeps_away : HasKeptAway b t s s.birth
  pub thread : s.thread ≡ t
  pub limit : s.limit ≡ b.limit
  pub birth : IsBirthOf (thread_at b.store t) s.birth
  -- until it is started it has made nothing
  pub unborn : s.birth ≡ None → s.entries ≡ []
  pub entries : s.entries ≡ entries_of t b.entries

-- And where the thread was found to stand the strand waits.
pub record IsStrandOf (b : Book) (t : ℕ) (s : Strand) : Type 0 where
  pub part : HasStrandPart b t s
  pub stands : (k : ℕ) → stand_at b.stands t ≡ Some k → WaitsFound s s.birth k
  pub passes : HasPassedNone b t s s.birth

-- The strand asks for this.
abbrev pub RequestsSo : Strand → Option Birth → Request → Type 0
RequestsSo s None q = ⊥
RequestsSo s (Some x) q = Requests s x q

-- The book has the entry as the last one of thread t, and the strand is still to take it.
pub record IsBehind (b : Book) (t : ℕ) (s : Strand) (x : Entry) : Type 0 where
  pub program : s.program ≡ b.program
  pub filters : s.filters ≡ b.filters
  pub thread : s.thread ≡ t
  pub limit : s.limit ≡ b.limit
  pub started : IsStarted s.birth
  pub birth : IsBirthOf (thread_at b.store t) s.birth
  pub answers : IsReply s x
  pub room : length s.entries < s.limit
  pub versions : with_newest x s.newest s.versions ≡ versions_of b.commands t b.entries
  pub entries : s.entries ++ x ∷ [] ≡ entries_of t b.entries
  pub forgotten : stand_at b.stands t ≡ None
  pub unlisted : listed_places t b.entries ≡ []
  pub lawful : HasLawfulJournal b

-- There is a strand for each thread that there may be, in their order.
pub record HasStrands (b : Book) (ss : List Strand) : Type 0 where
  pub count : length ss ≡ thread_limit
  pub each : (i : ℕ) (s : Strand) → slice_get ss i ≡ Some s → IsStrandOf b (suc i) s

-- A turn of thread t leaves what is noted of the others as it was, and so is what they made since a command was asked.
pub record KeepsOthers (old : Book) (t : ℕ) (new : Book) : Type 0 where
  pub stands : (u : ℕ) → (u == t) ≡ false → stand_at new.stands u ≡ stand_at old.stands u
  pub entries : (u : ℕ) → (u == t) ≡ false → entries_of u new.entries ≡ entries_of u old.entries
  pub since : (u : ℕ) → (u == t) ≡ false → entries_of u (since_asked new.entries) ≡ entries_of u (since_asked old.entries)
  pub versions : (u : ℕ) → (u == t) ≡ false → versions_of new.commands u new.entries ≡ versions_of old.commands u old.entries
  -- no command is asked or answered
  pub asked : Control.asked (front new).control ≡ Control.asked (front old).control
  pub version : Control.version (front new).control ≡ Control.version (front old).control

-- A thread that was spawned keeps its function and its arguments.
pub record HasSameCall (x y : ThreadState) : Type 0 where
  pub func : y.func ≡ x.func
  pub args : y.args ≡ x.args

abbrev pub KeepsThreads : Store → Store → Type 0
KeepsThreads old new = (t : ℕ) (x : ThreadState) → thread_at old t ≡ Some x → (y : ThreadState) × (thread_at new t ≡ Some y) × HasSameCall x y

-- There is a strand for each thread that there may be, none of them started.
pub record AreNew (p : Source) (cs : List (Option Compiled)) (n : ℕ) (ss : List Strand) : Type 0 where
  pub count : length ss ≡ thread_limit
  pub each : (i : ℕ) (s : Strand) → slice_get ss i ≡ Some s → IsNew p cs (suc i) n s
