-- What a thread of a book asks for, and what it is answered.
use Rattle.std.specs.Prelude.{ℕ, zero, suc, ◌≡◌, ◌<◌, ◌⊎◌, Bool, true, false, not, ◌&&◌, ◌||◌, List, [], ◌∷◌, ◌++◌, Option, Some, None, slice_set}
use Rattle.std.specs.List.{AllByRecursion}
use Rattle.loom_lang.specs.Places.{nowhere}
use Rattle.loom_trace.specs.declared.entry.Entry.{Entry}
use Rattle.loom_trace.specs.declared.entry.Entry.TheVariants as e
use Rattle.loom_trace.specs.declared.request.Request.{Request}
use Rattle.loom_trace.specs.declared.request.Request.TheVariants as r
use Rattle.loom_event.specs.Answer.{asks_begin, asks_operation, IsBlockedAt, HasNumbers}
use Rattle.loom_event.specs.Entries.{thread_of, thread_entries}
use Rattle.loom_event.specs.Replay.{ThreadState, thread_at}
use Rattle.loom_law.specs.Walk.{Version, PartStep, Walk}
use Rattle.loom_law.specs.ThreadPart.{Own, walk_of, HasMoved, KeepsAway, AsksToAct, with_entry}
use Rattle.loom_law.specs.Control.{Control, entries_of, listed_places, since_asked}
use Rattle.loom_law.specs.Lawful.{Setting, plans, own, running_thread, has_any, IsFlagged, IsBlocked, StaysAway}
use Rattle.loom_law.specs.Laws.{own_with}
use Rattle.loom_law.specs.TurnLaws.{ends_blocked}
use Rattle.loom_strand.specs.Life.{has_none, awaits_end, asks_cross, IsLastBlockedAt}
use Rattle.loom_strand.specs.Strand.{AsksNext, IsReplyTo}
use Rattle.loom_world.specs.Book.{Book, IsOfSameRun, setting, front, stand_at}
use Rattle.loom_world.specs.Flags.{IsUnderWay, IsFlaggedNow}
use Rattle.loom_world.specs.Idle.{IsClosed, CommandGoesFirst}
use Rattle.loom_world.specs.Threads.{KeepsThreads}

-- With the act that it asks for the thread keeps away from the places that are flagged for command k, whatever the answer is.
pub record KeepsActing (s : Setting) (x : Own) (q : Request) (k : ℕ) : Type 0 where
  pub asks : AsksToAct s.program (plans s) x q
  pub away : KeepsAway (IsFlagged s k) (walk_of s.program (plans s) x asks.steps)

-- and with an operation, or with a newer version, which is `v`
abbrev pub KeepsAsking : Setting → Own → Version → Request → ℕ → Type 0
KeepsAsking s x v (r.Tick l n) k = StaysAway s (with_entry x (e.Tick x.thread l n)) k
KeepsAsking s x v (r.At l j ns) k = StaysAway s (with_entry x (e.At x.thread l j ns)) k
KeepsAsking s x v (r.Past l j ns) k = StaysAway s (with_entry x (e.Past x.thread l j ns)) k
KeepsAsking s x v (r.Back l) k = StaysAway s (with_entry x (e.Back x.thread l)) k
KeepsAsking s x v (r.Enter l j c) k = StaysAway s (with_entry x (e.Enter x.thread l j c)) k
KeepsAsking s x v (r.Leave l j c) k = StaysAway s (with_entry x (e.Leave x.thread l j c)) k
KeepsAsking s x v (r.Post l j n) k = StaysAway s (with_entry x (e.Post x.thread l j n)) k
KeepsAsking s x v (r.Wait l j n) k = StaysAway s (with_entry x (e.Wait x.thread l j n)) k
KeepsAsking s x v (r.Cross l y i n) k = StaysAway s (record x { versions = x.versions ++ v ∷ []; entries = x.entries ++ e.Cross x.thread l y i n ∷ [] }) k
KeepsAsking s x v q k = KeepsActing s x q k

abbrev pub has_note : Option ℕ → Bool
has_note None = false
has_note (Some k) = true

-- Flags bind what the thread passed: it made an entry since a command was asked, or it has begun and nothing is noted of it.
abbrev pub minds_flags : Book → ℕ → Bool
minds_flags b t = has_any (entries_of t (since_asked b.entries)) || (not (has_none (entries_of t b.entries)) && not (has_note (stand_at b.stands t)))

-- Where flags bind it, what it asks for, and `Blocked` in its place, keeps the thread away from the flagged places.
pub record KeepsAwayFor (b : Book) (t : ℕ) (x : ThreadState) (q : Request) : Type 0 where
  pub asks : (k : ℕ) → IsUnderWay b k → minds_flags b t ≡ true
      → KeepsAsking (setting b) (own (setting b) b.entries t x) (Control.version (front b).control) q k
  pub blocks : (k : ℕ) → IsUnderWay b k → minds_flags b t ≡ true → (y : Entry) → IsBlockedAt t q y
      → ends_blocked (entries_of t b.entries) ≡ false → StaysAway (setting b) (with_entry (own (setting b) b.entries t x) y) k

-- a newer version is taken at each place that is listed
abbrev pub CrossesListed : List ℕ → Request → Type 0
CrossesListed ys (r.Cross l k v n) = AllByRecursion (λ y. y ≡ k) ys
CrossesListed ys q = Unit {0}

-- Thread t, which lives, asks for this next.
pub record Asks (b : Book) (t : ℕ) (q : Request) : Type 0 where
  pub state : ThreadState
  pub there : thread_at b.store t ≡ Some state
  pub lives : state.ended ≡ false
  pub next : AsksNext b.program (plans (setting b)) (own (setting b) b.entries t state) (Control.version (front b).control) q
  pub numbers : asks_operation q ≡ false → HasNumbers b.program q
  pub begins : asks_begin q ≡ has_none (entries_of t b.entries)
  pub begun : state.begun ≡ not (asks_begin q)
  -- it begins where no flags are up
  pub unflagged : asks_begin q ≡ true → IsFlaggedNow b nowhere → ⊥
  -- where it was told that a request is disabled, it is this one, unless there is a newer version
  pub blocked : asks_cross q ≡ false → IsLastBlockedAt t q (entries_of t b.entries)
  -- it asks for a newer version exactly where places are listed for it, and there
  pub crosses : asks_cross q ≡ true → listed_places t b.entries ≡ [] → ⊥
  pub outrun : asks_begin q ≡ false → asks_cross q ≡ false → listed_places t b.entries ≡ []
  pub listed : CrossesListed (listed_places t b.entries) q
  pub away : KeepsAwayFor b t state q

-- nothing is noted of the thread any more
abbrev pub forgotten : List (Option ℕ) → ℕ → List (Option ℕ)
forgotten xs zero = xs
forgotten xs (suc i) = slice_set xs i None

-- Of a thread that runs nothing is noted, or its last entry is `Blocked`: then it passes with this entry no place that is flagged now. (It stood behind
-- its last entry, so all that it passes between the two it passes in this turn.)
pub record PassesNoFlag (b : Book) (t : ℕ) (x : Entry) : Type 0 where
  pub passes : (k : ℕ) → IsUnderWay b k → (state : ThreadState) → running_thread (thread_at b.store t) ≡ Some state
      → (stand_at b.stands t ≡ None) ⊎ (ends_blocked (entries_of t b.entries) ≡ true)
      → (steps : List PartStep) → HasMoved b.program (plans (setting b)) (own_with (setting b) b.entries t state x) steps
      → AllByRecursion (λ y. IsFlagged (setting b) k y → ⊥) (Walk.passed (walk_of b.program (plans (setting b)) (own_with (setting b) b.entries t state x) steps))

-- The entry is made that answers what thread t asks for, and the threads that were spawned keep their functions.
pub record MakesAnswer (old : Book) (t : ℕ) (q : Request) (x : Entry) (new : Book) : Type 0 where
  pub run : IsOfSameRun old new
  pub appended : new.entries ≡ old.entries ++ x ∷ []
  pub thread : thread_of x ≡ Some t
  pub replies : IsReplyTo (ends_blocked (entries_of t old.entries)) (awaits_end (entries_of t old.entries)) t (Some q) x
  pub threads : KeepsThreads old.store new.store
  -- where it stood is forgotten
  pub noted : new.stands ≡ forgotten old.stands t
  pub goes_on : IsClosed old → ⊥
  pub no_command : CommandGoesFirst old → ⊥
  pub free : IsBlocked (setting old) (front old) t → ⊥
  pub unflagged : PassesNoFlag old t x
  -- the limit wasn't reached
  pub few : thread_entries old.entries < old.limit
