-- What a turn does.
use Rattle.std.specs.Prelude.{ℕ, zero, suc, ◌≡◌, [], ◌∷◌, ◌++◌, Bool, true, false, List, Option, Some, None, slice_set}
use Rattle.loom_trace.specs.declared.entry.Entry.{Entry}
use Rattle.loom_event.specs.Entries.{thread_of}
use Rattle.loom_event.specs.Replay.{ThreadState, thread_at}
use Rattle.loom_law.specs.Lawful.{running_thread}
use Rattle.loom_law.specs.TurnLaws.{is_blocked_entry}
use Rattle.loom_world.specs.declared.choice.Choice.{Choice}
use Rattle.loom_world.specs.declared.choice.Choice.TheVariants as c
use Rattle.loom_world.specs.declared.choice.Why.{Why}
use Rattle.loom_world.specs.declared.choice.Why.TheVariants as why
use Rattle.loom_world.specs.declared.choice.Turned.{Turned}
use Rattle.loom_world.specs.declared.choice.Turned.TheVariants as t
use Rattle.loom_world.specs.Book.{Book, IsStandOf}
use Rattle.loom_world.specs.Answers.{StandsNext}
use Rattle.loom_world.specs.Idle.{IsIdle, Hinders, IsFoundAtFlag}
use Rattle.loom_world.specs.Asking.{forgotten, PassesNoFlag}

-- the thread whose turn it is; in a turn of control it is none
abbrev pub maker : Choice → Option ℕ
maker (c.Thread t) = Some t
maker c.Control = None

-- a control entry is made by where threads were found
abbrev pub IsMadeBy : Book → Choice → Entry → Type 0
IsMadeBy b (c.Thread t) x = Unit {0}
IsMadeBy b c.Control x = StandsNext b x

-- One entry more stands in the journal, of this thread, or of none.
pub record MakesEntry (old new : Book) (by : Option ℕ) : Type 0 where
  pub entry : Entry
  pub one : new.entries ≡ old.entries ++ entry ∷ []
  pub maker : thread_of entry ≡ by

-- Where threads stand, by what is noted

abbrev pub noted : List (Option ℕ) → ℕ → ℕ → List (Option ℕ)
noted xs zero k = xs
noted xs (suc i) k = slice_set xs i (Some k)

-- Thread t, which is there, stands at the place of this number.
pub record StandsAtPlace (b : Book) (t k : ℕ) : Type 0 where
  pub state : ThreadState
  pub there : thread_at b.store t ≡ Some state
  pub stand : IsStandOf b t state k

-- Behind an entry of thread t these are the notes, and where it is `Blocked`, of that thread a place at which it stands.
abbrev pub NotesBehind : List (Option ℕ) → ℕ → Bool → Book → Type 0
NotesBehind xs t false new = new.stands ≡ xs
NotesBehind xs t true new = (k : ℕ) × ((new.stands ≡ noted xs t k) × StandsAtPlace new t k)

-- What was noted of the thread that makes an entry is forgotten. Of the others, and behind a control entry of all, what was noted stays noted.
abbrev pub NotesBy : Book → Option ℕ → Bool → Book → Type 0
NotesBy old None blocked new = new.stands ≡ old.stands
NotesBy old (Some t) blocked new = NotesBehind (forgotten old.stands t) t blocked new

abbrev pub NotesEntry : Book → Entry → Book → Type 0
NotesEntry old x new = NotesBy old (thread_of x) (is_blocked_entry x) new

-- A thread with no note, or that is blocked, passes no flagged place with its entry. A control entry passes nothing.
abbrev pub MayPass : Book → Choice → Entry → Type 0
MayPass old (c.Thread t) x = PassesNoFlag old t x
MayPass old c.Control x = Unit {0}

-- A turn of control that makes an entry makes the one that stands next. What is noted behind an entry follows from what was noted.
pub record Moves (old : Book) (x : Choice) (new : Book) : Type 0 where
  pub makes : MakesEntry old new (maker x)
  pub next : IsMadeBy old x makes.entry
  pub notes : NotesEntry old makes.entry new
  pub unflagged : MayPass old x makes.entry

-- It is noted that the thread stands at the place of this number.
abbrev pub IsNoted : Book → ℕ → ℕ → Book → Type 0
IsNoted old t k new = new ≡ record old { stands = noted old.stands t k }

-- Where a thread that runs is at a flagged place, that is noted. Of a thread that hasn't begun nothing is.
abbrev pub NotesStand : Book → ℕ → ℕ → Option ThreadState → Book → Type 0
NotesStand old t k None new = new ≡ old
NotesStand old t k (Some x) new = IsNoted old t k new

-- Where a thread that is blocked stands is noted too: a place at which it does, and which isn't flagged.
pub record NotesBlocked (old : Book) (t : ℕ) (new : Book) : Type 0 where
  pub number : ℕ
  pub noted : IsNoted old t number new
  pub there : StandsAtPlace new t number
  pub free : (k : ℕ) → IsFoundAtFlag new t k → ⊥

-- An idle turn leaves all else as it was.
abbrev pub Leaves : Book → Choice → Why → Book → Type 0
Leaves old (c.Thread t) (why.Flagged k) new = NotesStand old t k (running_thread (thread_at old.store t)) new
Leaves old (c.Thread t) why.Blocked new = NotesBlocked old t new
Leaves old x w new = new ≡ old

-- A turn makes an entry where nothing keeps it from that; else it tells why.
abbrev pub Turns : Book → Choice → Book → Turned → Type 0
Turns old x new t.Moved = Moves old x new × ((w : Why) → Hinders old x w → ⊥)
Turns old x new (t.Idle w) = IsIdle old x w × Leaves old x w new
