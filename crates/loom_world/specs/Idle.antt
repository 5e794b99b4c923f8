-- When a turn makes no entry, and why.
use Rattle.std.specs.Prelude.{ℕ, ◌≡◌, ◌⊎◌, true, false, not, Option, Some, None}
use Rattle.loom_lang.specs.Places.{Place, nowhere, place_at}
use Rattle.loom_trace.specs.declared.entry.Entry.{Entry}
use Rattle.loom_trace.specs.declared.entry.Ending.{Ending}
use Rattle.loom_event.specs.Answer.{IsFunctionWith}
use Rattle.loom_event.specs.Entries.{thread_of, IsFinished}
use Rattle.loom_event.specs.Replay.{ThreadState, thread_at, HasEnded}
use Rattle.loom_law.specs.Control.{Control, entries_of}
use Rattle.loom_law.specs.TurnLaws.{ends_blocked}
use Rattle.loom_law.specs.Lawful.{plans, own, running_thread, run_is_over, Lives, IsBlocked, refusal, IsDue}
use Rattle.loom_strand.specs.declared.stage.Birth.{Birth}
use Rattle.loom_strand.specs.Life.{has_none, has_ended}
use Rattle.loom_strand.specs.Strand.{ComesToPass}
use Rattle.loom_world.specs.declared.choice.Choice.{Choice}
use Rattle.loom_world.specs.declared.choice.Choice.TheVariants as c
use Rattle.loom_world.specs.declared.choice.Why.{Why}
use Rattle.loom_world.specs.declared.choice.Why.TheVariants as why
use Rattle.loom_world.specs.Book.{Book, setting, front, stand_at, IsStandOf}
use Rattle.loom_world.specs.Flags.{IsFlaggedNow}
use Rattle.loom_world.specs.Answers.{StandsNext}

-- The journal is finished.
abbrev pub HasFinish : Book → Type 0
HasFinish b = (kind : Ending) × IsFinished b.entries kind

-- No thread makes an entry any more: there are as many as there may be, or the journal is finished.
abbrev pub IsClosed : Book → Type 0
IsClosed b = (run_is_over (setting b) (front b) ≡ true) ⊎ HasFinish b

-- No command waits for its answer, none was left out, and threads may make entries.
pub record MayAsk (b : Book) : Type 0 where
  pub answered : Control.asked (front b).control ≡ None
  pub not_closing : Control.closing (front b).control ≡ false
  pub runs : run_is_over (setting b) (front b) ≡ false

-- A command is asked that can't but be refused.
pub record IsAskedInVain (b : Book) : Type 0 where
  pub command : ℕ
  pub asked : Control.asked (front b).control ≡ Some command
  pub refused : refusal (setting b) (front b).control command ≡ None → ⊥

-- No thread makes an entry, since a command goes first: it is due, or its refusal is.
abbrev pub CommandGoesFirst : Book → Type 0
CommandGoesFirst b = IsDue (setting b) (front b) ⊎ IsAskedInVain b

-- A thread that runs stands at a flagged place. Where its last entry isn't `Blocked`, that is an entry or back-edge place which it comes to pass.
pub record StandsAtFlag (b : Book) (t k : ℕ) (state : ThreadState) : Type 0 where
  pub stand : IsStandOf b t state k
  pub flagged : IsFlaggedNow b stand.place
  pub passes : ends_blocked (entries_of t b.entries) ≡ false → ComesToPass b.program (plans (setting b)) (own (setting b) b.entries t state) stand.place

-- A thread that hasn't begun stands at place 0, which is flagged where any is.
abbrev pub IsAtFlagBy : Book → ℕ → ℕ → Option ThreadState → Type 0
IsAtFlagBy b t k None = (k ≡ 0) × IsFlaggedNow b nowhere
IsAtFlagBy b t k (Some x) = StandsAtFlag b t k x

-- Thread t, which lives, is at flagged place k.
abbrev pub IsAtFlag : Book → ℕ → ℕ → Type 0
IsAtFlag b t k = IsAtFlagBy b t k (running_thread (thread_at b.store t))

-- Thread t, which runs, was found to stand at place k, and that is flagged now.
pub record IsFoundAtFlag (b : Book) (t k : ℕ) : Type 0 where
  pub state : ThreadState
  pub runs : running_thread (thread_at b.store t) ≡ Some state
  pub found : stand_at b.stands t ≡ Some k
  pub place : Place
  pub number : place_at b.program k ≡ Some place
  pub flagged : IsFlaggedNow b place

-- Where it was found at a flagged place it stays there.
abbrev pub StaysFound : Book → ℕ → ℕ → Type 0
StaysFound b t k = (j : ℕ) → IsFoundAtFlag b t j → j ≡ k

-- Threads may make entries, and thread t lives.
pub record CanTurn (b : Book) (t : ℕ) : Type 0 where
  pub goes_on : IsClosed b → ⊥
  pub no_command : CommandGoesFirst b → ⊥
  pub lives : Lives b.store t

-- The thread is blocked, and is at no flagged place.
pub record IsIdleBlocked (b : Book) (t : ℕ) : Type 0 where
  pub turns : CanTurn b t
  pub blocked : IsBlocked (setting b) (front b) t
  pub away : (k : ℕ) → IsAtFlag b t k → ⊥

-- Why thread t makes no entry now: the first of these that applies.
abbrev pub IsIdleThread : Book → ℕ → Why → Type 0
IsIdleThread b t why.Over = IsClosed b
IsIdleThread b t why.Ended = (IsClosed b → ⊥) × HasEnded b.store t
IsIdleThread b t why.Unborn = (IsClosed b → ⊥) × (thread_at b.store t ≡ None)
IsIdleThread b t why.Due = (IsClosed b → ⊥) × (Lives b.store t × CommandGoesFirst b)
IsIdleThread b t (why.Flagged k) = CanTurn b t × IsAtFlag b t k × StaysFound b t k
IsIdleThread b t why.Blocked = IsIdleBlocked b t
IsIdleThread b t why.Nothing = ⊥

-- A thread that hasn't begun is kept from it by flags, and one that runs by a flagged place at which it was found.
abbrev pub IsKeptByFlag : Book → ℕ → ℕ → Type 0
IsKeptByFlag b t k = ((running_thread (thread_at b.store t) ≡ None) × IsFlaggedNow b nowhere) ⊎ IsFoundAtFlag b t k

-- What keeps thread t from making an entry: each of these. To a flagged place at which it wasn't found a thread that runs comes in its turn.
abbrev pub HindersThread : Book → ℕ → Why → Type 0
HindersThread b t (why.Flagged k) = CanTurn b t × IsKeptByFlag b t k
HindersThread b t why.Blocked = CanTurn b t × IsBlocked (setting b) (front b) t
HindersThread b t w = IsIdleThread b t w

-- No control entry stands next.
abbrev pub IsIdleControl : Book → Why → Type 0
IsIdleControl b why.Nothing = HasFinish b ⊎ ((x : Entry) → thread_of x ≡ None → StandsNext b x → ⊥)
IsIdleControl b _ = ⊥

abbrev pub IsIdle : Book → Choice → Why → Type 0
IsIdle b (c.Thread t) w = IsIdleThread b t w
IsIdle b c.Control w = IsIdleControl b w

abbrev pub Hinders : Book → Choice → Why → Type 0
Hinders b (c.Thread t) w = HindersThread b t w
Hinders b c.Control w = IsIdleControl b w

-- Thread t lives and isn't blocked.
pub record CanGoOn (b : Book) (t : ℕ) : Type 0 where
  pub lives : Lives b.store t
  pub free : IsBlocked (setting b) (front b) t → ⊥

-- The run goes on, no command goes first, and thread t lives, with this function and these arguments. Where it hasn't begun no flags are up.
pub record IsLive (b : Book) (t : ℕ) (x : Birth) : Type 0 where
  pub goes_on : IsClosed b → ⊥
  pub no_command : CommandGoesFirst b → ⊥
  pub lives : Lives b.store t
  pub func : x.func ≡ lives.state.func
  pub args : x.args ≡ lives.state.args
  -- it is a function of the program, and has as many parameters
  pub function : IsFunctionWith b.program x.func x.args
  pub not_ended : has_ended (entries_of t b.entries) ≡ false
  pub begins : lives.state.begun ≡ false → IsFlaggedNow b nowhere → ⊥
  -- it has begun where it has made an entry
  pub begun : lives.state.begun ≡ not (has_none (entries_of t b.entries))
