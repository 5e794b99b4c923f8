-- How a store answers what a thread asks for.
use Rattle.std.specs.Prelude.{ℕ, ◌<◌, ◌≡◌, ◌⊎◌, ℤ, pos, false, not, length, Option, Some, None}
use Rattle.loom_lang.specs.Trace.{Act, trap, reason}
use Rattle.loom_lang.specs.Acts.{Deed}
use Rattle.loom_trace.specs.declared.entry.What.{What}
use Rattle.loom_trace.specs.declared.entry.What.TheVariants as w
use Rattle.loom_trace.specs.declared.request.Request.{Request}
use Rattle.loom_trace.specs.declared.request.Request.TheVariants as r
use Rattle.loom_event.specs.TargetEvent.{event_of_deed}
use Rattle.loom_event.specs.Replay.{ThreadState, Store, thread_at, IsAllowed, after_event, IsDisabled}
use Rattle.loom_event.specs.Answer.{asks_begin, grant_deed, trap_deed, request_for}
use Rattle.loom_store.specs.declared.answer.Answer.{Answer}
use Rattle.loom_store.specs.declared.answer.Answer.TheVariants as a

-- Who may ask, and for what

-- The thread lives, and has begun unless it asks for its begin.
pub record MayAsk (s : Store) (t : ℕ) (q : Request) : Type 0 where
  pub state : ThreadState
  pub is : thread_at s t ≡ Some state
  pub lives : state.ended ≡ false
  pub begun : state.begun ≡ not (asks_begin q)

-- The store has the word, mutex or semaphore that a request names, and a trap is one that a thread finds by itself. What filters and versions make a
-- thread ask for isn't asked of a store.
abbrev pub CanAnswer : Store → Request → Type 0
CanAnswer s (r.Trap l n) = (n ≡ 1) ⊎ ((n ≡ 2) ⊎ (n ≡ 6))
CanAnswer s (r.Read l x) = x < length s.words
CanAnswer s (r.Write l x v) = x < length s.words
CanAnswer s (r.Lock l m) = m < length s.holders
CanAnswer s (r.Unlock l m) = m < length s.holders
CanAnswer s (r.Down l k) = k < length s.semas
CanAnswer s (r.Up l k) = k < length s.semas
CanAnswer s (r.At l k ns) = ⊥
CanAnswer s (r.Past l k ns) = ⊥
CanAnswer s (r.Back l) = ⊥
CanAnswer s (r.Enter l k c) = ⊥
CanAnswer s (r.Leave l k c) = ⊥
CanAnswer s (r.Post l k n) = ⊥
CanAnswer s (r.Wait l k n) = ⊥
CanAnswer s (r.Cross l y v n) = ⊥
CanAnswer s _ = Unit {0}

-- A thread can wait for this: for a mutex, for a semaphore, or for the end of a thread that was spawned.
abbrev pub CanWait : Store → What → Type 0
CanWait s (w.Lock m) = m < length s.holders
CanWait s (w.Down k) = k < length s.semas
CanWait s (w.Join c) = (x : ThreadState) × (thread_at s c ≡ Some x)
CanWait s (w.Enter k c) = ⊥
CanWait s (w.Wait k e) = ⊥

-- The answers

-- The deed of thread `t` is allowed, and the store is then `new`.
abbrev pub Does : Store → ℕ → Option Deed → Store → Type 0
Does old t None new = ⊥
Does old t (Some d) new = IsAllowed old (event_of_deed t d) × (new ≡ after_event old (event_of_deed t d))

-- a request that gives no value is granted with 0
abbrev pub IsGiven : Request → ℤ → Type 0
IsGiven (r.Read l x) v = Unit {0}
IsGiven (r.Spawn l f vs) v = Unit {0}
IsGiven q v = v ≡ pos 0

-- what is done where a request is granted: its act, or the thread's own trap
abbrev pub given_deed : Request → ℤ → Option Deed
given_deed (r.Trap l n) v = trap_deed (r.Trap l n)
given_deed q v = grant_deed q v

-- A request is granted with this value. A tick is no act.
abbrev pub IsGranted : Store → ℕ → Request → ℤ → Store → Type 0
IsGranted old t (r.Tick l k) v new = new ≡ old
IsGranted old t q v new = Does old t (given_deed q v) new

-- the deed is a trap of this reason
abbrev pub HasReason : Act → ℕ → Type 0
HasReason (trap c) n = n ≡ reason c
HasReason _ n = ⊥

-- The deed of thread `t` is a trap of this reason, and is allowed.
abbrev pub IsTrap : Store → ℕ → Option Deed → ℕ → Type 0
IsTrap s t None n = ⊥
IsTrap s t (Some d) n = HasReason d.act n × IsAllowed s (event_of_deed t d)

-- A trap of the store stands in the request's place.
abbrev pub IsTrapped : Store → ℕ → Request → ℕ → Type 0
IsTrapped s t (r.Trap l k) n = ⊥
IsTrapped s t q n = IsTrap s t (trap_deed q) n

-- Where a request isn't granted, the store stays as it was.
abbrev pub Answers : Store → ℕ → Request → Answer → Store → Type 0
Answers old t q (a.Granted v) new = IsGiven q v × IsGranted old t q v new
Answers old t q (a.Disabled what) new = ((l : ℕ) × (request_for l what ≡ Some q)) × (IsDisabled old what × (new ≡ old))
Answers old t q (a.Trapped n) new = IsTrapped old t q n × (new ≡ old)

-- What an answer makes the thread do: the request's act, or a trap. A tick is no deed, and a thread that waits does nothing.
abbrev pub deed_of : Request → Answer → Option Deed
deed_of q (a.Granted v) = given_deed q v
deed_of q (a.Disabled what) = None
deed_of q (a.Trapped n) = trap_deed q
