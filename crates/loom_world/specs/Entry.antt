-- The entry that an answer makes.
use Rattle.std.specs.Prelude.{ℕ, ◌≡◌, ◌≤◌, ◌⊎◌, ℤ, pos, length}
use Rattle.loom_trace.specs.declared.entry.Entry.{Entry}
use Rattle.loom_trace.specs.declared.entry.Entry.TheVariants as e
use Rattle.loom_trace.specs.declared.request.Request.{Request}
use Rattle.loom_trace.specs.declared.request.Request.TheVariants as r
use Rattle.loom_event.specs.Answer.{trap_deed, IsEntryOf}
use Rattle.loom_trace.specs.Limits.{thread_limit}
use Rattle.loom_event.specs.Replay.{Store}
use Rattle.loom_store.specs.declared.answer.Answer.{Answer}
use Rattle.loom_store.specs.declared.answer.Answer.TheVariants as a
use Rattle.loom_store.specs.Answer.{CanAnswer, Answers, given_deed}

abbrev pub line_in : Request → ℕ
line_in (r.Begin l) = l
line_in (r.End l) = l
line_in (r.Trap l n) = l
line_in (r.Read l w) = l
line_in (r.Write l w v) = l
line_in (r.Lock l m) = l
line_in (r.Unlock l m) = l
line_in (r.Down l s) = l
line_in (r.Up l s) = l
line_in (r.Spawn l f vs) = l
line_in (r.Join l v) = l
line_in (r.Print l v) = l
line_in (r.Tick l k) = l
line_in (r.At l k ns) = l
line_in (r.Past l k ns) = l
line_in (r.Back l) = l
line_in (r.Enter l k c) = l
line_in (r.Leave l k c) = l
line_in (r.Post l k n) = l
line_in (r.Wait l k n) = l
line_in (r.Cross l y v n) = l

-- a thread's number
abbrev pub IsThreadNumber : ℤ → Type 0
IsThreadNumber v = (c : ℕ) × (v ≡ pos c) × (c ≤ thread_limit)

-- The request can be granted with this value: a new thread, and one whose end was waited for, have a thread's number. What filters and versions
-- make a thread ask for isn't granted by a store.
abbrev pub CanBeGranted : Request → ℤ → Type 0
CanBeGranted (r.Trap l n) v = (n ≡ 1) ⊎ ((n ≡ 2) ⊎ (n ≡ 6))
CanBeGranted (r.Spawn l f vs) v = IsThreadNumber v
CanBeGranted (r.Join l u) v = IsThreadNumber u
CanBeGranted (r.At l k ns) v = ⊥
CanBeGranted (r.Past l k ns) v = ⊥
CanBeGranted (r.Back l) v = ⊥
CanBeGranted (r.Enter l k c) v = ⊥
CanBeGranted (r.Leave l k c) v = ⊥
CanBeGranted (r.Post l k n) v = ⊥
CanBeGranted (r.Wait l k n) v = ⊥
CanBeGranted (r.Cross l y i n) v = ⊥
CanBeGranted q v = Unit {0}

-- the entry of a request of thread t that is granted with this value
abbrev pub IsGrantWith : ℕ → Request → ℤ → Entry → Type 0
IsGrantWith t (r.Tick l k) v x = x ≡ e.Tick t l k
IsGrantWith t q v x = IsEntryOf t (given_deed q v) x

-- Some store, of no more threads than any may have, answers the request so.
pub record IsAnswerable (t : ℕ) (q : Request) (y : Answer) : Type 0 where
  pub old : Store
  pub new : Store
  pub can : CanAnswer old q
  pub few : length old.spawned ≤ thread_limit
  pub most : old.most ≤ thread_limit
  pub answers : Answers old t q y new

-- the entry of thread t where its request is answered so
abbrev pub IsEntryFor : ℕ → Request → Answer → Entry → Type 0
IsEntryFor t q (a.Granted v) x = IsGrantWith t q v x
IsEntryFor t q (a.Disabled what) x = x ≡ e.Blocked t (line_in q) what
IsEntryFor t q (a.Trapped n) x = IsEntryOf t (trap_deed q) x
