-- What comes of the operations that filters and versions make a thread ask for.
use Rattle.std.specs.Prelude.{ℕ, ◌==◌, ◌≡◌, ◌≤◌, length, true, false, Option, Some, None}
use Rattle.loom_trace.specs.declared.entry.Entry.TheVariants as e
use Rattle.loom_trace.specs.declared.entry.What.{What}
use Rattle.loom_trace.specs.declared.entry.What.TheVariants as w
use Rattle.loom_trace.specs.declared.request.Request.{Request}
use Rattle.loom_trace.specs.declared.request.Request.TheVariants as r
use Rattle.loom_event.specs.Answer.{IsAnswerTo}
use Rattle.loom_ops.specs.Ops.{Ops, has_lock, has_holder, is_holder, owns, with_holder, free_clause}
use Rattle.loom_world.specs.declared.operate.Made.{Made}
use Rattle.loom_trace.specs.Limits.{thread_limit}
use Rattle.loom_event.specs.Replay.{Store}
use Rattle.loom_store.specs.declared.answer.Answer.{Answer}
use Rattle.loom_store.specs.Answer.{MayAsk, CanAnswer, Answers}
use Rattle.loom_world.specs.BookInvariant.{wait_of}
use Rattle.loom_world.specs.Entry.{line_in, IsEntryFor}

-- another thread is inside the clause
pub record IsLockedFor (o : Ops) (t k c : ℕ) : Type 0 where
  pub by : ℕ
  pub other : (by == t) ≡ false
  pub holds : is_holder o.holders k c by ≡ true

-- A thread enters a clause that is there and in which it isn't, and leaves one that it is in. No order is there, so nothing is waited for or posted.
abbrev pub CanOperate : Ops → ℕ → Request → Type 0
CanOperate o t (r.At l k ns) = Unit {0}
CanOperate o t (r.Past l k ns) = Unit {0}
CanOperate o t (r.Back l) = Unit {0}
CanOperate o t (r.Enter l k c) = (has_lock o.filters k c ≡ true) × ((is_holder o.holders k c t ≡ false) × ((u : ℕ) → owns o u ≡ true → u ≡ t))
CanOperate o t (r.Leave l k c) = is_holder o.holders k c t ≡ true
CanOperate o t (r.Cross l y v n) = Unit {0}
CanOperate o t q = ⊥

-- what it does to the locks, and what blocks it, if anything does
abbrev pub Locks : Ops → ℕ → Request → Option What → Ops → Type 0
Locks old t (r.Enter l k c) None new = (has_holder old.holders k c ≡ false) × (new ≡ with_holder old k c t)
Locks old t (r.Enter l k c) (Some what) new = (what ≡ w.Enter k c) × (IsLockedFor old t k c × (new ≡ old))
Locks old t (r.Leave l k c) o new = (o ≡ None) × (new ≡ free_clause old k c)
Locks old t q o new = (o ≡ None) × (new ≡ old)

-- The entry answers the request, or tells as blocked what blocks the thread.
abbrev pub IsMade : ℕ → Request → Option What → Made → Type 0
IsMade t q None x = IsAnswerTo t q x.entry
IsMade t q (Some what) x = x.entry ≡ e.Blocked t (line_in q) what

abbrev pub Operates : Ops → ℕ → Request → Made → Ops → Type 0
Operates old t q x new = Locks old t q x.wait new × IsMade t q x.wait x

-- The store can answer the thread.
pub record MayAskStore (s : Store) (t : ℕ) (q : Request) : Type 0 where
  pub thread : MayAsk s t q
  pub numbers : CanAnswer s q
  pub few : length s.spawned ≤ thread_limit
  pub most : s.most ≤ thread_limit

-- The entry is that of the store's answer.
pub record Acts (old : Store) (t : ℕ) (q : Request) (x : Made) (new : Store) : Type 0 where
  pub answer : Answer
  pub answers : Answers old t q answer new
  pub entry : IsEntryFor t q answer x.entry
  pub wait : x.wait ≡ wait_of answer
