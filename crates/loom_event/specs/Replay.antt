-- The replay of events: words, mutexes, semaphores and threads.
use Rattle.std.specs.Prelude.{slice_get, ℕ, zero, suc, ◌+◌, ◌<◌, ◌≤◌, ◌≡◌, ◌≢◌, ℤ, pos, Bool, true, false, List, [], ◌∷◌, ◌++◌, length, map, flat_map, replicate, slice_set, Option, Some, None, codes}
use Rattle.loom_tree.specs.declared.item.Word.{Word}
use Rattle.loom_tree.specs.declared.item.Sema.{Sema}
use Rattle.loom_tree.specs.Tree.{Source}
use Rattle.loom_trace.specs.declared.entry.What.{What}
use Rattle.loom_trace.specs.declared.entry.What.TheVariants as w
use Rattle.loom_syntax.specs.File.{sema_limit}
use Rattle.loom_lang.specs.Numbers.{function_number}
use Rattle.loom_lang.specs.Trace.{Cause, division, index, not_held, not_spawned, threads, frames, overflow, Act, begin, end, trap, read, write, lock, unlock, down, up, spawn, join, print}
use Rattle.loom_event.specs.TargetEvent.{TargetEvent}

-- a thread that was spawned
pub record ThreadState : Type 0 where
  pub func : ℕ
  pub args : List ℤ
  pub begun : Bool
  pub ended : Bool

pub record Store : Type 0 where
  pub words : List ℤ
  -- who holds each mutex
  pub holders : List (Option ℕ)
  pub semas : List ℕ
  -- those that were spawned: thread t is the t-th
  pub spawned : List ThreadState
  -- how many threads there may be
  pub most : ℕ

-- the values of a word's cells before the run
abbrev pub first_values : Option ℕ → ℤ → List ℤ
first_values None v = v ∷ []
first_values (Some n) v = replicate n v

abbrev pub new_thread : ℕ → List ℤ → ThreadState
new_thread f vs = record { func = f; args = vs; begun = false; ended = false }

-- thread 1, which runs this function, where there may be a thread
abbrev pub main_thread : ℕ → Option ℕ → List ThreadState
main_thread most None = []
main_thread zero (Some f) = []
main_thread (suc n) (Some f) = new_thread f [] ∷ []

abbrev pub nobody : List ℕ → Option ℕ
nobody m = None

-- Before the run thread 1 is spawned, with `main`. There may be `most` threads, this one among them.
abbrev pub start : Source → ℕ → Store
start p most = record {
  words = flat_map (λ (x : Word). first_values x.cells x.first) p.words;
  holders = map nobody p.mutexes;
  semas = map (λ (x : Sema). x.first) p.semas;
  spawned = main_thread most (function_number p (codes "main"));
  most = most;
}

-- the thread of a number, from 1
abbrev pub thread_at : Store → ℕ → Option ThreadState
thread_at s zero = None
thread_at s (suc n) = slice_get s.spawned n

pub record IsRunning (s : Store) (t : ℕ) : Type 0 where
  pub state : ThreadState
  pub is : thread_at s t ≡ Some state
  pub begun : state.begun ≡ true
  pub not_ended : state.ended ≡ false

pub record AwaitsBegin (s : Store) (t : ℕ) : Type 0 where
  pub state : ThreadState
  pub is : thread_at s t ≡ Some state
  pub not_begun : state.begun ≡ false

pub record HasEnded (s : Store) (t : ℕ) : Type 0 where
  pub state : ThreadState
  pub is : thread_at s t ≡ Some state
  pub ended : state.ended ≡ true

-- a trap stands only where the store has its cause; the causes in the thread itself ask for nothing
abbrev pub IsCaused : Store → ℕ → Cause → Type 0
IsCaused s t division = Unit {0}
IsCaused s t index = Unit {0}
IsCaused s t frames = Unit {0}
IsCaused s t (not_held m) = slice_get s.holders m ≢ Some (Some t)
IsCaused s t (not_spawned v) = (c : ℕ) → v ≡ pos c → thread_at s c ≡ None
IsCaused s t threads = s.most ≤ length s.spawned
IsCaused s t (overflow k) = slice_get s.semas k ≡ Some sema_limit

-- what a thread that runs may do
abbrev pub MayDo : Store → ℕ → Act → Type 0
MayDo s t begin = ⊥
MayDo s t end = Unit {0}
MayDo s t (trap c) = IsCaused s t c
MayDo s t (read x v) = slice_get s.words x ≡ Some v
MayDo s t (write x v) = Unit {0}
MayDo s t (lock m) = slice_get s.holders m ≡ Some None
MayDo s t (unlock m) = slice_get s.holders m ≡ Some (Some t)
MayDo s t (down k) = (n : ℕ) × (slice_get s.semas k ≡ Some (suc n))
MayDo s t (up k) = (n : ℕ) × (slice_get s.semas k ≡ Some n) × (n < sema_limit)
MayDo s t (spawn c f vs) = (c ≡ length s.spawned + 1) × (c ≤ s.most)
MayDo s t (join c) = HasEnded s c
MayDo s t (print v) = Unit {0}

-- an event is allowed: a thread begins once, and does the rest between its begin and its end
abbrev pub IsAllowedAct : Store → ℕ → Act → Type 0
IsAllowedAct s t begin = AwaitsBegin s t
IsAllowedAct s t a = IsRunning s t × MayDo s t a

abbrev pub IsAllowed : Store → TargetEvent → Type 0
IsAllowed s x = IsAllowedAct s x.thread x.act

-- the store behind an event

abbrev pub with_thread : Store → ℕ → (ThreadState → ThreadState) → Store
with_thread s zero f = s
with_thread s (suc n) f = record s { spawned = changed s.spawned n f }
  where
    changed : List ThreadState → ℕ → (ThreadState → ThreadState) → List ThreadState
    changed [] n f = []
    changed (x ∷ xs) zero f = f x ∷ xs
    changed (x ∷ xs) (suc n) f = x ∷ changed xs n f

abbrev pub counted_down : Option ℕ → ℕ
counted_down None = 0
counted_down (Some zero) = 0
counted_down (Some (suc n)) = n

abbrev pub counted_up : Option ℕ → ℕ
counted_up None = 0
counted_up (Some n) = suc n

abbrev pub after_act : Store → ℕ → Act → Store
after_act s t begin = with_thread s t (λ x. record x { begun = true })
after_act s t end = with_thread s t (λ x. record x { ended = true })
after_act s t (trap c) = s
after_act s t (read x v) = s
after_act s t (write x v) = record s { words = slice_set s.words x v }
after_act s t (lock m) = record s { holders = slice_set s.holders m (Some t) }
after_act s t (unlock m) = record s { holders = slice_set s.holders m None }
after_act s t (down k) = record s { semas = slice_set s.semas k (counted_down (slice_get s.semas k)) }
after_act s t (up k) = record s { semas = slice_set s.semas k (counted_up (slice_get s.semas k)) }
after_act s t (spawn c f vs) = record s { spawned = s.spawned ++ new_thread f vs ∷ [] }
after_act s t (join c) = s
after_act s t (print v) = s

abbrev pub after_event : Store → TargetEvent → Store
after_event s x = after_act s x.thread x.act

abbrev pub replay : Store → List TargetEvent → Store
replay s [] = s
replay s (x ∷ xs) = replay (after_event s x) xs

-- each event is allowed where the replay of those before it stands
abbrev pub AreAllowed : Store → List TargetEvent → Type 0
AreAllowed s [] = Unit {0}
AreAllowed s (x ∷ xs) = IsAllowed s x × AreAllowed (after_event s x) xs

-- What a thread asks for is disabled: a mutex that is held, a semaphore at 0, the end of a thread that lives. What filters make threads wait
-- for isn't in the store.
abbrev pub IsDisabled : Store → What → Type 0
IsDisabled s (w.Lock m) = (t : ℕ) × (slice_get s.holders m ≡ Some (Some t))
IsDisabled s (w.Down k) = slice_get s.semas k ≡ Some 0
IsDisabled s (w.Join c) = (x : ThreadState) × (thread_at s c ≡ Some x) × (x.ended ≡ false)
IsDisabled s (w.Enter k c) = ⊥
IsDisabled s (w.Wait k e) = ⊥

-- each thread that was spawned has ended
abbrev pub AllEnded : Store → Type 0
AllEnded s = (t : ℕ) (x : ThreadState) → thread_at s t ≡ Some x → x.ended ≡ true
