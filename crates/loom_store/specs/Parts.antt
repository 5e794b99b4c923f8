-- What an act does to one part of a store, and how it is answered.
use Rattle.std.specs.Prelude.{ℕ, suc, ◌+◌, ◌<◌, ◌≤◌, ◌≡◌, ◌≢◌, ℤ, pos, true, false, List, [], ◌∷◌, ◌++◌, length, slice_get, slice_set, Option, Some, None}
use Rattle.loom_trace.specs.declared.entry.What.TheVariants as w
use Rattle.loom_syntax.specs.File.{sema_limit}
use Rattle.loom_event.specs.Replay.{ThreadState, new_thread}
use Rattle.loom_store.specs.Threads.{Threads}
use Rattle.loom_store.specs.declared.answer.Answer.{Answer}
use Rattle.loom_store.specs.declared.answer.Answer.TheVariants as a

-- Words

-- a word gives its value
abbrev pub Reads : List ℤ → ℕ → Answer → Type 0
Reads words x (a.Granted v) = slice_get words x ≡ Some v
Reads words x (a.Disabled what) = ⊥
Reads words x (a.Trapped n) = ⊥

-- Mutexes

-- Thread `t` locks mutex `m` where nobody holds it.
abbrev pub Locks : List (Option ℕ) → ℕ → ℕ → Answer → List (Option ℕ) → Type 0
Locks old m t (a.Granted v) new = (v ≡ pos 0) × (slice_get old m ≡ Some None) × (new ≡ slice_set old m (Some t))
Locks old m t (a.Disabled what) new = (what ≡ w.Lock m) × ((u : ℕ) × (slice_get old m ≡ Some (Some u))) × (new ≡ old)
Locks old m t (a.Trapped n) new = ⊥

-- Thread `t` unlocks mutex `m` where it holds it itself.
abbrev pub Unlocks : List (Option ℕ) → ℕ → ℕ → Answer → List (Option ℕ) → Type 0
Unlocks old m t (a.Granted v) new = (v ≡ pos 0) × (slice_get old m ≡ Some (Some t)) × (new ≡ slice_set old m None)
Unlocks old m t (a.Disabled what) new = ⊥
Unlocks old m t (a.Trapped n) new = (n ≡ 3) × (slice_get old m ≢ Some (Some t)) × (new ≡ old)

-- Semaphores

-- each has a value that it may have
abbrev pub AreCounts : List ℕ → Type 0
AreCounts [] = Unit {0}
AreCounts (n ∷ ns) = (n ≤ sema_limit) × AreCounts ns

-- A semaphore goes down by one, but from 0.
abbrev pub Downs : List ℕ → ℕ → Answer → List ℕ → Type 0
Downs old k (a.Granted v) new = (v ≡ pos 0) × ((n : ℕ) × (slice_get old k ≡ Some (suc n)) × (new ≡ slice_set old k n))
Downs old k (a.Disabled what) new = (what ≡ w.Down k) × (slice_get old k ≡ Some 0) × (new ≡ old)
Downs old k (a.Trapped n) new = ⊥

-- A semaphore goes up by one, but from the greatest value.
abbrev pub Ups : List ℕ → ℕ → Answer → List ℕ → Type 0
Ups old k (a.Granted v) new = (v ≡ pos 0) × ((n : ℕ) × (slice_get old k ≡ Some n) × (n < sema_limit) × (new ≡ slice_set old k (suc n)))
Ups old k (a.Disabled what) new = ⊥
Ups old k (a.Trapped n) new = (n ≡ 7) × (slice_get old k ≡ Some sema_limit) × (new ≡ old)

-- Threads

-- the position of the thread that a value names, among `n`
abbrev pub IsIndex : ℤ → ℕ → Option ℕ → Type 0
IsIndex v n (Some i) = (v ≡ pos (suc i)) × (i < n)
IsIndex v n None = (i : ℕ) → v ≡ pos (suc i) → n ≤ i

-- The new thread is the last. There are no more than there may be.
abbrev pub Spawns : Threads → ℕ → List ℤ → Answer → Threads → Type 0
Spawns old f vs (a.Granted v) new =
    (v ≡ pos (length old.spawned + 1)) × (length old.spawned + 1 ≤ old.most) × (new ≡ record old { spawned = old.spawned ++ new_thread f vs ∷ [] })
Spawns old f vs (a.Disabled what) new = ⊥
Spawns old f vs (a.Trapped n) new = (n ≡ 5) × (old.most ≤ length old.spawned) × (new ≡ old)

-- The value names a thread that has ended, one that lives, or none.
abbrev pub Joins : List ThreadState → ℤ → Answer → Type 0
Joins threads v (a.Granted u) = (u ≡ pos 0) × ((i : ℕ) × (x : ThreadState) × (v ≡ pos (suc i)) × (slice_get threads i ≡ Some x) × (x.ended ≡ true))
Joins threads v (a.Disabled what) = (i : ℕ) × (x : ThreadState) × (v ≡ pos (suc i)) × (slice_get threads i ≡ Some x) × (x.ended ≡ false) × (what ≡ w.Join (suc i))
Joins threads v (a.Trapped n) = (n ≡ 4) × ((i : ℕ) → v ≡ pos (suc i) → slice_get threads i ≡ None)
