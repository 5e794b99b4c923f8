-- Threads in a list.
use Rattle.std.proofs.Common.{ℕ, zero, suc, ◌-◌, ◌<◌, ◌≤◌, ◌≡◌, List, [], ◌∷◌, length, map, get_or, slice_get, Some, None, refl, sym, ap, ◌∙◌, subst, arith}
use Rattle.std.specs.Prelude.{slice_set}
use Rattle.std.proofs.lemmas.List.{map-set}
use Rattle.loom_event.specs.Replay.{ThreadState, Store, thread_at, with_thread}
use Rattle.loom_store.specs.declared.threads.Thread.{Thread}
use Rattle.loom_store.specs.Threads.{state_of}

pub spawned_at : (xs : List Thread) (i : ℕ) (y : Thread) → i < length xs → y ≡ get_or xs i y → slice_get (map state_of xs) i ≡ Some (state_of y)
spawned_at [] i y h is = absurd (omega (arith, h))
spawned_at (x ∷ xs) zero y h is = ap (λ z. Some (state_of z)) (sym is)
spawned_at (x ∷ xs) (suc i) y h is = spawned_at xs i y (omega (arith, h)) is

pub spawned_past : (xs : List Thread) (i : ℕ) → length xs ≤ i → slice_get (map state_of xs) i ≡ None
spawned_past [] i h = refl
spawned_past (x ∷ xs) zero h = absurd (omega (arith, h))
spawned_past (x ∷ xs) (suc i) h = spawned_past xs i (omega (arith, h))

found : (xs : List Thread) (i : ℕ) (y : Thread) (x : ThreadState) → y ≡ get_or xs i y → slice_get (map state_of xs) i ≡ Some x → state_of y ≡ x
found [] i y x is h = cc
found (z ∷ zs) zero y x is h = let same : state_of y ≡ state_of z = ap state_of is in cc
found (z ∷ zs) (suc i) y x is h = found zs i y x is h

-- One thread is another, and the others are as they were.
pub changed_at : (xs : List Thread) (i : ℕ) (y z : Thread) (x : ThreadState) (f : ThreadState → ThreadState) → y ≡ get_or xs i y → slice_get (map state_of xs) i ≡ Some x
    → state_of z ≡ f (state_of y) → map state_of (slice_set xs i z) ≡ slice_set (map state_of xs) i (f x)
changed_at xs i y z x f is h same = map-set state_of xs i z ∙ ap (slice_set (map state_of xs) i) (same ∙ ap f (found xs i y x is h))

-- Threads of a store

put_in : (s : Store) (xs : List ThreadState) (n : ℕ) (f : ThreadState → ThreadState) (x : ThreadState) → slice_get xs n ≡ Some x
    → with_thread (record s { spawned = xs }) (suc n) f ≡ record s { spawned = slice_set xs n (f x) }
put_in s [] n f x h = cc
put_in s (y ∷ ys) zero f x h = let same : y ≡ x = cc in ap (λ z. record s { spawned = f z ∷ ys }) same
put_in s (y ∷ ys) (suc n) f x h = ap (λ (z : Store). record s { spawned = y ∷ z.spawned }) (put_in s ys n f x h)

before : (n : ℕ) → suc n - 1 ≡ n
before n = omega arith

pub thread_found : (s : Store) (t : ℕ) (x : ThreadState) → thread_at s t ≡ Some x → slice_get s.spawned (t - 1) ≡ Some x
thread_found s zero x h = cc
thread_found s (suc n) x h = subst (λ k. slice_get s.spawned k ≡ Some x) (sym (before n)) h

pub thread_put : (s : Store) (t : ℕ) (f : ThreadState → ThreadState) (x : ThreadState) → thread_at s t ≡ Some x
    → with_thread s t f ≡ record s { spawned = slice_set s.spawned (t - 1) (f x) }
thread_put s zero f x h = cc
thread_put s (suc n) f x h = put_in s s.spawned n f x h ∙ ap (λ k. record s { spawned = slice_set s.spawned k (f x) }) (sym (before n))
