-- The threads of a store behind an act.
use Rattle.std.proofs.Common.{ℕ, zero, suc, ◌+◌, ◌≤◌, ◌≡◌, ◌⊎◌, inl, inr, Bool, true, false, List, [], ◌∷◌, ◌++◌, length, slice_get, Option, Some, None, refl, sym, ap, ◌∙◌, arith}
use Rattle.std.proofs.lemmas.List.{length-append}
use Rattle.loom_lang.specs.Trace.{Act, begin, end, trap, read, write, lock, unlock, down, up, spawn, join, print}
use Rattle.loom_trace.specs.Limits.{thread_limit}
use Rattle.loom_tree.specs.Tree.{Source}
use Rattle.loom_event.specs.TargetEvent.{TargetEvent}
use Rattle.loom_event.specs.Replay.{ThreadState, Store, start, new_thread, thread_at, with_thread, after_act, replay, IsAllowedAct}
use Rattle.loom_law.proofs.Turns.{replay_most}

-- With one thread changed

other_changed : (s : Store) (f : ThreadState → ThreadState) (xs : List ThreadState) (n i : ℕ) → (n ≡ i → ⊥)
    → slice_get (Store.spawned (with_thread (record s { spawned = xs }) (suc n) f)) i ≡ slice_get xs i
other_changed s f [] n i h = refl
other_changed s f (x ∷ xs) zero zero h = absurd (h refl)
other_changed s f (x ∷ xs) zero (suc i) h = refl
other_changed s f (x ∷ xs) (suc n) zero h = refl
other_changed s f (x ∷ xs) (suc n) (suc i) h = other_changed s f xs n i (λ e. h (ap suc e))

own_changed : (s : Store) (f : ThreadState → ThreadState) (xs : List ThreadState) (n : ℕ) (x : ThreadState) → slice_get xs n ≡ Some x
    → slice_get (Store.spawned (with_thread (record s { spawned = xs }) (suc n) f)) n ≡ Some (f x)
own_changed s f [] n x h = cc
own_changed s f (y ∷ xs) zero x h = let same : y ≡ x = cc in ap (λ z. Some (f z)) same
own_changed s f (y ∷ xs) (suc n) x h = own_changed s f xs n x h

many_changed : (s : Store) (f : ThreadState → ThreadState) (xs : List ThreadState) (n : ℕ) → length (Store.spawned (with_thread (record s { spawned = xs }) (suc n) f)) ≡ length xs
many_changed s f [] n = refl
many_changed s f (x ∷ xs) zero = refl
many_changed s f (x ∷ xs) (suc n) = ap suc (many_changed s f xs n)

other_with : (s : Store) (f : ThreadState → ThreadState) (t i : ℕ) → (t ≡ suc i → ⊥) → thread_at (with_thread s t f) (suc i) ≡ thread_at s (suc i)
other_with s f zero i h = refl
other_with s f (suc n) i h = other_changed s f s.spawned n i (λ e. h (ap suc e))

own_with : (s : Store) (f : ThreadState → ThreadState) (t : ℕ) (x : ThreadState) → thread_at s t ≡ Some x → thread_at (with_thread s t f) t ≡ Some (f x)
own_with s f zero x h = cc
own_with s f (suc n) x h = own_changed s f s.spawned n x h

many_with : (s : Store) (f : ThreadState → ThreadState) (t : ℕ) → length (Store.spawned (with_thread s t f)) ≡ length s.spawned
many_with s f zero = refl
many_with s f (suc n) = many_changed s f s.spawned n

-- With one thread more

last_or : (xs : List ThreadState) (z : ThreadState) (i : ℕ) (y : ThreadState) → slice_get (xs ++ z ∷ []) i ≡ Some y → (slice_get xs i ≡ Some y) ⊎ ((slice_get xs i ≡ None) × (z ≡ y))
last_or [] z zero y h = let same : z ≡ y = cc in inr (refl, same)
last_or [] z (suc i) y h = cc
last_or (x ∷ xs) z zero y h = inl h
last_or (x ∷ xs) z (suc i) y h = last_or xs z i y h

front_too : (xs ys : List ThreadState) (i : ℕ) (x : ThreadState) → slice_get xs i ≡ Some x → slice_get (xs ++ ys) i ≡ Some x
front_too [] ys i x h = cc
front_too (y ∷ xs) ys zero x h = h
front_too (y ∷ xs) ys (suc i) x h = front_too xs ys i x h

-- Behind an act

-- another thread: it was so before, or it is new
abbrev pub IsOther : Store → ℕ → ThreadState → Type 0
IsOther s u y = (thread_at s u ≡ Some y) ⊎ ((thread_at s u ≡ None) × ((y.begun ≡ false) × (y.ended ≡ false)))

fresh : (s : Store) (i : ℕ) (z y : ThreadState) → z.begun ≡ false → z.ended ≡ false → (slice_get s.spawned i ≡ Some y) ⊎ ((slice_get s.spawned i ≡ None) × (z ≡ y)) → IsOther s (suc i) y
fresh s i z y b e (inl h) = inl h
fresh s i z y b e (inr h) = inr (h.0, (ap (λ (x : ThreadState). x.begun) (sym h.1) ∙ b, ap (λ (x : ThreadState). x.ended) (sym h.1) ∙ e))

pub other_state : (s : Store) (t u : ℕ) (a : Act) (y : ThreadState) → (t ≡ u → ⊥) → thread_at (after_act s t a) u ≡ Some y → IsOther s u y
other_state s t zero a y ne h = cc
other_state s t (suc i) begin y ne h = inl (sym (other_with s (λ x. record x { begun = true }) t i ne) ∙ h)
other_state s t (suc i) end y ne h = inl (sym (other_with s (λ x. record x { ended = true }) t i ne) ∙ h)
other_state s t (suc i) (trap c) y ne h = inl h
other_state s t (suc i) (read x v) y ne h = inl h
other_state s t (suc i) (write x v) y ne h = inl h
other_state s t (suc i) (lock m) y ne h = inl h
other_state s t (suc i) (unlock m) y ne h = inl h
other_state s t (suc i) (down k) y ne h = inl h
other_state s t (suc i) (up k) y ne h = inl h
other_state s t (suc i) (spawn c f vs) y ne h = fresh s i (new_thread f vs) y refl refl (last_or s.spawned (new_thread f vs) i y h)
other_state s t (suc i) (join c) y ne h = inl h
other_state s t (suc i) (print v) y ne h = inl h

abbrev pub begun_by : Act → Bool → Bool
begun_by begin b = true
begun_by a b = b

abbrev pub ended_by : Act → Bool → Bool
ended_by end b = true
ended_by a b = b

-- the thread itself
abbrev pub IsBehind : Act → ThreadState → ThreadState → Type 0
IsBehind a x y = (y.begun ≡ begun_by a x.begun) × (y.ended ≡ ended_by a x.ended)

same_state : (o : Option ThreadState) (x y : ThreadState) → o ≡ Some x → o ≡ Some y → x ≡ y
same_state o x y h g = cc

as_before : (o : Option ThreadState) (x y : ThreadState) → o ≡ Some x → o ≡ Some y → (y.begun ≡ x.begun) × (y.ended ≡ x.ended)
as_before o x y h g = let same = same_state o x y h g in (ap (λ (z : ThreadState). z.begun) (sym same), ap (λ (z : ThreadState). z.ended) (sym same))

pub own_state : (s : Store) (t : ℕ) (a : Act) (x y : ThreadState) → thread_at s t ≡ Some x → thread_at (after_act s t a) t ≡ Some y → IsBehind a x y
own_state s t begin x y h g = as_before _ (record x { begun = true }) y (own_with s (λ x. record x { begun = true }) t x h) g
own_state s t end x y h g = as_before _ (record x { ended = true }) y (own_with s (λ x. record x { ended = true }) t x h) g
own_state s t (trap c) x y h g = as_before _ x y h g
own_state s t (read w v) x y h g = as_before _ x y h g
own_state s t (write w v) x y h g = as_before _ x y h g
own_state s t (lock m) x y h g = as_before _ x y h g
own_state s t (unlock m) x y h g = as_before _ x y h g
own_state s t (down k) x y h g = as_before _ x y h g
own_state s t (up k) x y h g = as_before _ x y h g
own_state s zero (spawn c f vs) x y h g = cc
own_state s (suc n) (spawn c f vs) x y h g = as_before _ x y (front_too s.spawned (new_thread f vs ∷ []) n x h) g
own_state s t (join c) x y h g = as_before _ x y h g
own_state s t (print v) x y h g = as_before _ x y h g

-- how many threads there may be
pub most_threads : (p : Source) (xs : List TargetEvent) (st : Store) → replay (start p thread_limit) xs ≡ st → st.most ≡ thread_limit
most_threads p xs st h = ap Store.most (sym h) ∙ replay_most (start p thread_limit) xs

-- there are no more than that
pub few_threads : (s : Store) (t : ℕ) (a : Act) → s.most ≤ thread_limit → IsAllowedAct s t a → length s.spawned ≤ thread_limit → length (Store.spawned (after_act s t a)) ≤ thread_limit
few_threads s t begin small h few = rw (many_with s (λ x. record x { begun = true }) t) few
few_threads s t end small h few = rw (many_with s (λ x. record x { ended = true }) t) few
few_threads s t (trap c) small h few = few
few_threads s t (read w v) small h few = few
few_threads s t (write w v) small h few = few
few_threads s t (lock m) small h few = few
few_threads s t (unlock m) small h few = few
few_threads s t (down k) small h few = few
few_threads s t (up k) small h few = few
few_threads s t (spawn c f vs) small h few =
    let most : c ≤ s.most = h.1.1 in
    let is : c ≡ length s.spawned + 1 = h.1.0 in
    omega (arith, small, most, is, length-append s.spawned (new_thread f vs ∷ []))
few_threads s t (join c) small h few = few
few_threads s t (print v) small h few = few

-- A thread that is new was spawned.

none_changed : (s : Store) (f : ThreadState → ThreadState) (xs : List ThreadState) (n i : ℕ) → slice_get xs i ≡ None
    → slice_get (Store.spawned (with_thread (record s { spawned = xs }) (suc n) f)) i ≡ None
none_changed s f [] n i h = h
none_changed s f (x ∷ xs) zero zero h = cc
none_changed s f (x ∷ xs) zero (suc i) h = h
none_changed s f (x ∷ xs) (suc n) zero h = cc
none_changed s f (x ∷ xs) (suc n) (suc i) h = none_changed s f xs n i h

none_with : (s : Store) (f : ThreadState → ThreadState) (t i : ℕ) → thread_at s (suc i) ≡ None → thread_at (with_thread s t f) (suc i) ≡ None
none_with s f zero i h = h
none_with s f (suc n) i h = none_changed s f s.spawned n i h

abbrev pub IsSpawnedBy : Act → ThreadState → Type 0
IsSpawnedBy (spawn c f vs) y = new_thread f vs ≡ y
IsSpawnedBy _ y = ⊥

not_both : (o : Option ThreadState) (y : ThreadState) → o ≡ None → o ≡ Some y → ⊥
not_both o y h g = let no : None ≡ Some y = sym h ∙ g in cc

spawned_last : (xs : List ThreadState) (z y : ThreadState) (i : ℕ) → slice_get xs i ≡ None → (slice_get xs i ≡ Some y) ⊎ ((slice_get xs i ≡ None) × (z ≡ y)) → z ≡ y
spawned_last xs z y i none (inl h) = absurd (not_both (slice_get xs i) y none h)
spawned_last xs z y i none (inr h) = h.1

pub fresh_state : (s : Store) (t u : ℕ) (a : Act) (y : ThreadState) → thread_at s u ≡ None → thread_at (after_act s t a) u ≡ Some y → IsSpawnedBy a y
fresh_state s t zero a y none h = cc
fresh_state s t (suc i) begin y none h = not_both _ y (none_with s (λ x. record x { begun = true }) t i none) h
fresh_state s t (suc i) end y none h = not_both _ y (none_with s (λ x. record x { ended = true }) t i none) h
fresh_state s t (suc i) (trap c) y none h = not_both _ y none h
fresh_state s t (suc i) (read x v) y none h = not_both _ y none h
fresh_state s t (suc i) (write x v) y none h = not_both _ y none h
fresh_state s t (suc i) (lock m) y none h = not_both _ y none h
fresh_state s t (suc i) (unlock m) y none h = not_both _ y none h
fresh_state s t (suc i) (down k) y none h = not_both _ y none h
fresh_state s t (suc i) (up k) y none h = not_both _ y none h
fresh_state s t (suc i) (spawn c f vs) y none h = spawned_last s.spawned (new_thread f vs) y i none (last_or s.spawned (new_thread f vs) i y h)
fresh_state s t (suc i) (join c) y none h = not_both _ y none h
fresh_state s t (suc i) (print v) y none h = not_both _ y none h
