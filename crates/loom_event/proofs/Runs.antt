-- Facts on runs whose entries are written out.
use Rattle.std.proofs.Common.{ℕ, zero, suc, ◌+◌, ◌<◌, ◌≤◌, ◌≡◌, ◌==◌, ◌⊎◌, inr, Bool, true, false, not, ◌&&◌, nat_lt, List, [], ◌∷◌, ◌++◌, length, map, slice_get, Option, Some, None, refl, subst, arith}
use Rattle.std.proofs.lemmas.Bool.{and_parts, not-true, ltb-true, ne_eqb}
use Rattle.loom_tree.specs.Tree.{Source}
use Rattle.loom_trace.specs.declared.entry.Entry.{Entry}
use Rattle.loom_trace.specs.declared.entry.Entry.TheVariants as e
use Rattle.loom_lang.specs.Trace.{Act, begin, end, trap, read, write, lock, unlock, down, up, spawn, join, print, Item}
use Rattle.loom_event.specs.TargetEvent.{TargetEvent, entry_by, entry_of, deeds}
use Rattle.loom_event.specs.Replay.{ThreadState, Store, start, thread_at, replay, AwaitsBegin, IsRunning, AreAllowed}
use Rattle.loom_event.specs.Run.{IsTraced, IsThreadTraced}

-- Traces

-- an item, and what stands behind it
pub next : {broken : Type 0} {i : Item} {fs : List Item} {rest : List Item → Type 0} → rest fs
    → broken ⊎ ((gs : List Item) × ((i ∷ fs) ≡ i ∷ gs) × rest gs)
next {fs = fs} h = inr (fs, refl, h)

-- what a read or a spawn is answered
pub given : {A : Type 0} {P : A → Type 0} (a : A) → P a → (x : A) × P x
given a h = (a, h)

-- these threads, from this number on, did what their traces have
abbrev pub AreTraced : Source → List TargetEvent → ℕ → List ThreadState → Type 0
AreTraced p xs t [] = Unit {0}
AreTraced p xs t (x ∷ ss) = IsTraced p x.func x.args (deeds t xs) × AreTraced p xs (suc t) ss

-- these events are of threads below this one
abbrev pub are_below : ℕ → List TargetEvent → Bool
are_below n [] = true
are_below n (x ∷ xs) = nat_lt x.thread n && are_below n xs

nothing_done : (n t : ℕ) (xs : List TargetEvent) → n ≤ t → are_below n xs ≡ true → deeds t xs ≡ []
nothing_done n t [] h b = refl
nothing_done n t (x ∷ xs) h b =
    let parts = and_parts (nat_lt x.thread n) (are_below n xs) b in
    let below : x.thread < n = ltb-true x.thread n parts.0 in
    let other : (x.thread == t) ≡ false = ne_eqb x.thread t (λ e. omega arith) in
    rw other (nothing_done n t xs h parts.1)

one_traced : (p : Source) (xs : List TargetEvent) (ss : List ThreadState) (b j t : ℕ) → t ≡ b + j → AreTraced p xs b ss → are_below (b + length ss) xs ≡ true
    → IsThreadTraced p xs t (slice_get ss j)
one_traced p xs [] b j t is h below = nothing_done (b + 0) t xs (omega arith) below
one_traced p xs (x ∷ ss) b zero t is h below =
    let same : b ≡ t = omega arith in
    let P : ℕ → Type 0 = λ z. IsTraced p x.func x.args (deeds z xs) in
    subst P same h.0
one_traced p xs (x ∷ ss) b (suc j) t is h below =
    let P : ℕ → Type 0 = λ z. are_below z xs ≡ true in
    let more : b + length (x ∷ ss) ≡ suc b + length ss = omega arith in
    one_traced p xs ss (suc b) j t (omega arith) h.1 (subst P more below)

-- so did all, where no other made an event
pub threads_traced : (p : Source) (most : ℕ) (xs : List TargetEvent) → AreTraced p xs 1 (replay (start p most) xs).spawned → deeds 0 xs ≡ []
    → are_below (1 + length (replay (start p most) xs).spawned) xs ≡ true → (t : ℕ) → IsThreadTraced p xs t (thread_at (replay (start p most) xs) t)
threads_traced p most xs h none below zero = none
threads_traced p most xs h none below (suc t) = one_traced p xs (replay (start p most) xs).spawned 1 t (suc t) (omega arith) h below

-- Events that are allowed

abbrev pub runs : Option ThreadState → Bool
runs None = false
runs (Some x) = x.begun && not x.ended

-- an event of a thread that runs, and those behind it
pub does : {s : Store} {t : ℕ} {may rest : Type 0} → runs (thread_at s t) ≡ true → may → rest → (IsRunning s t × may) × rest
does {s = s} {t = t} b m h = ((running (thread_at s t) refl b, m), h)
  where
    running : (x : Option ThreadState) → thread_at s t ≡ x → runs x ≡ true → IsRunning s t
    running None is b = cc
    running (Some x) is b =
        let parts = and_parts x.begun (not x.ended) b in
        record { state = x; is = is; begun = parts.0; not_ended = not-true x.ended parts.1 }

-- the first of a thread, and those behind it
pub begins : {s : Store} {t : ℕ} {x : ThreadState} {rest : Type 0} → thread_at s t ≡ Some x → x.begun ≡ false → rest → AwaitsBegin s t × rest
begins {x = x} is b h = (record { state = x; is = is; not_begun = b }, h)

-- what stands behind a front is allowed behind its replay
pub allowed_behind : (s : Store) (xs ys : List TargetEvent) → AreAllowed s (xs ++ ys) → AreAllowed (replay s xs) ys
allowed_behind s [] ys h = h
allowed_behind s (x ∷ xs) ys h = allowed_behind _ xs ys h.1

-- Events from entries

-- the event of an entry that tells its act; one of a trap doesn't
abbrev pub event_of : Entry → Option TargetEvent
event_of (e.Begin t l) = Some (record { thread = t; line = l; act = begin })
event_of (e.End t l) = Some (record { thread = t; line = l; act = end })
event_of (e.Read t l w v) = Some (record { thread = t; line = l; act = read w v })
event_of (e.Write t l w v) = Some (record { thread = t; line = l; act = write w v })
event_of (e.Lock t l m) = Some (record { thread = t; line = l; act = lock m })
event_of (e.Unlock t l m) = Some (record { thread = t; line = l; act = unlock m })
event_of (e.Down t l s) = Some (record { thread = t; line = l; act = down s })
event_of (e.Up t l s) = Some (record { thread = t; line = l; act = up s })
event_of (e.Spawn t l c f vs) = Some (record { thread = t; line = l; act = spawn c f vs })
event_of (e.Join t l c) = Some (record { thread = t; line = l; act = join c })
event_of (e.Print t l v) = Some (record { thread = t; line = l; act = print v })
event_of _ = None

event_told : (t l : ℕ) (a : Act) (y : TargetEvent) → event_of (entry_by t l a) ≡ Some y → record { thread = t; line = l; act = a } ≡ y
event_told t l begin y h = cc
event_told t l end y h = cc
event_told t l (trap c) y h = cc
event_told t l (read w v) y h = cc
event_told t l (write w v) y h = cc
event_told t l (lock m) y h = cc
event_told t l (unlock m) y h = cc
event_told t l (down s) y h = cc
event_told t l (up s) y h = cc
event_told t l (spawn c f vs) y h = cc
event_told t l (join c) y h = cc
event_told t l (print v) y h = cc

-- entries that tell their acts are those of one list of events
pub events_told : (xs ys : List TargetEvent) → map event_of (map entry_of xs) ≡ map Some ys → xs ≡ ys
events_told [] [] h = refl
events_told [] (y ∷ ys) h = cc
events_told (x ∷ xs) [] h = cc
events_told (x ∷ xs) (y ∷ ys) h =
    let first : event_of (entry_of x) ≡ Some y = cc in
    let others : map event_of (map entry_of xs) ≡ map Some ys = cc in
    let one : x ≡ y = event_told x.thread x.line x.act y first in
    let all : xs ≡ ys = events_told xs ys others in
    cc
