-- Behind any events there are the words, mutexes and semaphores that there were, and each thread that was spawned.
use Rattle.std.proofs.Common.{ℕ, zero, suc, ◌+◌, ◌<◌, ◌≤◌, ◌≡◌, [], ◌∷◌, ℤ, List, length, length-append, flat_map, get_or, slice_get, Option, Some, None, true, refl, ap, ◌∙◌, arith}
use Rattle.std.specs.Prelude.{slice_set}
use Rattle.std.proofs.lemmas.List.{length-map, length-replicate, length-set}
use Rattle.std.proofs.lemmas.Option.{slice_get_within, slice_get-get_or}
use Rattle.loom_tree.specs.declared.item.Word.{Word}
use Rattle.loom_tree.specs.declared.item.Sema.{Sema}
use Rattle.loom_tree.specs.Tree.{Source}
use Rattle.loom_lang.specs.Rules.{cells_in, cell_count}
use Rattle.loom_lang.specs.Trace.{Act, begin, end, trap, read, write, lock, unlock, down, up, spawn, join, print}
use Rattle.loom_trace.specs.declared.entry.What.TheVariants as w
use Rattle.loom_trace.specs.declared.request.Request.TheVariants as r
use Rattle.loom_event.specs.TargetEvent.{TargetEvent}
use Rattle.loom_event.specs.Replay.{ThreadState, Store, first_values, nobody, start, new_thread, thread_at, with_thread, counted_down, counted_up, after_act, after_event, replay}
use Rattle.loom_store.specs.Laws.{CanAllWait, HasLastingWaits, CanAlwaysAnswer}

record HasSizes (old new : Store) : Type 0 where
  words : length new.words ≡ length old.words
  holders : length new.holders ≡ length old.holders
  semas : length new.semas ≡ length old.semas
  threads : length old.spawned ≤ length new.spawned

same_sizes : (s : Store) → HasSizes s s
same_sizes s = record { words = refl; holders = refl; semas = refl; threads = omega arith }

sizes_on : (s m n : Store) → HasSizes s m → HasSizes m n → HasSizes s n
sizes_on s m n h k =
    record { words = k.words ∙ h.words; holders = k.holders ∙ h.holders; semas = k.semas ∙ h.semas; threads = omega (arith, h.threads, k.threads) }

-- An act

with_sizes : (s : Store) (xs : List ThreadState) (n : ℕ) (f : ThreadState → ThreadState)
    → length (Store.spawned (with_thread (record s { spawned = xs }) (suc n) f)) ≡ length xs
with_sizes s [] n f = refl
with_sizes s (x ∷ xs) zero f = refl
with_sizes s (x ∷ xs) (suc n) f = ap suc (with_sizes s xs n f)

thread_sizes : (s : Store) (t : ℕ) (f : ThreadState → ThreadState) → HasSizes s (with_thread s t f)
thread_sizes s zero f = same_sizes s
thread_sizes s (suc n) f = record { words = refl; holders = refl; semas = refl; threads = omega (arith, with_sizes s s.spawned n f) }

holder_sizes : (s : Store) (m : ℕ) (o : Option ℕ) → HasSizes s (record s { holders = slice_set s.holders m o })
holder_sizes s m o = record { words = refl; holders = length-set s.holders m o; semas = refl; threads = omega arith }

sema_sizes : (s : Store) (k n : ℕ) → HasSizes s (record s { semas = slice_set s.semas k n })
sema_sizes s k n = record { words = refl; holders = refl; semas = length-set s.semas k n; threads = omega arith }

act_sizes : (s : Store) (t : ℕ) (act : Act) → HasSizes s (after_act s t act)
act_sizes s t begin = thread_sizes s t (λ x. record x { begun = true })
act_sizes s t end = thread_sizes s t (λ x. record x { ended = true })
act_sizes s t (trap c) = same_sizes s
act_sizes s t (read x v) = same_sizes s
act_sizes s t (write x v) = record { words = length-set s.words x v; holders = refl; semas = refl; threads = omega arith }
act_sizes s t (lock m) = holder_sizes s m (Some t)
act_sizes s t (unlock m) = holder_sizes s m None
act_sizes s t (down k) = sema_sizes s k (counted_down (slice_get s.semas k))
act_sizes s t (up k) = sema_sizes s k (counted_up (slice_get s.semas k))
act_sizes s t (spawn c f vs) = record { words = refl; holders = refl; semas = refl; threads = omega (arith, length-append s.spawned (new_thread f vs ∷ [])) }
act_sizes s t (join c) = same_sizes s
act_sizes s t (print v) = same_sizes s

replay_sizes : (s : Store) (xs : List TargetEvent) → HasSizes s (replay s xs)
replay_sizes s [] = same_sizes s
replay_sizes s (x ∷ xs) = sizes_on s (after_event s x) (replay (after_event s x) xs) (act_sizes s x.thread x.act) (replay_sizes (after_event s x) xs)

-- What threads wait for

pub all_wait : CanAllWait
all_wait s (w.Lock m) h = slice_get_within s.holders m (Some h.0) h.1
all_wait s (w.Down k) h = slice_get_within s.semas k 0 h
all_wait s (w.Join c) h = (h.0, h.1)
all_wait s (w.Enter k c) h = h
all_wait s (w.Wait k e) h = h

thread_stays : (s new : Store) (c : ℕ) (x : ThreadState) → length s.spawned ≤ length new.spawned → thread_at s c ≡ Some x
    → (y : ThreadState) × (thread_at new c ≡ Some y)
thread_stays s new zero x more h = cc
thread_stays s new (suc n) x more h =
    let there : n < length s.spawned = slice_get_within s.spawned n x h in
    (get_or new.spawned n x, slice_get-get_or new.spawned n x (omega (arith, there, more)))

pub lasting_waits : HasLastingWaits
lasting_waits s xs (w.Lock m) can = omega (arith, HasSizes.holders (replay_sizes s xs), can)
lasting_waits s xs (w.Down k) can = omega (arith, HasSizes.semas (replay_sizes s xs), can)
lasting_waits s xs (w.Join c) can = thread_stays s (replay s xs) c can.0 (HasSizes.threads (replay_sizes s xs)) can.1
lasting_waits s xs (w.Enter k c) can = can
lasting_waits s xs (w.Wait k n) can = can

-- The program's numbers

many_values : (x : Word) (c : Option ℕ) → x.cells ≡ c → length (first_values x.cells x.first) ≡ cells_in x
many_values x None is = rw is refl
many_values x (Some n) is = rw is (length-replicate n x.first)

many_cells : (ws : List Word) → length (flat_map (λ (x : Word). first_values x.cells x.first) ws) ≡ cell_count ws
many_cells [] = refl
many_cells (x ∷ ws) =
    let rest : List ℤ = flat_map (λ (x : Word). first_values x.cells x.first) ws in
    length-append (first_values x.cells x.first) rest ∙ ap (λ z. z + length rest) (many_values x x.cells refl) ∙ ap (λ z. cells_in x + z) (many_cells ws)

words_of : (p : Source) (most : ℕ) (xs : List TargetEvent) → length (Store.words (replay (start p most) xs)) ≡ cell_count p.words
words_of p most xs = HasSizes.words (replay_sizes (start p most) xs) ∙ many_cells p.words

mutexes_of : (p : Source) (most : ℕ) (xs : List TargetEvent) → length (Store.holders (replay (start p most) xs)) ≡ length p.mutexes
mutexes_of p most xs = HasSizes.holders (replay_sizes (start p most) xs) ∙ length-map p.mutexes nobody

semas_of : (p : Source) (most : ℕ) (xs : List TargetEvent) → length (Store.semas (replay (start p most) xs)) ≡ length p.semas
semas_of p most xs = HasSizes.semas (replay_sizes (start p most) xs) ∙ length-map p.semas (λ (x : Sema). x.first)

pub always_answers : CanAlwaysAnswer
always_answers p most xs (r.Trap l n) h = h
always_answers p most xs (r.Read l x) h = omega (arith, words_of p most xs, h)
always_answers p most xs (r.Write l x v) h = omega (arith, words_of p most xs, h)
always_answers p most xs (r.Lock l m) h = omega (arith, mutexes_of p most xs, h)
always_answers p most xs (r.Unlock l m) h = omega (arith, mutexes_of p most xs, h)
always_answers p most xs (r.Down l k) h = omega (arith, semas_of p most xs, h)
always_answers p most xs (r.Up l k) h = omega (arith, semas_of p most xs, h)
always_answers p most xs (r.At l k ns) h = h
always_answers p most xs (r.Past l k ns) h = h
always_answers p most xs (r.Back l) h = h
always_answers p most xs (r.Enter l k c) h = h
always_answers p most xs (r.Leave l k c) h = h
always_answers p most xs (r.Post l k n) h = h
always_answers p most xs (r.Wait l k n) h = h
always_answers p most xs (r.Cross l y v n) h = h
always_answers p most xs q h = tt
