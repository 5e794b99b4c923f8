-- Runs of flat code, by at most so many steps and by any number of them.
use Rattle.std.proofs.Common.{ℕ, suc, zero, List, [], ◌∷◌, true, ℤ, pos, negsuc, Some, None, refl, inl, inr, slice_get}
use Rattle.loom_lang.specs.Trace as trace
use Rattle.loom_lang.specs.Trace.{Item, Outcome, Open, Lists, Thread, made, out, broken, emit, any, either, trap_lists}
use Rattle.loom_flow.specs.Flow.{Flow}
use Rattle.loom_flow.specs.State.{State, Frame}
use Rattle.loom_flow.specs.Position.{Position, before, leaves, over}
use Rattle.loom_flow.specs.Question.{Question, read, write, lock, unlock, down, up, spawn, join, print}
use Rattle.loom_flow.specs.Progress.{Progress, goes, asks, traps, ends, nothing, progress, returns}
use Rattle.loom_flow.specs.FlatTrace.{question_lists, progress_lists, runs}
use Rattle.loom_flow.proofs.Relations.{Within, breaks, emit_within}
use Rattle.loom_flow.proofs.Steps.{leads_anywhere, meets_progress, progress_open, by_states, returned, fetched}

-- More steps give more.

pub runs_open : (c : Flow) (t : Thread) → t.stopped [] Open → (n : ℕ) (z : Position) → runs c t n z [] Open
runs_open c t stops zero z = (refl, refl)
runs_open c t stops (suc n) z = progress_open t (runs c t n) (progress c z) stops (runs_open c t stops n)

pub runs_more : (c : Flow) (t : Thread) → t.stopped [] Open → (n : ℕ) (z : Position) → Within (runs c t n z) (runs c t (suc n) z)
runs_more c t stops zero z = breaks (runs c t 1 z) (runs_open c t stops 1 z)
runs_more c t stops (suc n) z =
    meets_progress true t (runs c t n) (runs c t (suc n)) (progress c z) (leads_anywhere (λ p. Within (runs c t n p) (runs c t (suc n) p)) (runs_more c t stops n) (progress c z))

-- Any number of steps

abbrev pub ever : Flow → Thread → Position → Lists
ever c t z = any (λ (n : ℕ). runs c t n z)

emit_on : (i : Item) (m : ℕ → Lists) → Within (emit i (any m)) (any (λ n. emit i (m n)))
emit_on i m es r (inl h) = (0, inl h)
emit_on i m es r (inr h) = (h.2.0, inr (h.0, h.1, h.2.1))

any_on : {A : Type 0} (m : A → ℕ → Lists) → Within (any (λ v. any (m v))) (any (λ n. any (λ v. m v n)))
any_on m es r h = (h.1.0, (h.0, h.1.1))

either_on : (k l : Lists) (m n : ℕ → Lists) → Within k (any m) → Within l (any n) → Within (either k l) (any (λ j. either (m j) (n j)))
either_on k l m n f g es r (inl h) = let x : any m es r = f es r h in (x.0, inl x.1)
either_on k l m n f g es r (inr h) = let x : any n es r = g es r h in (x.0, inr x.1)

still : (k : Lists) → Within k (any (λ (n : ℕ). k))
still k es r h = (0, h)

each_on : {A : Type 0} (i : A → Item) (m : A → ℕ → Lists) → Within (any (λ v. emit (i v) (any (m v)))) (any (λ n. any (λ v. emit (i v) (m v n))))
each_on i m es r h = let g : any (λ n. emit (i h.0) (m h.0 n)) es r = emit_on (i h.0) (m h.0) es r h.1 in (g.0, (h.0, g.1))

joined_on : (t : Thread) (line : ℕ) (v : ℤ) (m : ℕ → Lists) → Within (trace.join_of t line v (any m)) (any (λ n. trace.join_of t line v (m n)))
joined_on t line (pos c) m =
    either_on (trap_lists t line (trace.not_spawned (pos c))) (emit (made line (trace.join c)) (any m)) (λ n. trap_lists t line (trace.not_spawned (pos c))) (λ n. emit (made line (trace.join c)) (m n))
    (still (trap_lists t line (trace.not_spawned (pos c)))) (emit_on (made line (trace.join c)) m)
joined_on t line (negsuc c) m = still (trap_lists t line (trace.not_spawned (negsuc c)))

question_on : (t : Thread) (line : ℕ) (q : Question) (m : ℤ → ℕ → Lists) → Within (question_lists t line q (λ v. any (m v))) (any (λ n. question_lists t line q (λ v. m v n)))
question_on t line (read w) m = each_on (λ v. made line (trace.read w v)) m
question_on t line (write w v) m = emit_on (made line (trace.write w v)) (m (pos 0))
question_on t line (lock x) m = emit_on (made line (trace.lock x)) (m (pos 0))
question_on t line (unlock x) m =
    either_on (trap_lists t line (trace.not_held x)) (emit (made line (trace.unlock x)) (any (m (pos 0)))) (λ n. trap_lists t line (trace.not_held x)) (λ n. emit (made line (trace.unlock x)) (m (pos 0) n))
    (still (trap_lists t line (trace.not_held x))) (emit_on (made line (trace.unlock x)) (m (pos 0)))
question_on t line (down x) m = emit_on (made line (trace.down x)) (m (pos 0))
question_on t line (up x) m =
    either_on (trap_lists t line (trace.overflow x)) (emit (made line (trace.up x)) (any (m (pos 0)))) (λ n. trap_lists t line (trace.overflow x)) (λ n. emit (made line (trace.up x)) (m (pos 0) n))
    (still (trap_lists t line (trace.overflow x))) (emit_on (made line (trace.up x)) (m (pos 0)))
question_on t line (spawn f vs) m =
    either_on (trap_lists t line trace.threads) (any (λ k. emit (made line (trace.spawn k f vs)) (any (m (pos k))))) (λ n. trap_lists t line trace.threads) (λ n. any (λ k. emit (made line (trace.spawn k f vs)) (m (pos k) n)))
    (still (trap_lists t line trace.threads)) (each_on (λ k. made line (trace.spawn k f vs)) (λ k. m (pos k)))
question_on t line (join v) m = joined_on t line v (m (pos 0))
question_on t line (print v) m = emit_on (made line (trace.print v)) (m (pos 0))

progress_on : (t : Thread) (m : ℕ → Position → Lists) (x : Progress) → Within (progress_lists t (λ z. any (λ n. m n z)) x) (any (λ n. progress_lists t (m n) x))
progress_on t m (goes None z) = λ es r h. h
progress_on t m (goes (Some i) z) = emit_on i (λ n. m n z)
progress_on t m (asks line q behind) = question_on t line q (λ v n. m n (behind v))
progress_on t m (traps line c) = still (trap_lists t line c)
progress_on t m ends = still t.stopped
progress_on t m nothing = still broken

pub ever_progress : (c : Flow) (t : Thread) (z : Position) → Within (progress_lists t (ever c t) (progress c z)) (ever c t z)
ever_progress c t z es r h = let g : any (λ (n : ℕ). progress_lists t (runs c t n) (progress c z)) es r = progress_on t (runs c t) (progress c z) es r h in (suc g.0, g.1)

pub ever_open : (c : Flow) (t : Thread) (z : Position) → ever c t z [] Open
ever_open c t z = (0, (refl, refl))

-- Both from one state to the next

-- runs from a state, by so many steps and by any number
abbrev pub runs_from : Flow → Thread → ℕ → State → Lists
runs_from c t n z = runs c t n (before z)

abbrev pub ever_from : Flow → Thread → State → Lists
ever_from c t z = ever c t (before z)

runs_over : (c : Flow) (t : Thread) → t.stopped [] Open → (n : ℕ) → Within (runs c t n over) t.stopped
runs_over c t stops zero = breaks t.stopped stops
runs_over c t stops (suc n) = λ es r h. h

runs_returned : (c : Flow) (t : Thread) → t.stopped [] Open → (n : ℕ) (vs : List ℤ) (v : ℤ) (below : List Frame) → Within (runs c t n (returns c vs v below)) (returned c t (runs_from c t n) vs v below)
runs_returned c t stops n vs v [] = runs_over c t stops n
runs_returned c t stops n vs v (f ∷ fs) = λ es r h. h

runs_by_states : (c : Flow) (t : Thread) → t.stopped [] Open → (n : ℕ) (z : Position) → Within (runs c t n z) (by_states c t (runs_from c t n) z)
runs_by_states c t stops n (before z) = λ es r h. h
runs_by_states c t stops n (leaves z v) = λ es r h.
    emit_within (out z.func) (runs c t n (returns c z.values v z.below)) (returned c t (runs_from c t n) z.values v z.below) (runs_returned c t stops n z.values v z.below) es r (runs_more c t stops n (leaves z v) es r h)
runs_by_states c t stops n over = runs_over c t stops n

-- with one step more
pub runs_next : (c : Flow) (t : Thread) → t.stopped [] Open → (n : ℕ) (z : State) → Within (runs_from c t (suc n) z) (fetched c t (runs_from c t n) z (slice_get c.code z.at))
runs_next c t stops n z =
    meets_progress true t (runs c t n) (by_states c t (runs_from c t n)) (progress c (before z))
    (leads_anywhere (λ p. Within (runs c t n p) (by_states c t (runs_from c t n) p)) (runs_by_states c t stops n) (progress c (before z)))

pub runs_fetched : (c : Flow) (t : Thread) → t.stopped [] Open → (n : ℕ) (z : State) → Within (runs_from c t n z) (fetched c t (runs_from c t n) z (slice_get c.code z.at))
runs_fetched c t stops n z = λ es r h. runs_next c t stops n z es r (runs_more c t stops n (before z) es r h)

ever_returned : (c : Flow) (t : Thread) (vs : List ℤ) (v : ℤ) (below : List Frame) → Within (returned c t (ever_from c t) vs v below) (ever c t (returns c vs v below))
ever_returned c t vs v [] = λ es r h. (1, h)
ever_returned c t vs v (f ∷ fs) = λ es r h. h

ever_by_states : (c : Flow) (t : Thread) (z : Position) → Within (by_states c t (ever_from c t) z) (ever c t z)
ever_by_states c t (before z) = λ es r h. h
ever_by_states c t (leaves z v) = λ es r h.
    ever_progress c t (leaves z v) es r (emit_within (out z.func) (returned c t (ever_from c t) z.values v z.below) (ever c t (returns c z.values v z.below)) (ever_returned c t z.values v z.below) es r h)
ever_by_states c t over = λ es r h. (1, h)

pub ever_fetched : (c : Flow) (t : Thread) (z : State) → Within (fetched c t (ever_from c t) z (slice_get c.code z.at)) (ever_from c t z)
ever_fetched c t z = λ es r h.
    ever_progress c t (before z) es r
    (meets_progress true t (by_states c t (ever_from c t)) (ever c t) (progress c (before z))
    (leads_anywhere (λ p. Within (by_states c t (ever_from c t) p) (ever c t p)) (ever_by_states c t) (progress c (before z))) es r h)
