-- A journal that isn't finished, with one more entry of a thread.
use Rattle.std.proofs.Common.{ℕ, ◌≤◌, ◌≡◌, inl, inr, ◌==◌, Bool, true, false, not, List, [], ◌∷◌, ◌++◌, length, Option, Some, None, refl, sym, ap, ◌∙◌, subst, arith}
use Rattle.loom_tree.specs.Tree.{Source}
use Rattle.loom_lang.specs.Trace.{Act, begin, end, trap, read, write, lock, unlock, down, up, spawn, join, print}
use Rattle.loom_lang.specs.Acts.{Deed}
use Rattle.loom_trace.specs.declared.entry.Entry.{Entry}
use Rattle.loom_event.specs.TargetEvent.{TargetEvent, entry_by, event_of_deed}
use Rattle.loom_event.specs.Entries.{thread_of, is_thread}
use Rattle.loom_trace.specs.Limits.{thread_limit}
use Rattle.loom_event.specs.Replay.{ThreadState, Store, start, thread_at, after_event, after_act, replay, IsAllowed, IsAllowedAct, IsRunning, AwaitsBegin}
use Rattle.loom_law.specs.Control.{Command, entries_of}
use Rattle.loom_law.specs.Lawful.{Setting, HasPart, is_begin, IsLawful}
use Rattle.loom_law.specs.Laws.{IsUnfinished}
use Rattle.loom_law.proofs.Earlier.{by_test, same_number, replay_append, entry_thread}
use Rattle.loom_law.proofs.Turns.{eq_same}
use Rattle.loom_law.proofs.Longer.{mine, not_mine}
use Rattle.loom_law.proofs.NoCommands.{thread_unfinished}
use Rattle.loom_strand.specs.Life.{has_none, is_end, has_ended}
use Rattle.loom_world.specs.Commands.{HaveExclusions}
use Rattle.loom_world.specs.Book.{setting_of}
use Rattle.loom_world.specs.BookInvariant.{IsAsFar}
use Rattle.loom_world.proofs.States.{IsOther, begun_by, ended_by, other_state, own_state, most_threads, few_threads}

-- The journal goes on, and its events leave this store.
pub record IsGoing (p : Source) (cs : List Command) (limit : ℕ) (es : List Entry) (st : Store) : Type 0 where
  pub lawful : IsLawful (setting_of p cs limit) es
  pub store : replay (start p thread_limit) lawful.events ≡ st
  pub exclusions : HaveExclusions p cs
  pub goes_on : IsUnfinished es
  pub far : (t : ℕ) (x : ThreadState) → thread_at st t ≡ Some x → IsAsFar (entries_of t es) x
  pub few : length st.spawned ≤ thread_limit

-- Lists with one entry more

some_more : (es : List Entry) (x : Entry) → has_none (es ++ x ∷ []) ≡ false
some_more [] x = refl
some_more (y ∷ es) x = refl

ended_last : (es : List Entry) (x : Entry) → has_ended (es ++ x ∷ []) ≡ is_end x
ended_last [] x = refl
ended_last (y ∷ []) x = refl
ended_last (y ∷ z ∷ es) x = ended_last (z ∷ es) x

-- a thread that wasn't spawned has made nothing
nothing_made : (s : Setting) (es : List Entry) (u : ℕ) (o : Option ThreadState) → HasPart s es u o → o ≡ None → entries_of u es ≡ []
nothing_made s es u None h is = h
nothing_made s es u (Some x) h is = cc

not_there : {p : Source} {cs : List Command} {limit : ℕ} {es : List Entry} {st : Store} → IsGoing p cs limit es st → (u : ℕ) → thread_at st u ≡ None → entries_of u es ≡ []
not_there {p} {cs} {limit} {es} {st} g u none =
    nothing_made (setting_of p cs limit) es u _ (g.lawful.parts u) (ap (λ z. thread_at z u) g.store ∙ none)

-- How far threads are

far_own : (es : List Entry) (x : Entry) (y : ThreadState) → y.begun ≡ true → y.ended ≡ is_end x → IsAsFar (es ++ x ∷ []) y
far_own es x y b e = record { begun = b ∙ sym (ap not (some_more es x)); ended = e ∙ sym (ended_last es x) }

far_other : {p : Source} {cs : List Command} {limit : ℕ} {es : List Entry} {st : Store} → IsGoing p cs limit es st → (u : ℕ) (y : ThreadState) → IsOther st u y → IsAsFar (entries_of u es) y
far_other g u y (inl h) = g.far u y h
far_other g u y (inr h) =
    let none = not_there g u h.0 in
    record { begun = h.1.0 ∙ sym (ap (λ z. not (has_none z)) none); ended = h.1.1 ∙ sym (ap has_ended none) }

-- the entry is of thread t; the other threads are as they were, or new
far_more : {p : Source} {cs : List Command} {limit : ℕ} {es : List Entry} {st : Store} → IsGoing p cs limit es st → (st' : Store) (t : ℕ) (x : Entry) → thread_of x ≡ Some t
    → ((y : ThreadState) → thread_at st' t ≡ Some y → (y.begun ≡ true) × (y.ended ≡ is_end x))
    → ((u : ℕ) (y : ThreadState) → (t ≡ u → ⊥) → thread_at st' u ≡ Some y → IsOther st u y)
    → (u : ℕ) (y : ThreadState) → thread_at st' u ≡ Some y → IsAsFar (entries_of u (es ++ x ∷ [])) y
far_more {p} {cs} {limit} {es} {st} g st' t x of self others u y is =
    by_test (t == u) (IsAsFar (entries_of u (es ++ x ∷ [])) y)
    (λ same.
    let theirs : thread_at st' t ≡ Some y = subst (λ z. thread_at st' z ≡ Some y) (sym (same_number t u same)) is in
    let s = self y theirs in
    subst (λ z. IsAsFar z y) (sym (mine u x es (ap (is_thread u) of ∙ same))) (far_own (entries_of u es) x y s.0 s.1))
    (λ other.
    let ne : t ≡ u → ⊥ = λ (h : t ≡ u). let yes : (t == u) ≡ true = subst (λ z. (t == z) ≡ true) h (eq_same t) in cc in
    subst (λ z. IsAsFar z y) (sym (not_mine u x es (ap (is_thread u) of ∙ other))) (far_other g u y (others u y ne is)))

-- With an event

not_not : (b : Bool) → not (not b) ≡ b
not_not true = refl
not_not false = refl

is_begun : (st : Store) (t : ℕ) (z : ThreadState) → thread_at st t ≡ Some z → IsRunning st t → z.begun ≡ true
is_begun st t z there r = let same : r.state ≡ z = cc (r.is, there) in subst (λ (x : ThreadState). x.begun ≡ true) same r.begun

is_unborn : (st : Store) (t : ℕ) (z : ThreadState) → thread_at st t ≡ Some z → AwaitsBegin st t → z.begun ≡ false
is_unborn st t z there r = let same : r.state ≡ z = cc (r.is, there) in subst (λ (x : ThreadState). x.begun ≡ false) same r.not_begun

-- What the thread is behind an act.
record IsFollowed (t l : ℕ) (a : Act) (z : ThreadState) : Type 0 where
  begun : begun_by a z.begun ≡ true
  ended : ended_by a z.ended ≡ is_end (entry_by t l a)
  -- its begin is its first act
  begins : is_begin (entry_by t l a) ≡ not z.begun

with_first : (t l : ℕ) (z : ThreadState) → z.ended ≡ false → z.begun ≡ false → IsFollowed t l begin z
with_first t l z lives unborn = record { begun = refl; ended = lives; begins = sym (ap not unborn) }

with_later : (t l : ℕ) (a : Act) (z : ThreadState) → z.begun ≡ true → begun_by a z.begun ≡ true → ended_by a z.ended ≡ is_end (entry_by t l a)
    → is_begin (entry_by t l a) ≡ false → IsFollowed t l a z
with_later t l a z b begun ended begins = record { begun = begun; ended = ended; begins = begins ∙ sym (ap not b) }

by_act : (st : Store) (t l : ℕ) (a : Act) (z : ThreadState) → thread_at st t ≡ Some z → z.ended ≡ false → IsAllowedAct st t a → IsFollowed t l a z
by_act st t l begin z there lives h = with_first t l z lives (is_unborn st t z there h)
by_act st t l end z there lives h = let b = is_begun st t z there h.0 in with_later t l end z b b refl refl
by_act st t l (trap c) z there lives h = let b = is_begun st t z there h.0 in with_later t l (trap c) z b b lives refl
by_act st t l (read w v) z there lives h = let b = is_begun st t z there h.0 in with_later t l (read w v) z b b lives refl
by_act st t l (write w v) z there lives h = let b = is_begun st t z there h.0 in with_later t l (write w v) z b b lives refl
by_act st t l (lock m) z there lives h = let b = is_begun st t z there h.0 in with_later t l (lock m) z b b lives refl
by_act st t l (unlock m) z there lives h = let b = is_begun st t z there h.0 in with_later t l (unlock m) z b b lives refl
by_act st t l (down k) z there lives h = let b = is_begun st t z there h.0 in with_later t l (down k) z b b lives refl
by_act st t l (up k) z there lives h = let b = is_begun st t z there h.0 in with_later t l (up k) z b b lives refl
by_act st t l (spawn c f us) z there lives h = let b = is_begun st t z there h.0 in with_later t l (spawn c f us) z b b lives refl
by_act st t l (join c) z there lives h = let b = is_begun st t z there h.0 in with_later t l (join c) z b b lives refl
by_act st t l (print v) z there lives h = let b = is_begun st t z there h.0 in with_later t l (print v) z b b lives refl

-- A thread's begin is its first entry.
pub begins_first : {p : Source} {cs : List Command} {limit : ℕ} {es : List Entry} {st : Store} → IsGoing p cs limit es st → (t : ℕ) (z : ThreadState) → thread_at st t ≡ Some z → z.ended ≡ false
    → (l : ℕ) (a : Act) → IsAllowedAct st t a → is_begin (entry_by t l a) ≡ has_none (entries_of t es)
begins_first {p} {cs} {limit} {es} {st} g t z there lives l a allowed =
    let follows = by_act st t l a z there lives allowed in
    let far = g.far t z there in
    follows.begins ∙ (ap not far.begun ∙ not_not (has_none (entries_of t es)))

pub event_goes : {p : Source} {cs : List Command} {limit : ℕ} {es : List Entry} {st : Store} → (g : IsGoing p cs limit es st)
    → (t : ℕ) (z : ThreadState) → thread_at st t ≡ Some z → z.ended ≡ false → (d : Deed) → IsAllowed st (event_of_deed t d)
    → (h' : IsLawful (setting_of p cs limit) (es ++ entry_by t d.line d.act ∷ [])) × (h'.events ≡ g.lawful.events ++ event_of_deed t d ∷ [])
    → IsGoing p cs limit (es ++ entry_by t d.line d.act ∷ []) (after_event st (event_of_deed t d))
event_goes {p} {cs} {limit} {es} {st} g t z there lives d allowed more =
    let x : Entry = entry_by t d.line d.act in
    let y : TargetEvent = event_of_deed t d in
    let of : thread_of x ≡ Some t = entry_thread t d.line d.act in
    let follows = by_act st t d.line d.act z there lives allowed in
    let self : (u : ThreadState) → thread_at (after_act st t d.act) t ≡ Some u → (u.begun ≡ true) × (u.ended ≡ is_end x) =
    λ u is. (let b = own_state st t d.act z u there is in (b.0 ∙ follows.begun, b.1 ∙ follows.ended)) in
    record {
      lawful = more.0;
      store = ap (replay (start p thread_limit)) more.1 ∙ (replay_append (start p thread_limit) g.lawful.events (y ∷ []) ∙ ap (λ w. after_event w y) g.store);
      exclusions = g.exclusions;
      goes_on = thread_unfinished es x t of;
      far = far_more g (after_act st t d.act) t x of self (λ u w. other_state st t u d.act w);
      few = few_threads st t d.act (omega (arith, most_threads p g.lawful.events st g.store)) allowed g.few;
    }

-- With an operation the store stays as it is

pub operation_goes : {p : Source} {cs : List Command} {limit : ℕ} {es : List Entry} {st : Store} → (g : IsGoing p cs limit es st) → (t : ℕ) (z : ThreadState) → thread_at st t ≡ Some z → z.ended ≡ false
    → has_none (entries_of t es) ≡ false → (x : Entry) → thread_of x ≡ Some t → is_end x ≡ false
    → (more : (h' : IsLawful (setting_of p cs limit) (es ++ x ∷ [])) × (h'.events ≡ g.lawful.events)) → IsGoing p cs limit (es ++ x ∷ []) st
operation_goes {p} {cs} {limit} {es} {st} g t z there lives some x of no_end more =
    let begun : z.begun ≡ true = IsAsFar.begun (g.far t z there) ∙ ap not some in
    let self : (u : ThreadState) → thread_at st t ≡ Some u → (u.begun ≡ true) × (u.ended ≡ is_end x) =
    λ u is. (let same : z ≡ u = cc (there, is) in
    (subst (λ (w : ThreadState). w.begun ≡ true) same begun, subst (λ (w : ThreadState). w.ended ≡ is_end x) same (lives ∙ sym no_end))) in
    record {
      lawful = more.0;
      store = ap (replay (start p thread_limit)) more.1 ∙ g.store;
      exclusions = g.exclusions;
      goes_on = thread_unfinished es x t of;
      far = far_more g st t x of self (λ u w ne is. inl is);
      few = g.few;
    }
