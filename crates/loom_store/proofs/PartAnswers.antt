-- What an act does to a part of a store answers the request.
use Rattle.std.proofs.Common.{ℕ, ◌-◌, ◌≡◌, true, false, not, pos, List, slice_get, Option, Some, refl, sym, ap, ◌∙◌, subst}
use Rattle.std.specs.Prelude.{slice_set}
use Rattle.loom_trace.specs.declared.request.Request.{Request}
use Rattle.loom_trace.specs.declared.request.Request.TheVariants as r
use Rattle.loom_event.specs.Answer.{asks_begin, request_for}
use Rattle.loom_event.specs.Replay.{ThreadState, Store, IsRunning, AwaitsBegin, counted_down, IsDisabled}
use Rattle.loom_store.specs.declared.answer.Answer.{Answer}
use Rattle.loom_store.specs.declared.answer.Answer.TheVariants as a
use Rattle.loom_store.specs.Parts.{Locks, Downs}
use Rattle.loom_store.specs.Threads.{Threads}
use Rattle.loom_store.specs.Answer.{MayAsk, Answers}
use Rattle.loom_store.proofs.ThreadList.{thread_found, thread_put}

-- The same request of the same store is answered alike.
pub answered : (s old : Store) (t : ℕ) (p q : Request) (x : Answer) (new : Store) → s ≡ old → q ≡ p → MayAsk old t q
    → (MayAsk s t p → Answers s t p x new) → Answers old t q x new
answered s old t p q x new store request may h =
    let asks : MayAsk s t p = subst (λ (z : Store). MayAsk z t p) (sym store) (subst (MayAsk old t) request may) in
    subst (λ (z : Request). Answers old t z x new) (sym request) (subst (λ (z : Store). Answers z t p x new) store (h asks))

unborn : (s : Store) (t l : ℕ) → MayAsk s t (r.Begin l) → AwaitsBegin s t
unborn s t l h = record { state = h.state; is = h.is; not_begun = h.begun }

pub running : (s : Store) (t : ℕ) (q : Request) → asks_begin q ≡ false → MayAsk s t q → IsRunning s t
running s t q other h = record { state = h.state; is = h.is; begun = h.begun ∙ ap not other; not_ended = h.lives }

-- the store's threads, of which these were spawned
abbrev pub threads_of : Store → List ThreadState → Threads
threads_of s xs = record { spawned = xs; most = s.most }

abbrev pub with_threads : Store → Threads → Store
with_threads s threads = record s { spawned = threads.spawned; most = threads.most }

pub begins : (s : Store) (t l : ℕ) (threads : Threads) → MayAsk s t (r.Begin l)
    → ((x : ThreadState) → slice_get s.spawned (t - 1) ≡ Some x → threads ≡ threads_of s (slice_set s.spawned (t - 1) (record x { begun = true })))
    → Answers s t (r.Begin l) (a.Granted (pos 0)) (with_threads s threads)
begins s t l threads h put =
    let is = put h.state (thread_found s t h.state h.is) in
    (refl, (unborn s t l h, ap (with_threads s) is ∙ sym (thread_put s t (λ x. record x { begun = true }) h.state h.is)))

pub ends : (s : Store) (t l : ℕ) (threads : Threads) → MayAsk s t (r.End l)
    → ((x : ThreadState) → slice_get s.spawned (t - 1) ≡ Some x → threads ≡ threads_of s (slice_set s.spawned (t - 1) (record x { ended = true })))
    → Answers s t (r.End l) (a.Granted (pos 0)) (with_threads s threads)
ends s t l threads h put =
    let is = put h.state (thread_found s t h.state h.is) in
    let end = ap (with_threads s) is ∙ sym (thread_put s t (λ x. record x { ended = true }) h.state h.is) in
    (refl, ((running s t (r.End l) refl h, tt), end))

pub locks : (s : Store) (t l m : ℕ) (x : Answer) (holders : List (Option ℕ)) → MayAsk s t (r.Lock l m) → Locks s.holders m t x holders
    → Answers s t (r.Lock l m) x (record s { holders = holders })
locks s t l m (a.Granted v) holders may h = (h.0, ((running s t (r.Lock l m) refl may, h.1), ap (λ z. record s { holders = z }) h.2))
locks s t l m (a.Disabled what) holders may h =
    ((l, ap (request_for l) h.0), (subst (IsDisabled s) (sym h.0) h.1, ap (λ z. record s { holders = z }) h.2))
locks s t l m (a.Trapped n) holders may h = absurd h

pub downs : (s : Store) (t l k : ℕ) (x : Answer) (semas : List ℕ) → MayAsk s t (r.Down l k) → Downs s.semas k x semas
    → Answers s t (r.Down l k) x (record s { semas = semas })
downs s t l k (a.Granted v) semas may h =
    let is : semas ≡ slice_set s.semas k (counted_down (slice_get s.semas k)) = h.1.2 ∙ ap (λ o. slice_set s.semas k (counted_down o)) (sym h.1.1) in
    (h.0, ((running s t (r.Down l k) refl may, (h.1.0, h.1.1)), ap (λ z. record s { semas = z }) is))
downs s t l k (a.Disabled what) semas may h =
    ((l, ap (request_for l) h.0), (subst (IsDisabled s) (sym h.0) h.1, ap (λ z. record s { semas = z }) h.2))
downs s t l k (a.Trapped n) semas may h = absurd h
