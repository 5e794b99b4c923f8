-- What each thread is blocked at.
use Rattle.std.proofs.Common.{ℕ, zero, suc, ◌-◌, ◌<◌, ◌≤◌, ◌≡◌, ◌==◌, true, false, List, [], ◌∷◌, ◌++◌, ℤ, slice_get, Option, Some, None, refl, sym, ap, ◌∙◌, subst, arith}
use Rattle.std.specs.Prelude.{slice_set}
use Rattle.std.proofs.lemmas.Bool.{eq-eqb, ne_eqb}
use Rattle.std.proofs.lemmas.List.{length-set}
use Rattle.loom_lang.specs.Trace.{Act, begin, end, trap, read, write, lock, unlock, down, up, spawn, join, print}
use Rattle.loom_lang.specs.Acts.{Deed}
use Rattle.loom_trace.specs.declared.entry.Entry.{Entry}
use Rattle.loom_trace.specs.declared.entry.What.{What}
use Rattle.loom_trace.specs.declared.request.Request.{Request}
use Rattle.loom_trace.specs.declared.request.Request.TheVariants as r
use Rattle.loom_event.specs.TargetEvent.{entry_by}
use Rattle.loom_event.specs.Answer.{trap_deed, IsEntryOf}
use Rattle.loom_event.specs.Entries.{thread_of, is_thread, last_of_thread}
use Rattle.loom_law.specs.Control.{listed_places}
use Rattle.loom_store.specs.declared.answer.Answer.{Answer}
use Rattle.loom_store.specs.declared.answer.Answer.TheVariants as a
use Rattle.loom_store.specs.Answer.{given_deed}
use Rattle.loom_law.proofs.Earlier.{by_test, same_number}
use Rattle.loom_world.specs.Book.{Book}
use Rattle.loom_world.specs.BookInvariant.{wait_in, wait_unless, wait_of, CanAwait, HasWaits}
use Rattle.loom_world.specs.Entry.{IsGrantWith, IsEntryFor}
use Rattle.loom_world.proofs.LastEntries.{last_mine, last_other}
use Rattle.loom_world.proofs.SinceAsked.{none_listed, listed_stays}

-- Lists with an element changed

set_here : {A : Type 0} (xs : List A) (i : ℕ) (y z : A) → slice_get (slice_set xs i y) i ≡ Some z → y ≡ z
set_here [] i y z h = cc
set_here (x ∷ xs) zero y z h = cc
set_here (x ∷ xs) (suc i) y z h = set_here xs i y z h

pub set_elsewhere : {A : Type 0} (xs : List A) (i j : ℕ) (y : A) → (i ≡ j → ⊥) → slice_get (slice_set xs i y) j ≡ slice_get xs j
set_elsewhere [] i j y h = refl
set_elsewhere (x ∷ xs) zero zero y h = absurd (h refl)
set_elsewhere (x ∷ xs) zero (suc j) y h = refl
set_elsewhere (x ∷ xs) (suc i) zero y h = refl
set_elsewhere (x ∷ xs) (suc i) (suc j) y h = set_elsewhere xs i j y (λ g. h (ap suc g))

-- What an entry says

wait_of_act : (t l : ℕ) (c : Act) → wait_in (Some (entry_by t l c)) ≡ None
wait_of_act t l begin = refl
wait_of_act t l end = refl
wait_of_act t l (trap c) = refl
wait_of_act t l (read x v) = refl
wait_of_act t l (write x v) = refl
wait_of_act t l (lock m) = refl
wait_of_act t l (unlock m) = refl
wait_of_act t l (down k) = refl
wait_of_act t l (up k) = refl
wait_of_act t l (spawn c f vs) = refl
wait_of_act t l (join c) = refl
wait_of_act t l (print v) = refl

wait_of_deed : (t : ℕ) (o : Option Deed) (x : Entry) → IsEntryOf t o x → wait_in (Some x) ≡ None
wait_of_deed t None x h = absurd h
wait_of_deed t (Some d) x h = ap (λ z. wait_in (Some z)) h ∙ wait_of_act t d.line d.act

wait_of_grant : (t : ℕ) (q : Request) (v : ℤ) (x : Entry) → IsGrantWith t q v x → wait_in (Some x) ≡ None
wait_of_grant t (r.Begin l) v x h = wait_of_deed t (given_deed (r.Begin l) v) x h
wait_of_grant t (r.End l) v x h = wait_of_deed t (given_deed (r.End l) v) x h
wait_of_grant t (r.Trap l n) v x h = wait_of_deed t (given_deed (r.Trap l n) v) x h
wait_of_grant t (r.Read l w) v x h = wait_of_deed t (given_deed (r.Read l w) v) x h
wait_of_grant t (r.Write l w u) v x h = wait_of_deed t (given_deed (r.Write l w u) v) x h
wait_of_grant t (r.Lock l m) v x h = wait_of_deed t (given_deed (r.Lock l m) v) x h
wait_of_grant t (r.Unlock l m) v x h = wait_of_deed t (given_deed (r.Unlock l m) v) x h
wait_of_grant t (r.Down l k) v x h = wait_of_deed t (given_deed (r.Down l k) v) x h
wait_of_grant t (r.Up l k) v x h = wait_of_deed t (given_deed (r.Up l k) v) x h
wait_of_grant t (r.Spawn l f us) v x h = wait_of_deed t (given_deed (r.Spawn l f us) v) x h
wait_of_grant t (r.Join l u) v x h = wait_of_deed t (given_deed (r.Join l u) v) x h
wait_of_grant t (r.Print l u) v x h = wait_of_deed t (given_deed (r.Print l u) v) x h
wait_of_grant t (r.Tick l k) v x h = ap (λ z. wait_in (Some z)) h
wait_of_grant t _ v x h = absurd h

-- The entry says what the answer says.
pub wait_of_entry : (t : ℕ) (q : Request) (y : Answer) (x : Entry) → IsEntryFor t q y x → wait_in (Some x) ≡ wait_of y
wait_of_entry t q (a.Granted v) x h = wait_of_grant t q v x h
wait_of_entry t q (a.Disabled what) x h = ap (λ z. wait_in (Some z)) h
wait_of_entry t q (a.Trapped n) x h = wait_of_deed t (trap_deed q) x h

-- The notes with one entry more

number : (t i : ℕ) → 1 ≤ t → t - 1 ≡ i → t ≡ suc i
number t i h g = omega (arith, h, g)

numbers_differ : (t i : ℕ) → 1 ≤ t → (t - 1 ≡ i → ⊥) → (t == suc i) ≡ false
numbers_differ t i h ne = ne_eqb t (suc i) (λ g. ne (omega (arith, h, g)))

place_there : (t n : ℕ) → 1 ≤ t → t ≤ n → t - 1 < n
place_there t n h g = omega (arith, h, g)

-- of thread t
pub waits_more : (b new : Book) (ws : List (Option What)) (t : ℕ) (x : Entry) (o : Option What) → HasWaits b ws → 1 ≤ t → thread_of x ≡ Some t
    → new.entries ≡ b.entries ++ x ∷ [] → wait_in (Some x) ≡ o → ((w : What) → CanAwait b.store w → CanAwait new.store w) → ((w : What) → o ≡ Some w → CanAwait new.store w)
    → HasWaits new (slice_set ws (t - 1) o)
waits_more b new ws t x o h first of more says stays can = record { count = length-set ws (t - 1) o ∙ h.count; each = each; can = can_all }
  where
    each : (i : ℕ) (w : Option What) → slice_get (slice_set ws (t - 1) o) i ≡ Some w → w ≡ wait_unless (listed_places (suc i) new.entries) (wait_in (last_of_thread (suc i) None new.entries))
    each i w is =
        by_test ((t - 1) == i) (w ≡ wait_unless (listed_places (suc i) new.entries) (wait_in (last_of_thread (suc i) None new.entries)))
        (λ here.
        let at : t - 1 ≡ i = same_number (t - 1) i here in
        let it : t ≡ suc i = number t i first at in
        let own : (t == suc i) ≡ true = eq-eqb t (suc i) it in
        let same : o ≡ w = set_here ws i o w (subst (λ z. slice_get (slice_set ws z o) i ≡ Some w) at is) in
        let last : last_of_thread (suc i) None new.entries ≡ Some x = ap (λ z. last_of_thread (suc i) None z) more ∙ last_mine (suc i) None b.entries x (ap (is_thread (suc i)) of ∙ own) in
        let none : listed_places (suc i) new.entries ≡ [] = ap (listed_places (suc i)) more ∙ none_listed b.entries x t (suc i) of own in
        sym same ∙ (sym says ∙ sym (ap (λ ls. wait_unless ls (wait_in (last_of_thread (suc i) None new.entries))) none ∙ ap wait_in last)))
        (λ away.
        let ne : t - 1 ≡ i → ⊥ = λ g. let yes : ((t - 1) == i) ≡ true = eq-eqb (t - 1) i g in cc in
        let other : (t == suc i) ≡ false = numbers_differ t i first ne in
        let last : last_of_thread (suc i) None new.entries ≡ last_of_thread (suc i) None b.entries =
        ap (λ z. last_of_thread (suc i) None z) more ∙ last_other (suc i) None b.entries x (ap (is_thread (suc i)) of ∙ other) in
        let listed : listed_places (suc i) new.entries ≡ listed_places (suc i) b.entries = ap (listed_places (suc i)) more ∙ listed_stays b.entries x t (suc i) of other in
        h.each i w (sym (set_elsewhere ws (t - 1) i o ne) ∙ is)
        ∙ sym (ap (λ ls. wait_unless ls (wait_in (last_of_thread (suc i) None new.entries))) listed ∙ ap (λ z. wait_unless (listed_places (suc i) b.entries) (wait_in z)) last))

    can_all : (i : ℕ) (w : What) → slice_get (slice_set ws (t - 1) o) i ≡ Some (Some w) → CanAwait new.store w
    can_all i w is =
        by_test ((t - 1) == i) (CanAwait new.store w)
        (λ here.
        let at : t - 1 ≡ i = same_number (t - 1) i here in
        can w (set_here ws i o (Some w) (subst (λ z. slice_get (slice_set ws z o) i ≡ Some (Some w)) at is)))
        (λ away.
        let ne : t - 1 ≡ i → ⊥ = λ g. let yes : ((t - 1) == i) ≡ true = eq-eqb (t - 1) i g in cc in
        stays w (h.can i w (sym (set_elsewhere ws (t - 1) i o ne) ∙ is)))
