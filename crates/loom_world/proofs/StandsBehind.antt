-- Where threads stand, with one more entry of a thread, and with a note of where it stands.
use Rattle.std.proofs.Common.{ℕ, zero, suc, ◌-◌, ◌≤◌, ◌≡◌, ◌==◌, inl, inr, Bool, true, false, not, ◌&&◌, List, [], ◌∷◌, ◌++◌, length, slice_get, Option, Some, None, refl, sym, ap, ◌∙◌, subst, arith, if◌then◌else◌}
use Rattle.std.specs.Prelude.{slice_set}
use Rattle.std.specs.List.{AllByRecursion}
use Rattle.std.specs.Option.{option_flatten}
use Rattle.std.proofs.lemmas.List.{length-set}
use Rattle.loom_trace.specs.declared.entry.Entry.{Entry}
use Rattle.loom_event.specs.Entries.{thread_of, is_thread}
use Rattle.loom_event.specs.Replay.{ThreadState, Store, thread_at}
use Rattle.loom_law.specs.Walk.{Version}
use Rattle.loom_law.specs.ThreadPart.{Own, ComesTo}
use Rattle.loom_law.specs.Control.{entries_of, versions_of, listed_places}
use Rattle.loom_law.specs.Lawful.{plans, own, running_thread}
use Rattle.loom_law.proofs.Earlier.{by_test, same_number}
use Rattle.loom_law.proofs.Longer.{not_mine, not_taken}
use Rattle.loom_world.specs.Book.{Book, setting, stand_at, IsStandOf, found_at, found_place, HasStands}
use Rattle.loom_world.specs.Asking.{forgotten}
use Rattle.loom_world.specs.Turned.{noted}
use Rattle.loom_world.proofs.SinceAsked.{none_listed, listed_stays}
use Rattle.loom_world.proofs.Notes.{set_elsewhere}
use Rattle.loom_world.proofs.States.{IsOther}

-- Notes

set_none : (xs : List (Option ℕ)) (i : ℕ) → option_flatten (slice_get (slice_set xs i None) i) ≡ None
set_none [] i = refl
set_none (x ∷ xs) zero = refl
set_none (x ∷ xs) (suc i) = set_none xs i

pub forgotten_here : (xs : List (Option ℕ)) (t : ℕ) → stand_at (forgotten xs t) t ≡ None
forgotten_here xs zero = refl
forgotten_here xs (suc i) = set_none xs i

pub forgotten_other : (xs : List (Option ℕ)) (t u : ℕ) → (t ≡ u → ⊥) → stand_at (forgotten xs t) u ≡ stand_at xs u
forgotten_other xs zero u ne = refl
forgotten_other xs (suc i) zero ne = refl
forgotten_other xs (suc i) (suc j) ne = ap option_flatten (set_elsewhere xs i j None (λ g. ne (ap suc g)))

forgotten_length : (xs : List (Option ℕ)) (t : ℕ) → length (forgotten xs t) ≡ length xs
forgotten_length xs zero = refl
forgotten_length xs (suc i) = length-set xs i None

pub noted_other : (xs : List (Option ℕ)) (t u k : ℕ) → (t ≡ u → ⊥) → stand_at (noted xs t k) u ≡ stand_at xs u
noted_other xs zero u k ne = refl
noted_other xs (suc i) zero k ne = refl
noted_other xs (suc i) (suc j) k ne = ap option_flatten (set_elsewhere xs i j (Some k) (λ g. ne (ap suc g)))

noted_length : (xs : List (Option ℕ)) (t k : ℕ) → length (noted xs t k) ≡ length xs
noted_length xs zero k = refl
noted_length xs (suc i) k = length-set xs i (Some k)

-- what is noted there is this, or the note is beyond the list
noted_set : (xs : List (Option ℕ)) (i k j : ℕ) → option_flatten (slice_get (slice_set xs i (Some k)) i) ≡ Some j → k ≡ j
noted_set [] i k j h = cc
noted_set (x ∷ xs) zero k j h = cc
noted_set (x ∷ xs) (suc i) k j h = noted_set xs i k j h

pub noted_here : (xs : List (Option ℕ)) (t k j : ℕ) → 1 ≤ t → stand_at (noted xs t k) t ≡ Some j → k ≡ j
noted_here xs zero k j first h = absurd (let no : ⊥ = omega (arith, first) in no)
noted_here xs (suc i) k j first h = noted_set xs i k j h

-- where there is a place for it
some_set : (xs : List (Option ℕ)) (i k : ℕ) → suc i ≤ length xs → option_flatten (slice_get (slice_set xs i (Some k)) i) ≡ None → ⊥
some_set [] i k less h = absurd (let no : ⊥ = omega (arith, less) in no)
some_set (x ∷ xs) zero k less h = cc
some_set (x ∷ xs) (suc i) k less h = some_set xs i k (omega (arith, less)) h

pub some_noted : (xs : List (Option ℕ)) (t k : ℕ) → 1 ≤ t → t ≤ length xs → stand_at (noted xs t k) t ≡ None → ⊥
some_noted xs zero k first within h = absurd (let no : ⊥ = omega (arith, first) in no)
some_noted xs (suc i) k first within h = some_set xs i k within h

-- as a change of the t-th one
pub forgotten_is : (xs : List (Option ℕ)) (t : ℕ) → 1 ≤ t → slice_set xs (t - 1) None ≡ forgotten xs t
forgotten_is xs zero h = absurd (let no : ⊥ = omega (arith, h) in no)
forgotten_is xs (suc i) h = ap (λ n. slice_set xs n None) (omega arith)

pub noted_is : (xs : List (Option ℕ)) (t k : ℕ) → 1 ≤ t → slice_set xs (t - 1) (Some k) ≡ noted xs t k
noted_is xs zero k h = absurd (let no : ⊥ = omega (arith, h) in no)
noted_is xs (suc i) k h = ap (λ n. slice_set xs n (Some k)) (omega arith)

-- Threads that run

pub not_running : (y : ThreadState) → y.begun ≡ false → running_thread (Some y) ≡ None
not_running y h = ap (λ (c : Bool). if c && not y.ended then Some y else None) h

-- a thread that is as it was, or new
pub runs_as : (s : Store) (o : Option ThreadState) (u : ℕ) → ((y : ThreadState) → o ≡ Some y → IsOther s u y) → (o ≡ None → thread_at s u ≡ None) → running_thread o ≡ running_thread (thread_at s u)
runs_as s None u some none = sym (ap running_thread (none refl))
runs_as s (Some y) u some none = by_other (some y refl)
  where
    by_other : IsOther s u y → running_thread (Some y) ≡ running_thread (thread_at s u)
    by_other (inl h) = sym (ap running_thread h)
    by_other (inr h) = not_running y h.1.0 ∙ sym (ap running_thread h.0)

-- The book with an entry of thread t

pub own_other : (b : Book) (x : Entry) (u : ℕ) (z : ThreadState) → is_thread u (thread_of x) ≡ false → own (setting b) (b.entries ++ x ∷ []) u z ≡ own (setting b) b.entries u z
own_other b x u z other =
    ap (λ (vs : List Version). record { thread = u; func = z.func; args = z.args; versions = vs; entries = entries_of u (b.entries ++ x ∷ []) }) (not_taken b.commands u x b.entries other)
    ∙ ap (λ (ys : List Entry). record { thread = u; func = z.func; args = z.args; versions = versions_of b.commands u b.entries; entries = ys }) (not_mine u x b.entries other)

abbrev pub book_behind : Book → ℕ → Entry → Store → Book
book_behind b t x st = record b { entries = b.entries ++ x ∷ []; store = st; stands = forgotten b.stands t }

pub stands_behind : (b : Book) (t : ℕ) (x : Entry) (st : Store) → HasStands b → thread_of x ≡ Some t
    → ((u : ℕ) → (t == u) ≡ false → running_thread (thread_at st u) ≡ running_thread (thread_at b.store u)) → HasStands (book_behind b t x st)
stands_behind b t x st h of runs = record {
  count = forgotten_length b.stands t ∙ h.count;
  each = λ u z k running there. by_test (t == u) (IsStandOf (book_behind b t x st) u z k)
      (λ same.
      let here : stand_at (forgotten b.stands u) u ≡ Some k = subst (λ n. stand_at (forgotten b.stands n) u ≡ Some k) (same_number t u same) there in
      let no : None ≡ Some k = sym (forgotten_here b.stands u) ∙ here in cc)
      (λ other. stand_other u z k other running there);
  listed = λ u. by_test (t == u) (AllByRecursion (λ k. found_place (book_behind b t x st) u ≡ Some k) (listed_places u (b.entries ++ x ∷ [])))
      (λ same. subst (AllByRecursion (λ k. found_place (book_behind b t x st) u ≡ Some k)) (sym (none_listed b.entries x t u of same)) tt)
      (λ other.
      let found : found_place (book_behind b t x st) u ≡ found_place b u =
      ap (λ (o : Option ThreadState). found_at o (stand_at (forgotten b.stands t) u)) (runs u other)
      ∙ ap (found_at (running_thread (thread_at b.store u))) (forgotten_other b.stands t u (differ t u other)) in
      subst (AllByRecursion (λ k. found_place (book_behind b t x st) u ≡ Some k)) (sym (listed_stays b.entries x t u of other))
      (subst (λ (o : Option ℕ). AllByRecursion (λ k. o ≡ Some k) (listed_places u b.entries)) (sym found) (h.listed u)));
}
  where
    differ : (m n : ℕ) → (m == n) ≡ false → m ≡ n → ⊥
    differ m n other same = let yes : (m == n) ≡ true = grind (arith, same) in let no : true ≡ false = sym yes ∙ other in cc

    stand_other : (u : ℕ) (z : ThreadState) (k : ℕ) → (t == u) ≡ false → running_thread (thread_at st u) ≡ Some z → stand_at (forgotten b.stands t) u ≡ Some k
        → IsStandOf (book_behind b t x st) u z k
    stand_other u z k other running there =
        let s = h.each u z k (sym (runs u other) ∙ running) (sym (forgotten_other b.stands t u (differ t u other)) ∙ there) in
        record {
          place = s.place;
          number = s.number;
          comes = subst (λ (o : Own). ComesTo b.program (plans (setting b)) o s.place) (sym (own_other b x u z (ap (is_thread u) of ∙ other))) s.comes;
        }

-- The book with a note of thread t

abbrev pub book_noted : Book → ℕ → ℕ → Book
book_noted b t k = record b { stands = noted b.stands t k }

pub stands_noted : (b : Book) (t k : ℕ) → 1 ≤ t → HasStands b → ((z : ThreadState) → running_thread (thread_at b.store t) ≡ Some z → IsStandOf b t z k)
    → AllByRecursion (λ j. j ≡ k) (listed_places t b.entries) → t ≤ length b.stands → HasStands (book_noted b t k)
stands_noted b t k first h stands listed within = record {
  count = noted_length b.stands t k ∙ h.count;
  each = λ u z j running there. by_test (t == u) (IsStandOf (book_noted b t k) u z j)
      (λ same.
      let it : t ≡ u = same_number t u same in
      let here : stand_at (noted b.stands t k) t ≡ Some j = subst (λ n. stand_at (noted b.stands t k) n ≡ Some j) (sym it) there in
      let number : k ≡ j = noted_here b.stands t k j first here in
      let s : IsStandOf b t z k = stands z (subst (λ n. running_thread (thread_at b.store n) ≡ Some z) (sym it) running) in
      let moved : IsStandOf b u z j = subst (λ n. IsStandOf b n z j) it (subst (IsStandOf b t z) number s) in
      record { place = moved.place; number = moved.number; comes = moved.comes })
      (λ other. (let s = h.each u z j running (sym (noted_other b.stands t u k (differ t u other)) ∙ there) in record { place = s.place; number = s.number; comes = s.comes }));
  listed = λ u. by_test (t == u) (AllByRecursion (λ j. found_place (book_noted b t k) u ≡ Some j) (listed_places u b.entries))
      (λ same.
      let it : t ≡ u = same_number t u same in
      subst (λ n. AllByRecursion (λ j. found_place (book_noted b t k) n ≡ Some j) (listed_places n b.entries)) it (listed_here (running_thread (thread_at b.store t)) refl (listed_places t b.entries) listed (h.listed t)))
      (λ other.
      subst (λ (o : Option ℕ). AllByRecursion (λ j. o ≡ Some j) (listed_places u b.entries))
      (sym (ap (found_at (running_thread (thread_at b.store u))) (noted_other b.stands t u k (differ t u other)))) (h.listed u));
}
  where
    differ : (m n : ℕ) → (m == n) ≡ false → m ≡ n → ⊥
    differ m n other same = let yes : (m == n) ≡ true = grind (arith, same) in let no : true ≡ false = sym yes ∙ other in cc

    set_there : (xs : List (Option ℕ)) (i : ℕ) → suc i ≤ length xs → option_flatten (slice_get (slice_set xs i (Some k)) i) ≡ Some k
    set_there [] i less = absurd (let no : ⊥ = omega (arith, less) in no)
    set_there (x ∷ xs) zero less = refl
    set_there (x ∷ xs) (suc i) less = set_there xs i (omega (arith, less))

    there : (n : ℕ) → 1 ≤ n → n ≤ length b.stands → stand_at (noted b.stands n k) n ≡ Some k
    there zero a c = absurd (let no : ⊥ = omega (arith, a) in no)
    there (suc i) a c = set_there b.stands i c

    -- a thread that runs is found where it is noted; one that doesn't is at place 0, as before
    listed_here : (o : Option ThreadState) → running_thread (thread_at b.store t) ≡ o → (ys : List ℕ) → AllByRecursion (λ j. j ≡ k) ys
        → AllByRecursion (λ j. found_place b t ≡ Some j) ys → AllByRecursion (λ j. found_place (book_noted b t k) t ≡ Some j) ys
    listed_here o is [] at was = tt
    listed_here None is (y ∷ ys) at was =
        let now : found_place (book_noted b t k) t ≡ Some 0 = ap (λ (z : Option ThreadState). found_at z (stand_at (noted b.stands t k) t)) is in
        let before : found_place b t ≡ Some 0 = ap (λ (z : Option ThreadState). found_at z (stand_at b.stands t)) is in
        (now ∙ (sym before ∙ was.0), listed_here None is ys at.1 was.1)
    listed_here (Some z) is (y ∷ ys) at was =
        let now : found_place (book_noted b t k) t ≡ Some k = ap (λ (v : Option ThreadState). found_at v (stand_at (noted b.stands t k) t)) is ∙ there t first within in
        (now ∙ ap Some (sym at.0), listed_here (Some z) is ys at.1 was.1)
