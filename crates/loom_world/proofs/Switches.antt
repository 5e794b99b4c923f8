-- From where threads were found to the answer of a command.
use Rattle.std.proofs.Common.{ℕ, zero, suc, ◌+◌, ◌<◌, ◌≤◌, ◌≡◌, ◌⊎◌, inl, inr, ◌==◌, Bool, true, false, List, [], ◌∷◌, length, map, slice_get, Option, Some, None, refl, sym, ap, ◌∙◌, subst, arith, if◌then◌else◌}
use Rattle.std.proofs.lemmas.Option.{slice_get_within}
use Rattle.loom_tree.specs.Tree.{Source}
use Rattle.loom_lang.specs.Places.{Place, nowhere, place_at, line_of_place}
use Rattle.loom_trace.specs.declared.entry.Entry.TheVariants as e
use Rattle.loom_trace.specs.Limits.{thread_limit}
use Rattle.loom_event.specs.Replay.{ThreadState, thread_at}
use Rattle.loom_law.specs.Filter.{Plan, numbers, plan_of}
use Rattle.loom_law.specs.Walk.{Version, place_number}
use Rattle.loom_law.specs.ThreadPart.{ComesTo}
use Rattle.loom_law.specs.Control.{Command, Action, install, remove, means, refused, command_at, Control}
use Rattle.loom_law.specs.Lawful.{plans, own, running_thread, StandsAs, StandsAt, IsBlocked, refusal, refusal_of, refusal_in, is_name_used, IsFlagged, IsFlaggedBy, run_is_over, IsHeldOff, ListsPlaces, MayControl}
use Rattle.loom_law.proofs.PlaceNumbers.{one_number}
use Rattle.loom_law.proofs.Sites.{all_outside}
use Rattle.loom_world.specs.Commands.{IsExclusionPlan}
use Rattle.loom_world.specs.Book.{Book, setting, front, stand_at, found_at, found_place, HasLawfulJournal}
use Rattle.loom_world.specs.Answers.{IsFoundFlagged, IsFoundUnflagged, AreFound, IsFoundStalled}
use Rattle.loom_world.proofs.FewThreads.{few_spawned}
use Rattle.loom_world.proofs.ControlTurns.{less_or}

-- Places

abbrev pub place_or : Option Place → Place
place_or None = nowhere
place_or (Some y) = y

abbrev pub place_in : Source → Option ℕ → Place
place_in p None = nowhere
place_in p (Some n) = place_or (place_at p n)

-- the place at which a thread was found
abbrev pub place_found : Book → ℕ → Place
place_found b t = place_in b.program (found_place b t)

found_is : (b : Book) (t n : ℕ) (y : Place) → found_place b t ≡ Some n → place_at b.program n ≡ Some y → place_found b t ≡ y
found_is b t n y found is = ap (place_in b.program) found ∙ ap place_or is

-- There it stands.
stands_found : (b : Book) → HasLawfulJournal b → (t n : ℕ) → found_place b t ≡ Some n → StandsAt (setting b) (front b) t (place_found b t)
stands_found b h t n found = by_state (running_thread (thread_at b.store t)) refl
  where
    by_note : (x : ThreadState) → running_thread (thread_at b.store t) ≡ Some x → stand_at b.stands t ≡ Some n
        → ComesTo b.program (plans (setting b)) (own (setting b) b.entries t x) (place_found b t)
    by_note x runs note =
        let s = h.stands.each t x n runs note in
        subst (λ z. ComesTo b.program (plans (setting b)) (own (setting b) b.entries t x) z) (sym (found_is b t n s.place found s.number)) s.comes

    by_state : (o : Option ThreadState) → running_thread (thread_at b.store t) ≡ o → StandsAs (setting b) b.entries t o (place_found b t)
    by_state None rests =
        let none : found_place b t ≡ Some 0 = ap (λ (o : Option ThreadState). found_at o (stand_at b.stands t)) rests in
        ap (place_in b.program) none
    by_state (Some x) runs =
        by_note x runs (sym (ap (λ (o : Option ThreadState). found_at o (stand_at b.stands t)) runs) ∙ found)

-- A thread that there can't be was found nowhere.
pub found_beyond : (b : Book) → HasLawfulJournal b → (t : ℕ) → (1 ≤ t → t ≤ thread_limit → ⊥) → found_place b t ≡ Some 0
found_beyond b h zero out = refl
found_beyond b h (suc i) out = by_slot (slice_get b.store.spawned i) refl
  where
    by_slot : (o : Option ThreadState) → slice_get b.store.spawned i ≡ o → found_place b (suc i) ≡ Some 0
    by_slot None is = ap (λ (o : Option ThreadState). found_at (running_thread o) (stand_at b.stands (suc i))) is
    by_slot (Some x) is =
        let within : i < length b.store.spawned = slice_get_within b.store.spawned i x is in
        let few = few_spawned b h in
        absurd (out (omega arith) (omega (arith, within, few)))

-- Flags

-- why a command isn't refused: it puts a filter in, or takes one out
accepted_action : (a : Action) (used : Bool) (n : ℕ) → refusal_of a used n ≡ None → ((f : Plan) × (a ≡ install (means f))) ⊎ (a ≡ remove)
accepted_action (install (means f)) used n h = inl (f, refl)
accepted_action (install (refused k c)) true n h = cc
accepted_action (install (refused k c)) false n h = absurd (full (n == 16) h)
  where
    full : (b : Bool) → if◌then◌else◌ {A = Option (ℕ × ℕ)} b (Some (14, 0)) (Some (k, c)) ≡ None → ⊥
    full true g = cc
    full false g = cc
accepted_action remove used n h = inr refl

pub accepted : (b : Book) (k : ℕ) (c : Command) → command_at b.commands k ≡ Some c → refusal (setting b) (front b).control k ≡ None
    → ((f : Plan) × (c.action ≡ install (means f))) ⊎ (c.action ≡ remove)
accepted b k c is h =
    accepted_action c.action (is_name_used (setting b) (front b).control k) (length (Version.active (Control.version (front b).control)))
    (sym (ap (refusal_in (setting b) (front b).control k) is) ∙ h)

flagged_by : (p : Source) (c : Command) → ((f : Plan) × (c.action ≡ install (means f))) ⊎ (c.action ≡ remove) → IsFlaggedBy p (Some c) nowhere
flagged_by p c (inl h) = subst (λ a. IsFlaggedBy p (Some (record c { action = a })) nowhere) (sym h.1) (inl refl)
flagged_by p c (inr h) = subst (λ a. IsFlaggedBy p (Some (record c { action = a })) nowhere) (sym h) tt

-- Place 0 is flagged.
pub nowhere_flagged : (b : Book) (k : ℕ) (c : Command) → command_at b.commands k ≡ Some c → refusal (setting b) (front b).control k ≡ None → IsFlagged (setting b) k nowhere
nowhere_flagged b k c is h = subst (λ o. IsFlaggedBy b.program o nowhere) (sym is) (flagged_by b.program c (accepted b k c is h))

pub in_range : (t : ℕ) → ((1 ≤ t) × (t ≤ thread_limit)) ⊎ (1 ≤ t → t ≤ thread_limit → ⊥)
in_range zero = inr (λ a c. let no : ⊥ = omega (arith, a) in no)
in_range (suc i) = by_less (less_or i thread_limit)
  where
    by_less : (i < thread_limit) ⊎ (thread_limit ≤ i) → ((1 ≤ suc i) × (suc i ≤ thread_limit)) ⊎ (1 ≤ suc i → suc i ≤ thread_limit → ⊥)
    by_less (inl h) = inl (omega arith, omega (arith, h))
    by_less (inr h) = inr (λ a c. let no : ⊥ = omega (arith, h, c) in no)

-- Rows

row_is : (g : ℕ → ℕ) (m : ℕ) (row : List ℕ) → ((i y : ℕ) → slice_get row i ≡ Some y → y ≡ g (i + m)) → row ≡ map g (numbers m row)
row_is g m [] h = refl
row_is g m (x ∷ row) h =
    let first : x ≡ g m = h 0 x refl ∙ ap g (omega arith) in
    let rest : row ≡ map g (numbers (suc m) row) = row_is g (suc m) row (λ i y is. h (suc i) y is ∙ ap g (omega arith)) in
    ap (λ z. z ∷ row) first ∙ ap (λ zs. g m ∷ zs) rest

number_in_row : (b : Book) → HasLawfulJournal b → (k : ℕ) (row : List ℕ) → AreFound b k row → (i y : ℕ) → slice_get row i ≡ Some y
    → y ≡ place_number b.program (place_found b (i + 1))
number_in_row b h k row found i y is =
    let within : i < length row = slice_get_within row i y is in
    let last : suc i ≤ thread_limit = omega (arith, within, found.count) in
    let x : IsFoundFlagged b k (suc i) = found.each (suc i) (omega arith) last in
    let listed : found_place b (suc i) ≡ Some y = found.listed (suc i) (omega arith) last ∙ is in
    let same : x.number ≡ y = cc (x.found, listed) in
    let at_y : place_at b.program y ≡ Some x.place = subst (λ z. place_at b.program z ≡ Some x.place) same x.is in
    let number : place_number b.program x.place ≡ y = one_number b.program h.rules y x.place at_y in
    let next : suc i ≡ i + 1 = omega arith in
    sym number ∙ (ap (place_number b.program) (sym (found_is b (suc i) y x.place listed at_y)) ∙ ap (λ t. place_number b.program (place_found b t)) next)

-- The row lists flagged places at which the threads stand.
pub lists : (b : Book) → HasLawfulJournal b → (k : ℕ) (c : Command) (row : List ℕ) → command_at b.commands k ≡ Some c → refusal (setting b) (front b).control k ≡ None → AreFound b k row
    → ListsPlaces (setting b) (front b) k row
lists b h k c row is not_refused found = record {
  count = found.count;
  place = place_found b;
  are = row_is (λ t. place_number b.program (place_found b t)) 1 row (number_in_row b h k row found);
  stands = λ t. stands_at t (in_range t);
  flagged = λ t. flagged_at t (in_range t);
}
  where
    stands_at : (t : ℕ) → ((1 ≤ t) × (t ≤ thread_limit)) ⊎ (1 ≤ t → t ≤ thread_limit → ⊥) → StandsAt (setting b) (front b) t (place_found b t)
    stands_at t (inl r) = let x = found.each t r.0 r.1 in stands_found b h t x.number x.found
    stands_at t (inr out) = stands_found b h t 0 (found_beyond b h t out)

    flagged_at : (t : ℕ) → ((1 ≤ t) × (t ≤ thread_limit)) ⊎ (1 ≤ t → t ≤ thread_limit → ⊥) → IsFlagged (setting b) k (place_found b t)
    flagged_at t (inl r) = let x = found.each t r.0 r.1 in subst (IsFlagged (setting b) k) (sym (found_is b t x.number x.place x.found x.is)) x.flagged
    flagged_at t (inr out) =
        subst (IsFlagged (setting b) k) (sym (found_is b t 0 nowhere (found_beyond b h t out) refl)) (nowhere_flagged b k c is not_refused)

-- Answers

pub may_install : (b : Book) → HasLawfulJournal b → (k v : ℕ) (c : Command) (f : Plan) (row : List ℕ) → command_at b.commands k ≡ Some c → c.action ≡ install (means f)
    → Control.asked (front b).control ≡ Some k → refusal (setting b) (front b).control k ≡ None → run_is_over (setting b) (front b) ≡ false
    → v ≡ suc (Version.number (Control.version (front b).control)) → AreFound b k row → MayControl (setting b) (front b) (e.Installed k v row) []
may_install b h k v c f row is installs asked not_refused goes_on version found =
    let plan : IsExclusionPlan b.program f = h.plans.exclusions k c f is installs in
    let ls = lists b h k c row is not_refused found in
    let so : c.action ≡ install (means (plan_of b.program plan.filter)) = installs ∙ ap (λ g. install (means g)) plan.plan in
    let outside = all_outside (setting b) (front b) k row plan.filter c is so ls in (
      goes_on,
      record {
        command = c;
        is = is;
        plan = plan_of b.program plan.filter;
        installs = so;
        asked = asked;
        not_refused = not_refused;
        version = version;
        lists = ls;
        outside = outside;
      },
    )

pub may_remove : (b : Book) → HasLawfulJournal b → (k v : ℕ) (c : Command) (row : List ℕ) → command_at b.commands k ≡ Some c → c.action ≡ remove
    → Control.asked (front b).control ≡ Some k → refusal (setting b) (front b).control k ≡ None → run_is_over (setting b) (front b) ≡ false
    → v ≡ suc (Version.number (Control.version (front b).control)) → AreFound b k row → MayControl (setting b) (front b) (e.Removed k v row) []
may_remove b h k v c row is removes asked not_refused goes_on version found = (
  goes_on,
  record {
    command = c;
    is = is;
    removes = removes;
    asked = asked;
    not_refused = not_refused;
    version = version;
    lists = lists b h k c row is not_refused found;
  },
)

-- where each live thread was found, and flagged or blocked
pub may_stall : (b : Book) → HasLawfulJournal b → (k t l : ℕ) → Control.asked (front b).control ≡ Some k → refusal (setting b) (front b).control k ≡ None
    → run_is_over (setting b) (front b) ≡ false → IsFoundStalled b k t l → MayControl (setting b) (front b) (e.Stalled k t l) []
may_stall b h k t l asked not_refused goes_on x = (
  goes_on,
  record {
    asked = asked;
    not_refused = not_refused;
    place = place_found b;
    stands = λ u lives. stands_so u (x.each u lives);
    waits = λ u lives. waits_so u (x.each u lives);
    lives = x.lives;
    not_flagged = λ f. x.here.not_flagged (subst (IsFlagged (setting b) k) (found_is b t x.here.number x.here.place x.here.found x.here.is) f);
    lowest = λ u lives less. flagged_so u (x.lowest u lives less);
    line = x.here.line ∙ ap (line_of_place b.program) (sym (found_is b t x.here.number x.here.place x.here.found x.here.is));
  },
)
  where
    flagged_so : (u : ℕ) → IsFoundFlagged b k u → IsFlagged (setting b) k (place_found b u)
    flagged_so u f = subst (IsFlagged (setting b) k) (sym (found_is b u f.number f.place f.found f.is)) f.flagged

    stands_so : (u : ℕ) → IsFoundFlagged b k u ⊎ (((m : ℕ) × IsFoundUnflagged b k u m) × IsBlocked (setting b) (front b) u) → StandsAt (setting b) (front b) u (place_found b u)
    stands_so u (inl f) = stands_found b h u f.number f.found
    stands_so u (inr g) = let f = g.0.1 in stands_found b h u f.number f.found

    waits_so : (u : ℕ) → IsFoundFlagged b k u ⊎ (((m : ℕ) × IsFoundUnflagged b k u m) × IsBlocked (setting b) (front b) u)
        → IsFlagged (setting b) k (place_found b u) ⊎ (IsBlocked (setting b) (front b) u ⊎ IsHeldOff (setting b) (front b) u)
    waits_so u (inl f) = inl (flagged_so u f)
    waits_so u (inr g) = inr (inl g.1)
