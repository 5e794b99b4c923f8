-- A thread owes to enter only clauses that are there and that it isn't in.
use Rattle.std.proofs.Common.{ℕ, suc, ◌≡◌, ◌==◌, Bool, true, false, not, ◌&&◌, ◌||◌, List, [], ◌∷◌, ◌++◌, ℤ, length, Some, refl, sym, ap, subst, ◌∙◌, ne_eqb}
use Rattle.std.specs.List.{list_any}
use Rattle.std.proofs.lemmas.Bool.{and_parts, and_left, and_right}
use Rattle.std.proofs.lemmas.Map.Views.{any-filter_same}
use Rattle.loom_tree.specs.Tree.{Source}
use Rattle.loom_lang.specs.Places.{Place}
use Rattle.loom_lang.specs.Places as place
use Rattle.loom_lang.specs.Trace.{Locals, begin, end, trap, read, write, lock, unlock, down, up, spawn, join, print, Item, made, begins, done, edge, enter, out, Outcome, IsTrace}
use Rattle.loom_lang.proofs.Broken.{trace_begins}
use Rattle.loom_law.specs.Filter.{Site, statement, function, Ruling, Plan, matching, has, waits, posts, clauses}
use Rattle.loom_law.specs.Walk.{Version, Plans, Operation, wait, enters, at, past, post, leave, back, tick, cross, blocked, PartStep, goes, makes, items, Inside, OpenFrame, Spot, elsewhere, beginning, entered, complete, left, trapped, Queue, Walk, unborn, tick_after, holds, begins_in, owed_waits, owed_enters, owed_by, owed_at, is_inside_clause, all_inside, completed, in_frame, owed_posts, owed_leaves, events_of_filter, owed_past, owed_behind, all_leaves, with_back, with_tick, begun_with, function_line, without_first, taking, behind_entry, after_item, without_clause, still_owed, new_filters, owed_fresh, owed_behind_cross, crossing, after_operation, walk_from, Owes, MayStand, AreWoven}
use Rattle.loom_law.specs.ThreadPart.{Own, walk_of, IsPart}
use Rattle.loom_law.specs.Laws.{AreOnce, HaveOnce}
use Rattle.loom_law.proofs.Holdings.{or_cases, or_left, or_right, either_of, pick, same_number, op_held}
use Rattle.loom_law.proofs.Cross.{held_in, filters_commute, leave_goes, if_true, if_false}
use Rattle.loom_law.proofs.Balance.{holds_in, holds_without}
use Rattle.loom_law.proofs.ActiveFilters.{Among, first_in, others_in, fresh_among, itself}
use Rattle.loom_law.proofs.Leaves.{eq_same, Away, OneEach, numbered_once, filter_once}
use Rattle.loom_law.proofs.Ends.{one_less, EndsWell, trace_ends}
use Rattle.loom_law.proofs.Earlier.{begins_so, no_operation}

-- Tests

or_first : (a b : Bool) → a ≡ false → (a || b) ≡ b
or_first true b h = cc
or_first false b h = refl

not_false : (b : Bool) → not b ≡ true → b ≡ false
not_false true h = cc
not_false false h = refl

not_true : (b : Bool) → (b ≡ true → ⊥) → b ≡ false
not_true true h = absurd (h refl)
not_true false h = refl

not_both : (b : Bool) → b ≡ true → b ≡ false → ⊥
not_both true h g = cc
not_both false h g = cc

other_way : (m n : ℕ) → (m == n) ≡ false → (n == m) ≡ false
other_way m n h = ne_eqb n m (λ same. not_both (m == m) (eq_same m) (subst (λ (z : ℕ). (m == z) ≡ false) same h))

-- What is owed may be made, one behind the other

abbrev pub has_clause : Plans → ℕ → ℕ → Bool
has_clause plans k c = list_any (λ (x : ℕ × Ruling). x.0 == c) (clauses (plans k))

-- Of these filters one has the clause, and the thread, which is in those, isn't in it.
pub record MayEnter (plans : Plans) (ks : List ℕ) (hs : List (ℕ × ℕ)) (k c : ℕ) : Type 0 where
  pub there : has ks k ≡ true
  pub clause : has_clause plans k c ≡ true
  pub free : holds hs k c ≡ false

abbrev EnterFree : Plans → List ℕ → List (ℕ × ℕ) → Operation → Type 0
EnterFree plans ks hs (enters k c) = MayEnter plans ks hs k c
EnterFree plans ks hs _ = Unit {0}

abbrev AllFree : Plans → List ℕ → List (ℕ × ℕ) → Queue → Type 0
AllFree plans ks hs [] = Unit {0}
AllFree plans ks hs (x ∷ os) = EnterFree plans ks hs x.1 × AllFree plans ks (op_held x.1 hs) os

-- whatever is held
abbrev AnyFree : Plans → List ℕ → Queue → Type 0
AnyFree plans ks os = (hs : List (ℕ × ℕ)) → AllFree plans ks hs os

waits_free : (plans : Plans) (ks : List ℕ) (f : Plan) (k l : ℕ) (ns : List ℕ) (more : Queue) (hs : List (ℕ × ℕ)) → AllFree plans ks hs more
    → AllFree plans ks hs (owed_waits f k l ns more)
waits_free plans ks f k l [] more hs h = h
waits_free plans ks f k l (n ∷ ns) more hs h =
    let ih : AllFree plans ks hs (owed_waits f k l ns more) = waits_free plans ks f k l ns more hs h in
    pick (AllFree plans ks hs) (waits f n) _ _ (λ b. (tt, ih)) (λ b. ih)

posts_any : (plans : Plans) (ks : List ℕ) (f : Plan) (k l : ℕ) (ns : List ℕ) (more : Queue) → AnyFree plans ks more → AnyFree plans ks (owed_posts f k l ns more)
posts_any plans ks f k l [] more h hs = h hs
posts_any plans ks f k l (n ∷ ns) more h hs =
    let ih : AllFree plans ks hs (owed_posts f k l ns more) = posts_any plans ks f k l ns more h hs in
    pick (AllFree plans ks hs) (posts f n) _ _ (λ b. (tt, ih)) (λ b. ih)

leaves_any : (plans : Plans) (ks : List ℕ) (gs : List (ℕ × ℕ)) (is : List Inside) (k l : ℕ) (cs : List (ℕ × Ruling)) (more : Queue) → AnyFree plans ks more
    → AnyFree plans ks (owed_leaves gs is k l cs more)
leaves_any plans ks gs is k l [] more h hs = h hs
leaves_any plans ks gs is k l (c ∷ cs) more h hs =
    pick (AllFree plans ks hs) (holds gs k c.0 && not (is_inside_clause is k c.0)) _ _
    (λ b. (tt, leaves_any plans ks gs is k l cs more h (without_clause k c.0 hs))) (λ b. leaves_any plans ks gs is k l cs more h hs)

past_any : (plans : Plans) (ks : List ℕ) (f : Plan) (k : ℕ) (gs : List (ℕ × ℕ)) (fs : List OpenFrame) (l : ℕ) (ns : List ℕ) (more : Queue) → AnyFree plans ks more
    → AnyFree plans ks (owed_past f k gs fs l ns more)
past_any plans ks f k gs fs l [] more h hs = h hs
past_any plans ks f k gs fs l (n ∷ ns) more h hs =
    (tt, posts_any plans ks f k l (n ∷ ns) _ (leaves_any plans ks gs (all_inside (in_frame (completed k (n ∷ ns)) fs)) k l (clauses f) more h) hs)

behind_any : (plans : Plans) (ks : List ℕ) (gs : List (ℕ × ℕ)) (fs : List OpenFrame) (l : ℕ) (xs : List (ℕ × List ℕ)) (js : List ℕ)
    → AnyFree plans ks (owed_behind plans gs fs l xs js)
behind_any plans ks gs fs l xs [] hs = tt
behind_any plans ks gs fs l xs (j ∷ js) hs =
    past_any plans ks (plans j) j gs fs l (events_of_filter j xs) (owed_behind plans gs fs l xs js) (behind_any plans ks gs fs l xs js) hs

all_leaves_any : (plans : Plans) (ks : List ℕ) (gs : List (ℕ × ℕ)) (is : List Inside) (l : ℕ) (js : List ℕ) → AnyFree plans ks (all_leaves plans gs is l js)
all_leaves_any plans ks gs is l [] hs = tt
all_leaves_any plans ks gs is l (j ∷ js) hs = leaves_any plans ks gs is j l (clauses (plans j)) (all_leaves plans gs is l js) (all_leaves_any plans ks gs is l js) hs

back_free : (plans : Plans) (ks : List ℕ) (l : ℕ) (os : Queue) (hs : List (ℕ × ℕ)) → AllFree plans ks hs os → AllFree plans ks hs (with_back l os)
back_free plans ks l [] hs h = tt
back_free plans ks l (o ∷ os) hs h = (tt, h)

tick_free : (plans : Plans) (ks : List ℕ) (p : Source) (x : Place) (n : ℕ) (os : Queue) (hs : List (ℕ × ℕ)) → AllFree plans ks hs os → AllFree plans ks hs (with_tick p x n os)
tick_free plans ks p x n os hs h = pick (AllFree plans ks hs) (n == tick_after) _ _ (λ b. (tt, h)) (λ b. h)

-- Enters

-- with one clause more another is held where it was
more_same : (k n : ℕ) (hs : List (ℕ × ℕ)) (j m : ℕ) → ((k == j) && (n == m)) ≡ false → holds ((k, n) ∷ hs) j m ≡ holds hs j m
more_same k n hs j m other = or_first ((k == j) && (n == m)) (holds hs j m) other

-- of these clauses each that isn't among `gs` is free
abbrev NoMore : List (ℕ × ℕ) → List (ℕ × ℕ) → ℕ → List (ℕ × Ruling) → Type 0
NoMore gs hs k [] = Unit {0}
NoMore gs hs k (c ∷ cs) = (holds gs k c.0 ≡ false → holds hs k c.0 ≡ false) × NoMore gs hs k cs

no_more : (gs hs : List (ℕ × ℕ)) (k : ℕ) (cs : List (ℕ × Ruling)) → ((m : ℕ) → holds gs k m ≡ false → holds hs k m ≡ false) → NoMore gs hs k cs
no_more gs hs k [] h = tt
no_more gs hs k (c ∷ cs) h = (h c.0, no_more gs hs k cs h)

no_more_behind : (gs hs : List (ℕ × ℕ)) (k n : ℕ) (cs : List (ℕ × Ruling)) → Away n cs → NoMore gs hs k cs → NoMore gs ((k, n) ∷ hs) k cs
no_more_behind gs hs k n [] a h = tt
no_more_behind gs hs k n (d ∷ cs) a h =
    ((λ g. more_same k n hs k d.0 (and_right (k == k) (n == d.0) (other_way d.0 n a.0)) ∙ h.0 g), no_more_behind gs hs k n cs a.1 h.1)

-- of the other filters the same is held
abbrev SameOfOthers : ℕ → List (ℕ × ℕ) → List (ℕ × ℕ) → Type 0
SameOfOthers k hs js = (j m : ℕ) → (j == k) ≡ false → holds js j m ≡ holds hs j m

abbrev AreOfFilter : Plans → ℕ → List (ℕ × Ruling) → Type 0
AreOfFilter plans k cs = (c : ℕ) → list_any (λ (x : ℕ × Ruling). x.0 == c) cs ≡ true → has_clause plans k c ≡ true

enters_free : (plans : Plans) (ks : List ℕ) (gs hs : List (ℕ × ℕ)) (k l : ℕ) (ns : List ℕ) (cs : List (ℕ × Ruling)) (more : Queue) → OneEach cs → has ks k ≡ true
    → AreOfFilter plans k cs → NoMore gs hs k cs → ((js : List (ℕ × ℕ)) → SameOfOthers k hs js → AllFree plans ks js more)
    → AllFree plans ks hs (owed_enters gs k l ns cs more)
enters_free plans ks gs hs k l ns [] more o i a s go = go hs (λ j m q. refl)
enters_free plans ks gs hs k l ns (c ∷ cs) more o i a s go =
    let rest : AreOfFilter plans k cs = λ d g. a d (or_right (c.0 == d) (list_any (λ (x : ℕ × Ruling). x.0 == d) cs) g) in
    pick (AllFree plans ks hs) (begins_in c.1 ns && not (holds gs k c.0)) _ _
    (λ b. (
      record {
        there = i;
        clause = a c.0 (or_left (c.0 == c.0) (list_any (λ (x : ℕ × Ruling). x.0 == c.0) cs) (eq_same c.0));
        free = s.0 (not_false (holds gs k c.0) (and_parts (begins_in c.1 ns) (not (holds gs k c.0)) b).1);
      },
      enters_free plans ks gs ((k, c.0) ∷ hs) k l ns cs more o.1 i rest (no_more_behind gs hs k c.0 cs o.0 s.1)
          (λ js others. go js (λ j m q. others j m q ∙ more_same k c.0 hs j m (and_left (k == j) (c.0 == m) (other_way j k q)))),
    ))
    (λ b. enters_free plans ks gs hs k l ns cs more o.1 i rest s.1 go)

by_free : (plans : Plans) (ks : List ℕ) (gs hs : List (ℕ × ℕ)) (k l : ℕ) (ns : List ℕ) (more : Queue) → has ks k ≡ true
    → ((m : ℕ) → holds gs k m ≡ false → holds hs k m ≡ false) → ((js : List (ℕ × ℕ)) → SameOfOthers k hs js → AllFree plans ks js more)
    → AllFree plans ks hs (owed_by (plans k) k gs l ns more)
by_free plans ks gs hs k l [] more i h go = go hs (λ j m q. refl)
by_free plans ks gs hs k l (n ∷ ns) more i h go =
    waits_free plans ks (plans k) k l (n ∷ ns) _ hs
    (enters_free plans ks gs hs k l (n ∷ ns) (clauses (plans k)) ((l, at k (n ∷ ns)) ∷ more) (numbered_once 1 (Plan.rulings (plans k))) i (λ c g. g)
    (no_more gs hs k (clauses (plans k)) h) (λ js others. (tt, go js others)))

-- of these filters no more is held than `gs`
abbrev NoMoreOf : List (ℕ × ℕ) → List (ℕ × ℕ) → List ℕ → Type 0
NoMoreOf gs hs js = (j m : ℕ) → has js j ≡ true → holds gs j m ≡ false → holds hs j m ≡ false

not_it : (js : List ℕ) (i j : ℕ) → has js i ≡ true → has js j ≡ false → (i == j) ≡ false
not_it js i j h g = not_true (i == j) (λ same. not_both (has js j) (subst (λ (z : ℕ). has js z ≡ true) (same_number i j same) h) g)

no_more_of_others : (gs hs is : List (ℕ × ℕ)) (j : ℕ) (js : List ℕ) → has js j ≡ false → NoMoreOf gs hs (j ∷ js) → SameOfOthers j hs is → NoMoreOf gs is js
no_more_of_others gs hs is j js away h others i m g f = others i m (not_it js i j g away) ∙ h i m (or_right (j == i) (has js i) g) f

at_free : (plans : Plans) (ks : List ℕ) (gs hs : List (ℕ × ℕ)) (l : ℕ) (site : Site) (env : Locals) (js : List ℕ) → Among js ks → AreOnce js → NoMoreOf gs hs js
    → AllFree plans ks hs (owed_at plans gs l site env js)
at_free plans ks gs hs l site env [] a o h = tt
at_free plans ks gs hs l site env (j ∷ js) a o h =
    by_free plans ks gs hs j l (matching (plans j) site env) (owed_at plans gs l site env js) (first_in j js ks a)
    (λ m. h j m (or_left (j == j) (has js j) (eq_same j)))
    (λ is others. at_free plans ks gs is l site env js (others_in j js ks a) o.1 (no_more_of_others gs hs is j js o.0 h others))

-- Where a version is taken

-- what is held is of these filters
abbrev IsHeldOf : List ℕ → List (ℕ × ℕ) → Type 0
IsHeldOf ks hs = (j m : ℕ) → holds hs j m ≡ true → has ks j ≡ true

held_more : (ks : List ℕ) (hs : List (ℕ × ℕ)) (k n : ℕ) → has ks k ≡ true → IsHeldOf ks hs → IsHeldOf ks ((k, n) ∷ hs)
held_more ks hs k n i h j m g =
    either_of (or_cases ((k == j) && (n == m)) (holds hs j m) g)
    (λ a. subst (λ (z : ℕ). has ks z ≡ true) (same_number k j (and_parts (k == j) (n == m) a).0) i) (λ a. h j m a)

held_less : (ks : List ℕ) (hs : List (ℕ × ℕ)) (k n : ℕ) → IsHeldOf ks hs → IsHeldOf ks (without_clause k n hs)
held_less ks hs k n h j m g = h j m (and_parts (not ((j == k) && (m == n))) (holds hs j m) (sym (holds_without k n hs j m) ∙ g)).1

held_there : (ks : List ℕ) (hs : List (ℕ × ℕ)) → IsHeldOf ks (held_in ks hs)
held_there ks hs j m g = (and_parts (has ks j) (holds hs j m) (sym (holds_in ks hs j m) ∙ g)).0

-- of a new filter nothing is held
new_away : (old ks : List ℕ) (j : ℕ) → has (new_filters old ks) j ≡ true → has old j ≡ false
new_away old ks j h =
    let same = any-filter_same (λ (m : ℕ). m == j) (λ (k : ℕ). not (has old k)) (not (has old j)) (λ k g. ap (λ (z : ℕ). not (has old z)) (same_number k j g)) ks in
    not_false (has old j) (and_parts (not (has old j)) (has ks j) (sym same ∙ h)).0

new_free : (old ks : List ℕ) (hs : List (ℕ × ℕ)) → IsHeldOf old hs → NoMoreOf [] (held_in ks hs) (new_filters old ks)
new_free old ks hs w j m g f =
    not_true (holds (held_in ks hs) j m)
    (λ a. not_both (has old j) (w j m (and_parts (has ks j) (holds hs j m) (sym (holds_in ks hs j m) ∙ a)).1) (new_away old ks j g))

fresh_free : (p : Source) (plans : Plans) (s : Spot) (old ks : List ℕ) (hs : List (ℕ × ℕ)) → IsHeldOf old hs → AreOnce ks
    → AllFree plans ks (held_in ks hs) (owed_fresh p plans s (new_filters old ks))
fresh_free p plans elsewhere old ks hs w o = tt
fresh_free p plans (beginning l env) old ks hs w o =
    at_free plans ks [] (held_in ks hs) l (statement l) env (new_filters old ks) (fresh_among old ks) (filter_once (λ (k : ℕ). not (has old k)) ks o) (new_free old ks hs w)
fresh_free p plans (entered f env) old ks hs w o =
    at_free plans ks [] (held_in ks hs) (function_line p f) (function (Some f)) env (new_filters old ks) (fresh_among old ks)
    (filter_once (λ (k : ℕ). not (has old k)) ks o) (new_free old ks hs w)
fresh_free p plans (complete l) old ks hs w o = tt
fresh_free p plans (left f is) old ks hs w o = tt
fresh_free p plans (trapped l) old ks hs w o = tt

back_more : (plans : Plans) (ks : List ℕ) (l : ℕ) (os more : Queue) (hs : List (ℕ × ℕ)) → AllFree plans ks hs (os ++ more) → AllFree plans ks hs (with_back l os ++ more)
back_more plans ks l [] more hs h = h
back_more plans ks l (o ∷ os) more hs h = (tt, h)

-- what stays of what is owed, with `more` behind it
still_free : (plans : Plans) (old ks : List ℕ) (more : Queue) → ((hs : List (ℕ × ℕ)) → IsHeldOf old hs → AllFree plans ks (held_in ks hs) more)
    → (hs : List (ℕ × ℕ)) → IsHeldOf old hs → (os : Queue) → AllFree plans old hs os → AllFree plans ks (held_in ks hs) (still_owed ks os ++ more)
still_free plans old ks more go hs w [] h = go hs w
still_free plans old ks more go hs w ((l, back) ∷ os) h = back_more plans ks l (still_owed ks os) more (held_in ks hs) (still_free plans old ks more go hs w os h.1)
still_free plans old ks more go hs w ((l, wait k n) ∷ os) h =
    let ih = still_free plans old ks more go hs w os h.1 in pick (λ us. AllFree plans ks (held_in ks hs) (us ++ more)) (has ks k) _ _ (λ b. (tt, ih)) (λ b. ih)
still_free plans old ks more go hs w ((l, at k n) ∷ os) h =
    let ih = still_free plans old ks more go hs w os h.1 in pick (λ us. AllFree plans ks (held_in ks hs) (us ++ more)) (has ks k) _ _ (λ b. (tt, ih)) (λ b. ih)
still_free plans old ks more go hs w ((l, past k n) ∷ os) h =
    let ih = still_free plans old ks more go hs w os h.1 in pick (λ us. AllFree plans ks (held_in ks hs) (us ++ more)) (has ks k) _ _ (λ b. (tt, ih)) (λ b. ih)
still_free plans old ks more go hs w ((l, post k n) ∷ os) h =
    let ih = still_free plans old ks more go hs w os h.1 in pick (λ us. AllFree plans ks (held_in ks hs) (us ++ more)) (has ks k) _ _ (λ b. (tt, ih)) (λ b. ih)
still_free plans old ks more go hs w ((l, enters k c) ∷ os) h =
    let may : MayEnter plans old hs k c = h.0 in
    let ih = still_free plans old ks more go ((k, c) ∷ hs) (held_more old hs k c may.there w) os h.1 in
    let P : List (ℕ × ℕ) → Type 0 = λ gs. AllFree plans ks gs (still_owed ks os ++ more) in
    pick (λ us. AllFree plans ks (held_in ks hs) (us ++ more)) (has ks k) _ _
    (λ b. (
      record { there = b; clause = may.clause; free = holds_in ks hs k c ∙ and_right (has ks k) (holds hs k c) may.free },
      subst P (if_true (has ks k) ((k, c) ∷ held_in ks hs) (held_in ks hs) b) ih,
    ))
    (λ b. subst P (if_false (has ks k) ((k, c) ∷ held_in ks hs) (held_in ks hs) b) ih)
still_free plans old ks more go hs w ((l, leave k c) ∷ os) h =
    let ih = still_free plans old ks more go (without_clause k c hs) (held_less old hs k c w) os h.1 in
    let P : List (ℕ × ℕ) → Type 0 = λ gs. AllFree plans ks gs (still_owed ks os ++ more) in
    pick (λ us. AllFree plans ks (held_in ks hs) (us ++ more)) (has ks k) _ _
    (λ b. (tt, subst P (filters_commute (λ (x : ℕ × ℕ). has ks x.0) (λ (x : ℕ × ℕ). not ((x.0 == k) && (x.1 == c))) hs) ih))
    (λ b. subst P (leave_goes ks k c hs b) ih)
still_free plans old ks more go hs w ((l, tick x) ∷ os) h = (tt, still_free plans old ks more go hs w os h.1)
still_free plans old ks more go hs w ((l, cross x v n) ∷ os) h = (tt, still_free plans old ks more go hs w os h.1)
still_free plans old ks more go hs w ((l, blocked what) ∷ os) h = (tt, still_free plans old ks more go hs w os h.1)

crossed_free : (p : Source) (plans : Plans) (s : Spot) (old ks : List ℕ) (hs : List (ℕ × ℕ)) (os : Queue) → IsHeldOf old hs → AreOnce ks → AllFree plans old hs os
    → AllFree plans ks (held_in ks hs) (owed_behind_cross p plans s old ks os)
crossed_free p plans s old ks hs [] w o h = tt
crossed_free p plans s old ks hs (x ∷ os) w o h =
    still_free plans old ks (owed_fresh p plans s (new_filters old ks)) (λ gs g. fresh_free p plans s old ks gs g o) hs w (x ∷ os) h

-- Along a walk

-- what is held is of the filters of the version, and these stand there once, and in those to come
record IsOfVersion (ks : List ℕ) (hs : List (ℕ × ℕ)) (vs : List Version) : Type 0 where
  filters : IsHeldOf ks hs
  once : AreOnce ks
  coming : HaveOnce vs

abbrev EntersFree : Plans → Walk → Type 0
EntersFree plans z = AllFree plans z.active z.held z.owed × IsOfVersion z.active z.held z.coming

-- none of these items is a begin
abbrev HaveNoBegin : List Item → Type 0
HaveNoBegin [] = Unit {0}
HaveNoBegin (made l begin ∷ is) = ⊥
HaveNoBegin (i ∷ is) = HaveNoBegin is

no_begin : (q : ℕ) (is : List Item) → EndsWell q is → HaveNoBegin is
no_begin q [] h = tt
no_begin q (made l begin ∷ is) h = h
no_begin q (made l end ∷ is) h = no_begin q is h.1
no_begin q (made l (trap c) ∷ is) h = no_begin 0 is h
no_begin q (made l (read x v) ∷ is) h = no_begin q is h
no_begin q (made l (write x v) ∷ is) h = no_begin q is h
no_begin q (made l (lock m) ∷ is) h = no_begin q is h
no_begin q (made l (unlock m) ∷ is) h = no_begin q is h
no_begin q (made l (down m) ∷ is) h = no_begin q is h
no_begin q (made l (up m) ∷ is) h = no_begin q is h
no_begin q (made l (spawn c f vs) ∷ is) h = no_begin q is h
no_begin q (made l (join c) ∷ is) h = no_begin q is h
no_begin q (made l (print v) ∷ is) h = no_begin q is h
no_begin q (begins l env ∷ is) h = no_begin q is h.1
no_begin q (done l ∷ is) h = no_begin q is h.1
no_begin q (edge l ∷ is) h = no_begin q is h.1
no_begin q (enter f env ∷ is) h = no_begin (suc q) is h.1
no_begin q (out f ∷ is) h = no_begin (one_less q) is h

abbrev GoesFree : Plans → Walk → List Item → Type 0
GoesFree plans z rest = EntersFree plans z × HaveNoBegin rest

item_free : (p : Source) (plans : Plans) (z : Walk) (i : Item) (rest : List Item) → EntersFree plans z → HaveNoBegin (i ∷ rest) → GoesFree plans (after_item p plans z i) rest
item_free p plans z (made l begin) rest h b = absurd b
item_free p plans z (made l end) rest h b = (h, b)
item_free p plans z (made l (trap c)) rest h b = ((all_leaves_any plans z.active z.held [] l z.active z.held, h.1), b)
item_free p plans z (made l (read x v)) rest h b = (h, b)
item_free p plans z (made l (write x v)) rest h b = (h, b)
item_free p plans z (made l (lock m)) rest h b = (h, b)
item_free p plans z (made l (unlock m)) rest h b = (h, b)
item_free p plans z (made l (down m)) rest h b = (h, b)
item_free p plans z (made l (up m)) rest h b = (h, b)
item_free p plans z (made l (spawn c f vs)) rest h b = (h, b)
item_free p plans z (made l (join c)) rest h b = (h, b)
item_free p plans z (made l (print v)) rest h b = (h, b)
item_free p plans z (begins l env) rest h b =
    ((at_free plans z.active z.held z.held l (statement l) env z.active (itself z.active) (IsOfVersion.once h.1) (λ j m i f. f), h.1), b)
item_free p plans z (done l) rest h b = ((behind_any plans z.active z.held z.frames l (begun_with z.frames) z.active z.held, h.1), b)
item_free p plans z (edge l) rest h b = ((tick_free plans z.active p (place.back_edge l) (suc (length z.passed)) [] z.held tt, h.1), b)
item_free p plans z (enter f env) rest h b = (
  (
    tick_free plans z.active p (place.entry f) (suc (length z.passed)) _ z.held
        (at_free plans z.active z.held z.held (function_line p f) (function (Some f)) env z.active (itself z.active) (IsOfVersion.once h.1) (λ j m i g. g)),
    h.1,
  ),
  b,
)
item_free p plans z (out f) rest h b = (
  (
    back_free plans z.active (function_line p f) _ z.held
        (all_leaves_any plans z.active z.held (all_inside (without_first z.frames)) (function_line p f) z.active z.held),
    h.1,
  ),
  b,
)

less_free : (plans : Plans) (ks : List ℕ) (hs : List (ℕ × ℕ)) (os : Queue) (l : ℕ) (o : Operation) → Owes os l o → AllFree plans ks hs os
    → AllFree plans ks (op_held o hs) (without_first os)
less_free plans ks hs [] l o is h = absurd is
less_free plans ks hs (x ∷ os) l o is h =
    let P : Operation → Type 0 = λ q. AllFree plans ks (op_held q hs) os in
    subst P (ap (λ (q : ℕ × Operation). q.1) is) h.1

first_free : (plans : Plans) (ks : List ℕ) (hs : List (ℕ × ℕ)) (os : Queue) (l : ℕ) (o : Operation) → Owes os l o → AllFree plans ks hs os → EnterFree plans ks hs o
first_free plans ks hs [] l o is h = absurd is
first_free plans ks hs (x ∷ os) l o is h = subst (EnterFree plans ks hs) (ap (λ (q : ℕ × Operation). q.1) is) h.0

crossing_free : (p : Source) (plans : Plans) (z : Walk) (vs : List Version) → EntersFree plans z → HaveOnce vs → EntersFree plans (crossing p plans z vs)
crossing_free p plans z [] h o = h
crossing_free p plans z (v ∷ vs) h o = (
  crossed_free p plans z.spot z.active v.active z.held z.owed (IsOfVersion.filters h.1) o.0 h.0,
  record { filters = held_there v.active z.held; once = o.0; coming = o.1 },
)

enter_made : (plans : Plans) (z : Walk) (l k c : ℕ) → Owes z.owed l (enters k c) → EntersFree plans z → IsOfVersion z.active ((k, c) ∷ z.held) z.coming
enter_made plans z l k c is h =
    let may : MayEnter plans z.active z.held k c = first_free plans z.active z.held z.owed l (enters k c) is h.0 in
    record { filters = held_more z.active z.held k c may.there (IsOfVersion.filters h.1); once = IsOfVersion.once h.1; coming = IsOfVersion.coming h.1 }

leave_made : (plans : Plans) (z : Walk) (k c : ℕ) → EntersFree plans z → IsOfVersion z.active (without_clause k c z.held) z.coming
leave_made plans z k c h = record { filters = held_less z.active z.held k c (IsOfVersion.filters h.1); once = IsOfVersion.once h.1; coming = IsOfVersion.coming h.1 }

op_free : (p : Source) (plans : Plans) (z : Walk) (l : ℕ) (o : Operation) (rest : List Item) → MayStand p z (makes l o) rest → EntersFree plans z
    → EntersFree plans (after_operation p plans z o)
op_free p plans z l (wait k n) rest m h = (less_free plans z.active z.held z.owed l (wait k n) m h.0, h.1)
op_free p plans z l (enters k c) rest m h = (less_free plans z.active z.held z.owed l (enters k c) m h.0, enter_made plans z l k c m h)
op_free p plans z l (at k n) rest m h = (less_free plans z.active z.held z.owed l (at k n) m h.0, h.1)
op_free p plans z l (past k n) rest m h = (less_free plans z.active z.held z.owed l (past k n) m h.0, h.1)
op_free p plans z l (post k n) rest m h = (less_free plans z.active z.held z.owed l (post k n) m h.0, h.1)
op_free p plans z l (leave k c) rest m h = (less_free plans z.active z.held z.owed l (leave k c) m h.0, leave_made plans z k c h)
op_free p plans z l back rest m h = (less_free plans z.active z.held z.owed l back m h.0, h.1)
op_free p plans z l (tick x) rest m h = (less_free plans z.active z.held z.owed l (tick x) m h.0, h.1)
op_free p plans z l (cross x v n) rest m h = crossing_free p plans z z.coming h (IsOfVersion.coming h.1)
op_free p plans z l (blocked what) rest m h = h

walk_free : (p : Source) (plans : Plans) (z : Walk) (ss : List PartStep) (ahead : List Item) → AreWoven p plans z ss ahead → GoesFree plans z (items ss ++ ahead)
    → EntersFree plans (walk_from p plans z ss)
walk_free p plans z [] ahead w h = h.0
walk_free p plans z (goes i ∷ ss) ahead w h = walk_free p plans (after_item p plans z i) ss ahead w.1 (item_free p plans z i (items ss ++ ahead) h.0 h.1)
walk_free p plans z (makes l o ∷ ss) ahead w h =
    walk_free p plans (after_operation p plans z o) ss ahead w.1 (op_free p plans z l o (items ss ++ ahead) w.0 h.0, h.1)

-- behind its begin a thread holds nothing
begun_free : (plans : Plans) (us vs : List Version) → HaveOnce us → HaveOnce vs → EntersFree plans (taking (behind_entry (unborn us)) vs)
begun_free plans us [] o e = (tt, record { filters = λ j m g. cc; once = tt; coming = o })
begun_free plans us (v ∷ vs) o e = (tt, record { filters = λ j m g. cc; once = e.0; coming = e.1 })

part_free : (p : Source) (plans : Plans) (f : ℕ) (args : List ℤ) (vs : List Version) (ss : List PartStep) (ahead : List Item) (r : Outcome)
    → IsTrace p f args (items ss ++ ahead) r → AreWoven p plans (unborn vs) ss ahead → HaveOnce vs → EntersFree plans (walk_from p plans (unborn vs) ss)
part_free p plans f args vs [] ahead r trace w o = (tt, record { filters = λ j m g. cc; once = tt; coming = o })
part_free p plans f args vs (makes l q ∷ ss) ahead r trace w o =
    absurd (no_operation p vs (items ss ++ ahead) l q (begins_so p f args (items ss ++ ahead) r trace) w.0)
part_free p plans f args vs (goes i ∷ ss) ahead r trace w o =
    let b = trace_begins p f args i (items ss ++ ahead) r trace in
    let z : Walk = taking (behind_entry (unborn vs)) vs in
    let P : Item → Type 0 = λ j. AreWoven p plans (unborn vs) (goes j ∷ ss) ahead in
    let woven : AreWoven p plans z ss ahead = (subst P b.1 w).1 in
    let none : HaveNoBegin (items ss ++ ahead) = no_begin 0 (items ss ++ ahead) (trace_ends p f args i (items ss ++ ahead) r trace) in
    let Q : Item → Type 0 = λ j. EntersFree plans (walk_from p plans (unborn vs) (goes j ∷ ss)) in
    subst Q (sym b.1) (walk_free p plans z ss ahead woven (begun_free plans vs vs o o, none))

-- The clause that a thread owes to enter first is one of a filter of its version, and it isn't in it.
pub owed_enter : (p : Source) (plans : Plans) (x : Own) (h : IsPart p plans x) → HaveOnce x.versions → (l k c : ℕ) → Owes (walk_of p plans x h.steps).owed l (enters k c)
    → MayEnter plans (walk_of p plans x h.steps).active (walk_of p plans x h.steps).held k c
owed_enter p plans x h once l k c owes =
    let z : Walk = walk_of p plans x h.steps in
    let free : EntersFree plans z = part_free p plans x.func x.args x.versions h.steps h.ahead h.outcome h.trace h.woven once in
    first_free plans z.active z.held z.owed l (enters k c) owes free.0
