-- A thread leaves only clauses that it holds, and so only those of which the journal says it.
use Rattle.loom_event.specs.Replay.{ThreadState}
use Rattle.loom_law.proofs.Strict.{IsStrict}
use Rattle.std.proofs.Common.{ℕ, suc, ◌<◌, ◌≡◌, ◌==◌, Bool, true, false, not, ◌&&◌, ◌||◌, List, [], ◌∷◌, ◌++◌, length, Some, refl, sym, ap, subst, ◌∙◌, arith}
use Rattle.std.specs.List.{filter}
use Rattle.std.proofs.lemmas.Bool.{and_parts, and_left, and_right, ne_eqb}
use Rattle.std.proofs.lemmas.Map.Views.{any-filter_same}
use Rattle.std.proofs.lemmas.List.Folds.{list_any-append}
use Rattle.loom_tree.specs.Tree.{Source}
use Rattle.loom_trace.specs.declared.entry.Entry.{Entry}
use Rattle.loom_trace.specs.declared.entry.Entry.TheVariants as e
use Rattle.loom_lang.specs.Places.{Place}
use Rattle.loom_lang.specs.Places as place
use Rattle.loom_lang.specs.Trace.{Locals, begin, end, trap, read, write, lock, unlock, down, up, spawn, join, print, Item, made, begins, done, edge, enter, out}
use Rattle.loom_law.specs.Walk.{tick_after}
use Rattle.loom_law.specs.Filter.{Site, statement, function, Ruling, Plan, matching, has, waits, posts, numbered_from, clauses}
use Rattle.loom_law.specs.Walk.{Version, Plans, Operation, wait, enters, at, past, post, leave, back, tick, cross, blocked, PartStep, goes, makes, Inside, OpenFrame, Spot, elsewhere, beginning, entered, complete, left, trapped, Queue, Walk, unborn, holds, begins_in, owed_waits, owed_enters, owed_by, owed_at, is_inside_clause, all_inside, completed, in_frame, owed_posts, owed_leaves, events_of_filter, owed_past, owed_behind, all_leaves, with_back, with_tick, begun_with, function_line, without_first, taking, behind_entry, after_item, without_clause, still_owed, new_filters, owed_fresh, owed_behind_cross, crossing, after_operation, walk_from, Owes, MayStand, AreWoven}
use Rattle.loom_law.specs.ThreadPart.{walk_of, IsPart}
use Rattle.loom_law.specs.Control.{Command, have_one_name, Control, first_control, control, after_entry, takes_version, versions_from, versions_of, entries_of, listed_places}
use Rattle.loom_law.specs.Lawful.{plans, own, is_installed, Setting, is_held_by}
use Rattle.loom_law.specs.Laws.{AreOnce, HaveOnce, HasHeldLeaves}
use Rattle.loom_law.proofs.Holdings.{or_cases, or_left, or_right, either_of, pick, same_number, op_held}
use Rattle.loom_law.proofs.Cross.{held_in, filters_commute, leave_goes, if_true, if_false}
use Rattle.loom_law.proofs.Inside.{owed_none}
use Rattle.loom_law.proofs.Balance.{holds_without, holds_in, Says, AreSaid, IsSound, first_sound, sound_behind}
use Rattle.loom_law.proofs.Obedience.{are_said, balance}
use Rattle.loom_law.proofs.ActiveFilters.{owed_installed}

and_both : (a b : Bool) → a ≡ true → b ≡ true → (a && b) ≡ true
and_both true b h g = g
and_both false b h g = cc

pub eq_same : (n : ℕ) → (n == n) ≡ true
eq_same n = grind arith

-- What is owed is held where it is left

abbrev LeftHeld : List (ℕ × ℕ) → Operation → Type 0
LeftHeld hs (leave k c) = holds hs k c ≡ true
LeftHeld hs _ = Unit {0}

abbrev AllLeft : List (ℕ × ℕ) → Queue → Type 0
AllLeft hs [] = Unit {0}
AllLeft hs (x ∷ os) = LeftHeld hs x.1 × AllLeft (op_held x.1 hs) os

-- whatever is held
abbrev AnyLeft : Queue → Type 0
AnyLeft os = (hs : List (ℕ × ℕ)) → AllLeft hs os

waits_any : (f : Plan) (k l : ℕ) (ns : List ℕ) (more : Queue) → AnyLeft more → AnyLeft (owed_waits f k l ns more)
waits_any f k l [] more h hs = h hs
waits_any f k l (n ∷ ns) more h hs =
    let ih : AllLeft hs (owed_waits f k l ns more) = waits_any f k l ns more h hs in
    pick (AllLeft hs) (waits f n) _ _ (λ b. (tt, ih)) (λ b. ih)

enters_any : (gs : List (ℕ × ℕ)) (k l : ℕ) (ns : List ℕ) (cs : List (ℕ × Ruling)) (more : Queue) → AnyLeft more → AnyLeft (owed_enters gs k l ns cs more)
enters_any gs k l ns [] more h hs = h hs
enters_any gs k l ns (c ∷ cs) more h hs =
    pick (AllLeft hs) (begins_in c.1 ns && not (holds gs k c.0)) _ _ (λ b. (tt, enters_any gs k l ns cs more h ((k, c.0) ∷ hs))) (λ b. enters_any gs k l ns cs more h hs)

by_any : (f : Plan) (k : ℕ) (gs : List (ℕ × ℕ)) (l : ℕ) (ns : List ℕ) (more : Queue) → AnyLeft more → AnyLeft (owed_by f k gs l ns more)
by_any f k gs l [] more h hs = h hs
by_any f k gs l (n ∷ ns) more h hs =
    waits_any f k l (n ∷ ns) _ (enters_any gs k l (n ∷ ns) (clauses f) ((l, at k (n ∷ ns)) ∷ more) (λ js. (tt, h js))) hs

at_any : (plans : Plans) (gs : List (ℕ × ℕ)) (l : ℕ) (site : Site) (env : Locals) (ks : List ℕ) → AnyLeft (owed_at plans gs l site env ks)
at_any plans gs l site env [] hs = tt
at_any plans gs l site env (k ∷ ks) hs = by_any (plans k) k gs l (matching (plans k) site env) (owed_at plans gs l site env ks) (at_any plans gs l site env ks) hs

fresh_any : (p : Source) (plans : Plans) (s : Spot) (ks : List ℕ) → AnyLeft (owed_fresh p plans s ks)
fresh_any p plans elsewhere ks hs = tt
fresh_any p plans (beginning l env) ks hs = at_any plans [] l (statement l) env ks hs
fresh_any p plans (entered f env) ks hs = at_any plans [] (function_line p f) (function (Some f)) env ks hs
fresh_any p plans (complete l) ks hs = tt
fresh_any p plans (left f is) ks hs = tt
fresh_any p plans (trapped l) ks hs = tt

posts_left : (f : Plan) (k l : ℕ) (ns : List ℕ) (more : Queue) (hs : List (ℕ × ℕ)) → AllLeft hs more → AllLeft hs (owed_posts f k l ns more)
posts_left f k l [] more hs h = h
posts_left f k l (n ∷ ns) more hs h =
    let ih : AllLeft hs (owed_posts f k l ns more) = posts_left f k l ns more hs h in
    pick (AllLeft hs) (posts f n) _ _ (λ b. (tt, ih)) (λ b. ih)

tick_left : (p : Source) (x : Place) (n : ℕ) (os : Queue) (hs : List (ℕ × ℕ)) → AllLeft hs os → AllLeft hs (with_tick p x n os)
tick_left p x n os hs h = pick (AllLeft hs) (n == tick_after) _ _ (λ b. (tt, h)) (λ b. h)

back_left : (l : ℕ) (os : Queue) (hs : List (ℕ × ℕ)) → AllLeft hs os → AllLeft hs (with_back l os)
back_left l [] hs h = tt
back_left l (o ∷ os) hs h = (tt, h)

-- A clause has its number once

abbrev pub Away : ℕ → List (ℕ × Ruling) → Type 0
Away n [] = Unit {0}
Away n (d ∷ cs) = ((d.0 == n) ≡ false) × Away n cs

abbrev pub OneEach : List (ℕ × Ruling) → Type 0
OneEach [] = Unit {0}
OneEach (c ∷ cs) = Away c.0 cs × OneEach cs

numbered_away : (n m : ℕ) (rs : List Ruling) → n < m → Away n (numbered_from m rs)
numbered_away n m [] h = tt
numbered_away n m (r ∷ rs) h = (ne_eqb m n (λ q. omega arith), numbered_away n (suc m) rs (omega arith))

pub numbered_once : (n : ℕ) (rs : List Ruling) → OneEach (numbered_from n rs)
numbered_once n [] = tt
numbered_once n (r ∷ rs) = (numbered_away n (suc n) rs (omega arith), numbered_once (suc n) rs)

-- these clauses are held still
abbrev Still : List (ℕ × ℕ) → List (ℕ × ℕ) → ℕ → List (ℕ × Ruling) → Type 0
Still gs hs k [] = Unit {0}
Still gs hs k (c ∷ cs) = (holds gs k c.0 ≡ true → holds hs k c.0 ≡ true) × Still gs hs k cs

all_still : (gs hs : List (ℕ × ℕ)) (k : ℕ) (cs : List (ℕ × Ruling)) → ((m : ℕ) → holds gs k m ≡ true → holds hs k m ≡ true) → Still gs hs k cs
all_still gs hs k [] h = tt
all_still gs hs k (c ∷ cs) h = (h c.0, all_still gs hs k cs h)

pub holds_other : (k n : ℕ) (hs : List (ℕ × ℕ)) (j m : ℕ) → ((j == k) && (m == n)) ≡ false → holds hs j m ≡ true → holds (without_clause k n hs) j m ≡ true
holds_other k n hs j m other h = holds_without k n hs j m ∙ and_both (not ((j == k) && (m == n))) (holds hs j m) (ap not other) h

still_less : (gs hs : List (ℕ × ℕ)) (k n : ℕ) (cs : List (ℕ × Ruling)) → Away n cs → Still gs hs k cs → Still gs (without_clause k n hs) k cs
still_less gs hs k n [] a h = tt
still_less gs hs k n (d ∷ cs) a h = ((λ g. holds_other k n hs k d.0 (and_right (k == k) (d.0 == n) a.0) (h.0 g)), still_less gs hs k n cs a.1 h.1)

-- of the other filters all is held still
abbrev Others : ℕ → List (ℕ × ℕ) → List (ℕ × ℕ) → Type 0
Others k hs js = (j m : ℕ) → (j == k) ≡ false → holds hs j m ≡ true → holds js j m ≡ true

leaves_left : (gs hs : List (ℕ × ℕ)) (is : List Inside) (k l : ℕ) (cs : List (ℕ × Ruling)) (more : Queue) → OneEach cs → Still gs hs k cs
    → ((js : List (ℕ × ℕ)) → Others k hs js → AllLeft js more) → AllLeft hs (owed_leaves gs is k l cs more)
leaves_left gs hs is k l [] more o s go = go hs (λ j m q h. h)
leaves_left gs hs is k l (c ∷ cs) more o s go =
    pick (AllLeft hs) (holds gs k c.0 && not (is_inside_clause is k c.0)) _ _
    (λ b. (
      s.0 (and_parts (holds gs k c.0) (not (is_inside_clause is k c.0)) b).0,
      leaves_left gs (without_clause k c.0 hs) is k l cs more o.1 (still_less gs hs k c.0 cs o.0 s.1)
          (λ js others. go js (λ j m q h. others j m q (holds_other k c.0 hs j m (and_left (j == k) (m == c.0) q) h))),
    ))
    (λ b. leaves_left gs hs is k l cs more o.1 s.1 go)

-- all that was held of these filters is
abbrev Holding : List (ℕ × ℕ) → List (ℕ × ℕ) → List ℕ → Type 0
Holding gs hs ks = (j m : ℕ) → has ks j ≡ true → holds gs j m ≡ true → holds hs j m ≡ true

not_it : (ks : List ℕ) (j k : ℕ) → has ks j ≡ true → has ks k ≡ false → (b : Bool) → (j == k) ≡ b → b ≡ false
not_it ks j k h g false is = refl
not_it ks j k h g true is =
    let P : ℕ → Type 0 = λ z. has ks z ≡ true in
    let no : has ks k ≡ true = subst P (same_number j k is) h in
    cc

holding_others : (gs hs js : List (ℕ × ℕ)) (k : ℕ) (ks : List ℕ) → has ks k ≡ false → Holding gs hs (k ∷ ks) → Others k hs js → Holding gs js ks
holding_others gs hs js k ks away h others j m i g = others j m (not_it ks j k i away (j == k) refl) (h j m (or_right (k == j) (has ks j) i) g)

holding_first : (gs hs : List (ℕ × ℕ)) (k : ℕ) (ks : List ℕ) → Holding gs hs (k ∷ ks) → (m : ℕ) → holds gs k m ≡ true → holds hs k m ≡ true
holding_first gs hs k ks h m g = h k m (or_left (k == k) (has ks k) (eq_same k)) g

all_leaves_left : (plans : Plans) (gs hs : List (ℕ × ℕ)) (is : List Inside) (l : ℕ) (ks : List ℕ) → AreOnce ks → Holding gs hs ks → AllLeft hs (all_leaves plans gs is l ks)
all_leaves_left plans gs hs is l [] o h = tt
all_leaves_left plans gs hs is l (k ∷ ks) o h =
    leaves_left gs hs is k l (clauses (plans k)) (all_leaves plans gs is l ks) (numbered_once 1 (Plan.rulings (plans k)))
    (all_still gs hs k (clauses (plans k)) (holding_first gs hs k ks h))
    (λ js others. all_leaves_left plans gs js is l ks o.1 (holding_others gs hs js k ks o.0 h others))

past_left : (f : Plan) (k : ℕ) (gs hs : List (ℕ × ℕ)) (fs : List OpenFrame) (l : ℕ) (ns : List ℕ) (more : Queue) → ((m : ℕ) → holds gs k m ≡ true → holds hs k m ≡ true)
    → ((js : List (ℕ × ℕ)) → Others k hs js → AllLeft js more) → AllLeft hs (owed_past f k gs fs l ns more)
past_left f k gs hs fs l [] more h go = go hs (λ j m q g. g)
past_left f k gs hs fs l (n ∷ ns) more h go = (
  tt,
  posts_left f k l (n ∷ ns) _ hs
      (leaves_left gs hs (all_inside (in_frame (completed k (n ∷ ns)) fs)) k l (clauses f) more (numbered_once 1 f.rulings) (all_still gs hs k (clauses f) h) go),
)

behind_left : (plans : Plans) (gs hs : List (ℕ × ℕ)) (fs : List OpenFrame) (l : ℕ) (xs : List (ℕ × List ℕ)) (ks : List ℕ) → AreOnce ks → Holding gs hs ks
    → AllLeft hs (owed_behind plans gs fs l xs ks)
behind_left plans gs hs fs l xs [] o h = tt
behind_left plans gs hs fs l xs (k ∷ ks) o h =
    past_left (plans k) k gs hs fs l (events_of_filter k xs) (owed_behind plans gs fs l xs ks) (holding_first gs hs k ks h)
    (λ js others. behind_left plans gs js fs l xs ks o.1 (holding_others gs hs js k ks o.0 h others))

-- Where a version is taken

back_more : (l : ℕ) (os more : Queue) (hs : List (ℕ × ℕ)) → AllLeft hs (os ++ more) → AllLeft hs (with_back l os ++ more)
back_more l [] more hs h = h
back_more l (o ∷ os) more hs h = (tt, h)

kept_left : (ks : List ℕ) (more : Queue) → AnyLeft more → (hs : List (ℕ × ℕ)) (os : Queue) → AllLeft hs os → AllLeft (held_in ks hs) (still_owed ks os ++ more)
kept_left ks more any hs [] h = any (held_in ks hs)
kept_left ks more any hs ((l, back) ∷ os) h = back_more l (still_owed ks os) more (held_in ks hs) (kept_left ks more any hs os h.1)
kept_left ks more any hs ((l, wait k n) ∷ os) h =
    let ih = kept_left ks more any hs os h.1 in pick (λ us. AllLeft (held_in ks hs) (us ++ more)) (has ks k) _ _ (λ b. (tt, ih)) (λ b. ih)
kept_left ks more any hs ((l, at k n) ∷ os) h =
    let ih = kept_left ks more any hs os h.1 in pick (λ us. AllLeft (held_in ks hs) (us ++ more)) (has ks k) _ _ (λ b. (tt, ih)) (λ b. ih)
kept_left ks more any hs ((l, past k n) ∷ os) h =
    let ih = kept_left ks more any hs os h.1 in pick (λ us. AllLeft (held_in ks hs) (us ++ more)) (has ks k) _ _ (λ b. (tt, ih)) (λ b. ih)
kept_left ks more any hs ((l, post k n) ∷ os) h =
    let ih = kept_left ks more any hs os h.1 in pick (λ us. AllLeft (held_in ks hs) (us ++ more)) (has ks k) _ _ (λ b. (tt, ih)) (λ b. ih)
kept_left ks more any hs ((l, enters k c) ∷ os) h =
    let ih = kept_left ks more any ((k, c) ∷ hs) os h.1 in
    let P : List (ℕ × ℕ) → Type 0 = λ gs. AllLeft gs (still_owed ks os ++ more) in
    pick (λ us. AllLeft (held_in ks hs) (us ++ more)) (has ks k) _ _
    (λ b. (tt, subst P (if_true (has ks k) ((k, c) ∷ held_in ks hs) (held_in ks hs) b) ih))
    (λ b. subst P (if_false (has ks k) ((k, c) ∷ held_in ks hs) (held_in ks hs) b) ih)
kept_left ks more any hs ((l, leave k c) ∷ os) h =
    let ih = kept_left ks more any (without_clause k c hs) os h.1 in
    let P : List (ℕ × ℕ) → Type 0 = λ gs. AllLeft gs (still_owed ks os ++ more) in
    pick (λ us. AllLeft (held_in ks hs) (us ++ more)) (has ks k) _ _
    (λ b. (
      holds_in ks hs k c ∙ and_both (has ks k) (holds hs k c) b h.0,
      subst P (filters_commute (λ (x : ℕ × ℕ). has ks x.0) (λ (x : ℕ × ℕ). not ((x.0 == k) && (x.1 == c))) hs) ih,
    ))
    (λ b. subst P (leave_goes ks k c hs b) ih)
kept_left ks more any hs ((l, tick x) ∷ os) h = (tt, kept_left ks more any hs os h.1)
kept_left ks more any hs ((l, cross x v n) ∷ os) h = (tt, kept_left ks more any hs os h.1)
kept_left ks more any hs ((l, blocked what) ∷ os) h = (tt, kept_left ks more any hs os h.1)

crossed_left : (p : Source) (plans : Plans) (s : Spot) (old ks : List ℕ) (hs : List (ℕ × ℕ)) (os : Queue) → AllLeft hs os → AllLeft (held_in ks hs) (owed_behind_cross p plans s old ks os)
crossed_left p plans s old ks hs [] h = tt
crossed_left p plans s old ks hs (o ∷ os) h = kept_left ks (owed_fresh p plans s (new_filters old ks)) (fresh_any p plans s (new_filters old ks)) hs (o ∷ os) h

-- Along a walk

abbrev LeavesWell : Walk → Type 0
LeavesWell z = AllLeft z.held z.owed × (AreOnce z.active × HaveOnce z.coming)

crossing_well : (p : Source) (plans : Plans) (z : Walk) (vs : List Version) → AllLeft z.held z.owed → AreOnce z.active → z.coming ≡ vs → HaveOnce vs
    → LeavesWell (crossing p plans z vs)
crossing_well p plans z [] h a is o = (h, (a, subst HaveOnce (sym is) o))
crossing_well p plans z (v ∷ vs) h a is o = (crossed_left p plans z.spot z.active v.active z.held z.owed h, (o.0, o.1))

taking_well : (z : Walk) (vs : List Version) → z.owed ≡ [] → AreOnce z.active → z.coming ≡ vs → HaveOnce vs → LeavesWell (taking (behind_entry z) vs)
taking_well z [] none a is o = (subst (AllLeft z.held) (sym none) tt, (a, subst HaveOnce (sym is) o))
taking_well z (v ∷ vs) none a is o = (subst (AllLeft z.held) (sym none) tt, (o.0, o.1))

item_well : (p : Source) (plans : Plans) (z : Walk) (i : Item) → z.owed ≡ [] → LeavesWell z → LeavesWell (after_item p plans z i)
item_well p plans z (made l begin) is h = taking_well z z.coming is h.1.0 refl h.1.1
item_well p plans z (made l (trap c)) is h = (all_leaves_left plans z.held z.held [] l z.active h.1.0 (λ j m q g. g), h.1)
item_well p plans z (made l end) is h = h
item_well p plans z (made l (read x v)) is h = h
item_well p plans z (made l (write x v)) is h = h
item_well p plans z (made l (lock m)) is h = h
item_well p plans z (made l (unlock m)) is h = h
item_well p plans z (made l (down m)) is h = h
item_well p plans z (made l (up m)) is h = h
item_well p plans z (made l (spawn c f vs)) is h = h
item_well p plans z (made l (join c)) is h = h
item_well p plans z (made l (print v)) is h = h
item_well p plans z (begins l env) is h = (at_any plans z.held l (statement l) env z.active z.held, h.1)
item_well p plans z (done l) is h = (behind_left plans z.held z.held z.frames l (begun_with z.frames) z.active h.1.0 (λ j m q g. g), h.1)
item_well p plans z (edge l) is h = (tick_left p (place.back_edge l) (suc (length z.passed)) [] z.held tt, h.1)
item_well p plans z (enter f env) is h =
    (tick_left p (place.entry f) (suc (length z.passed)) _ z.held (at_any plans z.held (function_line p f) (function (Some f)) env z.active z.held), h.1)
item_well p plans z (out f) is h = (
  back_left (function_line p f) _ z.held
      (all_leaves_left plans z.held z.held (all_inside (without_first z.frames)) (function_line p f) z.active h.1.0 (λ j m q g. g)),
  h.1,
)

left_op : (hs : List (ℕ × ℕ)) (os : Queue) (l : ℕ) (o : Operation) → Owes os l o → AllLeft hs os → AllLeft (op_held o hs) (without_first os)
left_op hs [] l o is h = absurd is
left_op hs (x ∷ os) l o is h =
    let P : Operation → Type 0 = λ q. AllLeft (op_held q hs) os in
    subst P (ap (λ (q : ℕ × Operation). q.1) is) h.1

left_held : (hs : List (ℕ × ℕ)) (os : Queue) (l : ℕ) (o : Operation) → Owes os l o → AllLeft hs os → LeftHeld hs o
left_held hs [] l o is h = absurd is
left_held hs (x ∷ os) l o is h = subst (LeftHeld hs) (ap (λ (q : ℕ × Operation). q.1) is) h.0

op_well : (p : Source) (plans : Plans) (z : Walk) (l : ℕ) (o : Operation) (rest : List Item) → MayStand p z (makes l o) rest → LeavesWell z → LeavesWell (after_operation p plans z o)
op_well p plans z l (wait k n) rest m h = (left_op z.held z.owed l (wait k n) m h.0, h.1)
op_well p plans z l (enters k n) rest m h = (left_op z.held z.owed l (enters k n) m h.0, h.1)
op_well p plans z l (at k n) rest m h = (left_op z.held z.owed l (at k n) m h.0, h.1)
op_well p plans z l (past k n) rest m h = (left_op z.held z.owed l (past k n) m h.0, h.1)
op_well p plans z l (post k n) rest m h = (left_op z.held z.owed l (post k n) m h.0, h.1)
op_well p plans z l (leave k n) rest m h = (left_op z.held z.owed l (leave k n) m h.0, h.1)
op_well p plans z l back rest m h = (left_op z.held z.owed l back m h.0, h.1)
op_well p plans z l (tick x) rest m h = (left_op z.held z.owed l (tick x) m h.0, h.1)
op_well p plans z l (cross x v n) rest m h = crossing_well p plans z z.coming h.0 h.1.0 refl h.1.1
op_well p plans z l (blocked what) rest m h = h

walk_well : (p : Source) (plans : Plans) (z : Walk) (ss : List PartStep) (ahead : List Item) → AreWoven p plans z ss ahead → LeavesWell z → LeavesWell (walk_from p plans z ss)
walk_well p plans z [] ahead w h = h
walk_well p plans z (goes i ∷ ss) ahead w h = walk_well p plans (after_item p plans z i) ss ahead w.1 (item_well p plans z i (owed_none p z i _ w.0) h)
walk_well p plans z (makes l o ∷ ss) ahead w h = walk_well p plans (after_operation p plans z o) ss ahead w.1 (op_well p plans z l o _ w.0 h)

pub held_leaves : HasHeldLeaves
held_leaves p plans x h once l k c owes =
    let well : LeavesWell (walk_of p plans x h.steps) = walk_well p plans (unborn x.versions) h.steps h.ahead h.woven (tt, (tt, once)) in
    left_held _ _ l (leave k c) owes well.0

-- The versions of a lawful journal have each filter once

not_true : (b : Bool) → (b ≡ true → ⊥) → b ≡ false
not_true true h = absurd (h refl)
not_true false h = refl

append_once : (ks : List ℕ) (k : ℕ) → AreOnce ks → has ks k ≡ false → AreOnce (ks ++ k ∷ [])
append_once [] k o h = (refl, tt)
append_once (j ∷ ks) k o h = (
  not_true (has (ks ++ k ∷ []) j)
      (λ g. either_of (or_cases (has ks j) (has (k ∷ []) j) (sym (list_any-append (λ (m : ℕ). m == j) ks (k ∷ [])) ∙ g))
      (λ a. let no : has ks j ≡ false = o.0 in cc)
      (λ a. either_of (or_cases (k == j) false a)
      (λ b. let P : ℕ → Type 0 = λ z. ((z == k) || has ks k) ≡ false in
      let no : ((k == k) || has ks k) ≡ false = subst P (sym (same_number k j b)) h in
      let yes' : ((k == k) || has ks k) ≡ true = or_left (k == k) (has ks k) (eq_same k) in
      cc)
      (λ b. cc))),
  append_once ks k o.1 (or_second (j == k) (has ks k) h),
)
  where
    or_second : (a b : Bool) → (a || b) ≡ false → b ≡ false
    or_second true b q = cc
    or_second false b q = q

pub filter_once : (q : ℕ → Bool) (ks : List ℕ) → AreOnce ks → AreOnce (filter q ks)
filter_once q [] o = tt
filter_once q (k ∷ ks) o =
    pick AreOnce (q k) (k ∷ filter q ks) (filter q ks)
    (λ b. (any-filter_same (λ (m : ℕ). m == k) q (q k) (λ j g. ap q (same_number j k g)) ks ∙ and_right (q k) (has ks k) o.0, filter_once q ks o.1))
    (λ b. filter_once q ks o.1)

once_behind : (cs : List Command) (c : Control) (x : Entry) → Says c x → IsSound c → AreOnce (Version.active c.version) → AreOnce (Version.active (Control.version (after_entry cs c x)))
once_behind cs c (e.Installed k v ps) h s o =
    append_once (Version.active c.version) k o (not_true (has (Version.active c.version) k) (λ g. (s.spent k g).1 h))
once_behind cs c (e.Removed k v ps) h s o = filter_once (λ (j : ℕ). not (have_one_name cs j k)) (Version.active c.version) o
once_behind cs c (e.Enter u l k n) h s o = o
once_behind cs c (e.Leave u l k n) h s o = o
once_behind cs c (e.Asked k) h s o = o
once_behind cs c (e.Refused k n m) h s o = o
once_behind cs c (e.Stalled k t l) h s o = o
once_behind cs c (e.Cut k) h s o = o
once_behind cs c (e.Unreached k) h s o = o
once_behind cs c _ h s o = o

pub taken_once : (cs : List Command) (t : ℕ) (c : Control) (es : List Entry) → AreSaid cs c es → IsSound c → AreOnce (Version.active c.version) → HaveOnce (versions_from cs t c es)
taken_once cs t c [] h s o = tt
taken_once cs t c (x ∷ es) h s o =
    let ih : HaveOnce (versions_from cs t (after_entry cs c x) es) = taken_once cs t (after_entry cs c x) es h.1 (sound_behind cs c x h.0 s) (once_behind cs c x h.0 s o) in
    pick HaveOnce (takes_version t x) (c.version ∷ versions_from cs t (after_entry cs c x) es) (versions_from cs t (after_entry cs c x) es) (λ b. (o, ih)) (λ b. ih)

pub right_leaves : (s : Setting) (front rest : List Entry) → IsStrict s (front ++ rest) → (i : ℕ) → i < s.threads → (x : ThreadState)
    (h : IsPart s.program (plans s) (own s front (suc i) x)) (y : Entry) (ys : List Entry) → entries_of (suc i) front ≡ y ∷ ys → listed_places (suc i) front ≡ []
    → (l k c : ℕ) → Owes (walk_of s.program (plans s) (own s front (suc i) x) h.steps).owed l (leave k c)
    → is_held_by (control s.commands front) k c (suc i) ≡ true
right_leaves s front rest h i small x part y ys some none l k c owes =
    let t : ℕ = suc i in
    let once : HaveOnce (versions_of s.commands t front) = taken_once s.commands t first_control front (are_said s front rest h) first_sound tt in
    let installed : is_installed (control s.commands front) k ≡ true = owed_installed s front rest h i small x part y ys some none l (leave k c) k owes refl in
    sym (balance s front rest h t x part k c installed) ∙ held_leaves s.program (plans s) (own s front t x) part once l k c owes
