-- What a thread owes is of filters of its version; where it owes no `Cross` these are installed.
use Rattle.loom_event.specs.Replay.{ThreadState}
use Rattle.loom_trace.specs.declared.entry.Entry.{Entry}
use Rattle.loom_law.proofs.Strict.{IsStrict}
use Rattle.std.proofs.Common.{ℕ, suc, ◌≡◌, ◌==◌, true, not, ◌&&◌, List, [], ◌∷◌, ◌++◌, length, Option, Some, refl, sym, ap, subst, ◌∙◌, if◌then◌else◌, arith, ◌<◌}
use Rattle.std.proofs.lemmas.Bool.{and_parts}
use Rattle.std.proofs.lemmas.Map.Views.{any-filter_same}
use Rattle.loom_tree.specs.Tree.{Source}
use Rattle.loom_lang.specs.Places.{Place}
use Rattle.loom_lang.specs.Places as place
use Rattle.loom_lang.specs.Trace.{Locals, begin, end, trap, read, write, lock, unlock, down, up, spawn, join, print, Item, made, begins, done, edge, enter, out}
use Rattle.loom_law.specs.Walk.{tick_after}
use Rattle.loom_law.specs.Filter.{Site, statement, function, Ruling, Plan, matching, has, waits, posts, clauses}
use Rattle.loom_law.specs.Control.{entries_of, listed_places, control}
use Rattle.loom_law.specs.Walk.{Version, Plans, Operation, wait, enters, at, past, post, leave, back, tick, cross, blocked, PartStep, goes, makes, Inside, OpenFrame, Spot, elsewhere, beginning, entered, complete, left, trapped, Queue, Walk, unborn, holds, begins_in, owed_waits, owed_enters, owed_by, owed_at, is_inside_clause, all_inside, completed, in_frame, owed_posts, owed_leaves, events_of_filter, owed_past, owed_behind, all_leaves, with_back, with_tick, begun_with, function_line, without_first, taking, behind_entry, after_item, operation_filter, stays, still_owed, new_filters, owed_fresh, owed_behind_cross, crossing, after_operation, walk_from, Owes, AreWoven}
use Rattle.loom_law.specs.ThreadPart.{walk_of, IsPart}
use Rattle.loom_law.specs.Lawful.{plans, own, Setting, is_installed}
use Rattle.loom_law.specs.Laws.{HasOwedActive}
use Rattle.loom_law.proofs.Holdings.{or_left, or_right, pick, same_number}
use Rattle.loom_law.proofs.Inside.{owed_none}
use Rattle.loom_law.proofs.Newest.{newest}

-- each of these is of one of those filters, or of none
abbrev AllIn : List ℕ → Queue → Type 0
AllIn ks [] = Unit {0}
AllIn ks (x ∷ os) = (stays ks (operation_filter x.1) ≡ true) × AllIn ks os

abbrev pub Among : List ℕ → List ℕ → Type 0
Among js ks = (k : ℕ) → has js k ≡ true → has ks k ≡ true

eq_same : (n : ℕ) → (n == n) ≡ true
eq_same n = grind arith

pub first_in : (j : ℕ) (js ks : List ℕ) → Among (j ∷ js) ks → has ks j ≡ true
first_in j js ks h = h j (or_left (j == j) (has js j) (eq_same j))

pub others_in : (j : ℕ) (js ks : List ℕ) → Among (j ∷ js) ks → Among js ks
others_in j js ks h k g = h k (or_right (j == k) (has js k) g)

waits_in : (ks : List ℕ) (f : Plan) (k l : ℕ) (ns : List ℕ) (more : Queue) → has ks k ≡ true → AllIn ks more → AllIn ks (owed_waits f k l ns more)
waits_in ks f k l [] more i h = h
waits_in ks f k l (n ∷ ns) more i h =
    let ih : AllIn ks (owed_waits f k l ns more) = waits_in ks f k l ns more i h in
    pick (AllIn ks) (waits f n) _ _ (λ b. (i, ih)) (λ b. ih)

posts_in : (ks : List ℕ) (f : Plan) (k l : ℕ) (ns : List ℕ) (more : Queue) → has ks k ≡ true → AllIn ks more → AllIn ks (owed_posts f k l ns more)
posts_in ks f k l [] more i h = h
posts_in ks f k l (n ∷ ns) more i h =
    let ih : AllIn ks (owed_posts f k l ns more) = posts_in ks f k l ns more i h in
    pick (AllIn ks) (posts f n) _ _ (λ b. (i, ih)) (λ b. ih)

enters_in : (ks : List ℕ) (hs : List (ℕ × ℕ)) (k l : ℕ) (ns : List ℕ) (cs : List (ℕ × Ruling)) (more : Queue) → has ks k ≡ true → AllIn ks more
    → AllIn ks (owed_enters hs k l ns cs more)
enters_in ks hs k l ns [] more i h = h
enters_in ks hs k l ns (c ∷ cs) more i h =
    let ih : AllIn ks (owed_enters hs k l ns cs more) = enters_in ks hs k l ns cs more i h in
    pick (AllIn ks) (begins_in c.1 ns && not (holds hs k c.0)) _ _ (λ b. (i, ih)) (λ b. ih)

leaves_in : (ks : List ℕ) (hs : List (ℕ × ℕ)) (is : List Inside) (k l : ℕ) (cs : List (ℕ × Ruling)) (more : Queue) → has ks k ≡ true → AllIn ks more
    → AllIn ks (owed_leaves hs is k l cs more)
leaves_in ks hs is k l [] more i h = h
leaves_in ks hs is k l (c ∷ cs) more i h =
    let ih : AllIn ks (owed_leaves hs is k l cs more) = leaves_in ks hs is k l cs more i h in
    pick (AllIn ks) (holds hs k c.0 && not (is_inside_clause is k c.0)) _ _ (λ b. (i, ih)) (λ b. ih)

by_in : (ks : List ℕ) (f : Plan) (k : ℕ) (hs : List (ℕ × ℕ)) (l : ℕ) (ns : List ℕ) (more : Queue) → has ks k ≡ true → AllIn ks more → AllIn ks (owed_by f k hs l ns more)
by_in ks f k hs l [] more i h = h
by_in ks f k hs l (n ∷ ns) more i h =
    waits_in ks f k l (n ∷ ns) _ i (enters_in ks hs k l (n ∷ ns) (clauses f) ((l, at k (n ∷ ns)) ∷ more) i (i, h))

at_in : (ks : List ℕ) (plans : Plans) (hs : List (ℕ × ℕ)) (l : ℕ) (site : Site) (env : Locals) (js : List ℕ) → Among js ks → AllIn ks (owed_at plans hs l site env js)
at_in ks plans hs l site env [] a = tt
at_in ks plans hs l site env (j ∷ js) a =
    by_in ks (plans j) j hs l (matching (plans j) site env) (owed_at plans hs l site env js) (first_in j js ks a) (at_in ks plans hs l site env js (others_in j js ks a))

past_in : (ks : List ℕ) (f : Plan) (k : ℕ) (hs : List (ℕ × ℕ)) (fs : List OpenFrame) (l : ℕ) (ns : List ℕ) (more : Queue) → has ks k ≡ true → AllIn ks more
    → AllIn ks (owed_past f k hs fs l ns more)
past_in ks f k hs fs l [] more i h = h
past_in ks f k hs fs l (n ∷ ns) more i h =
    (i, posts_in ks f k l (n ∷ ns) _ i (leaves_in ks hs (all_inside (in_frame (completed k (n ∷ ns)) fs)) k l (clauses f) more i h))

behind_in : (ks : List ℕ) (plans : Plans) (hs : List (ℕ × ℕ)) (fs : List OpenFrame) (l : ℕ) (xs : List (ℕ × List ℕ)) (js : List ℕ) → Among js ks
    → AllIn ks (owed_behind plans hs fs l xs js)
behind_in ks plans hs fs l xs [] a = tt
behind_in ks plans hs fs l xs (j ∷ js) a =
    past_in ks (plans j) j hs fs l (events_of_filter j xs) (owed_behind plans hs fs l xs js) (first_in j js ks a) (behind_in ks plans hs fs l xs js (others_in j js ks a))

all_leaves_in : (ks : List ℕ) (plans : Plans) (hs : List (ℕ × ℕ)) (is : List Inside) (l : ℕ) (js : List ℕ) → Among js ks → AllIn ks (all_leaves plans hs is l js)
all_leaves_in ks plans hs is l [] a = tt
all_leaves_in ks plans hs is l (j ∷ js) a =
    leaves_in ks hs is j l (clauses (plans j)) (all_leaves plans hs is l js) (first_in j js ks a) (all_leaves_in ks plans hs is l js (others_in j js ks a))

back_in : (ks : List ℕ) (l : ℕ) (os : Queue) → AllIn ks os → AllIn ks (with_back l os)
back_in ks l [] h = tt
back_in ks l (o ∷ os) h = (refl, h)

tick_in : (ks : List ℕ) (p : Source) (x : Place) (n : ℕ) (os : Queue) → AllIn ks os → AllIn ks (with_tick p x n os)
tick_in ks p x n os h = pick (AllIn ks) (n == tick_after) _ _ (λ b. (refl, h)) (λ b. h)

both_in : (ks : List ℕ) (os more : Queue) → AllIn ks os → AllIn ks more → AllIn ks (os ++ more)
both_in ks [] more h g = g
both_in ks (o ∷ os) more h g = (h.0, both_in ks os more h.1 g)

one_kept : (ks : List ℕ) (l : ℕ) (o : Operation) (os : Queue) → AllIn ks os → AllIn ks (if stays ks (operation_filter o) then (l, o) ∷ os else os)
one_kept ks l o os h = pick (AllIn ks) (stays ks (operation_filter o)) _ _ (λ b. (b, h)) (λ b. h)

kept_in : (ks : List ℕ) (os : Queue) → AllIn ks (still_owed ks os)
kept_in ks [] = tt
kept_in ks ((l, back) ∷ os) = back_in ks l (still_owed ks os) (kept_in ks os)
kept_in ks ((l, wait k n) ∷ os) = one_kept ks l (wait k n) (still_owed ks os) (kept_in ks os)
kept_in ks ((l, enters k n) ∷ os) = one_kept ks l (enters k n) (still_owed ks os) (kept_in ks os)
kept_in ks ((l, at k n) ∷ os) = one_kept ks l (at k n) (still_owed ks os) (kept_in ks os)
kept_in ks ((l, past k n) ∷ os) = one_kept ks l (past k n) (still_owed ks os) (kept_in ks os)
kept_in ks ((l, post k n) ∷ os) = one_kept ks l (post k n) (still_owed ks os) (kept_in ks os)
kept_in ks ((l, leave k n) ∷ os) = one_kept ks l (leave k n) (still_owed ks os) (kept_in ks os)
kept_in ks ((l, tick x) ∷ os) = (refl, kept_in ks os)
kept_in ks ((l, cross x v n) ∷ os) = (refl, kept_in ks os)
kept_in ks ((l, blocked what) ∷ os) = (refl, kept_in ks os)

pub fresh_among : (old ks : List ℕ) → Among (new_filters old ks) ks
fresh_among old ks k h =
    let same = any-filter_same (λ (m : ℕ). m == k) (λ (j : ℕ). not (has old j)) (not (has old k)) (λ j g. ap (λ z. not (has old z)) (same_number j k g)) ks in
    (and_parts (not (has old k)) (has ks k) (sym same ∙ h)).1

fresh_in : (p : Source) (plans : Plans) (s : Spot) (ks js : List ℕ) → Among js ks → AllIn ks (owed_fresh p plans s js)
fresh_in p plans elsewhere ks js a = tt
fresh_in p plans (beginning l env) ks js a = at_in ks plans [] l (statement l) env js a
fresh_in p plans (entered f env) ks js a = at_in ks plans [] (function_line p f) (function (Some f)) env js a
fresh_in p plans (complete l) ks js a = tt
fresh_in p plans (left f is) ks js a = tt
fresh_in p plans (trapped l) ks js a = tt

crossed_in : (p : Source) (plans : Plans) (s : Spot) (old ks : List ℕ) (os : Queue) → AllIn ks (owed_behind_cross p plans s old ks os)
crossed_in p plans s old ks [] = tt
crossed_in p plans s old ks (o ∷ os) = both_in ks (still_owed ks (o ∷ os)) _ (kept_in ks (o ∷ os)) (fresh_in p plans s ks (new_filters old ks) (fresh_among old ks))

-- Along a walk

abbrev IsNamed : Walk → Type 0
IsNamed z = AllIn z.active z.owed

crossing_named : (p : Source) (plans : Plans) (z : Walk) (vs : List Version) → IsNamed z → IsNamed (crossing p plans z vs)
crossing_named p plans z [] h = h
crossing_named p plans z (v ∷ vs) h = crossed_in p plans z.spot z.active v.active z.owed

taking_named : (z : Walk) (vs : List Version) → z.owed ≡ [] → IsNamed (taking (behind_entry z) vs)
taking_named z [] is = subst (AllIn z.active) (sym is) tt
taking_named z (v ∷ vs) is = subst (AllIn v.active) (sym is) tt

pub itself : (ks : List ℕ) → Among ks ks
itself ks k h = h

item_named : (p : Source) (plans : Plans) (z : Walk) (i : Item) → z.owed ≡ [] → IsNamed (after_item p plans z i)
item_named p plans z (made l begin) is = taking_named z z.coming is
item_named p plans z (made l (trap c)) is = all_leaves_in z.active plans z.held [] l z.active (itself z.active)
item_named p plans z (made l end) is = subst (AllIn z.active) (sym is) tt
item_named p plans z (made l (read x v)) is = subst (AllIn z.active) (sym is) tt
item_named p plans z (made l (write x v)) is = subst (AllIn z.active) (sym is) tt
item_named p plans z (made l (lock m)) is = subst (AllIn z.active) (sym is) tt
item_named p plans z (made l (unlock m)) is = subst (AllIn z.active) (sym is) tt
item_named p plans z (made l (down m)) is = subst (AllIn z.active) (sym is) tt
item_named p plans z (made l (up m)) is = subst (AllIn z.active) (sym is) tt
item_named p plans z (made l (spawn c f vs)) is = subst (AllIn z.active) (sym is) tt
item_named p plans z (made l (join c)) is = subst (AllIn z.active) (sym is) tt
item_named p plans z (made l (print v)) is = subst (AllIn z.active) (sym is) tt
item_named p plans z (begins l env) is = at_in z.active plans z.held l (statement l) env z.active (itself z.active)
item_named p plans z (done l) is = behind_in z.active plans z.held z.frames l (begun_with z.frames) z.active (itself z.active)
item_named p plans z (edge l) is = tick_in z.active p (place.back_edge l) (suc (length z.passed)) [] tt
item_named p plans z (enter f env) is =
    tick_in z.active p (place.entry f) (suc (length z.passed)) _ (at_in z.active plans z.held (function_line p f) (function (Some f)) env z.active (itself z.active))
item_named p plans z (out f) is =
    back_in z.active (function_line p f) _ (all_leaves_in z.active plans z.held (all_inside (without_first z.frames)) (function_line p f) z.active (itself z.active))

less_in : (ks : List ℕ) (os : Queue) → AllIn ks os → AllIn ks (without_first os)
less_in ks [] h = tt
less_in ks (o ∷ os) h = h.1

op_named : (p : Source) (plans : Plans) (z : Walk) (o : Operation) → IsNamed z → IsNamed (after_operation p plans z o)
op_named p plans z (wait k n) h = less_in z.active z.owed h
op_named p plans z (enters k c) h = less_in z.active z.owed h
op_named p plans z (at k ns) h = less_in z.active z.owed h
op_named p plans z (past k ns) h = less_in z.active z.owed h
op_named p plans z (post k n) h = less_in z.active z.owed h
op_named p plans z (leave k c) h = less_in z.active z.owed h
op_named p plans z back h = less_in z.active z.owed h
op_named p plans z (tick x) h = less_in z.active z.owed h
op_named p plans z (cross x v n) h = crossing_named p plans z z.coming h
op_named p plans z (blocked what) h = h

walk_named : (p : Source) (plans : Plans) (z : Walk) (ss : List PartStep) (ahead : List Item) → AreWoven p plans z ss ahead → IsNamed z → IsNamed (walk_from p plans z ss)
walk_named p plans z [] ahead w h = h
walk_named p plans z (goes i ∷ ss) ahead w h = walk_named p plans (after_item p plans z i) ss ahead w.1 (item_named p plans z i (owed_none p z i _ w.0))
walk_named p plans z (makes l o ∷ ss) ahead w h = walk_named p plans (after_operation p plans z o) ss ahead w.1 (op_named p plans z o h)

owes_in : (ks : List ℕ) (os : Queue) (l : ℕ) (o : Operation) (k : ℕ) → AllIn ks os → Owes os l o → operation_filter o ≡ Some k → has ks k ≡ true
owes_in ks [] l o k h is f = absurd is
owes_in ks (x ∷ os) l o k h is f =
    let same : x.1 ≡ o = ap (λ (q : ℕ × Operation). q.1) is in
    let P : Option ℕ → Type 0 = λ q. stays ks q ≡ true in
    subst P (ap operation_filter same ∙ f) h.0

pub owed_active : HasOwedActive
owed_active p plans x h l o k owes f =
    owes_in _ _ l o k (walk_named p plans (unborn x.versions) h.steps h.ahead h.woven tt) owes f

pub owed_installed : (s : Setting) (front rest : List Entry) → IsStrict s (front ++ rest) → (i : ℕ) → i < s.threads → (x : ThreadState)
    (h : IsPart s.program (plans s) (own s front (suc i) x)) (y : Entry) (ys : List Entry) → entries_of (suc i) front ≡ y ∷ ys → listed_places (suc i) front ≡ []
    → (l : ℕ) (o : Operation) (k : ℕ) → Owes (walk_of s.program (plans s) (own s front (suc i) x) h.steps).owed l o → operation_filter o ≡ Some k
    → is_installed (control s.commands front) k ≡ true
owed_installed s front rest h i small x part y ys some none l o k owes f =
    let active : has (Walk.active (walk_of s.program (plans s) (own s front (suc i) x) part.steps)) k ≡ true =
    owed_active s.program (plans s) (own s front (suc i) x) part l o k owes f in
    subst (λ ks. has ks k ≡ true) (newest s front rest h i small x part y ys some none) active
