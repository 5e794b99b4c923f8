-- A thread that ends holds nothing.
use Rattle.std.proofs.Common.{ℕ, suc, ◌≡◌, ◌==◌, Bool, true, false, not, ◌&&◌, ◌||◌, List, [], ◌∷◌, ◌++◌, ℤ, length, Some, refl, sym, ap, subst, ◌∙◌, if◌then◌else◌, arith}
use Rattle.std.specs.List.{filter, list_any}
use Rattle.std.proofs.lemmas.Bool.{and_parts}
use Rattle.loom_tree.specs.Tree.{Source}
use Rattle.loom_lang.specs.Places.{Place}
use Rattle.loom_lang.specs.Places as place
use Rattle.loom_lang.specs.Trace.{Locals, begin, end, trap, read, write, lock, unlock, down, up, spawn, join, print, Item, made, begins, done, edge, enter, out, Outcome, IsTrace}
use Rattle.loom_law.specs.Walk.{tick_after}
use Rattle.loom_law.specs.Filter.{Site, statement, function, Ruling, Plan, matching, has, waits, posts, clauses}
use Rattle.loom_law.specs.Walk.{Version, Plans, Operation, wait, enters, at, past, post, leave, back, tick, cross, blocked, PartStep, goes, makes, items, Inside, OpenFrame, Spot, elsewhere, beginning, entered, complete, left, trapped, Queue, Walk, unborn, holds, begins_in, owed_waits, owed_enters, owed_by, owed_at, is_inside_clause, all_inside, completed, in_frame, owed_posts, owed_leaves, events_of_filter, owed_past, owed_behind, all_leaves, with_back, with_tick, begun_with, function_line, without_first, without_clause, taking, behind_entry, after_item, operation_filter, stays, still_owed, new_filters, owed_fresh, owed_behind_cross, crossing, frames_without, open_statement, close_statement, owed_out, begun_at, made_one, spot_without, left_behind, after_operation, walk_behind, walk_from, Owes, MayStand, AreWoven}
use Rattle.loom_law.proofs.Holdings.{or_left, or_right, pick, same_number}
use Rattle.loom_law.proofs.ActiveFilters.{Among, first_in, others_in, fresh_among, itself}
use Rattle.loom_law.proofs.Ends.{IsOpened, one_less, EndsWell, trace_ends}
use Rattle.loom_law.proofs.Earlier.{by_test, if_true, items_ahead, woven_front, begins_so, no_operation}
use Rattle.loom_lang.proofs.Broken.{trace_begins}

-- What it owes to enter, and what it holds, is a clause of a filter of its version

abbrev has_clause : Plans → ℕ → ℕ → Bool
has_clause plans k c = list_any (λ (x : ℕ × Ruling). x.0 == c) (clauses (plans k))

abbrev AreClauses : Plans → ℕ → List (ℕ × Ruling) → Type 0
AreClauses plans k cs = (c : ℕ) → list_any (λ (x : ℕ × Ruling). x.0 == c) cs ≡ true → has_clause plans k c ≡ true

abbrev OpWell : Plans → List ℕ → Operation → Type 0
OpWell plans ks (enters k c) = (has ks k ≡ true) × (has_clause plans k c ≡ true)
OpWell plans ks _ = Unit {0}

abbrev AllWell : Plans → List ℕ → Queue → Type 0
AllWell plans ks [] = Unit {0}
AllWell plans ks (x ∷ os) = OpWell plans ks x.1 × AllWell plans ks os

abbrev HeldWell : Plans → List ℕ → List (ℕ × ℕ) → Type 0
HeldWell plans ks [] = Unit {0}
HeldWell plans ks (h ∷ hs) = ((has ks h.0 ≡ true) × (has_clause plans h.0 h.1 ≡ true)) × HeldWell plans ks hs

eq_same : (n : ℕ) → (n == n) ≡ true
eq_same n = grind arith

waits_well : (plans : Plans) (ks : List ℕ) (f : Plan) (k l : ℕ) (ns : List ℕ) (more : Queue) → AllWell plans ks more → AllWell plans ks (owed_waits f k l ns more)
waits_well plans ks f k l [] more h = h
waits_well plans ks f k l (n ∷ ns) more h =
    let ih : AllWell plans ks (owed_waits f k l ns more) = waits_well plans ks f k l ns more h in
    pick (AllWell plans ks) (waits f n) _ _ (λ b. (tt, ih)) (λ b. ih)

posts_well : (plans : Plans) (ks : List ℕ) (f : Plan) (k l : ℕ) (ns : List ℕ) (more : Queue) → AllWell plans ks more → AllWell plans ks (owed_posts f k l ns more)
posts_well plans ks f k l [] more h = h
posts_well plans ks f k l (n ∷ ns) more h =
    let ih : AllWell plans ks (owed_posts f k l ns more) = posts_well plans ks f k l ns more h in
    pick (AllWell plans ks) (posts f n) _ _ (λ b. (tt, ih)) (λ b. ih)

enters_well : (plans : Plans) (ks : List ℕ) (hs : List (ℕ × ℕ)) (k l : ℕ) (ns : List ℕ) (cs : List (ℕ × Ruling)) (more : Queue) → has ks k ≡ true → AreClauses plans k cs
    → AllWell plans ks more → AllWell plans ks (owed_enters hs k l ns cs more)
enters_well plans ks hs k l ns [] more i a h = h
enters_well plans ks hs k l ns (c ∷ cs) more i a h =
    let ih : AllWell plans ks (owed_enters hs k l ns cs more) =
    enters_well plans ks hs k l ns cs more i (λ m g. a m (or_right (c.0 == m) (list_any (λ (x : ℕ × Ruling). x.0 == m) cs) g)) h in
    pick (AllWell plans ks) (begins_in c.1 ns && not (holds hs k c.0)) _ _
    (λ b. ((i, a c.0 (or_left (c.0 == c.0) (list_any (λ (x : ℕ × Ruling). x.0 == c.0) cs) (eq_same c.0))), ih)) (λ b. ih)

leaves_well : (plans : Plans) (ks : List ℕ) (hs : List (ℕ × ℕ)) (is : List Inside) (k l : ℕ) (cs : List (ℕ × Ruling)) (more : Queue) → AllWell plans ks more
    → AllWell plans ks (owed_leaves hs is k l cs more)
leaves_well plans ks hs is k l [] more h = h
leaves_well plans ks hs is k l (c ∷ cs) more h =
    let ih : AllWell plans ks (owed_leaves hs is k l cs more) = leaves_well plans ks hs is k l cs more h in
    pick (AllWell plans ks) (holds hs k c.0 && not (is_inside_clause is k c.0)) _ _ (λ b. (tt, ih)) (λ b. ih)

by_well : (plans : Plans) (ks : List ℕ) (k : ℕ) (hs : List (ℕ × ℕ)) (l : ℕ) (ns : List ℕ) (more : Queue) → has ks k ≡ true → AllWell plans ks more
    → AllWell plans ks (owed_by (plans k) k hs l ns more)
by_well plans ks k hs l [] more i h = h
by_well plans ks k hs l (n ∷ ns) more i h =
    waits_well plans ks (plans k) k l (n ∷ ns) _ (enters_well plans ks hs k l (n ∷ ns) (clauses (plans k)) ((l, at k (n ∷ ns)) ∷ more) i (λ c g. g) (tt, h))

at_well : (plans : Plans) (ks : List ℕ) (hs : List (ℕ × ℕ)) (l : ℕ) (site : Site) (env : Locals) (js : List ℕ) → Among js ks → AllWell plans ks (owed_at plans hs l site env js)
at_well plans ks hs l site env [] a = tt
at_well plans ks hs l site env (j ∷ js) a =
    by_well plans ks j hs l (matching (plans j) site env) (owed_at plans hs l site env js) (first_in j js ks a) (at_well plans ks hs l site env js (others_in j js ks a))

past_well : (plans : Plans) (ks : List ℕ) (f : Plan) (k : ℕ) (hs : List (ℕ × ℕ)) (fs : List OpenFrame) (l : ℕ) (ns : List ℕ) (more : Queue) → AllWell plans ks more
    → AllWell plans ks (owed_past f k hs fs l ns more)
past_well plans ks f k hs fs l [] more h = h
past_well plans ks f k hs fs l (n ∷ ns) more h =
    (tt, posts_well plans ks f k l (n ∷ ns) _ (leaves_well plans ks hs (all_inside (in_frame (completed k (n ∷ ns)) fs)) k l (clauses f) more h))

behind_well : (plans : Plans) (ks : List ℕ) (hs : List (ℕ × ℕ)) (fs : List OpenFrame) (l : ℕ) (xs : List (ℕ × List ℕ)) (js : List ℕ) → AllWell plans ks (owed_behind plans hs fs l xs js)
behind_well plans ks hs fs l xs [] = tt
behind_well plans ks hs fs l xs (j ∷ js) =
    past_well plans ks (plans j) j hs fs l (events_of_filter j xs) (owed_behind plans hs fs l xs js) (behind_well plans ks hs fs l xs js)

all_leaves_well : (plans : Plans) (ks : List ℕ) (hs : List (ℕ × ℕ)) (is : List Inside) (l : ℕ) (js : List ℕ) → AllWell plans ks (all_leaves plans hs is l js)
all_leaves_well plans ks hs is l [] = tt
all_leaves_well plans ks hs is l (j ∷ js) = leaves_well plans ks hs is j l (clauses (plans j)) (all_leaves plans hs is l js) (all_leaves_well plans ks hs is l js)

back_well : (plans : Plans) (ks : List ℕ) (l : ℕ) (os : Queue) → AllWell plans ks os → AllWell plans ks (with_back l os)
back_well plans ks l [] h = tt
back_well plans ks l (o ∷ os) h = (tt, h)

tick_well : (plans : Plans) (ks : List ℕ) (p : Source) (x : Place) (n : ℕ) (os : Queue) → AllWell plans ks os → AllWell plans ks (with_tick p x n os)
tick_well plans ks p x n os h = pick (AllWell plans ks) (n == tick_after) _ _ (λ b. (tt, h)) (λ b. h)

both_well : (plans : Plans) (ks : List ℕ) (os more : Queue) → AllWell plans ks os → AllWell plans ks more → AllWell plans ks (os ++ more)
both_well plans ks [] more h g = g
both_well plans ks (o ∷ os) more h g = (h.0, both_well plans ks os more h.1 g)

one_kept : (plans : Plans) (ks : List ℕ) (l : ℕ) (o : Operation) (os : Queue) → (stays ks (operation_filter o) ≡ true → OpWell plans ks o) → AllWell plans ks os
    → AllWell plans ks (if stays ks (operation_filter o) then (l, o) ∷ os else os)
one_kept plans ks l o os w h = pick (AllWell plans ks) (stays ks (operation_filter o)) _ _ (λ b. (w b, h)) (λ b. h)

kept_well : (plans : Plans) (old ks : List ℕ) (os : Queue) → AllWell plans old os → AllWell plans ks (still_owed ks os)
kept_well plans old ks [] h = tt
kept_well plans old ks ((l, back) ∷ os) h = back_well plans ks l (still_owed ks os) (kept_well plans old ks os h.1)
kept_well plans old ks ((l, wait k n) ∷ os) h = one_kept plans ks l (wait k n) (still_owed ks os) (λ b. tt) (kept_well plans old ks os h.1)
kept_well plans old ks ((l, enters k n) ∷ os) h = one_kept plans ks l (enters k n) (still_owed ks os) (λ b. (b, h.0.1)) (kept_well plans old ks os h.1)
kept_well plans old ks ((l, at k n) ∷ os) h = one_kept plans ks l (at k n) (still_owed ks os) (λ b. tt) (kept_well plans old ks os h.1)
kept_well plans old ks ((l, past k n) ∷ os) h = one_kept plans ks l (past k n) (still_owed ks os) (λ b. tt) (kept_well plans old ks os h.1)
kept_well plans old ks ((l, post k n) ∷ os) h = one_kept plans ks l (post k n) (still_owed ks os) (λ b. tt) (kept_well plans old ks os h.1)
kept_well plans old ks ((l, leave k n) ∷ os) h = one_kept plans ks l (leave k n) (still_owed ks os) (λ b. tt) (kept_well plans old ks os h.1)
kept_well plans old ks ((l, tick x) ∷ os) h = (tt, kept_well plans old ks os h.1)
kept_well plans old ks ((l, cross x v n) ∷ os) h = (tt, kept_well plans old ks os h.1)
kept_well plans old ks ((l, blocked what) ∷ os) h = (tt, kept_well plans old ks os h.1)

fresh_well : (p : Source) (plans : Plans) (s : Spot) (ks js : List ℕ) → Among js ks → AllWell plans ks (owed_fresh p plans s js)
fresh_well p plans elsewhere ks js a = tt
fresh_well p plans (beginning l env) ks js a = at_well plans ks [] l (statement l) env js a
fresh_well p plans (entered f env) ks js a = at_well plans ks [] (function_line p f) (function (Some f)) env js a
fresh_well p plans (complete l) ks js a = tt
fresh_well p plans (left f is) ks js a = tt
fresh_well p plans (trapped l) ks js a = tt

crossed_well : (p : Source) (plans : Plans) (s : Spot) (old ks : List ℕ) (os : Queue) → AllWell plans old os → AllWell plans ks (owed_behind_cross p plans s old ks os)
crossed_well p plans s old ks [] h = tt
crossed_well p plans s old ks (o ∷ os) h =
    both_well plans ks (still_owed ks (o ∷ os)) _ (kept_well plans old ks (o ∷ os) h) (fresh_well p plans s ks (new_filters old ks) (fresh_among old ks))

held_cut : (plans : Plans) (old ks : List ℕ) (hs : List (ℕ × ℕ)) → HeldWell plans old hs → HeldWell plans ks (filter (λ (h : ℕ × ℕ). has ks h.0) hs)
held_cut plans old ks [] w = tt
held_cut plans old ks (h ∷ hs) w =
    pick (HeldWell plans ks) (has ks h.0) (h ∷ filter (λ (h : ℕ × ℕ). has ks h.0) hs) (filter (λ (h : ℕ × ℕ). has ks h.0) hs)
    (λ b. ((b, w.0.1), held_cut plans old ks hs w.1)) (λ b. held_cut plans old ks hs w.1)

held_less : (plans : Plans) (ks : List ℕ) (k c : ℕ) (hs : List (ℕ × ℕ)) → HeldWell plans ks hs → HeldWell plans ks (without_clause k c hs)
held_less plans ks k c [] w = tt
held_less plans ks k c (h ∷ hs) w =
    pick (HeldWell plans ks) (not ((h.0 == k) && (h.1 == c))) (h ∷ without_clause k c hs) (without_clause k c hs)
    (λ b. (w.0, held_less plans ks k c hs w.1)) (λ b. held_less plans ks k c hs w.1)

-- Where no frame is open it owes a leave of all that it holds, and no enter

abbrev is_leave : ℕ → ℕ → Operation → Bool
is_leave k c (leave j m) = (k == j) && (c == m)
is_leave k c _ = false

abbrev has_leave : ℕ → ℕ → Queue → Bool
has_leave k c [] = false
has_leave k c (x ∷ os) = is_leave k c x.1 || has_leave k c os

abbrev AllLeft : List (ℕ × ℕ) → Queue → Type 0
AllLeft [] os = Unit {0}
AllLeft (h ∷ hs) os = (has_leave h.0 h.1 os ≡ true) × AllLeft hs os

abbrev IsNoEnter : Operation → Type 0
IsNoEnter (enters k c) = ⊥
IsNoEnter _ = Unit {0}

abbrev NoEnters : Queue → Type 0
NoEnters [] = Unit {0}
NoEnters (x ∷ os) = IsNoEnter x.1 × NoEnters os

abbrev is_behind : Spot → Bool
is_behind (beginning l env) = false
is_behind (entered f env) = false
is_behind _ = true

record Over (z : Walk) : Type 0 where
  leaves : AllLeft z.held z.owed
  none : NoEnters z.owed
  spot : is_behind z.spot ≡ true

record Good (plans : Plans) (z : Walk) : Type 0 where
  well : AllWell plans z.active z.owed
  held : HeldWell plans z.active z.held
  over : z.frames ≡ [] → Over z

pub or_rest : (a b : Bool) → a ≡ false → (a || b) ≡ true → b ≡ true
or_rest true b f h = cc
or_rest false b f h = h

pub and_true : (a b : Bool) → a ≡ true → b ≡ true → (a && b) ≡ true
and_true true b h g = g
and_true false b h g = cc

not_false : (b : Bool) → not b ≡ true → b ≡ false
not_false true h = cc
not_false false h = refl

leave_more : (hs : List (ℕ × ℕ)) (is : List Inside) (j l : ℕ) (cs : List (ℕ × Ruling)) (more : Queue) (k c : ℕ) → has_leave k c more ≡ true
    → has_leave k c (owed_leaves hs is j l cs more) ≡ true
leave_more hs is j l [] more k c h = h
leave_more hs is j l (x ∷ cs) more k c h =
    let ih : has_leave k c (owed_leaves hs is j l cs more) ≡ true = leave_more hs is j l cs more k c h in
    pick (λ os. has_leave k c os ≡ true) (holds hs j x.0 && not (is_inside_clause is j x.0)) ((l, leave j x.0) ∷ owed_leaves hs is j l cs more) (owed_leaves hs is j l cs more)
    (λ b. or_right ((k == j) && (c == x.0)) (has_leave k c (owed_leaves hs is j l cs more)) ih) (λ b. ih)

leave_there : (hs : List (ℕ × ℕ)) (k l : ℕ) (cs : List (ℕ × Ruling)) (more : Queue) (c : ℕ) → holds hs k c ≡ true → list_any (λ (x : ℕ × Ruling). x.0 == c) cs ≡ true
    → has_leave k c (owed_leaves hs [] k l cs more) ≡ true
leave_there hs k l [] more c h a = cc
leave_there hs k l (x ∷ cs) more c h a =
    by_test (x.0 == c) (has_leave k c (owed_leaves hs [] k l (x ∷ cs) more) ≡ true)
    (λ b.
    let same : x.0 ≡ c = same_number x.0 c b in
    let os : Queue = owed_leaves hs [] k l cs more in
    let test : (holds hs k x.0 && not (is_inside_clause [] k x.0)) ≡ true = and_true (holds hs k x.0) (not (is_inside_clause [] k x.0)) (ap (holds hs k) same ∙ h) refl in
    let here : has_leave k c ((l, leave k x.0) ∷ os) ≡ true =
    or_left ((k == k) && (c == x.0)) (has_leave k c os) (and_true (k == k) (c == x.0) (eq_same k) (ap (λ m. c == m) same ∙ eq_same c)) in
    ap (has_leave k c) (if_true (holds hs k x.0 && not (is_inside_clause [] k x.0)) ((l, leave k x.0) ∷ os) os test) ∙ here)
    (λ b.
    let ih : has_leave k c (owed_leaves hs [] k l cs more) ≡ true =
    leave_there hs k l cs more c h (or_rest (x.0 == c) (list_any (λ (x : ℕ × Ruling). x.0 == c) cs) b a) in
    pick (λ os. has_leave k c os ≡ true) (holds hs k x.0 && not (is_inside_clause [] k x.0)) ((l, leave k x.0) ∷ owed_leaves hs [] k l cs more) (owed_leaves hs [] k l cs more)
    (λ g. or_right ((k == k) && (c == x.0)) (has_leave k c (owed_leaves hs [] k l cs more)) ih) (λ g. ih))

all_left : (plans : Plans) (hs : List (ℕ × ℕ)) (l : ℕ) (ks : List ℕ) (k c : ℕ) → has ks k ≡ true → has_clause plans k c ≡ true → holds hs k c ≡ true
    → has_leave k c (all_leaves plans hs [] l ks) ≡ true
all_left plans hs l [] k c i a h = cc
all_left plans hs l (j ∷ ks) k c i a h =
    by_test (j == k) (has_leave k c (all_leaves plans hs [] l (j ∷ ks)) ≡ true)
    (λ b.
    let P : ℕ → Type 0 = λ m. has_leave k c (owed_leaves hs [] m l (clauses (plans m)) (all_leaves plans hs [] l ks)) ≡ true in
    subst P (sym (same_number j k b)) (leave_there hs k l (clauses (plans k)) (all_leaves plans hs [] l ks) c h a))
    (λ b.
    leave_more hs [] j l (clauses (plans j)) (all_leaves plans hs [] l ks) k c (all_left plans hs l ks k c (or_rest (j == k) (has ks k) b i) a h))

held_left : (plans : Plans) (ks : List ℕ) (hs : List (ℕ × ℕ)) (l : ℕ) (gs : List (ℕ × ℕ)) → HeldWell plans ks gs → ((k c : ℕ) → holds gs k c ≡ true → holds hs k c ≡ true)
    → AllLeft gs (all_leaves plans hs [] l ks)
held_left plans ks hs l [] w sub = tt
held_left plans ks hs l (g ∷ gs) w sub = (
  all_left plans hs l ks g.0 g.1 w.0.0 w.0.1
      (sub g.0 g.1 (or_left ((g.0 == g.0) && (g.1 == g.1)) (holds gs g.0 g.1) (and_true (g.0 == g.0) (g.1 == g.1) (eq_same g.0) (eq_same g.1)))),
  held_left plans ks hs l gs w.1 (λ k c q. sub k c (or_right ((g.0 == k) && (g.1 == c)) (holds gs k c) q)),
)

left_skip : (hs : List (ℕ × ℕ)) (x : ℕ × Operation) (os : Queue) → AllLeft hs os → AllLeft hs (x ∷ os)
left_skip [] x os h = tt
left_skip (g ∷ hs) x os h = (or_right (is_leave g.0 g.1 x.1) (has_leave g.0 g.1 os) h.0, left_skip hs x os h.1)

left_tail : (hs : List (ℕ × ℕ)) (x : ℕ × Operation) (os : Queue) → ((k c : ℕ) → is_leave k c x.1 ≡ false) → AllLeft hs (x ∷ os) → AllLeft hs os
left_tail [] x os f h = tt
left_tail (g ∷ hs) x os f h = (or_rest (is_leave g.0 g.1 x.1) (has_leave g.0 g.1 os) (f g.0 g.1) h.0, left_tail hs x os f h.1)

back_left : (hs : List (ℕ × ℕ)) (l : ℕ) (os : Queue) → AllLeft hs os → AllLeft hs (with_back l os)
back_left hs l [] h = h
back_left hs l (o ∷ os) h = left_skip hs (l, back) (o ∷ os) h

leaves_none : (hs : List (ℕ × ℕ)) (is : List Inside) (k l : ℕ) (cs : List (ℕ × Ruling)) (more : Queue) → NoEnters more → NoEnters (owed_leaves hs is k l cs more)
leaves_none hs is k l [] more h = h
leaves_none hs is k l (c ∷ cs) more h =
    let ih : NoEnters (owed_leaves hs is k l cs more) = leaves_none hs is k l cs more h in
    pick NoEnters (holds hs k c.0 && not (is_inside_clause is k c.0)) _ _ (λ b. (tt, ih)) (λ b. ih)

all_leaves_none : (plans : Plans) (hs : List (ℕ × ℕ)) (is : List Inside) (l : ℕ) (js : List ℕ) → NoEnters (all_leaves plans hs is l js)
all_leaves_none plans hs is l [] = tt
all_leaves_none plans hs is l (j ∷ js) = leaves_none hs is j l (clauses (plans j)) (all_leaves plans hs is l js) (all_leaves_none plans hs is l js)

back_none : (l : ℕ) (os : Queue) → NoEnters os → NoEnters (with_back l os)
back_none l [] h = tt
back_none l (o ∷ os) h = (tt, h)

-- Operations

less_well : (plans : Plans) (ks : List ℕ) (os : Queue) → AllWell plans ks os → AllWell plans ks (without_first os)
less_well plans ks [] h = tt
less_well plans ks (o ∷ os) h = h.1

less_none : (os : Queue) → NoEnters os → NoEnters (without_first os)
less_none [] h = tt
less_none (o ∷ os) h = h.1

made_left : (hs : List (ℕ × ℕ)) (os : Queue) (l : ℕ) (o : Operation) → Owes os l o → ((k c : ℕ) → is_leave k c o ≡ false) → AllLeft hs os → AllLeft hs (without_first os)
made_left hs [] l o is f h = absurd is
made_left hs (x ∷ os) l o is f h =
    left_tail hs x os (λ k c. ap (λ (y : ℕ × Operation). is_leave k c y.1) is ∙ f k c) h

leave_left : (hs : List (ℕ × ℕ)) (l k c : ℕ) (os : Queue) → AllLeft hs ((l, leave k c) ∷ os) → AllLeft (without_clause k c hs) os
leave_left [] l k c os h = tt
leave_left (g ∷ hs) l k c os h =
    pick (λ gs. AllLeft gs os) (not ((g.0 == k) && (g.1 == c))) (g ∷ without_clause k c hs) (without_clause k c hs)
    (λ b. (or_rest ((g.0 == k) && (g.1 == c)) (has_leave g.0 g.1 os) (not_false ((g.0 == k) && (g.1 == c)) b) h.0, leave_left hs l k c os h.1))
    (λ b. leave_left hs l k c os h.1)

leave_made : (hs : List (ℕ × ℕ)) (os : Queue) (l k c : ℕ) → Owes os l (leave k c) → AllLeft hs os → AllLeft (without_clause k c hs) (without_first os)
leave_made hs [] l k c is h = absurd is
leave_made hs (x ∷ os) l k c is h = leave_left hs l k c os (subst (λ y. AllLeft hs (y ∷ os)) is h)

op_owed : (plans : Plans) (ks : List ℕ) (os : Queue) (l : ℕ) (o : Operation) → Owes os l o → AllWell plans ks os → OpWell plans ks o
op_owed plans ks [] l o is h = absurd is
op_owed plans ks (x ∷ os) l o is h = subst (λ (y : ℕ × Operation). OpWell plans ks y.1) is h.0

no_enter : (os : Queue) (l k c : ℕ) → Owes os l (enters k c) → NoEnters os → ⊥
no_enter [] l k c is h = is
no_enter (x ∷ os) l k c is h = subst (λ (y : ℕ × Operation). IsNoEnter y.1) is h.0

-- A new version

back_has : (k c l : ℕ) (os : Queue) → has_leave k c os ≡ true → has_leave k c (with_back l os) ≡ true
back_has k c l [] h = h
back_has k c l (o ∷ os) h = h

one_has : (ks : List ℕ) (k c l : ℕ) (o : Operation) (os : Queue) → is_leave k c o ≡ false → has_leave k c os ≡ true → has_leave k c (if stays ks (operation_filter o) then (l, o) ∷ os else os) ≡ true
one_has ks k c l o os f h =
    pick (λ us. has_leave k c us ≡ true) (stays ks (operation_filter o)) ((l, o) ∷ os) os (λ b. or_right (is_leave k c o) (has_leave k c os) h) (λ b. h)

kept_leave : (ks : List ℕ) (k c : ℕ) (os : Queue) → has ks k ≡ true → has_leave k c os ≡ true → has_leave k c (still_owed ks os) ≡ true
kept_leave ks k c [] i h = cc
kept_leave ks k c ((l, back) ∷ os) i h = back_has k c l (still_owed ks os) (kept_leave ks k c os i h)
kept_leave ks k c ((l, wait j n) ∷ os) i h = one_has ks k c l (wait j n) (still_owed ks os) refl (kept_leave ks k c os i h)
kept_leave ks k c ((l, enters j n) ∷ os) i h = one_has ks k c l (enters j n) (still_owed ks os) refl (kept_leave ks k c os i h)
kept_leave ks k c ((l, at j n) ∷ os) i h = one_has ks k c l (at j n) (still_owed ks os) refl (kept_leave ks k c os i h)
kept_leave ks k c ((l, past j n) ∷ os) i h = one_has ks k c l (past j n) (still_owed ks os) refl (kept_leave ks k c os i h)
kept_leave ks k c ((l, post j n) ∷ os) i h = one_has ks k c l (post j n) (still_owed ks os) refl (kept_leave ks k c os i h)
kept_leave ks k c ((l, leave j m) ∷ os) i h =
    by_test ((k == j) && (c == m)) (has_leave k c (still_owed ks ((l, leave j m) ∷ os)) ≡ true)
    (λ b.
    let same : k ≡ j = same_number k j (and_parts (k == j) (c == m) b).0 in
    let stays : has ks j ≡ true = ap (has ks) (sym same) ∙ i in
    ap (has_leave k c) (if_true (has ks j) ((l, leave j m) ∷ still_owed ks os) (still_owed ks os) stays) ∙ or_left ((k == j) && (c == m)) (has_leave k c (still_owed ks os)) b)
    (λ b. one_has ks k c l (leave j m) (still_owed ks os) b (kept_leave ks k c os i (or_rest ((k == j) && (c == m)) (has_leave k c os) b h)))
kept_leave ks k c ((l, tick x) ∷ os) i h = kept_leave ks k c os i h
kept_leave ks k c ((l, cross x v n) ∷ os) i h = kept_leave ks k c os i h
kept_leave ks k c ((l, blocked what) ∷ os) i h = kept_leave ks k c os i h

one_none : (ks : List ℕ) (l : ℕ) (o : Operation) (os : Queue) → IsNoEnter o → NoEnters os → NoEnters (if stays ks (operation_filter o) then (l, o) ∷ os else os)
one_none ks l o os n h = pick NoEnters (stays ks (operation_filter o)) ((l, o) ∷ os) os (λ b. (n, h)) (λ b. h)

kept_none : (ks : List ℕ) (os : Queue) → NoEnters os → NoEnters (still_owed ks os)
kept_none ks [] h = tt
kept_none ks ((l, back) ∷ os) h = back_none l (still_owed ks os) (kept_none ks os h.1)
kept_none ks ((l, wait k n) ∷ os) h = one_none ks l (wait k n) (still_owed ks os) tt (kept_none ks os h.1)
kept_none ks ((l, enters k n) ∷ os) h = absurd h.0
kept_none ks ((l, at k n) ∷ os) h = one_none ks l (at k n) (still_owed ks os) tt (kept_none ks os h.1)
kept_none ks ((l, past k n) ∷ os) h = one_none ks l (past k n) (still_owed ks os) tt (kept_none ks os h.1)
kept_none ks ((l, post k n) ∷ os) h = one_none ks l (post k n) (still_owed ks os) tt (kept_none ks os h.1)
kept_none ks ((l, leave k n) ∷ os) h = one_none ks l (leave k n) (still_owed ks os) tt (kept_none ks os h.1)
kept_none ks ((l, tick x) ∷ os) h = (tt, kept_none ks os h.1)
kept_none ks ((l, cross x v n) ∷ os) h = (tt, kept_none ks os h.1)
kept_none ks ((l, blocked what) ∷ os) h = (tt, kept_none ks os h.1)

nothing_fresh : (p : Source) (plans : Plans) (s : Spot) (ks : List ℕ) → is_behind s ≡ true → owed_fresh p plans s ks ≡ []
nothing_fresh p plans elsewhere ks h = refl
nothing_fresh p plans (beginning l env) ks h = cc
nothing_fresh p plans (entered f env) ks h = cc
nothing_fresh p plans (complete l) ks h = refl
nothing_fresh p plans (left f is) ks h = refl
nothing_fresh p plans (trapped l) ks h = refl

append_nothing : (os more : Queue) → more ≡ [] → os ++ more ≡ os
append_nothing [] more h = h
append_nothing (o ∷ os) more h = ap (◌∷◌ o) (append_nothing os more h)

crossed_over : (p : Source) (plans : Plans) (s : Spot) (old ks : List ℕ) (os : Queue) → is_behind s ≡ true → owed_behind_cross p plans s old ks os ≡ still_owed ks os
crossed_over p plans s old ks [] h = refl
crossed_over p plans s old ks (o ∷ os) h = append_nothing (still_owed ks (o ∷ os)) (owed_fresh p plans s (new_filters old ks)) (nothing_fresh p plans s (new_filters old ks) h)

cross_left : (ks : List ℕ) (hs : List (ℕ × ℕ)) (os : Queue) → AllLeft hs os → AllLeft (filter (λ (h : ℕ × ℕ). has ks h.0) hs) (still_owed ks os)
cross_left ks [] os h = tt
cross_left ks (g ∷ hs) os h =
    pick (λ gs. AllLeft gs (still_owed ks os)) (has ks g.0) (g ∷ filter (λ (h : ℕ × ℕ). has ks h.0) hs) (filter (λ (h : ℕ × ℕ). has ks h.0) hs)
    (λ b. (kept_leave ks g.0 g.1 os b h.0, cross_left ks hs os h.1)) (λ b. cross_left ks hs os h.1)

over_without : (ks : List ℕ) (s : Spot) → is_behind s ≡ true → is_behind (spot_without ks s) ≡ true
over_without ks elsewhere h = refl
over_without ks (beginning l env) h = cc
over_without ks (entered f env) h = cc
over_without ks (complete l) h = refl
over_without ks (left f is) h = refl
over_without ks (trapped l) h = refl

over_behind : (s : Spot) → is_behind s ≡ true → is_behind (left_behind s) ≡ true
over_behind elsewhere h = refl
over_behind (beginning l env) h = cc
over_behind (entered f env) h = cc
over_behind (complete l) h = refl
over_behind (left f is) h = refl
over_behind (trapped l) h = refl

-- Frames

in_frame_none : (f : OpenFrame → OpenFrame) (fs : List OpenFrame) → in_frame f fs ≡ [] → fs ≡ []
in_frame_none f [] h = refl
in_frame_none f (x ∷ fs) h = cc

pub in_frame_length : (f : OpenFrame → OpenFrame) (fs : List OpenFrame) → length (in_frame f fs) ≡ length fs
in_frame_length f [] = refl
in_frame_length f (x ∷ fs) = refl

without_none : (ks : List ℕ) (fs : List OpenFrame) → frames_without ks fs ≡ [] → fs ≡ []
without_none ks [] h = refl
without_none ks (x ∷ fs) h = cc

pub without_length : (ks : List ℕ) (fs : List OpenFrame) → length (frames_without ks fs) ≡ length fs
without_length ks [] = refl
without_length ks (x ∷ fs) = ap suc (without_length ks fs)

pub less_length : (fs : List OpenFrame) → length (without_first fs) ≡ one_less (length fs)
less_length [] = refl
less_length (x ∷ fs) = refl

no_frames : (fs : List OpenFrame) → length fs ≡ 0 → fs ≡ []
no_frames [] h = refl
no_frames (x ∷ fs) h = let bad : ⊥ = omega arith in absurd bad

-- Along a walk

abbrev Goes : Plans → Walk → List Item → Type 0
Goes plans z rest = Good plans z × EndsWell (length z.frames) rest

calm : (plans : Plans) (z : Walk) → Good plans z → Good plans (behind_entry z)
calm plans z h = record { well = h.well; held = h.held; over = λ n. record { leaves = (h.over n).leaves; none = (h.over n).none; spot = refl } }

not_here : (fs : List OpenFrame) → IsOpened (length fs) → fs ≡ [] → ⊥
not_here fs h is = subst (λ us. IsOpened (length us)) is h

item_good : (p : Source) (plans : Plans) (z : Walk) (i : Item) (rest : List Item) → EndsWell (length z.frames) (i ∷ rest) → Good plans z → Goes plans (after_item p plans z i) rest
item_good p plans z (made l begin) rest e h = absurd e
item_good p plans z (made l end) rest e h = (calm plans z h, e.1)
item_good p plans z (made l (trap c)) rest e h = (
  record {
    well = all_leaves_well plans z.active z.held [] l z.active;
    held = h.held;
    over = λ n. record {
      leaves = held_left plans z.active z.held l z.held h.held (λ k c g. g);
      none = all_leaves_none plans z.held [] l z.active;
      spot = refl;
    };
  },
  e,
)
item_good p plans z (made l (read x v)) rest e h = (calm plans z h, e)
item_good p plans z (made l (write x v)) rest e h = (calm plans z h, e)
item_good p plans z (made l (lock m)) rest e h = (calm plans z h, e)
item_good p plans z (made l (unlock m)) rest e h = (calm plans z h, e)
item_good p plans z (made l (down x)) rest e h = (calm plans z h, e)
item_good p plans z (made l (up x)) rest e h = (calm plans z h, e)
item_good p plans z (made l (spawn c f vs)) rest e h = (calm plans z h, e)
item_good p plans z (made l (join c)) rest e h = (calm plans z h, e)
item_good p plans z (made l (print v)) rest e h = (calm plans z h, e)
item_good p plans z (begins l env) rest e h = (
  record {
    well = at_well plans z.active z.held l (statement l) env z.active (itself z.active);
    held = h.held;
    over = λ n. absurd (not_here z.frames e.0 (in_frame_none (open_statement l) z.frames n));
  },
  subst (λ q. EndsWell q rest) (sym (in_frame_length (open_statement l) z.frames)) e.1,
)
item_good p plans z (done l) rest e h = (
  record {
    well = behind_well plans z.active z.held z.frames l (begun_with z.frames) z.active;
    held = h.held;
    over = λ n. absurd (not_here z.frames e.0 (in_frame_none close_statement z.frames n));
  },
  subst (λ q. EndsWell q rest) (sym (in_frame_length close_statement z.frames)) e.1,
)
item_good p plans z (edge l) rest e h = (
  record {
    well = tick_well plans z.active p (place.back_edge l) (suc (length z.passed)) [] tt;
    held = h.held;
    over = λ n. absurd (not_here z.frames e.0 n);
  },
  e.1,
)
item_good p plans z (enter f env) rest e h = (
  record {
    well = tick_well plans z.active p (place.entry f) (suc (length z.passed)) _
        (at_well plans z.active z.held (function_line p f) (function (Some f)) env z.active (itself z.active));
    held = h.held;
    over = λ n. cc;
  },
  e.1,
)
item_good p plans z (out f) rest e h = (
  record {
    well = back_well plans z.active (function_line p f) _
        (all_leaves_well plans z.active z.held (all_inside (without_first z.frames)) (function_line p f) z.active);
    held = h.held;
    over = λ n. record {
      leaves = subst (λ fs. AllLeft z.held (owed_out plans z.held fs (function_line p f) z.active)) (sym n)
          (back_left z.held (function_line p f) (all_leaves plans z.held [] (function_line p f) z.active)
          (held_left plans z.active z.held (function_line p f) z.held h.held (λ k c g. g)));
      none = back_none (function_line p f) _ (all_leaves_none plans z.held (all_inside (without_first z.frames)) (function_line p f) z.active);
      spot = refl;
    };
  },
  subst (λ q. EndsWell q rest) (sym (less_length z.frames)) e,
)

made_good : (plans : Plans) (z : Walk) (l : ℕ) (o : Operation) → Owes z.owed l o → ((k c : ℕ) → is_leave k c o ≡ false) → Good plans z → Good plans (made_one z)
made_good plans z l o is f h = record {
  well = less_well plans z.active z.owed h.well;
  held = h.held;
  over = λ n. record { leaves = made_left z.held z.owed l o is f (h.over n).leaves; none = less_none z.owed (h.over n).none; spot = (h.over n).spot };
}

framed_good : (plans : Plans) (z : Walk) (l : ℕ) (o : Operation) (g : OpenFrame → OpenFrame) → Owes z.owed l o → ((k c : ℕ) → is_leave k c o ≡ false) → Good plans z
    → Good plans (record (made_one z) { frames = in_frame g z.frames })
framed_good plans z l o g is f h = record {
  well = less_well plans z.active z.owed h.well;
  held = h.held;
  over = λ n.
      let v : Over z = h.over (in_frame_none g z.frames n) in
      record { leaves = made_left z.held z.owed l o is f v.leaves; none = less_none z.owed v.none; spot = v.spot };
}

crossing_good : (p : Source) (plans : Plans) (z : Walk) (vs : List Version) (rest : List Item) → Goes plans z rest → Goes plans (crossing p plans z vs) rest
crossing_good p plans z [] rest h = h
crossing_good p plans z (v ∷ vs) rest h = (
  record {
    well = crossed_well p plans z.spot z.active v.active z.owed h.0.well;
    held = held_cut plans z.active v.active z.held h.0.held;
    over = λ n.
        let o : Over z = h.0.over (without_none v.active z.frames n) in
        let same : owed_behind_cross p plans z.spot z.active v.active z.owed ≡ still_owed v.active z.owed = crossed_over p plans z.spot z.active v.active z.owed o.spot in
        record {
          leaves = subst (AllLeft (filter (λ (h : ℕ × ℕ). has v.active h.0) z.held)) (sym same) (cross_left v.active z.held z.owed o.leaves);
          none = subst NoEnters (sym same) (kept_none v.active z.owed o.none);
          spot = over_without v.active z.spot o.spot;
        };
  },
  subst (λ q. EndsWell q rest) (sym (without_length v.active z.frames)) h.1,
)

op_good : (p : Source) (plans : Plans) (z : Walk) (l : ℕ) (o : Operation) (rest : List Item) → MayStand p z (makes l o) rest → Goes plans z rest → Goes plans (after_operation p plans z o) rest
op_good p plans z l (wait k n) rest s h = (made_good plans z l (wait k n) s (λ j c. refl) h.0, h.1)
op_good p plans z l (post k n) rest s h = (made_good plans z l (post k n) s (λ j c. refl) h.0, h.1)
op_good p plans z l (tick x) rest s h = (made_good plans z l (tick x) s (λ j c. refl) h.0, h.1)
op_good p plans z l (enters k c) rest s h = (
  record {
    well = less_well plans z.active z.owed h.0.well;
    held = (op_owed plans z.active z.owed l (enters k c) s h.0.well, h.0.held);
    over = λ n. absurd (no_enter z.owed l k c s (h.0.over n).none);
  },
  h.1,
)
op_good p plans z l (at k ns) rest s h = (
  framed_good plans z l (at k ns) (begun_at (plans k) z.spot k ns) s (λ j c. refl) h.0,
  subst (λ q. EndsWell q rest) (sym (in_frame_length (begun_at (plans k) z.spot k ns) z.frames)) h.1,
)
op_good p plans z l (past k ns) rest s h = (
  framed_good plans z l (past k ns) (completed k ns) s (λ j c. refl) h.0,
  subst (λ q. EndsWell q rest) (sym (in_frame_length (completed k ns) z.frames)) h.1,
)
op_good p plans z l (leave k c) rest s h = (
  record {
    well = less_well plans z.active z.owed h.0.well;
    held = held_less plans z.active k c z.held h.0.held;
    over = λ n. record {
      leaves = leave_made z.held z.owed l k c s (h.0.over n).leaves;
      none = less_none z.owed (h.0.over n).none;
      spot = (h.0.over n).spot;
    };
  },
  h.1,
)
op_good p plans z l back rest s h = (
  record {
    well = less_well plans z.active z.owed h.0.well;
    held = h.0.held;
    over = λ n. record {
      leaves = made_left z.held z.owed l back s (λ j c. refl) (h.0.over n).leaves;
      none = less_none z.owed (h.0.over n).none;
      spot = over_behind z.spot (h.0.over n).spot;
    };
  },
  h.1,
)
op_good p plans z l (cross x v n) rest s h = crossing_good p plans z z.coming rest h
op_good p plans z l (blocked what) rest s h = (
  record {
    well = h.0.well;
    held = h.0.held;
    over = λ n. record { leaves = (h.0.over n).leaves; none = (h.0.over n).none; spot = (h.0.over n).spot };
  },
  h.1,
)

walk_good : (p : Source) (plans : Plans) (z : Walk) (ss : List PartStep) (ahead : List Item) → AreWoven p plans z ss ahead → Goes plans z (items ss ++ ahead)
    → Goes plans (walk_from p plans z ss) ahead
walk_good p plans z [] ahead w h = h
walk_good p plans z (goes i ∷ ss) ahead w h = walk_good p plans (after_item p plans z i) ss ahead w.1 (item_good p plans z i (items ss ++ ahead) h.1 h.0)
walk_good p plans z (makes l o ∷ ss) ahead w h = walk_good p plans (after_operation p plans z o) ss ahead w.1 (op_good p plans z l o (items ss ++ ahead) w.0 h)

first_good : (plans : Plans) (us vs : List Version) → Good plans (taking (behind_entry (unborn us)) vs)
first_good plans us [] = record { well = tt; held = tt; over = λ n. record { leaves = tt; none = tt; spot = refl } }
first_good plans us (v ∷ vs) = record { well = tt; held = tt; over = λ n. record { leaves = tt; none = tt; spot = refl } }

first_frames : (us vs : List Version) → length (Walk.frames (taking (behind_entry (unborn us)) vs)) ≡ 0
first_frames us [] = refl
first_frames us (v ∷ vs) = refl

nothing_held : (hs : List (ℕ × ℕ)) (os : Queue) → os ≡ [] → AllLeft hs os → hs ≡ []
nothing_held [] os is h = refl
nothing_held (g ∷ hs) os is h = let bad : false ≡ true = ap (has_leave g.0 g.1) (sym is) ∙ h.0 in cc

at_end : (p : Source) (plans : Plans) (z : Walk) (l : ℕ) (rest : List Item) → z.owed ≡ [] → Goes plans z (made l end ∷ rest) → z.held ≡ []
at_end p plans z l rest is h = nothing_held z.held z.owed is ((h.0.over (no_frames z.frames h.1.0)).leaves)

last_there : (p : Source) (plans : Plans) (z : Walk) (ss : List PartStep) (s : PartStep) (ahead : List Item) → AreWoven p plans z (ss ++ s ∷ []) ahead
    → MayStand p (walk_from p plans z ss) s ahead
last_there p plans z [] s ahead h = h.0
last_there p plans z (u ∷ ss) s ahead h = last_there p plans (walk_behind p plans z u) ss s ahead h.1

-- these steps lead to an end
pub end_holds : (p : Source) (plans : Plans) (f : ℕ) (args : List ℤ) (vs : List Version) (before : List PartStep) (l : ℕ) (ahead : List Item) (r : Outcome)
    → IsTrace p f args (items (before ++ goes (made l end) ∷ []) ++ ahead) r → AreWoven p plans (unborn vs) (before ++ goes (made l end) ∷ []) ahead
    → Walk.held (walk_from p plans (unborn vs) before) ≡ []
end_holds p plans f args vs [] l ahead r trace w = refl
end_holds p plans f args vs (makes m o ∷ ss) l ahead r trace w =
    absurd (no_operation p vs (items (ss ++ goes (made l end) ∷ []) ++ ahead) m o
    (begins_so p f args (items (ss ++ goes (made l end) ∷ []) ++ ahead) r trace) w.0)
end_holds p plans f args vs (goes i ∷ ss) l ahead r trace w =
    let b = trace_begins p f args i (items (ss ++ goes (made l end) ∷ []) ++ ahead) r trace in
    let ends : EndsWell 0 (items (ss ++ goes (made l end) ∷ []) ++ ahead) = trace_ends p f args i (items (ss ++ goes (made l end) ∷ []) ++ ahead) r trace in
    let z : Walk = taking (behind_entry (unborn vs)) vs in
    let P : Item → Type 0 = λ j. AreWoven p plans (unborn vs) (goes j ∷ (ss ++ goes (made l end) ∷ [])) ahead in
    let woven : AreWoven p plans z (ss ++ goes (made l end) ∷ []) ahead = (subst P b.1 w).1 in
    let good : Goes plans z (items ss ++ made l end ∷ ahead) = (
      first_good plans vs vs,
      subst (λ q. EndsWell q (items ss ++ made l end ∷ ahead)) (sym (first_frames vs vs)) (subst (EndsWell 0) (items_ahead ss (goes (made l end) ∷ []) ahead) ends),
    ) in
    let there : Goes plans (walk_from p plans z ss) (made l end ∷ ahead) =
    walk_good p plans z ss (made l end ∷ ahead) (woven_front p plans z ss (goes (made l end) ∷ []) ahead woven) good in
    let held : Walk.held (walk_from p plans z ss) ≡ [] = at_end p plans (walk_from p plans z ss) l ahead (last_there p plans z ss (goes (made l end)) ahead woven) there in
    let Q : Item → Type 0 = λ j. Walk.held (walk_from p plans (unborn vs) (goes j ∷ ss)) ≡ [] in
    subst Q (sym b.1) held
