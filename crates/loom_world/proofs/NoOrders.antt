-- Filters of exclusions: nobody is held off, and no thread waits for an event or posts one.
use Rattle.std.proofs.Common.{ℕ, suc, ◌≡◌, ◌==◌, Bool, true, false, not, ◌&&◌, ◌||◌, List, [], ◌∷◌, ◌++◌, flat_map, Option, Some, None, refl, sym, ap, ◌∙◌, subst, if◌then◌else◌}
use Rattle.std.specs.List.{AllByRecursion, list_any}
use Rattle.loom_tree.specs.Tree.{Source}
use Rattle.loom_lang.specs.Places.{Place}
use Rattle.loom_lang.specs.Places as place
use Rattle.loom_lang.specs.Trace.{Locals, Act, begin, end, trap, read, write, lock, unlock, down, up, spawn, join, print, Item, made, begins, done, edge, enter, out}
use Rattle.loom_trace.specs.declared.entry.Entry.{Entry}
use Rattle.loom_trace.specs.declared.entry.Entry.TheVariants as e
use Rattle.loom_event.specs.TargetEvent.{entry_by}
use Rattle.loom_law.specs.Filter.{Site, statement, function, Ruling, order, exclusive, unilateral, Plan, matching, before_in, waits, posts, posted_in, has, numbered_from, clauses, is_unilateral, is_alone, is_some}
use Rattle.loom_law.specs.Walk.{Version, Plans, Operation, wait, enters, at, past, post, leave, back, tick, cross, blocked, PartStep, goes, makes, items, entry_of_operation, told_item, filter_entries, OpenFrame, Inside, Spot, beginning, entered, Queue, Walk, unborn, holds, begins_in, owed_waits, owed_enters, owed_by, owed_at, owed_posts, owed_leaves, is_inside_clause, owed_past, owed_behind, events_of_filter, in_frame, completed, all_inside, all_leaves, with_back, with_tick, tick_after, function_line, begun_with, without_first, stays, still_owed, operation_filter, new_filters, owed_fresh, owed_behind_cross, taking, behind_entry, crossing, after_item, after_operation, walk_behind, MayStand, Owes, AreWoven}
use Rattle.loom_law.specs.ThreadPart.{Own, IsPart, with_entry, AsksToMake}
use Rattle.loom_law.specs.Control.{Command, Action, install, remove, means, refused, command_at, plan_in, plans_of}
use Rattle.loom_law.specs.Lawful.{Setting, Front, plans, Lacks, IsHeldOff}
use Rattle.loom_plan.specs.PlanParts.{first_other}
use Rattle.loom_world.specs.Commands.{HaveExclusions, IsExclusionPlan}

-- Plans

abbrev pub HasExclusions : Plan → Type 0
HasExclusions f = first_other 1 f.rulings ≡ None

pub no_before : (m n : ℕ) (rs : List Ruling) → first_other m rs ≡ None → before_in n rs ≡ None
no_before m n [] h = refl
no_before m n (order ss ∷ rs) h = cc
no_before m n (exclusive xs ∷ rs) h = no_before (suc m) n rs h
no_before m n (unilateral x ∷ rs) h = cc

abbrev posted_all : List Ruling → List ℕ
posted_all rs = flat_map posted_in rs

nothing_posted : (m n : ℕ) (rs : List Ruling) → first_other m rs ≡ None → has (posted_all rs) n ≡ false
nothing_posted m n [] h = refl
nothing_posted m n (order ss ∷ rs) h = cc
nothing_posted m n (exclusive xs ∷ rs) h = nothing_posted (suc m) n rs h
nothing_posted m n (unilateral x ∷ rs) h = cc

none_or : (a b : Bool) → a ≡ false → b ≡ false → (a || b) ≡ false
none_or true b h g = cc
none_or false b h g = g

and_no : (a : Bool) → (a && false) ≡ false
and_no true = refl
and_no false = refl

none_alone : (m n c : ℕ) (rs : List Ruling) → first_other m rs ≡ None → list_any (λ (x : ℕ × Ruling). (x.0 == c) && is_unilateral x.1) (numbered_from n rs) ≡ false
none_alone m n c [] h = refl
none_alone m n c (order ss ∷ rs) h = cc
none_alone m n c (exclusive xs ∷ rs) h =
    none_or ((n == c) && false) (list_any (λ (x : ℕ × Ruling). (x.0 == c) && is_unilateral x.1) (numbered_from (suc n) rs)) (and_no (n == c)) (none_alone (suc m) (suc n) c rs h)
none_alone m n c (unilateral x ∷ rs) h = cc

pub never_waits : (f : Plan) (n : ℕ) → HasExclusions f → waits f n ≡ false
never_waits f n h = ap is_some (no_before 1 n f.rulings h)

pub never_posts : (f : Plan) (n : ℕ) → HasExclusions f → posts f n ≡ false
never_posts f n h = nothing_posted 1 n f.rulings h

pub never_alone : (f : Plan) (c : ℕ) → HasExclusions f → is_alone f c ≡ false
never_alone f c h = none_alone 1 1 c f.rulings h

-- The plans of a run

by_action : (p : Source) (cs : List Command) (k : ℕ) (c : Command) (a : Action) → HaveExclusions p cs → command_at cs k ≡ Some c → c.action ≡ a
    → HasExclusions (plan_in (Some (record c { action = a })))
by_action p cs k c (install (means f)) h is does = IsExclusionPlan.exclusions (h k c f is does)
by_action p cs k c (install (refused n m)) h is does = refl
by_action p cs k c remove h is does = refl

by_command : (p : Source) (cs : List Command) (k : ℕ) (o : Option Command) → HaveExclusions p cs → command_at cs k ≡ o → HasExclusions (plan_in o)
by_command p cs k None h is = refl
by_command p cs k (Some c) h is = by_action p cs k c c.action h is refl

pub each_excludes : (p : Source) (cs : List Command) → HaveExclusions p cs → (k : ℕ) → HasExclusions (plans_of cs k)
each_excludes p cs h k = by_command p cs k (command_at cs k) h refl

-- Nobody is held off.
pub nobody_off : (s : Setting) (f : Front) → HaveExclusions s.program s.commands → (t : ℕ) → IsHeldOff s f t → ⊥
nobody_off s f h t off =
    let none : is_alone (plans s off.filter) off.clause ≡ false = never_alone (plans s off.filter) off.clause (each_excludes s.program s.commands h off.filter) in
    let no : true ≡ false = sym off.alone ∙ none in cc

-- Nobody waits for an event.
pub nobody_lacks : (s : Setting) (f : Front) → HaveExclusions s.program s.commands → (k n : ℕ) → Lacks f k (before_in n (Plan.rulings (plans s k))) → ⊥
nobody_lacks s f h k n lacks = subst (Lacks f k) (no_before 1 n (Plan.rulings (plans s k)) (each_excludes s.program s.commands h k)) lacks

-- What a thread owes

abbrev is_of_order : Operation → Bool
is_of_order (wait k n) = true
is_of_order (post k n) = true
is_of_order _ = false

-- nothing of it has to do with an order
abbrev IsFree : Queue → Type 0
IsFree os = AllByRecursion (λ (x : ℕ × Operation). is_of_order x.1 ≡ false) os

abbrev HaveExclusionsAll : Plans → Type 0
HaveExclusionsAll ps = (k : ℕ) → HasExclusions (ps k)

free_if : (b : Bool) (xs ys : Queue) → (b ≡ true → IsFree xs) → IsFree ys → IsFree (if b then xs else ys)
free_if true xs ys h g = h refl
free_if false xs ys h g = g

free_waits : (f : Plan) (k l : ℕ) (ns : List ℕ) (more : Queue) → HasExclusions f → IsFree more → IsFree (owed_waits f k l ns more)
free_waits f k l [] more h g = g
free_waits f k l (n ∷ ns) more h g =
    free_if (waits f n) ((l, wait k n) ∷ owed_waits f k l ns more) (owed_waits f k l ns more)
    (λ is. let no : true ≡ false = sym is ∙ never_waits f n h in cc) (free_waits f k l ns more h g)

free_posts : (f : Plan) (k l : ℕ) (ns : List ℕ) (more : Queue) → HasExclusions f → IsFree more → IsFree (owed_posts f k l ns more)
free_posts f k l [] more h g = g
free_posts f k l (n ∷ ns) more h g =
    free_if (posts f n) ((l, post k n) ∷ owed_posts f k l ns more) (owed_posts f k l ns more)
    (λ is. let no : true ≡ false = sym is ∙ never_posts f n h in cc) (free_posts f k l ns more h g)

free_enters : (hs : List (ℕ × ℕ)) (k l : ℕ) (ns : List ℕ) (cs : List (ℕ × Ruling)) (more : Queue) → IsFree more → IsFree (owed_enters hs k l ns cs more)
free_enters hs k l ns [] more g = g
free_enters hs k l ns (c ∷ cs) more g =
    free_if (begins_in c.1 ns && not (holds hs k c.0)) ((l, enters k c.0) ∷ owed_enters hs k l ns cs more) (owed_enters hs k l ns cs more)
    (λ is. (refl, free_enters hs k l ns cs more g)) (free_enters hs k l ns cs more g)

free_leaves : (hs : List (ℕ × ℕ)) (is : List Inside) (k l : ℕ) (cs : List (ℕ × Ruling)) (more : Queue) → IsFree more → IsFree (owed_leaves hs is k l cs more)
free_leaves hs is k l [] more g = g
free_leaves hs is k l (c ∷ cs) more g =
    free_if (holds hs k c.0 && not (is_inside_clause is k c.0)) ((l, leave k c.0) ∷ owed_leaves hs is k l cs more) (owed_leaves hs is k l cs more)
    (λ h. (refl, free_leaves hs is k l cs more g)) (free_leaves hs is k l cs more g)

free_by : (f : Plan) (k : ℕ) (hs : List (ℕ × ℕ)) (l : ℕ) (ns : List ℕ) (more : Queue) → HasExclusions f → IsFree more → IsFree (owed_by f k hs l ns more)
free_by f k hs l [] more h g = g
free_by f k hs l (n ∷ ns) more h g =
    free_waits f k l (n ∷ ns) (owed_enters hs k l (n ∷ ns) (clauses f) ((l, at k (n ∷ ns)) ∷ more)) h
    (free_enters hs k l (n ∷ ns) (clauses f) ((l, at k (n ∷ ns)) ∷ more) (refl, g))

free_at : (ps : Plans) (hs : List (ℕ × ℕ)) (l : ℕ) (site : Site) (env : Locals) (ks : List ℕ) → HaveExclusionsAll ps → IsFree (owed_at ps hs l site env ks)
free_at ps hs l site env [] h = tt
free_at ps hs l site env (k ∷ ks) h = free_by (ps k) k hs l (matching (ps k) site env) (owed_at ps hs l site env ks) (h k) (free_at ps hs l site env ks h)

free_past : (f : Plan) (k : ℕ) (hs : List (ℕ × ℕ)) (fs : List OpenFrame) (l : ℕ) (ns : List ℕ) (more : Queue) → HasExclusions f → IsFree more
    → IsFree (owed_past f k hs fs l ns more)
free_past f k hs fs l [] more h g = g
free_past f k hs fs l (n ∷ ns) more h g = (
  refl,
  free_posts f k l (n ∷ ns) (owed_leaves hs (all_inside (in_frame (completed k (n ∷ ns)) fs)) k l (clauses f) more) h
      (free_leaves hs (all_inside (in_frame (completed k (n ∷ ns)) fs)) k l (clauses f) more g),
)

free_behind : (ps : Plans) (hs : List (ℕ × ℕ)) (fs : List OpenFrame) (l : ℕ) (xs : List (ℕ × List ℕ)) (ks : List ℕ) → HaveExclusionsAll ps
    → IsFree (owed_behind ps hs fs l xs ks)
free_behind ps hs fs l xs [] h = tt
free_behind ps hs fs l xs (k ∷ ks) h =
    free_past (ps k) k hs fs l (events_of_filter k xs) (owed_behind ps hs fs l xs ks) (h k) (free_behind ps hs fs l xs ks h)

free_all : (ps : Plans) (hs : List (ℕ × ℕ)) (is : List Inside) (l : ℕ) (ks : List ℕ) → IsFree (all_leaves ps hs is l ks)
free_all ps hs is l [] = tt
free_all ps hs is l (k ∷ ks) = free_leaves hs is k l (clauses (ps k)) (all_leaves ps hs is l ks) (free_all ps hs is l ks)

free_back : (l : ℕ) (os : Queue) → IsFree os → IsFree (with_back l os)
free_back l [] g = tt
free_back l (o ∷ os) g = (refl, g)

free_tick : (p : Source) (x : Place) (n : ℕ) (os : Queue) → IsFree os → IsFree (with_tick p x n os)
free_tick p x n os g = free_if (n == tick_after) _ os (λ is. (refl, g)) g

-- Behind a step

free_rest : (os : Queue) → IsFree os → IsFree (without_first os)
free_rest [] g = tt
free_rest (o ∷ os) g = g.1

free_append : (xs ys : Queue) → IsFree xs → IsFree ys → IsFree (xs ++ ys)
free_append [] ys h g = g
free_append (x ∷ xs) ys h g = (h.0, free_append xs ys h.1 g)

free_fresh : (p : Source) (ps : Plans) (s : Spot) (ks : List ℕ) → HaveExclusionsAll ps → IsFree (owed_fresh p ps s ks)
free_fresh p ps (beginning l env) ks h = free_at ps [] l (statement l) env ks h
free_fresh p ps (entered f env) ks h = free_at ps [] (function_line p f) (function (Some f)) env ks h
free_fresh p ps _ ks h = tt

free_taking : (z : Walk) (vs : List Version) → IsFree z.owed → IsFree (Walk.owed (taking z vs))
free_taking z [] g = g
free_taking z (v ∷ vs) g = g

free_item : (p : Source) (ps : Plans) (z : Walk) (i : Item) → HaveExclusionsAll ps → IsFree z.owed → IsFree (Walk.owed (after_item p ps z i))
free_item p ps z (made l begin) h g = free_taking (behind_entry z) z.coming g
free_item p ps z (made l (trap c)) h g = free_all ps z.held [] l z.active
free_item p ps z (made l a) h g = g
free_item p ps z (begins l env) h g = free_at ps z.held l (statement l) env z.active h
free_item p ps z (done l) h g = free_behind ps z.held z.frames l (begun_with z.frames) z.active h
free_item p ps z (edge l) h g = free_tick p (place.back_edge l) _ [] tt
free_item p ps z (enter f env) h g =
    free_tick p (place.entry f) _ (owed_at ps z.held (function_line p f) (function (Some f)) env z.active)
    (free_at ps z.held (function_line p f) (function (Some f)) env z.active h)
free_item p ps z (out f) h g =
    free_back (function_line p f) (all_leaves ps z.held (all_inside (without_first z.frames)) (function_line p f) z.active)
    (free_all ps z.held (all_inside (without_first z.frames)) (function_line p f) z.active)

free_still : (ks : List ℕ) (os : Queue) → IsFree os → IsFree (still_owed ks os)
free_still ks [] g = tt
free_still ks ((l, back) ∷ os) g = free_back l (still_owed ks os) (free_still ks os g.1)
free_still ks ((l, o) ∷ os) g = free_if (stays ks (operation_filter o)) ((l, o) ∷ still_owed ks os) (still_owed ks os) (λ is. (g.0, free_still ks os g.1)) (free_still ks os g.1)

free_cross : (p : Source) (ps : Plans) (s : Spot) (old ks : List ℕ) (os : Queue) → HaveExclusionsAll ps → IsFree os → IsFree (owed_behind_cross p ps s old ks os)
free_cross p ps s old ks [] h g = tt
free_cross p ps s old ks (o ∷ os) h g =
    free_append (still_owed ks (o ∷ os)) (owed_fresh p ps s (new_filters old ks)) (free_still ks (o ∷ os) g) (free_fresh p ps s (new_filters old ks) h)

free_crossing : (p : Source) (ps : Plans) (z : Walk) (vs : List Version) → HaveExclusionsAll ps → IsFree z.owed → IsFree (Walk.owed (crossing p ps z vs))
free_crossing p ps z [] h g = g
free_crossing p ps z (v ∷ vs) h g = free_cross p ps z.spot z.active v.active z.owed h g

free_operation : (p : Source) (ps : Plans) (z : Walk) (o : Operation) → HaveExclusionsAll ps → IsFree z.owed → IsFree (Walk.owed (after_operation p ps z o))
free_operation p ps z (wait k n) h g = free_rest z.owed g
free_operation p ps z (enters k c) h g = free_rest z.owed g
free_operation p ps z (at k ns) h g = free_rest z.owed g
free_operation p ps z (past k ns) h g = free_rest z.owed g
free_operation p ps z (post k n) h g = free_rest z.owed g
free_operation p ps z (leave k c) h g = free_rest z.owed g
free_operation p ps z back h g = free_rest z.owed g
free_operation p ps z (tick x) h g = free_rest z.owed g
free_operation p ps z (cross x v n) h g = free_crossing p ps z z.coming h g
free_operation p ps z (blocked what) h g = g

free_step : (p : Source) (ps : Plans) (z : Walk) (s : PartStep) → HaveExclusionsAll ps → IsFree z.owed → IsFree (Walk.owed (walk_behind p ps z s))
free_step p ps z (goes i) h g = free_item p ps z i h g
free_step p ps z (makes l o) h g = free_operation p ps z o h g

-- What it tells

abbrev is_order_entry : Entry → Bool
is_order_entry (e.Wait t l k n) = true
is_order_entry (e.Post t l k n) = true
is_order_entry _ = false

act_no_order : (t l : ℕ) (a : Act) → is_order_entry (entry_by t l a) ≡ false
act_no_order t l begin = refl
act_no_order t l end = refl
act_no_order t l (trap c) = refl
act_no_order t l (read w v) = refl
act_no_order t l (write w v) = refl
act_no_order t l (lock m) = refl
act_no_order t l (unlock m) = refl
act_no_order t l (down m) = refl
act_no_order t l (up m) = refl
act_no_order t l (spawn c f vs) = refl
act_no_order t l (join c) = refl
act_no_order t l (print v) = refl

item_no_order : (t : ℕ) (i : Item) (es : List Entry) → list_any is_order_entry es ≡ false → list_any is_order_entry (told_item t i es) ≡ false
item_no_order t (made l a) es h = none_or (is_order_entry (entry_by t l a)) (list_any is_order_entry es) (act_no_order t l a) h
item_no_order t _ es h = h

-- what is owed first has nothing to do with an order
owes_free : (os : Queue) (l : ℕ) (o : Operation) → IsFree os → Owes os l o → is_of_order o ≡ false
owes_free [] l o g owes = absurd owes
owes_free (x ∷ os) l o g owes = sym (ap (λ (y : ℕ × Operation). is_of_order y.1) owes) ∙ g.0

operation_no_order : (p : Source) (z : Walk) (t l : ℕ) (o : Operation) (ahead : List Item) → IsFree z.owed → MayStand p z (makes l o) ahead
    → is_order_entry (entry_of_operation t l o) ≡ false
operation_no_order p z t l (wait k n) ahead g may = let no : true ≡ false = owes_free z.owed l (wait k n) g may in cc
operation_no_order p z t l (post k n) ahead g may = let no : true ≡ false = owes_free z.owed l (post k n) g may in cc
operation_no_order p z t l _ ahead g may = refl

none_told : (p : Source) (ps : Plans) (z : Walk) (t : ℕ) (steps : List PartStep) (ahead : List Item) → HaveExclusionsAll ps → IsFree z.owed → AreWoven p ps z steps ahead
    → list_any is_order_entry (filter_entries t steps) ≡ false
none_told p ps z t [] ahead h g woven = refl
none_told p ps z t (goes i ∷ ss) ahead h g woven =
    item_no_order t i (filter_entries t ss) (none_told p ps (walk_behind p ps z (goes i)) t ss ahead h (free_step p ps z (goes i) h g) woven.1)
none_told p ps z t (makes l o ∷ ss) ahead h g woven =
    none_or (is_order_entry (entry_of_operation t l o)) (list_any is_order_entry (filter_entries t ss)) (operation_no_order p z t l o (items ss ++ ahead) g woven.0)
    (none_told p ps (walk_behind p ps z (makes l o)) t ss ahead h (free_step p ps z (makes l o) h g) woven.1)

any_last : (es : List Entry) (y : Entry) → is_order_entry y ≡ true → list_any is_order_entry (es ++ y ∷ []) ≡ true
any_last [] y h = ap (λ (b : Bool). b || false) h
any_last (x ∷ es) y h = either (is_order_entry x) (list_any is_order_entry (es ++ y ∷ [])) (any_last es y h)
  where
    either : (a b : Bool) → b ≡ true → (a || b) ≡ true
    either true b g = refl
    either false b g = g

no_order_entry : (p : Source) (ps : Plans) (x : Own) (y : Entry) → HaveExclusionsAll ps → is_order_entry y ≡ true → IsPart p ps (with_entry x y) → ⊥
no_order_entry p ps x y h is part =
    let none = none_told p ps (unborn x.versions) x.thread part.steps part.ahead h tt part.woven in
    let no : true ≡ false = sym (any_last x.entries y is) ∙ (sym (ap (list_any is_order_entry) part.tells) ∙ none) in cc

-- A thread never asks to wait for an event, nor to post one.
pub no_wait : (p : Source) (ps : Plans) (x : Own) (l k n : ℕ) → ((j : ℕ) → HasExclusions (ps j)) → AsksToMake p ps x l (wait k n) → ⊥
no_wait p ps x l k n h part = no_order_entry p ps x (e.Wait x.thread l k n) h refl part

pub no_post : (p : Source) (ps : Plans) (x : Own) (l k n : ℕ) → ((j : ℕ) → HasExclusions (ps j)) → AsksToMake p ps x l (post k n) → ⊥
no_post p ps x l k n h part = no_order_entry p ps x (e.Post x.thread l k n) h refl part
