-- What one filter makes a thread do.
use Rattle.std.proofs.Common.{ℕ, ◌≡◌, Bool, false, not, ◌&&◌, List, [], ◌∷◌, ℤ, Option, Some, None, refl, sym, ap, subst, ◌∙◌, if◌then◌else◌}
use Rattle.loom_tree.specs.Tree.{Source}
use Rattle.loom_lang.specs.Places.{Place, place_at}
use Rattle.loom_flow.specs.State.{named}
use Rattle.loom_law.specs.Filter.{Site, Ruling, Plan, matching, has, clauses}
use Rattle.loom_law.specs.Walk.{OpenFrame, Inside, Plans, Queue, leave, holds, owed_by, owed_at, owed_past, owed_behind, owed_leaves, is_inside_clause, events_of_filter, begun_with}
use Rattle.loom_lang.specs.Trace.{Locals}
use Rattle.loom_plan.specs.declared.sets.EventSet.{EventSet}
use Rattle.loom_plan.specs.declared.sets.ClauseSet.{ClauseSet}
use Rattle.loom_plan.specs.Sets.{event_numbers, clause_numbers}
use Rattle.loom_plan.specs.Compiled.{Compiled}
use Rattle.loom_plan.specs.PlaceEvents.{names_at, site_at}
use Rattle.loom_plan.specs.Operations.{HoldsThese}
use Rattle.loom_version.specs.Plans.{compiled_at, compiled_plan, plans_in}
use Rattle.loom_walk.specs.Growth.{IsThere}

one_filter : (c d : Compiled) (x : Option Compiled) → x ≡ Some c → x ≡ Some d → c ≡ d
one_filter c d x e g = let same : Some c ≡ Some d = sym e ∙ g in cc

pub own_program : (p : Source) (cs : List (Option Compiled)) (k : ℕ) (c : Compiled) → compiled_at cs k ≡ Some c → IsThere p cs k → c.program ≡ p
own_program p cs k c e there = ap (λ (x : Compiled). x.program) (one_filter c there.0 (compiled_at cs k) e there.1.0) ∙ there.1.1

pub own_plan : (cs : List (Option Compiled)) (k : ℕ) (c : Compiled) → compiled_at cs k ≡ Some c → plans_in cs k ≡ c.plan
own_plan cs k c e = ap compiled_plan e

-- at a place
pub begun_there : (cs : List (Option Compiled)) (c : Compiled) (p : Source) (k n l : ℕ) (vs : List ℤ) (x : Place) (site : Site) (hs : List (ℕ × ℕ)) (events : EventSet) (old new rest : Queue)
    → compiled_at cs k ≡ Some c → IsThere p cs k → place_at p n ≡ Some x → site_at x ≡ Some site
    → ((y : Place) (z : Site) → place_at c.program n ≡ Some y → site_at y ≡ Some z → event_numbers events ≡ matching c.plan z (named (names_at c.program n) vs))
    → owed_by c.plan k hs l (event_numbers events) old ≡ rest → new ≡ rest
    → new ≡ owed_by (plans_in cs k) k hs l (matching (plans_in cs k) site (named (names_at p n) vs)) old
begun_there cs c p k n l vs x site hs events old new rest e there px sx match by is =
    let own : c.program ≡ p = own_program p cs k c e there in
    let these : event_numbers events ≡ matching c.plan site (named (names_at p n) vs)
    = subst (λ (q : Source). place_at q n ≡ Some x → event_numbers events ≡ matching c.plan site (named (names_at q n) vs)) own (λ g. match x site g sx) px in
    subst (λ (f : Plan). new ≡ owed_by f k hs l (matching f site (named (names_at p n) vs)) old) (sym (own_plan cs k c e))
    (is ∙ (sym by ∙ ap (λ (ns : List ℕ). owed_by c.plan k hs l ns old) these))

pub nothing_begun : (f : Plan) (k : ℕ) (hs : List (ℕ × ℕ)) (l : ℕ) (ns : List ℕ) (more : Queue) → ns ≡ [] → owed_by f k hs l ns more ≡ more
nothing_begun f k hs l ns more e = ap (λ (ms : List ℕ). owed_by f k hs l ms more) e

pub none_begun : (plans : Plans) (hs : List (ℕ × ℕ)) (l : ℕ) (site : Site) (env : Locals) (ks : List ℕ) → ((k : ℕ) → matching (plans k) site env ≡ []) → [] ≡ owed_at plans hs l site env ks
none_begun plans hs l site env [] none = refl
none_begun plans hs l site env (k ∷ ks) none =
    none_begun plans hs l site env ks none ∙ sym (nothing_begun (plans k) k hs l (matching (plans k) site env) (owed_at plans hs l site env ks) (none k))

-- behind a statement
pub complete_there : (cs : List (Option Compiled)) (c : Compiled) (k l : ℕ) (hs : List (ℕ × ℕ)) (fs : List OpenFrame) (events : EventSet) (old new rest : Queue) → compiled_at cs k ≡ Some c
    → event_numbers events ≡ events_of_filter k (begun_with fs) → owed_past c.plan k hs fs l (event_numbers events) old ≡ rest → new ≡ rest
    → new ≡ owed_past (plans_in cs k) k hs fs l (events_of_filter k (begun_with fs)) old
complete_there cs c k l hs fs events old new rest e these by is =
    subst (λ (f : Plan). new ≡ owed_past f k hs fs l (events_of_filter k (begun_with fs)) old) (sym (own_plan cs k c e))
    (is ∙ (sym by ∙ ap (λ (ns : List ℕ). owed_past c.plan k hs fs l ns old) these))

pub nothing_complete : (f : Plan) (k : ℕ) (hs : List (ℕ × ℕ)) (fs : List OpenFrame) (l : ℕ) (ns ms : List ℕ) (more : Queue) → ms ≡ [] → ms ≡ ns → more ≡ owed_past f k hs fs l ns more
nothing_complete f k hs fs l ns ms more e g = ap (λ (xs : List ℕ). owed_past f k hs fs l xs more) (sym e ∙ g)

pub none_complete : (plans : Plans) (hs : List (ℕ × ℕ)) (fs : List OpenFrame) (l : ℕ) (xs : List (ℕ × List ℕ)) (ks : List ℕ) → xs ≡ [] → [] ≡ owed_behind plans hs fs l xs ks
none_complete plans hs fs l xs [] e = refl
none_complete plans hs fs l xs (k ∷ ks) e =
    none_complete plans hs fs l xs ks e
    ∙ nothing_complete (plans k) k hs fs l (events_of_filter k xs) [] (owed_behind plans hs fs l xs ks) refl (sym (ap (events_of_filter k) e))

-- behind a frame
pub left_there : (cs : List (Option Compiled)) (c : Compiled) (k l : ℕ) (hs : List (ℕ × ℕ)) (is : List Inside) (old new rest : Queue) → compiled_at cs k ≡ Some c
    → owed_leaves hs is k l (clauses c.plan) old ≡ rest → new ≡ rest → new ≡ owed_leaves hs is k l (clauses (plans_in cs k)) old
left_there cs c k l hs is old new rest e by same =
    subst (λ (f : Plan). new ≡ owed_leaves hs is k l (clauses f) old) (sym (own_plan cs k c e)) (same ∙ sym by)

none_to_leave : (hs : List (ℕ × ℕ)) (is : List Inside) (k l : ℕ) (cs : List (ℕ × Ruling)) (more : Queue) → ((c : ℕ) → holds hs k c ≡ false) → more ≡ owed_leaves hs is k l cs more
none_to_leave hs is k l [] more h = refl
none_to_leave hs is k l (c ∷ cs) more h =
    none_to_leave hs is k l cs more h
    ∙ ap (λ (b : Bool). if b && not (is_inside_clause is k c.0) then (l, leave k c.0) ∷ owed_leaves hs is k l cs more else owed_leaves hs is k l cs more) (sym (h c.0))

pub nothing_left : (hs : List (ℕ × ℕ)) (is : List Inside) (k l : ℕ) (cs : List (ℕ × Ruling)) (own : ClauseSet) (more : Queue) → HoldsThese hs k own → clause_numbers own ≡ []
    → more ≡ owed_leaves hs is k l cs more
nothing_left hs is k l cs own more h e = none_to_leave hs is k l cs more (λ c. h c ∙ ap (λ (ns : List ℕ). has ns c) e)

-- a filter is there
pub not_there : (cs : List (Option Compiled)) (k : ℕ) (c : Compiled) → compiled_at cs k ≡ Some c → None ≡ compiled_at cs k → ⊥
not_there cs k c e g = let clash : None ≡ Some c = g ∙ e in cc
