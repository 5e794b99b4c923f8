-- What a call is given, and what it leaves.
use Rattle.std.proofs.Common.{ℕ, suc, ◌+◌, ◌≤◌, ◌≡◌, Bool, true, false, List, [], ◌∷◌, ◌++◌, length, ℤ, Option, Some, option_map, refl, sym, ap, subst, ◌∙◌, arith, if◌then◌else◌}
use Rattle.std.specs.Prelude.{◌==◌}
use Rattle.std.specs.List.{AllByRecursion, filter}
use Rattle.std.proofs.lemmas.List.{length-append, length-map, map-append}
use Rattle.loom_tree.specs.Tree.{Source}
use Rattle.loom_lang.specs.Places.{Place, inside, place_at, line_of_place}
use Rattle.loom_flow.specs.State.{named}
use Rattle.loom_law.specs.Filter.{Site, statement, has}
use Rattle.loom_law.specs.Laws.{HasOneNumber}
use Rattle.loom_law.specs.Walk.{Version, Plans, Inside, OpenFrame, Spot, Queue, tick, tick_after, with_tick, with_back, begun_with, owed_at, owed_behind, all_leaves, still_owed, new_filters, owed_fresh, owed_behind_cross}
use Rattle.loom_plan.specs.Compiled.{Compiled}
use Rattle.loom_plan.specs.PlaceEvents.{names_at, site_at}
use Rattle.loom_version.specs.Plans.{plans_in}
use Rattle.loom_lang.specs.Rules as rules
use Rattle.loom_walk.specs.declared.clause_rows.ClauseRow.{ClauseRow}
use Rattle.loom_walk.specs.declared.owed.OwedRow.{OwedRow}
use Rattle.loom_walk.specs.declared.owed.OwedTick.{OwedTick}
use Rattle.loom_walk.specs.Owed.{Owed, queue, rows_queue, tick_queue, HasOperations, filters_owed, rows_of}
use Rattle.loom_walk.specs.ClauseRows.{filters_of, AreHoldings}
use Rattle.loom_walk.specs.Growth.{HaveNoMore, GrowsByAll, AreThere}
use Rattle.loom_walk.specs.FilterWalk.{FilterWalk, first_walk, KeepsWalk, KeepsRoom, NotesOneMore, HasNewBehind}
use Rattle.loom_walk.proofs.FilterCounts.{none_more, no_longer, both_less, both_more}
use Rattle.loom_walk.proofs.GrowthSteps.{nothing_on, grown_line, grown_tick, grown_queue}
use Rattle.loom_walk.proofs.NewFilters.{owed_across}

-- Rooms

pub room_kept : (v w x : FilterWalk) → w ≡ v → x.room ≡ w.room → length x.events ≤ length w.events → length x.regions ≤ length w.regions → KeepsRoom v x
room_kept v w x same room events regions = record {
  room = room ∙ ap (λ (y : FilterWalk). y.room) same;
  events = subst (λ (y : FilterWalk). length x.events ≤ length y.events) same events;
  regions = subst (λ (y : FilterWalk). length x.regions ≤ length y.regions) same regions;
}

pub one_noted : (v w x : FilterWalk) → w ≡ v → x.room ≡ w.room → length x.events ≤ suc (length w.events) → length x.regions ≤ suc (length w.regions) → NotesOneMore v x
one_noted v w x same room events regions = record {
  room = room ∙ ap (λ (y : FilterWalk). y.room) same;
  events = subst (λ (y : FilterWalk). length x.events ≤ suc (length y.events)) same events;
  regions = subst (λ (y : FilterWalk). length x.regions ≤ suc (length y.regions)) same regions;
}

-- Places

pub line_at : (p : Source) (n r : ℕ) (x : Place) → option_map (line_of_place p) (place_at p n) ≡ Some r → place_at p n ≡ Some x → r ≡ line_of_place p x
line_at p n r x h there = let is : Some (line_of_place p x) ≡ Some r = ap (option_map (line_of_place p)) (sym there) ∙ h in cc

pub tick_at : (p : Source) (n r m : ℕ) (x : Place) (os q : Queue) → HasOneNumber → rules.KeepsRules p → r ≡ line_of_place p x → place_at p n ≡ Some x
    → q ≡ (if suc m == tick_after then (r, tick n) ∷ os else os) → q ≡ with_tick p x (suc m) os
tick_at p n r m x os q one lawful line there e =
    e
    ∙ (ap (λ (i : ℕ). if suc m == tick_after then (i, tick n) ∷ os else os) line
    ∙ ap (λ (i : ℕ). if suc m == tick_after then (line_of_place p x, tick i) ∷ os else os) (sym (one p lawful n x there)))

-- Rows

pub first_keeps : (v : Version) (cs : List ClauseRow) (room regions : ℕ) → filters_of cs ≡ v.active → regions ≡ room
    → KeepsWalk (record (first_walk room) { version = v; clauses = cs }) regions
first_keeps v cs room regions filters same = record {
  rows = record {
    filters = filters;
    owed = tt;
    own_owed = none_more v.active;
    depths = tt;
    own = tt;
    few_events = omega arith;
    few_regions = omega arith;
  };
  regions = same;
}

-- Queues

there_all : (p : Source) (cs : List (Option Compiled)) (ks active : List ℕ) → ks ≡ active → AreThere p cs active → AreThere p cs ks
there_all p cs ks active same all = subst (AreThere p cs) (sym same) all

pub queue_begun : (p : Source) (cs : List (Option Compiled)) (vs : List ℤ) (rows : List ClauseRow) (ks active : List ℕ) (n i l : ℕ) (x : Place) (site : Site) (hs : List (ℕ × ℕ)) (a o : Owed)
    → a ≡ nothing_on i → GrowsByAll ks a o → i ≡ l → ks ≡ active → AreThere p cs active → place_at p n ≡ Some x → site_at x ≡ Some site → AreHoldings rows hs
    → ((q : Source) (y : Place) (t : Site) (gs : List (ℕ × ℕ)) (j : ℕ) → AreThere q cs ks → place_at q n ≡ Some y → site_at y ≡ Some t → AreHoldings rows gs
    → rows_queue j o.rows [] ≡ owed_at (plans_in cs) gs j t (named (names_at q n) vs) ks)
    → queue o ≡ owed_at (plans_in cs) hs l site (named (names_at p n) vs) active
queue_begun p cs vs rows ks active n i l x site hs a o e g line same all there here held f =
    grown_queue ks i a o e g
    ∙ (f p x site hs i (there_all p cs ks active same all) there here held
    ∙ (ap (λ (js : List ℕ). owed_at (plans_in cs) hs i site (named (names_at p n) vs) js) same
    ∙ ap (λ (j : ℕ). owed_at (plans_in cs) hs j site (named (names_at p n) vs) active) line))

-- at the beginning of a statement
pub queue_statement : (p : Source) (cs : List (Option Compiled)) (vs : List ℤ) (rows : List ClauseRow) (ks active : List ℕ) (n i l : ℕ) (hs : List (ℕ × ℕ)) (a o : Owed)
    → a ≡ nothing_on i → GrowsByAll ks a o → i ≡ l → ks ≡ active → AreThere p cs active → place_at p n ≡ Some (inside l) → AreHoldings rows hs
    → ((q : Source) (gs : List (ℕ × ℕ)) (j : ℕ) → AreThere q cs ks → place_at q n ≡ Some (inside i) → AreHoldings rows gs
    → rows_queue j o.rows [] ≡ owed_at (plans_in cs) gs j (statement i) (named (names_at q n) vs) ks)
    → queue o ≡ owed_at (plans_in cs) hs l (statement l) (named (names_at p n) vs) active
queue_statement p cs vs rows ks active n i l hs a o e g line same all there held f =
    grown_queue ks i a o e g
    ∙ (f p hs i (there_all p cs ks active same all) (subst (λ (m : ℕ). place_at p n ≡ Some (inside m)) (sym line) there) held
    ∙ (ap (λ (js : List ℕ). owed_at (plans_in cs) hs i (statement i) (named (names_at p n) vs) js) same
    ∙ ap (λ (j : ℕ). owed_at (plans_in cs) hs j (statement j) (named (names_at p n) vs) active) line))

pub queue_behind_statement : (plans : Plans) (ks active : List ℕ) (i : ℕ) (fs : List OpenFrame) (hs : List (ℕ × ℕ)) (a o : Owed) → a ≡ nothing_on i → GrowsByAll ks a o → ks ≡ active
    → ((j : ℕ) → rows_queue j o.rows [] ≡ owed_behind plans hs fs j (begun_with fs) ks) → queue o ≡ owed_behind plans hs fs i (begun_with fs) active
queue_behind_statement plans ks active i fs hs a o e g same f =
    grown_queue ks i a o e g ∙ (f i ∙ ap (λ (js : List ℕ). owed_behind plans hs fs i (begun_with fs) js) same)

pub queue_leaving : (plans : Plans) (ks active : List ℕ) (i : ℕ) (is : List Inside) (hs : List (ℕ × ℕ)) (a o : Owed) → a ≡ nothing_on i → GrowsByAll ks a o → ks ≡ active
    → ((j : ℕ) → rows_queue j o.rows [] ≡ all_leaves plans hs is j ks) → queue o ≡ all_leaves plans hs is i active
queue_leaving plans ks active i is hs a o e g same f = grown_queue ks i a o e g ∙ (f i ∙ ap (λ (js : List ℕ). all_leaves plans hs is i js) same)

pub queue_out : (plans : Plans) (ks active : List ℕ) (i l : ℕ) (is : List Inside) (hs : List (ℕ × ℕ)) (a o x : Owed) → a ≡ nothing_on i → GrowsByAll ks a o → i ≡ l → ks ≡ active
    → queue x ≡ tick_queue o.tick (with_back o.line (rows_queue o.line o.rows [])) → ((j : ℕ) → rows_queue j o.rows [] ≡ all_leaves plans hs is j ks)
    → queue x ≡ with_back l (all_leaves plans hs is l active)
queue_out plans ks active i l is hs a o x e g line same q f =
    q
    ∙ (ap (λ (t : Option OwedTick). tick_queue t (with_back o.line (rows_queue o.line o.rows []))) (grown_tick ks i a o e g)
    ∙ (ap (λ (j : ℕ). with_back j (rows_queue j o.rows [])) (grown_line ks i a o e g ∙ line)
    ∙ (ap (with_back l) (f l) ∙ ap (λ (js : List ℕ). with_back l (all_leaves plans hs is l js)) same)))

-- what new filters owe, behind the rest
pub queue_across : (p : Source) (plans : Plans) (here : Spot) (old ks new : List ℕ) (q kept x : Queue) (m : Owed) (l : ℕ) → x ≡ kept ++ queue m → kept ≡ still_owed ks q
    → GrowsByAll new (nothing_on l) m → new ≡ new_filters old ks → (q ≡ [] → m.rows ≡ []) → ((q ≡ [] → ⊥) → rows_queue l m.rows [] ≡ owed_fresh p plans here new)
    → x ≡ owed_behind_cross p plans here old ks q
queue_across p plans here old ks new q kept x m l e k g same none some =
    let plain : queue m ≡ rows_queue l m.rows [] = grown_queue new l (nothing_on l) m refl g in
    owed_across p plans here old ks q (queue m) x (e ∙ ap (λ (r : Queue). r ++ queue m) k)
    (λ h. plain ∙ ap (λ (rs : List OwedRow). rows_queue l rs []) (none h))
    (λ h. plain ∙ (some h ∙ ap (owed_fresh p plans here) same))

-- Rows across a crossing

filters_of_part : (ks : List ℕ) (rows : List OwedRow) → filters_owed (rows_of ks rows) ≡ filter (has ks) (filters_owed rows)
filters_of_part ks [] = refl
filters_of_part ks (r ∷ rows) = by (has ks r.filter) (filters_of_part ks rows)
  where
    by : (b : Bool) → filters_owed (rows_of ks rows) ≡ filter (has ks) (filters_owed rows)
        → filters_owed (if b then r ∷ rows_of ks rows else rows_of ks rows) ≡ (if b then r.filter ∷ filter (has ks) (filters_owed rows) else filter (has ks) (filters_owed rows))
    by true e = ap (λ (js : List ℕ). r.filter ∷ js) e
    by false e = e

pub rows_across : (old ks new : List ℕ) (rows more : List OwedRow) → HasNewBehind old ks → new ≡ new_filters old ks → HaveNoMore (filters_owed rows) old → HaveNoMore (filters_owed more) new
    → HaveNoMore (filters_owed (more ++ rows_of ks rows)) ks
rows_across old ks new rows more behind same own other =
    let left : HaveNoMore (filters_owed (rows_of ks rows)) (filter (has ks) old)
    = subst (λ (js : List ℕ). HaveNoMore js (filter (has ks) old)) (sym (filters_of_part ks rows)) (both_less (has ks) (filters_owed rows) old own) in
    let right : HaveNoMore (filters_owed more) (new_filters old ks) = subst (HaveNoMore (filters_owed more)) same other in
    let all : HaveNoMore (filters_owed more ++ filters_owed (rows_of ks rows)) (filter (has ks) old ++ new_filters old ks)
    = both_more (filters_owed (rows_of ks rows)) (filters_owed more) (filter (has ks) old) (new_filters old ks) left right in
    subst (λ (js : List ℕ). HaveNoMore js ks) (sym (map-append (λ (r : OwedRow). r.filter) more (rows_of ks rows)))
    (subst (HaveNoMore (filters_owed more ++ filters_owed (rows_of ks rows))) (sym behind) all)

pub room_across : (ks : List ℕ) (more rest : List OwedRow) (limit : ℕ) → HaveNoMore (filters_owed (more ++ rest)) ks → length ks ≤ limit → length rest + length more ≤ limit
room_across ks more rest limit own few =
    let most = no_longer (filters_owed (more ++ rest)) ks own in
    omega (arith, most, length-map (more ++ rest) (λ (r : OwedRow). r.filter), length-append more rest)

pub both_have : (xs ys : List OwedRow) → AllByRecursion HasOperations xs → AllByRecursion HasOperations ys → AllByRecursion HasOperations (xs ++ ys)
both_have [] ys g h = h
both_have (x ∷ xs) ys g h = (g.0, both_have xs ys g.1 h)
