-- The tests of what filters watch of a function are exact.
use Rattle.std.proofs.Common.{ℕ, ◌≡◌, Bool, true, false, ◌||◌, List, [], ◌++◌, slice_get, Option, Some, None, refl, sym, ap, subst, ◌∙◌, arith}
use Rattle.std.specs.Prelude.{◌==◌, ◌↔◌, IsTrue}
use Rattle.std.specs.List.{Contains, list_any}
use Rattle.std.proofs.lemmas.Bool.{eqb-true, eq-eqb}
use Rattle.std.proofs.lemmas.List.Folds.{list_any-append}
use Rattle.loom_tree.specs.Tree.{Body, end, simple, if_, while_, Function, Source}
use Rattle.loom_law.specs.Filter.{Site, statement, function, Watch}
use Rattle.loom_law.specs.Paths.{Begins, statements, statements_in, statements_of}
use Rattle.loom_law.proofs.Matches.{any_found, has_member, same_number}
use Rattle.loom_law.proofs.Course.{any_contains}
use Rattle.loom_plan.specs.Statements.{has_line}
use Rattle.loom_plan.specs.Compiled.{Compiled}
use Rattle.loom_version.specs.Plans.{compiled_at, compiled_plan, plans_in, AreFiltersOf}
use Rattle.loom_version.specs.SlowFunctions.{IsSiteIn, WatchesFunction, IsSlow, has_line_in, is_site_in, watches_in, is_slow}

-- Lines of statements

abbrev begins_on : ℕ → Body → Bool
begins_on l end = false
begins_on l (simple m s rest) = m == l
begins_on l (if_ m e a b rest) = m == l
begins_on l (while_ m e a rest) = m == l

on_line : (l : ℕ) (x : Body) → begins_on l x ≡ true → Begins x l
on_line l end h = cc
on_line l (simple m s rest) h = eqb-true m l h
on_line l (if_ m e a b rest) h = eqb-true m l h
on_line l (while_ m e a rest) h = eqb-true m l h

line_on : (l : ℕ) (x : Body) → Begins x l → begins_on l x ≡ true
line_on l end h = absurd h
line_on l (simple m s rest) h = eq-eqb m l h
line_on l (if_ m e a b rest) h = eq-eqb m l h
line_on l (while_ m e a rest) h = eq-eqb m l h

three : (m a b r : Bool) → ((m || (a || b)) || r) ≡ (m || (a || (b || r)))
three m a b r = grind arith

two : (m a r : Bool) → ((m || a) || r) ≡ (m || (a || r))
two m a r = grind arith

lines_are : (b : Body) (l : ℕ) → has_line b l ≡ list_any (begins_on l) (statements b)
lines_are end l = refl
lines_are (simple m s rest) l = ap (λ (z : Bool). (m == l) || z) (lines_are rest l)
lines_are (if_ m e a b rest) l =
    three (m == l) (has_line a l) (has_line b l) (has_line rest l)
    ∙ ap (λ (z : Bool). (m == l) || z)
    (rw (lines_are a l, lines_are b l, lines_are rest l, list_any-append (begins_on l) (statements a) (statements b ++ statements rest), list_any-append (begins_on l) (statements b) (statements rest)) refl)
lines_are (while_ m e a rest) l =
    two (m == l) (has_line a l) (has_line rest l)
    ∙ ap (λ (z : Bool). (m == l) || z) (rw (lines_are a l, lines_are rest l, list_any-append (begins_on l) (statements a) (statements rest)) refl)

lines_in : (o : Option Function) (l : ℕ) → has_line_in o l ≡ list_any (begins_on l) (statements_in o)
lines_in None l = refl
lines_in (Some f) l = lines_are f.body l

-- Sites

site_told : (p : Source) (g : ℕ) (at : Site) → is_site_in p g at ≡ true → IsSiteIn p g at
site_told p g (statement l) h =
    let r = any_found (begins_on l) (statements_of p g) (sym (lines_in (slice_get p.funcs g) l) ∙ h) in
    (r.0, (r.1.0, on_line l r.0 r.1.1))
site_told p g (function None) h = cc
site_told p g (function (Some f)) h = ap Some (same_number f g h)

told_site : (p : Source) (g : ℕ) (at : Site) → IsSiteIn p g at → is_site_in p g at ≡ true
told_site p g (statement l) h =
    lines_in (slice_get p.funcs g) l ∙ any_contains (begins_on l) (statements_of p g) h.0 h.1.0 (line_on l h.0 h.1.1)
told_site p g (function None) h = cc
told_site p g (function (Some f)) h = let e : f ≡ g = cc in eq-eqb f g e

-- Filters

abbrev watches_if : Source → ℕ → Watch → Bool
watches_if p g w = is_site_in p g w.site

filter_told : (p : Source) (g : ℕ) (c : Option Compiled) → ((d : Compiled) → c ≡ Some d → d.program ≡ p) → watches_in g c ≡ true → WatchesFunction p (compiled_plan c) g
filter_told p g None of h = cc
filter_told p g (Some c) of h =
    let P : Source → Type 0 = λ z. list_any (watches_if z g) c.plan.watches ≡ true in
    let r = any_found (watches_if p g) c.plan.watches (subst P (of c refl) h) in
    record { watch = r.0; there = r.1.0; site = site_told p g r.0.site r.1.1 }

no_watch : (w : Watch) → Contains {X = Watch} [] w → ⊥
no_watch w h = let low = h.1 in omega (arith, low)

told_filter : (p : Source) (g : ℕ) (c : Option Compiled) → ((d : Compiled) → c ≡ Some d → d.program ≡ p) → WatchesFunction p (compiled_plan c) g → watches_in g c ≡ true
told_filter p g None of h = absurd (no_watch h.watch h.there)
told_filter p g (Some c) of h =
    let P : Source → Type 0 = λ z. list_any (watches_if z g) c.plan.watches ≡ true in
    subst P (sym (of c refl)) (any_contains (watches_if p g) c.plan.watches h.watch h.there (told_site p g h.watch.site h.site))

-- Versions

slow_told : (p : Source) (cs : List (Option Compiled)) (ks : List ℕ) (g : ℕ) → AreFiltersOf p cs → is_slow cs ks g ≡ true → IsSlow p (plans_in cs) ks g
slow_told p cs ks g of h =
    let r = any_found (λ (k : ℕ). watches_in g (compiled_at cs k)) ks h in
    record {
      filter = r.0;
      active = any_contains (λ (m : ℕ). m == r.0) ks r.0 r.1.0 (eq-eqb r.0 r.0 refl);
      watches = filter_told p g (compiled_at cs r.0) (of r.0) r.1.1;
    }

told_slow : (p : Source) (cs : List (Option Compiled)) (ks : List ℕ) (g : ℕ) → AreFiltersOf p cs → IsSlow p (plans_in cs) ks g → is_slow cs ks g ≡ true
told_slow p cs ks g of h =
    any_contains (λ (k : ℕ). watches_in g (compiled_at cs k)) ks h.filter (has_member ks h.filter h.active) (told_filter p g (compiled_at cs h.filter) (of h.filter) h.watches)

pub slow_is : (p : Source) (cs : List (Option Compiled)) (ks : List ℕ) (g : ℕ) (r : Bool) → AreFiltersOf p cs → r ≡ is_slow cs ks g → IsTrue r ↔ IsSlow p (plans_in cs) ks g
slow_is p cs ks g r of e = (λ h. slow_told p cs ks g of (sym e ∙ h), λ h. e ∙ told_slow p cs ks g of h)
