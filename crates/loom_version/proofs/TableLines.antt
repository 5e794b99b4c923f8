-- A table of lines keeps what it has, and tells of a line that isn't there that no event begins on it.
use Rattle.std.proofs.Common.{ℕ, suc, ◌<◌, ◌≤◌, ◌≡◌, ◌==◌, Bool, true, false, ◌&&◌, if◌then◌else◌, List, [], ◌∷◌, length, map, get_or, drop, drop-cons, Option, Some, None, refl, sym, ap, subst, ◌∙◌, arith}
use Rattle.std.specs.Prelude.{◌%◌}
use Rattle.std.proofs.Math.Seq.{drop-length}
use Rattle.std.proofs.lemmas.Bool.{eq-eqb, eqb-true}
use Rattle.loom_lang.specs.Trace.{Locals}
use Rattle.loom_trace.specs.Places.{has_place}
use Rattle.loom_law.specs.Filter.{Site, statement, function, Watch, is_site, passes, matching_from}
use Rattle.loom_plan.specs.declared.plan.EventWatch.{EventWatch}
use Rattle.loom_plan.specs.PlanView.{event_watch_of, watches_of}
use Rattle.loom_plan.specs.Compiled.{Compiled}
use Rattle.loom_version.specs.Plans.{compiled_at, compiled_plan, plans_in}
use Rattle.loom_version.specs.LineTable.{line_entries, IsInTable, AreInTable}

-- what one table has, the other has
abbrev pub HasAll : List ℕ → List ℕ → Type 0
HasAll old new = (p : ℕ) → has_place old p ≡ true → has_place new p ≡ true

-- One entry more

pub old_entries : (old new : List ℕ) (p : ℕ) → ((q : ℕ) → has_place new q ≡ (if q == p then true else has_place old q)) → HasAll old new
old_entries old new p e q h = e q ∙ by (q == p)
  where
    by : (b : Bool) → (if b then true else has_place old q) ≡ true
    by true = refl
    by false = h

pub own_entry : (old new : List ℕ) (p m : ℕ) → ((q : ℕ) → has_place new q ≡ (if q == p then true else has_place old q)) → p ≡ m → has_place new m ≡ true
own_entry old new p m e same =
    subst (λ (q : ℕ). has_place new q ≡ true) same (e p ∙ ap (λ (b : Bool). if b then true else has_place old p) (eq-eqb p p refl))

-- Events

stays : (old new : List ℕ) (at : Site) → HasAll old new → IsInTable old at → IsInTable new at
stays old new (statement l) up h = up (l % line_entries) h
stays old new (function f) up h = tt

pub all_stay : (old new : List ℕ) (ws : List Watch) → HasAll old new → AreInTable old ws → AreInTable new ws
all_stay old new [] up h = tt
all_stay old new (w ∷ ws) up h = (stays old new w.site up h.0, all_stay old new ws up h.1)

pub one_more : (old new : List ℕ) (events : List EventWatch) (n m : ℕ) (x : EventWatch) → n ≡ suc m → m < length events → x ≡ get_or events m x → HasAll old new
    → IsInTable new (event_watch_of x).site → AreInTable old (watches_of (drop n events)) → AreInTable new (watches_of (drop m events))
one_more old new events n m x e low is up own rest =
    let front : drop m events ≡ x ∷ drop n events
    = drop-cons events m x low ∙ (ap (λ (y : EventWatch). y ∷ drop (suc m) events) (sym is) ∙ ap (λ (i : ℕ). x ∷ drop i events) (sym e)) in
    subst (λ (xs : List EventWatch). AreInTable new (watches_of xs)) (sym front) (own, all_stay old new (watches_of (drop n events)) up rest)

pub nothing_in : (words : List ℕ) (events : List EventWatch) (n : ℕ) → n ≡ length events → AreInTable words (watches_of (drop n events))
nothing_in words events n e = subst (λ (xs : List EventWatch). AreInTable words (watches_of xs)) (sym (ap (λ (i : ℕ). drop i events) e ∙ drop-length events)) tt

pub all_of : (words : List ℕ) (events : List EventWatch) (n : ℕ) → n ≤ 0 → AreInTable words (watches_of (drop n events)) → AreInTable words (watches_of events)
all_of words events n low h = let e : n ≡ 0 = omega arith in subst (λ (i : ℕ). AreInTable words (watches_of (drop i events))) e h

-- Filters

pub all_more : (old new : List ℕ) (rows more : List (Option Compiled)) (k : ℕ) (c : Compiled) → HasAll old new → AreInTable new c.plan.watches
    → ((j : ℕ) → compiled_at more j ≡ (if j == k then Some c else compiled_at rows j)) → ((j : ℕ) → AreInTable old (plans_in rows j).watches)
    → (j : ℕ) → AreInTable new (plans_in more j).watches
all_more old new rows more k c up own e all j = subst (λ (d : Option Compiled). AreInTable new (compiled_plan d).watches) (sym (e j)) (by (j == k))
  where
    by : (b : Bool) → AreInTable new (compiled_plan (if b then Some c else compiled_at rows j)).watches
    by true = own
    by false = all_stay old new (plans_in rows j).watches up (all j)

pub none_there : (words : List ℕ) (rows : List (Option Compiled)) → ((k : ℕ) → compiled_at rows k ≡ None) → (k : ℕ) → AreInTable words (plans_in rows k).watches
none_there words rows none k = subst (λ (d : Option Compiled). AreInTable words (compiled_plan d).watches) (sym (none k)) tt

-- A line that isn't there

other_site : (words : List ℕ) (l : ℕ) (at : Site) → has_place words (l % line_entries) ≡ false → IsInTable words at → is_site (statement l) at ≡ false
other_site words l (statement m) off h = by (m == l) refl
  where
    by : (b : Bool) → (m == l) ≡ b → b ≡ false
    by false e = refl
    by true e = let clash : true ≡ false = sym h ∙ (ap (λ (i : ℕ). has_place words (i % line_entries)) (eqb-true m l e) ∙ off) in absurd cc
other_site words l (function f) off h = refl

pub none_matches : (words : List ℕ) (l n : ℕ) (env : Locals) (ws : List Watch) → has_place words (l % line_entries) ≡ false → AreInTable words ws
    → matching_from n (statement l) env ws ≡ []
none_matches words l n env [] off h = refl
none_matches words l n env (w ∷ ws) off h =
    ap (λ (b : Bool). if b && passes env w.test then n ∷ matching_from (suc n) (statement l) env ws else matching_from (suc n) (statement l) env ws) (other_site words l w.site off h.0)
    ∙ none_matches words l (suc n) env ws off h.1
