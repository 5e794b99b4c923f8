-- Events by their numbers, and the rows of their list.
use Rattle.std.proofs.Common.{ℕ, zero, suc, ◌<◌, ◌≡◌, ◌==◌, ◌↔◌, nat_lt, nat_le, Bool, true, false, not, ◌&&◌, if◌then◌else◌, List, [], length, get_or, slice_get, Option, Some, None, refl, sym, ap, subst, ◌∙◌, arith, eq-eqb, ne_eqb}
use Rattle.std.specs.Prelude.{option_map}
use Rattle.std.specs.Option as option
use Rattle.std.proofs.lemmas.Bool.{ltb-true}
use Rattle.std.proofs.lemmas.Bool.Decides.{nat_tests}
use Rattle.std.proofs.lemmas.Option.{slice_get-map, slice_get-get_or, slice_get_past}
use Rattle.std.proofs.Math.Decide.{ℕ_discrete}
use Rattle.loom_law.specs.Filter.{statement, function, Watch, Plan, is_site, is_some}
use Rattle.loom_law.specs.Paths.{watch_at}
use Rattle.loom_law.specs.FilterRefusal.{IsWholeOf}
use Rattle.loom_filter.specs.View.{test_of}
use Rattle.loom_plan.specs.declared.plan.EventSite.TheVariants as s
use Rattle.loom_plan.specs.declared.plan.EventWatch.{EventWatch}
use Rattle.loom_plan.specs.PlanView.{site_of, event_watch_of, watches_of, plan_of_rows}
use Rattle.loom_sites.specs.Events.{is_untested_if, is_untested, is_frame_if, is_frame_event}

pub watch_is : (xs : List EventWatch) (i : ℕ) (d : EventWatch) → i < length xs → slice_get (watches_of xs) i ≡ Some (event_watch_of (get_or xs i d))
watch_is xs i d low = slice_get-map event_watch_of xs i ∙ ap (option_map event_watch_of) (slice_get-get_or xs i d low)

-- behind the last event there is none
watch_past : (xs : List EventWatch) (n : ℕ) → length xs < n → watch_at (plan_of_rows xs []) n ≡ None
watch_past xs zero low = absurd (omega arith)
watch_past xs (suc k) low = slice_get-map event_watch_of xs k ∙ ap (option_map event_watch_of) (slice_get_past xs k (omega arith))

-- A loop over the events, which puts the numbers of those that meet a test.

event_here : (b t p q l u m : Bool) → q ≡ (if b && t then true else p) → t ≡ true → p ≡ (l && m) → l ≡ false → u ≡ true → m ≡ b → q ≡ (u && m)
event_here true t p q l u m e h g a c f = grind arith
event_here false t p q l u m e h g a c f = grind arith

no_event : (b t s : Bool) → t ≡ false → (if b && t then true else s) ≡ s
no_event true true s h = cc
no_event true false s h = refl
no_event false t s h = refl

le_suc : (n i : ℕ) → (n ≡ suc i → ⊥) → nat_le n (suc i) ≡ nat_le n i
le_suc n i d = grind (arith, nat_tests)

le_next : (i : ℕ) → nat_le (suc i) i ≡ false
le_next i = grind (arith, nat_tests)

le_same : (i : ℕ) → nat_le i i ≡ true
le_same i = grind (arith, nat_tests)

pub event_on : (set new more : ℕ → Bool) (i j m : ℕ) (b : Bool) → j ≡ suc i → m ≡ suc i → more (suc i) ≡ b → ((n : ℕ) → new n ≡ (if b && (n == m) then true else set n))
    → ((n : ℕ) → set n ≡ (nat_le n i && more n)) → (n : ℕ) → new n ≡ (nat_le n j && more n)
event_on set new more i j m b e f here h g n =
    subst (λ (z : ℕ). new n ≡ (nat_le n z && more n)) (sym e)
    (elim (ℕ_discrete n (suc i)) [
      | yes same ↦ (let P : ℕ → Type 0 = λ z. new z ≡ (nat_le z (suc i) && more z) in
          subst P (sym same) (event_here b (suc i == m) (set (suc i)) (new (suc i)) (nat_le (suc i) i) (nat_le (suc i) (suc i)) (more (suc i)) (h (suc i)) (eq-eqb (suc i) m (sym f)) (g (suc i)) (le_next i) (le_same (suc i)) here))
      | no other ↦ h n ∙ (no_event b (n == m) (set n) (ne_eqb n m (λ z. other (z ∙ f))) ∙ (g n ∙ ap (λ (t : Bool). t && more n) (sym (le_suc n i other))))
    ])

le_of : (n i : ℕ) → nat_lt i n ≡ false → nat_le n i ≡ true
le_of n i h = grind (arith, nat_tests)

and_none : (a b : Bool) → b ≡ false → (a && b) ≡ b
and_none true b h = refl
and_none false b h = sym h

pub event_done : (set more : ℕ → Bool) (i : ℕ) → ((n : ℕ) → i < n → more n ≡ false) → ((n : ℕ) → set n ≡ (nat_le n i && more n)) → (n : ℕ) → set n ≡ more n
event_done set more i none g n = g n ∙ by_test (nat_lt i n) refl
  where
    by_test : (b : Bool) → nat_lt i n ≡ b → (nat_le n i && more n) ≡ more n
    by_test true e = and_none (nat_le n i) (more n) (none n (ltb-true i n e))
    by_test false e = ap (λ (t : Bool). t && more n) (le_of n i e)

-- events without a test

same_some : (x : EventWatch) → is_some (test_of x.test) ≡ option.is_some x.test
same_some x = elim x.test as (λ o. is_some (test_of o) ≡ option.is_some o) [
  | None ↦ refl
  | Some e ↦ refl
]

not_not : (b : Bool) → not (not b) ≡ b
not_not true = refl
not_not false = refl

pub bare_here : (xs : List EventWatch) (i : ℕ) (x : EventWatch) (b : Bool) → i < length xs → x ≡ get_or xs i x → option.is_some x.test ≡ not b → is_untested (plan_of_rows xs []) (suc i) ≡ b
bare_here xs i x b low is h =
    ap is_untested_if (watch_is xs i x low) ∙ (ap (λ (w : EventWatch). not (is_some (test_of w.test))) (sym is) ∙ (ap not (same_some x ∙ h) ∙ not_not b))

pub bare_past : (xs : List EventWatch) (n : ℕ) → length xs < n → is_untested (plan_of_rows xs []) n ≡ false
bare_past xs n low = ap is_untested_if (watch_past xs n low)

-- events at which a frame of a function begins

pub frame_here : (xs : List EventWatch) (g i : ℕ) (x : EventWatch) (b : Bool) → i < length xs → x ≡ get_or xs i x → b ≡ is_site (function (Some g)) (site_of x.site) → is_frame_event (plan_of_rows xs []) g (suc i) ≡ b
frame_here xs g i x b low is h = ap (is_frame_if g) (watch_is xs i x low) ∙ (ap (λ (w : EventWatch). is_site (function (Some g)) (site_of w.site)) (sym is) ∙ sym h)

pub frame_past : (xs : List EventWatch) (g n : ℕ) → length xs < n → is_frame_event (plan_of_rows xs []) g n ≡ false
frame_past xs g n low = ap (is_frame_if g) (watch_past xs n low)

-- the event of a number, and its site

pub watch_row : (f : Plan) (xs : List EventWatch) (n i : ℕ) (d : EventWatch) → watches_of xs ≡ f.watches → n ≡ suc i → i < length xs → watch_at f n ≡ Some (event_watch_of (get_or xs i d))
watch_row f xs n i d all e low = ap (watch_at f) e ∙ (ap (λ (ws : List Watch). slice_get ws i) (sym all) ∙ watch_is xs i d low)

same_watch : (f : Plan) (n : ℕ) (v w : Watch) → watch_at f n ≡ Some v → watch_at f n ≡ Some w → v.site ≡ w.site
same_watch f n v w a b = let same : v ≡ w = cc in ap (λ (x : Watch). x.site) same

same_function : (o : Option ℕ) (g : ℕ) → function o ≡ function (Some g) → o ≡ Some g
same_function o g e = cc

pub function_told : (f : Plan) (xs : List EventWatch) (n i : ℕ) (d : EventWatch) (o : Option ℕ) → watches_of xs ≡ f.watches → n ≡ suc i → i < length xs → (get_or xs i d).site ≡ s.Function o → (g : ℕ) → (o ≡ Some g) ↔ IsWholeOf f n g
function_told f xs n i d o all e low is g =
    let w : Watch = event_watch_of (get_or xs i d) in
    let here : watch_at f n ≡ Some w = watch_row f xs n i d all e low in
    let site : w.site ≡ function o = ap site_of is in
    (λ h. (w, (here, site ∙ ap function h)), λ h. same_function o g (sym site ∙ (same_watch f n w h.0 here h.1.0 ∙ h.1.1)))

no_function : (l g : ℕ) → statement l ≡ function (Some g) → ⊥
no_function l g e = cc

pub statement_told : (f : Plan) (xs : List EventWatch) (n i : ℕ) (d : EventWatch) (l : ℕ) → watches_of xs ≡ f.watches → n ≡ suc i → i < length xs → (get_or xs i d).site ≡ s.Statement l → (g : ℕ) → (None ≡ Some g) ↔ IsWholeOf f n g
statement_told f xs n i d l all e low is g =
    let w : Watch = event_watch_of (get_or xs i d) in
    let here : watch_at f n ≡ Some w = watch_row f xs n i d all e low in
    let site : w.site ≡ statement l = ap site_of is in
    (λ h. cc, λ h. absurd (no_function l g (sym site ∙ (same_watch f n w h.0 here h.1.0 ∙ h.1.1))))
