-- The events that begin at a place.
use Rattle.std.proofs.Common.{ℕ, zero, suc, ◌+◌, ◌≡◌, ◌⊎◌, inl, inr, true, List, [], ◌∷◌, slice_get, Option, Some, None, if◌then◌else◌, refl, sym, ap, subst, ◌∙◌, arith, eqb-true, eq-eqb}
use Rattle.std.specs.List.{Contains}
use Rattle.loom_tree.specs.Tree.{Source}
use Rattle.loom_lang.specs.Places.{Place, entry, inside, place_at}
use Rattle.loom_law.specs.Filter.{Site, statement, function, Watch, Plan, is_site}
use Rattle.loom_law.specs.Paths.{watch_at}
use Rattle.loom_law.specs.FilterRefusal.{IsWholeOf}
use Rattle.loom_law.proofs.Course.{no_member}
use Rattle.loom_law.proofs.Matches.{if_cases, if_first, if_later}
use Rattle.loom_plan.specs.PlaceEvents.{site_at, watched_from, watched}
use Rattle.loom_sites.specs.Events.{watched_if, watched_at}

pub record WatchPlace (ws : List Watch) (n m : ℕ) (at : Site) : Type 0 where
  pub place : ℕ
  pub number : m ≡ n + place
  pub watch : Watch
  pub is : slice_get ws place ≡ Some watch
  pub site : is_site at watch.site ≡ true

watched_found : (n : ℕ) (at : Site) (ws : List Watch) (m : ℕ) → Contains (watched_from n at ws) m → WatchPlace ws n m at
watched_found n at [] m c = absurd (no_member m c)
watched_found n at (w ∷ ws) m c = by_cases (if_cases (is_site at w.site) n m (watched_from (suc n) at ws) c) (watched_found (suc n) at ws m)
  where
    later : WatchPlace ws (suc n) m at → WatchPlace (w ∷ ws) n m at
    later h = let e = h.number in record { place = suc h.place; number = omega (arith, e); watch = h.watch; is = h.is; site = h.site }

    by_cases : ((is_site at w.site ≡ true) × (n ≡ m)) ⊎ Contains (watched_from (suc n) at ws) m → (Contains (watched_from (suc n) at ws) m → WatchPlace ws (suc n) m at) → WatchPlace (w ∷ ws) n m at
    by_cases (inl h) ih = let e = h.1 in record { place = 0; number = omega (arith, e); watch = w; is = refl; site = h.0 }
    by_cases (inr h) ih = later (ih h)

watched_there : (n : ℕ) (at : Site) (ws : List Watch) (i m : ℕ) (w : Watch) → m ≡ n + i → slice_get ws i ≡ Some w → is_site at w.site ≡ true → Contains (watched_from n at ws) m
watched_there n at [] i m w e h g = cc
watched_there n at (v ∷ ws) zero m w e h g =
    let same : v ≡ w = cc in
    let number : n ≡ m = omega (arith, e) in
    let P : ℕ → Type 0 = λ z. Contains (if is_site at v.site then n ∷ watched_from (suc n) at ws else watched_from (suc n) at ws) z in
    subst P number (if_first (is_site at v.site) n (watched_from (suc n) at ws) (ap (λ (x : Watch). is_site at x.site) same ∙ g))
watched_there n at (v ∷ ws) (suc i) m w e h g = if_later (is_site at v.site) n m (watched_from (suc n) at ws) (watched_there (suc n) at ws i m w (omega (arith, e)) h g)

statement_site : (l : ℕ) (s : Site) → is_site (statement l) s ≡ true → s ≡ statement l
statement_site l (statement m) h = ap statement (eqb-true m l h)
statement_site l (function g) h = cc

pub function_site : (g : ℕ) (s : Site) → is_site (function (Some g)) s ≡ true → s ≡ function (Some g)
function_site g (statement m) h = cc
function_site g (function None) h = cc
function_site g (function (Some f)) h = ap (λ z. function (Some z)) (eqb-true f g h)

watch_number : (f : Plan) (m i : ℕ) (w : Watch) → m ≡ 1 + i → slice_get f.watches i ≡ Some w → watch_at f m ≡ Some w
watch_number f m i w e h = let same : m ≡ suc i = omega (arith, e) in ap (watch_at f) same ∙ h

-- at the place of a statement

abbrev pub WatchesStatement : Plan → ℕ → ℕ → Type 0
WatchesStatement f n l = (w : Watch) × ((watch_at f n ≡ Some w) × (w.site ≡ statement l))

at_place : (p : Source) (f : Plan) (k : ℕ) (y : Place) (n : ℕ) → place_at p k ≡ Some y → Contains (watched_at p f k) n → Contains (watched f (site_at y)) n
at_place p f k y n e c = let P : Option Place → Type 0 = λ z. Contains (watched_if f z) n in subst P e c

to_place : (p : Source) (f : Plan) (k : ℕ) (y : Place) (n : ℕ) → place_at p k ≡ Some y → Contains (watched f (site_at y)) n → Contains (watched_at p f k) n
to_place p f k y n e c = let P : Option Place → Type 0 = λ z. Contains (watched_if f z) n in subst P (sym e) c

pub event_told : (p : Source) (f : Plan) (k l n : ℕ) → place_at p k ≡ Some (inside l) → Contains (watched_at p f k) n → WatchesStatement f n l
event_told p f k l n e c =
    let h = watched_found 1 (statement l) f.watches n (at_place p f k (inside l) n e c) in
    (h.watch, (watch_number f n h.place h.watch h.number h.is, statement_site l h.watch.site h.site))

-- the watch of a number stands in the list
watch_there : (f : Plan) (n : ℕ) (w : Watch) → watch_at f n ≡ Some w → (i : ℕ) × ((n ≡ 1 + i) × (slice_get f.watches i ≡ Some w))
watch_there f zero w h = cc
watch_there f (suc i) w h = (i, (omega arith, h))

pub event_found : (p : Source) (f : Plan) (k l n : ℕ) → place_at p k ≡ Some (inside l) → WatchesStatement f n l → Contains (watched_at p f k) n
event_found p f k l n e h =
    let there = watch_there f n h.0 h.1.0 in
    to_place p f k (inside l) n e
    (watched_there 1 (statement l) f.watches there.0 n h.0 there.1.0 there.1.1 (ap (is_site (statement l)) h.1.1 ∙ eq-eqb l l refl))

-- at the entry place of a function

pub frame_told : (p : Source) (f : Plan) (k g n : ℕ) → place_at p k ≡ Some (entry g) → Contains (watched_at p f k) n → IsWholeOf f n g
frame_told p f k g n e c =
    let h = watched_found 1 (function (Some g)) f.watches n (at_place p f k (entry g) n e c) in
    (h.watch, (watch_number f n h.place h.watch h.number h.is, function_site g h.watch.site h.site))

pub frame_found : (p : Source) (f : Plan) (k g n : ℕ) → place_at p k ≡ Some (entry g) → IsWholeOf f n g → Contains (watched_at p f k) n
frame_found p f k g n e h =
    let there = watch_there f n h.0 h.1.0 in
    to_place p f k (entry g) n e
    (watched_there 1 (function (Some g)) f.watches there.0 n h.0 there.1.0 there.1.1 (ap (is_site (function (Some g))) h.1.1 ∙ eq-eqb g g refl))

-- elsewhere none begins

pub none_told : (p : Source) (f : Plan) (k n : ℕ) (y : Place) → place_at p k ≡ Some y → site_at y ≡ None → Contains (watched_at p f k) n → ⊥
none_told p f k n y e none c =
    let P : Option Site → Type 0 = λ z. Contains (watched f z) n in
    no_member n (subst P none (at_place p f k y n e c))

-- what a place of the table watches, by its call
pub watched_is : (p : Source) (f : Plan) (k : ℕ) (y : Place) (ns : List ℕ) → place_at p k ≡ Some y → ((x : Place) → place_at p k ≡ Some x → ns ≡ watched f (site_at x)) → ns ≡ watched_at p f k
watched_is p f k y ns e h = h y e ∙ ap (watched_if f) (sym e)
