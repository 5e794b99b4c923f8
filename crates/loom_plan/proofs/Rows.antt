-- What is watched at places.
use Rattle.std.proofs.Common.{ℕ, zero, suc, ◌≡◌, ◌<◌, ◌≤◌, ◌+◌, ◌==◌, Bool, true, false, ◌&&◌, ◌||◌, if◌then◌else◌, List, [], ◌∷◌, length, drop, get_or, ℤ, Option, Some, None, refl, sym, ap, subst, ◌∙◌, arith, ne_eqb, eq-eqb}
use Rattle.std.specs.Prelude.{slice_get, option_map}
use Rattle.std.specs.List.{list_any}
use Rattle.std.proofs.Math.Seq.{drop-cons}
use Rattle.loom_tree.specs.Tree.{Expression, Source}
use Rattle.loom_lang.specs.Places.{Place}
use Rattle.loom_flow.specs.State.{named}
use Rattle.loom_command.specs.FilterFault.{most_events}
use Rattle.loom_law.specs.Filter.{Site, Watch, Plan, Ruling, has, is_site, passes, matching, matching_from, numbered_from, is_unilateral}
use Rattle.loom_law.specs.Paths.{watch_at}
use Rattle.loom_plan.specs.declared.plan.Pick.{Pick}
use Rattle.loom_plan.specs.declared.plan.WatchRow.{WatchRow}
use Rattle.loom_plan.specs.declared.plan.Rule.{Rule}
use Rattle.loom_plan.specs.declared.plan.EventWatch.{EventWatch}
use Rattle.loom_plan.specs.PlanView.{site_of, event_watch_of, watches_of, plan_of_rows, ruling_of, rulings_of}
use Rattle.loom_plan.specs.Tests.{is_passed}
use Rattle.loom_plan.specs.PlaceEvents.{line_of_site, site_at, names_or_none, picks_from, ArePicks, IsWatchRow, AreRows, picked, Ascend}

-- rows

pub as_many_rows : (f : Plan) (names : List (List (List ℕ))) (xs : List Place) (rows : List WatchRow) → AreRows f names xs rows → length rows ≡ length xs
as_many_rows f [] [] [] h = refl
as_many_rows f (n ∷ names) (x ∷ xs) (r ∷ rows) h = ap suc (as_many_rows f names xs rows h.1)
as_many_rows f [] [] (r ∷ rows) h = absurd h
as_many_rows f [] (x ∷ xs) rows h = absurd h
as_many_rows f (n ∷ names) [] rows h = absurd h
as_many_rows f (n ∷ names) (x ∷ xs) [] h = absurd h

pub row_at : (f : Plan) (names : List (List (List ℕ))) (xs : List Place) (rows : List WatchRow) (k : ℕ) (x : Place) (d : WatchRow)
    → AreRows f names xs rows → slice_get xs k ≡ Some x → IsWatchRow f (names_or_none (slice_get names k)) (site_at x) (get_or rows k d)
row_at f [] [] [] zero x d h e = cc
row_at f [] [] [] (suc k) x d h e = cc
row_at f (n ∷ names) (y ∷ xs) (r ∷ rows) zero x d h e = subst (λ (z : Place). IsWatchRow f n (site_at z) r) (let same : y ≡ x = cc in same) h.0
row_at f (n ∷ names) (y ∷ xs) (r ∷ rows) (suc k) x d h e = row_at f names xs rows k x d h.1 e
row_at f [] [] (r ∷ rows) k x d h e = absurd h
row_at f [] (y ∷ xs) rows k x d h e = absurd h
row_at f (n ∷ names) [] rows k x d h e = absurd h
row_at f (n ∷ names) (y ∷ xs) [] k x d h e = absurd h

-- picks ascend

pub weaker : (n m : ℕ) (xs : List Pick) → n ≤ m → Ascend m xs → Ascend n xs
weaker n m [] low h = tt
weaker n m (x ∷ xs) low h = let lower = h.0.0 in ((omega arith, h.0.1), h.1)

pub ascend : (names : List (List ℕ)) (at : Site) (n m : ℕ) (ws : List Watch) (xs : List Pick) → m ≡ suc n → n + length ws ≤ most_events → ArePicks names xs (picks_from m at ws) → Ascend n xs
ascend names at n m [] [] e low h = tt
ascend names at n m [] (x ∷ xs) e low h = absurd h
ascend names at n m (w ∷ ws) xs e low h = by (is_site at w.site) xs h (λ ys. ascend names at (suc n) (suc m) ws ys (omega arith) (omega arith))
  where
    rest : List (ℕ × Option Expression)
    rest = picks_from (suc m) at ws

    by : (b : Bool) (ys : List Pick) → ArePicks names ys (if b then (m, w.test) ∷ rest else rest) → ((zs : List Pick) → ArePicks names zs rest → Ascend (suc n) zs) → Ascend n ys
    by false ys g more = weaker n (suc n) ys (omega arith) (more ys g)
    by true [] g more = absurd g
    by true (y ∷ ys) g more = let same = g.0.0 in ((omega arith, omega arith), subst (λ (k : ℕ). Ascend k ys) (omega arith) (more ys g.1))

pub ascend_at : (n : ℕ) (xs : List Pick) (i : ℕ) (d : Pick) → i < length xs → Ascend n xs → (n < (get_or xs i d).event) × ((get_or xs i d).event ≤ most_events)
ascend_at n [] i d low h = absurd (omega arith)
ascend_at n (x ∷ xs) zero d low h = h.0
ascend_at n (x ∷ xs) (suc i) d low h =
    let more = ascend_at x.event xs i d (omega arith) h.1 in
    let here = h.0.0 in
    let there = more.0 in
    (omega arith, more.1)

pub ascend_behind : (n : ℕ) (xs : List Pick) (i : ℕ) (d : Pick) → i < length xs → Ascend n xs → Ascend (get_or xs i d).event (drop (suc i) xs)
ascend_behind n [] i d low h = absurd (omega arith)
ascend_behind n (x ∷ xs) zero d low h = h.1
ascend_behind n (x ∷ xs) (suc i) d low h = ascend_behind x.event xs i d (omega arith) h.1

has_if : (b : Bool) (x m : ℕ) (xs : List ℕ) → (x == m) ≡ false → has xs m ≡ false → has (if b then x ∷ xs else xs) m ≡ false
has_if true x m xs e h = cc
has_if false x m xs e h = h

pub picked_low : (vs : List ℤ) (n m : ℕ) (xs : List Pick) → m ≤ n → Ascend n xs → has (picked vs xs) m ≡ false
picked_low vs n m [] low h = refl
picked_low vs n m (x ∷ xs) low h =
    let here = h.0.0 in
    has_if (is_passed vs x.test) x.event m (picked vs xs) (ne_eqb x.event m (λ e. omega arith)) (picked_low vs x.event m xs (omega arith) h.1)

pub row_ascends : (f : Plan) (names : List (List ℕ)) (at : Option Site) (row : WatchRow) → length f.watches ≤ most_events → IsWatchRow f names at row → Ascend 0 row.picks.items
row_ascends f names (Some at) row few h = ascend names at 0 1 f.watches row.picks.items (omega arith) (omega arith) h.picks
row_ascends f names None row few h = by row.picks.items h.picks
  where
    by : (xs : List Pick) → ArePicks names xs [] → Ascend 0 xs
    by [] g = tt
    by (x ∷ xs) g = absurd g

pub get_some : {A : Type 0} (xs : List A) (k : ℕ) → k < length xs → (x : A) × (slice_get xs k ≡ Some x)
get_some [] k low = absurd (omega arith)
get_some (x ∷ xs) zero low = (x, refl)
get_some (x ∷ xs) (suc k) low = get_some xs k (omega arith)

-- a loop that goes down the picks
pub picked_more : (vs : List ℤ) (xs : List Pick) (i k n : ℕ) (d : Pick) (b : Bool) (old new : List ℕ) → Ascend 0 xs → i ≡ suc k → k < length xs
    → old ≡ picked vs (drop i xs) → n ≡ (get_or xs k d).event → b ≡ is_passed vs (get_or xs k d).test
    → (((m : ℕ) → m ≤ n → has old m ≡ false) → new ≡ (if b then n ∷ old else old))
    → new ≡ picked vs (drop k xs)
picked_more vs xs i k n d b old new up e low is event test put =
    let x : Pick = get_or xs k d in
    let old_is : old ≡ picked vs (drop (suc k) xs) = is ∙ ap (λ (j : ℕ). picked vs (drop j xs)) e in
    put (λ m h. ap (λ (ys : List ℕ). has ys m) old_is ∙ picked_low vs x.event m (drop (suc k) xs) (omega arith) (ascend_behind 0 xs k d low up))
    ∙ (ap (λ (c : Bool). if c then n ∷ old else old) test
    ∙ (ap (λ (m : ℕ). if is_passed vs x.test then m ∷ old else old) event
    ∙ (ap (λ (ys : List ℕ). if is_passed vs x.test then x.event ∷ ys else ys) old_is
    ∙ ap (λ (ys : List Pick). picked vs ys) (sym (drop-cons xs k d low)))))

pub picked_none : (vs : List ℤ) (xs : List Pick) → picked vs (drop (length xs) xs) ≡ []
picked_none vs [] = refl
picked_none vs (x ∷ xs) = picked_none vs xs

-- what they pick is what matches

pub picked_are : (names : List (List ℕ)) (vs : List ℤ) (at : Site) (n : ℕ) (ws : List Watch) (xs : List Pick) → ArePicks names xs (picks_from n at ws)
    → picked vs xs ≡ matching_from n at (named names vs) ws
picked_are names vs at n [] [] h = refl
picked_are names vs at n [] (x ∷ xs) h = absurd h
picked_are names vs at n (w ∷ ws) xs h = by (is_site at w.site) xs h (λ ys. picked_are names vs at (suc n) ws ys)
  where
    rest : List (ℕ × Option Expression)
    rest = picks_from (suc n) at ws

    more : List ℕ
    more = matching_from (suc n) at (named names vs) ws

    by : (b : Bool) (ys : List Pick) → ArePicks names ys (if b then (n, w.test) ∷ rest else rest) → ((zs : List Pick) → ArePicks names zs rest → picked vs zs ≡ more)
        → picked vs ys ≡ (if b && passes (named names vs) w.test then n ∷ more else more)
    by false ys g same = same ys g
    by true [] g same = absurd g
    by true (y ∷ ys) g same =
        ap (λ (c : Bool). if c then y.event ∷ picked vs ys else picked vs ys) (g.0.1 vs)
        ∙ (ap (λ (m : ℕ). if passes (named names vs) w.test then m ∷ picked vs ys else picked vs ys) g.0.0
        ∙ ap (λ (ms : List ℕ). if passes (named names vs) w.test then n ∷ ms else ms) (same ys g.1))

pub row_matches : (f : Plan) (names : List (List ℕ)) (o : Option Site) (at : Site) (row : WatchRow) (vs : List ℤ) → o ≡ Some at → IsWatchRow f names o row
    → picked vs row.picks.items ≡ matching f at (named names vs)
row_matches f names o at row vs e h =
    let there : IsWatchRow f names (Some at) row = subst (λ (z : Option Site). IsWatchRow f names z row) e h in
    picked_are names vs at 1 f.watches row.picks.items there.picks

-- the line of an event

get_watch : (es : List EventWatch) (k : ℕ) (d : EventWatch) → k < length es → slice_get (watches_of es) k ≡ Some (event_watch_of (get_or es k d))
get_watch [] k d low = absurd (omega arith)
get_watch (x ∷ es) zero d low = refl
get_watch (x ∷ es) (suc k) d low = get_watch es k d (omega arith)

pub event_line_is : (p : Source) (es : List EventWatch) (rs : List Rule) (n k : ℕ) (d : EventWatch) → n ≡ suc k → k < length es
    → option_map (λ (w : Watch). line_of_site p w.site) (watch_at (plan_of_rows es rs) n) ≡ Some (line_of_site p (site_of (get_or es k d).site))
event_line_is p es rs n k d e low =
    ap (λ (m : ℕ). option_map (λ (w : Watch). line_of_site p w.site) (watch_at (plan_of_rows es rs) m)) e
    ∙ ap (λ (o : Option Watch). option_map (λ (w : Watch). line_of_site p w.site) o) (get_watch es k d low)

-- whether a clause is unilateral

alone_none : (n m : ℕ) (rs : List Ruling) → m < n → list_any (λ (x : ℕ × Ruling). (x.0 == m) && is_unilateral x.1) (numbered_from n rs) ≡ false
alone_none n m [] low = refl
alone_none n m (r ∷ rs) low = both (n == m) (is_unilateral r) _ (ne_eqb n m (λ e. omega arith)) (alone_none (suc n) m rs (omega arith))
  where
    both : (a b c : Bool) → a ≡ false → c ≡ false → ((a && b) || c) ≡ false
    both true b c e h = cc
    both false b c e h = h

pub alone_at : (rs : List Rule) (n i m : ℕ) (d : Rule) → m ≡ n + i → i < length rs
    → is_unilateral (ruling_of (get_or rs i d)) ≡ list_any (λ (x : ℕ × Ruling). (x.0 == m) && is_unilateral x.1) (numbered_from n (rulings_of rs))
alone_at [] n i m d e low = absurd (omega arith)
alone_at (r ∷ rs) n zero m d e low = here (n == m) (is_unilateral (ruling_of r)) _ (eq-eqb n m (omega arith)) (alone_none (suc n) m (rulings_of rs) (omega arith))
  where
    here : (a b c : Bool) → a ≡ true → c ≡ false → b ≡ ((a && b) || c)
    here true true c e h = refl
    here true false c e h = sym h
    here false b c e h = cc
alone_at (r ∷ rs) n (suc i) m d e low = alone_at rs (suc n) i m d (omega arith) (omega arith) ∙ there (n == m) (is_unilateral (ruling_of r)) _ (ne_eqb n m (λ q. omega arith))
  where
    there : (a b c : Bool) → a ≡ false → c ≡ ((a && b) || c)
    there true b c e = cc
    there false b c e = refl
