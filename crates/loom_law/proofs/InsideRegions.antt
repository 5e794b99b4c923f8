-- The unsafe places of regions are those inside them, as the refusals say what is inside.
use Rattle.std.proofs.Common.{ℕ, ◌≡◌, ◌⊎◌, inl, inr, List}
use Rattle.std.specs.List.{Contains}
use Rattle.loom_tree.specs.Tree.{Source}
use Rattle.loom_lang.specs.Places.{Place, entry}
use Rattle.loom_law.specs.Filter.{Range, between, whole, Plan}
use Rattle.loom_law.specs.FilterView.{all_ranges}
use Rattle.loom_law.specs.Paths.{Node, begins, complete, turns, leaves, statements_of, places_of, IsReached, node_places, IsReachedAt, IsUnsafeByPath, IsUnsafeByFunction}
use Rattle.loom_law.specs.FilterRefusal.{ComesInside}
use Rattle.loom_law.specs.InsideRegions.{IsPlaceInside, IsPlaceCalled, IsRegionPlace, HasRegionPlaces}

comes_inside : (p : Source) (f : Plan) (y : Place) → (u : IsUnsafeByPath p f y) → ComesInside p f u.entries u.exits u.number u.node
comes_inside p f y u = record {
  event = u.event;
  one = u.one;
  watch = u.watch;
  is = u.is;
  line = u.line;
  site = u.site;
  there = u.there;
  function = u.function;
  of_number = u.of_number;
  comes = u.comes;
}

called_at : (p : Source) (f : Plan) (es xs : List ℕ) (g : ℕ) (n : Node) (y : Place) → ComesInside p f es xs g n → IsReachedAt p g n y → IsPlaceCalled p f (between es xs) y
called_at p f es xs g (begins l) y c r = (IsReached.function r.2, ((g, (l, (r.0, (c, (r.1, IsReached.reached r.2))))), IsReached.there r.2))
called_at p f es xs g (complete l) y c r = absurd r
called_at p f es xs g (turns l) y c r = absurd r
called_at p f es xs g leaves y c r = absurd r

by_path : (p : Source) (f : Plan) (y : Place) → IsUnsafeByPath p f y → IsRegionPlace p f y
by_path p f y u = record { region = between u.entries u.exits; there = u.region; place = by_cases u.place }
  where
    by_cases : Contains (node_places u.number u.node) y ⊎ IsReachedAt p u.number u.node y
        → IsPlaceInside p f (between u.entries u.exits) y ⊎ IsPlaceCalled p f (between u.entries u.exits) y
    by_cases (inl c) = inl (u.number, (u.node, (comes_inside p f y u, c)))
    by_cases (inr r) = inr (called_at p f u.entries u.exits u.number u.node y (comes_inside p f y u) r)

by_function : (p : Source) (f : Plan) (y : Place) → IsUnsafeByFunction p f y → IsRegionPlace p f y
by_function p f y u = record { region = whole u.event; there = u.region; place = by_cases u.place }
  where
    by_cases : (Contains (places_of p u.number) y × (y ≡ entry u.number → ⊥)) ⊎ IsReached p (statements_of p u.number) y
        → IsPlaceInside p f (whole u.event) y ⊎ IsPlaceCalled p f (whole u.event) y
    by_cases (inl c) = inl (u.number, ((u.watch, (u.is, u.site)), c))
    by_cases (inr r) = inr (r.function, ((u.number, ((u.watch, (u.is, u.site)), r.reached)), r.there))

path_of : (p : Source) (f : Plan) (es xs : List ℕ) (g : ℕ) (n : Node) (y : Place) → Contains (all_ranges f) (between es xs) → ComesInside p f es xs g n
    → Contains (node_places g n) y ⊎ IsReachedAt p g n y → IsUnsafeByPath p f y
path_of p f es xs g n y there c place = record {
  entries = es;
  exits = xs;
  region = there;
  event = c.event;
  one = c.one;
  watch = c.watch;
  is = c.is;
  line = c.line;
  site = c.site;
  function = c.function;
  number = g;
  of_number = c.of_number;
  there = c.there;
  node = n;
  comes = c.comes;
  place = place;
}

of_place : (p : Source) (f : Plan) (r : Range) (y : Place) → Contains (all_ranges f) r → IsPlaceInside p f r y ⊎ IsPlaceCalled p f r y → IsUnsafeByPath p f y ⊎ IsUnsafeByFunction p f y
of_place p f (between es xs) y there (inl i) = inl (path_of p f es xs i.0 i.1.0 y there i.1.1.0 (inl i.1.1.1))
of_place p f (between es xs) y there (inr (h, (c, d))) =
    let g : ℕ = c.0 in
    let l : ℕ = c.1.0 in
    inl (path_of p f es xs g (begins l) y there c.1.1.1.0 (inr (c.1.1.0, c.1.1.1.1.0, record { function = h; reached = c.1.1.1.1.1; there = d })))
of_place p f (whole n) y there (inl (g, (w, d))) = inr (record { event = n; region = there; watch = w.0; is = w.1.0; number = g; site = w.1.1; place = inl d })
of_place p f (whole n) y there (inr (h, (c, d))) =
    inr (record { event = n; region = there; watch = c.1.0.0; is = c.1.0.1.0; number = c.0; site = c.1.0.1.1; place = inr (record { function = h; reached = c.1.1; there = d }) })

pub region_places : HasRegionPlaces
region_places p f y = (to_region, (λ r. of_place p f r.region y r.there r.place))
  where
    to_region : IsUnsafeByPath p f y ⊎ IsUnsafeByFunction p f y → IsRegionPlace p f y
    to_region (inl u) = by_path p f y u
    to_region (inr u) = by_function p f y u
