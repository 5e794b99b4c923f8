-- The unsafe places are those of regions, of the functions that calls reach, and of events.
use Rattle.std.proofs.Common.{ℕ, suc, ◌-◌, ◌<◌, ◌≡◌, ◌==◌, ◌⊎◌, ◌↔◌, inl, inr, Bool, true, false, ◌&&◌, ◌||◌, nat_lt, nat_le, List, [], ◌∷◌, length, flat_map, slice_get, Option, Some, None, refl, sym, ap, subst, ◌∙◌, arith, eqb-true}
use Rattle.std.specs.List.{Contains}
use Rattle.std.proofs.lemmas.Bool.{lt-ltb, ltb-true}
use Rattle.std.proofs.lemmas.Option.{slice_get_within}
use Rattle.std.proofs.lemmas.List.Elements.{Contains-append_left, Contains-append_right, Contains-append_cases}
use Rattle.loom_tree.specs.Tree.{Body, Source}
use Rattle.loom_lang.specs.Rules.{KeepsRules}
use Rattle.loom_lang.specs.Places.{Place, out, body_places, places, place_at}
use Rattle.loom_trace.specs.Places.{has_place}
use Rattle.loom_law.specs.Filter.{Watch, statement, Range, between, whole, Ruling, Plan, ranges_of, numbered_from}
use Rattle.loom_law.specs.FilterView.{all_ranges}
use Rattle.loom_law.specs.Paths.{Node, begins, complete, turns, leaves, IsStatement, statements, has_return, statements_of, CallsFunction, Reaches, places_of, IsReached, watch_at, Comes, node_places, IsReachedAt, IsUnsafeByEvent, IsUnsafeByPath, IsUnsafeByFunction, IsUnsafe}
use Rattle.loom_law.specs.Paths as paths
use Rattle.loom_law.specs.FilterRefusal.{ComesInside, CallsFrom}
use Rattle.loom_law.proofs.Course.{contains_first, contains_later, contains_cases, no_member}
use Rattle.loom_law.proofs.Holdings.{either_of, or_cases, or_left, or_right}
use Rattle.loom_plan.specs.PlanParts.{of_clause, clause_regions, plan_regions}
use Rattle.loom_sites.specs.declared.links.PlaceLinks.{PlaceLinks}
use Rattle.loom_sites.specs.declared.area.Area.{Area}
use Rattle.loom_sites.specs.Links.{is_return_kind, program_rows}
use Rattle.loom_sites.specs.Rows.{test_if, meets_at, any_meets, any_run, IsTable}
use Rattle.loom_sites.specs.Functions.{has_function, IsReachedFrom, one, through, is_of}
use Rattle.loom_sites.specs.Events.{has_event, is_between, is_out, is_unsafe_at, makes_unsafe, calls_by_event}
use Rattle.loom_sites.specs.Areas.{IsOwnPlace, IsOwnNumber, IsOwnAmong, AreAreas, AreWith, any_calls}
use Rattle.loom_sites.specs.UnsafePlaces.{AreUnsafe}
use Rattle.loom_sites.specs.Nodes.{node_number}
use Rattle.loom_sites.proofs.Passes.{any_found_all, run_found}
use Rattle.loom_sites.proofs.Rows.{as_many_rows, program_table}
use Rattle.loom_sites.proofs.Owners.{owned_number, owner_of}
use Rattle.loom_sites.proofs.EventPlaces.{IsEventPlace, event_place, event_call}

-- What a region makes unsafe: its own places, and those of the functions that calls inside it reach.

abbrev pub IsRegionPlace : Source → Plan → Range → Place → Type 0
IsRegionPlace p f r y = IsOwnPlace p f r y ⊎ ((h : ℕ) × (CallsFrom p f r h × Contains (places_of p h) y))

abbrev pub IsUnsafeByRegion : Source → Plan → Place → Type 0
IsUnsafeByRegion p f y = (r : Range) × (Contains (all_ranges f) r × IsRegionPlace p f r y)

path_inside : (p : Source) (f : Plan) (y : Place) (h : IsUnsafeByPath p f y) → ComesInside p f h.entries h.exits h.number h.node
path_inside p f y h = record {
  event = h.event;
  one = h.one;
  watch = h.watch;
  is = h.is;
  line = h.line;
  site = h.site;
  there = h.there;
  function = h.function;
  of_number = h.of_number;
  comes = h.comes;
}

reached_calls : (p : Source) (f : Plan) (es xs : List ℕ) (g : ℕ) (node : Node) (y : Place) → ComesInside p f es xs g node → IsReachedAt p g node y
    → (h : ℕ) × (CallsFrom p f (between es xs) h × Contains (places_of p h) y)
reached_calls p f es xs g (begins l) y c k = (k.2.function, ((g, (l, (k.0, (c, (k.1, k.2.reached))))), k.2.there))
reached_calls p f es xs g (complete l) y c k = absurd k
reached_calls p f es xs g (turns l) y c k = absurd k
reached_calls p f es xs g leaves y c k = absurd k

pub path_region : (p : Source) (f : Plan) (y : Place) → IsUnsafeByPath p f y → IsUnsafeByRegion p f y
path_region p f y h = (
  between h.entries h.exits,
  (
    h.region,
    either_of h.place (λ i. inl (h.number, (h.node, (path_inside p f y h, i))))
        (λ i. inr (reached_calls p f h.entries h.exits h.number h.node y (path_inside p f y h) i)),
  ),
)

pub function_region : (p : Source) (f : Plan) (y : Place) → IsUnsafeByFunction p f y → IsUnsafeByRegion p f y
function_region p f y h = (
  whole h.event,
  (
    h.region,
    either_of h.place (λ i. inl (h.number, ((h.watch, (h.is, h.site)), i)))
        (λ i. inr (i.function, ((h.number, ((h.watch, (h.is, h.site)), i.reached)), i.there))),
  ),
)

-- and back

inside_path : (p : Source) (f : Plan) (es xs : List ℕ) (y : Place) (g : ℕ) (node : Node) → Contains (all_ranges f) (between es xs) → ComesInside p f es xs g node
    → Contains (node_places g node) y ⊎ IsReachedAt p g node y → IsUnsafeByPath p f y
inside_path p f es xs y g node region c place = record {
  entries = es;
  exits = xs;
  region = region;
  event = c.event;
  one = c.one;
  watch = c.watch;
  is = c.is;
  line = c.line;
  site = c.site;
  function = c.function;
  number = g;
  of_number = c.of_number;
  there = c.there;
  node = node;
  comes = c.comes;
  place = place;
}

region_path : (p : Source) (f : Plan) (es xs : List ℕ) (y : Place) → Contains (all_ranges f) (between es xs) → IsRegionPlace p f (between es xs) y → IsUnsafeByPath p f y
region_path p f es xs y region (inl h) = inside_path p f es xs y h.0 h.1.0 region h.1.1.0 (inl h.1.1.1)
region_path p f es xs y region (inr h) =
    let c = h.1.0 in
    inside_path p f es xs y c.0 (begins c.1.0) region c.1.1.1.0 (inr (c.1.1.0, c.1.1.1.1.0, record { function = h.0; reached = c.1.1.1.1.1; there = h.1.1 }))

region_function : (p : Source) (f : Plan) (n : ℕ) (y : Place) → Contains (all_ranges f) (whole n) → IsRegionPlace p f (whole n) y → IsUnsafeByFunction p f y
region_function p f n y region (inl h) = record { event = n; region = region; watch = h.1.0.0; is = h.1.0.1.0; number = h.0; site = h.1.0.1.1; place = inl h.1.1 }
region_function p f n y region (inr h) =
    let c = h.1.0 in
    record { event = n; region = region; watch = c.1.0.0; is = c.1.0.1.0; number = c.0; site = c.1.0.1.1; place = inr (record { function = h.0; reached = c.1.1; there = h.1.1 }) }

pub region_unsafe : (p : Source) (f : Plan) (r : Range) (y : Place) → Contains (all_ranges f) r → IsRegionPlace p f r y → IsUnsafe p f y
region_unsafe p f (between es xs) y region h = inr (inl (region_path p f es xs y region h))
region_unsafe p f (whole n) y region h = inr (inr (region_function p f n y region h))

pub unsafe_parts : (p : Source) (f : Plan) (y : Place) → IsUnsafe p f y → IsUnsafeByEvent p f y ⊎ IsUnsafeByRegion p f y
unsafe_parts p f y (inl h) = inl h
unsafe_parts p f y (inr (inl h)) = inr (path_region p f y h)
unsafe_parts p f y (inr (inr h)) = inr (function_region p f y h)

-- The regions with the numbers of their clauses are those of the plan.

own_told : (c : ℕ) (rs : List Range) (x : ℕ × Range) → Contains (of_clause c rs) x → Contains rs x.1
own_told c [] x h = absurd (no_member x h)
own_told c (r ∷ rs) x h =
    either_of (contains_cases (c, r) x (of_clause c rs) h) (λ e. (let P : ℕ × Range → Type 0 = λ z. Contains (r ∷ rs) z.1 in subst P e (contains_first r rs))) (λ d. contains_later r x.1 rs (own_told c rs x d))

own_found : (c : ℕ) (rs : List Range) (r : Range) → Contains rs r → Contains (of_clause c rs) (c, r)
own_found c [] r h = absurd (no_member r h)
own_found c (s ∷ rs) r h =
    either_of (contains_cases s r rs h) (λ e. (let P : Range → Type 0 = λ z. Contains (of_clause c (s ∷ rs)) (c, z) in subst P e (contains_first (c, s) (of_clause c rs)))) (λ d. contains_later (c, s) (c, r) (of_clause c rs) (own_found c rs r d))

regions_told : (n : ℕ) (rs : List Ruling) (x : ℕ × Range) → Contains (flat_map clause_regions (numbered_from n rs)) x → Contains (flat_map ranges_of rs) x.1
regions_told n [] x h = absurd (no_member x h)
regions_told n (r ∷ rs) x h =
    either_of (Contains-append_cases (of_clause n (ranges_of r)) (flat_map clause_regions (numbered_from (suc n) rs)) x h)
    (λ d. Contains-append_left (ranges_of r) (flat_map ranges_of rs) x.1 (own_told n (ranges_of r) x d))
    (λ d. Contains-append_right (ranges_of r) (flat_map ranges_of rs) x.1 (regions_told (suc n) rs x d))

regions_found : (n : ℕ) (rs : List Ruling) (r : Range) → Contains (flat_map ranges_of rs) r → (c : ℕ) × Contains (flat_map clause_regions (numbered_from n rs)) (c, r)
regions_found n [] r h = absurd (no_member r h)
regions_found n (x ∷ rs) r h =
    either_of (Contains-append_cases (ranges_of x) (flat_map ranges_of rs) r h)
    (λ d. (n, Contains-append_left (of_clause n (ranges_of x)) (flat_map clause_regions (numbered_from (suc n) rs)) (n, r) (own_found n (ranges_of x) r d)))
    (λ d. let ih = regions_found (suc n) rs r d in (ih.0, Contains-append_right (of_clause n (ranges_of x)) (flat_map clause_regions (numbered_from (suc n) rs)) (ih.0, r) ih.1))

-- Own places by their numbers

among_told : (p : Source) (f : Plan) (rs : List (ℕ × Range)) (k : ℕ) → IsOwnAmong p f rs k → (x : ℕ × Range) × (Contains rs x × IsOwnNumber p f x.1 k)
among_told p f [] k h = absurd h
among_told p f (r ∷ rs) k (inl h) = (r, (contains_first r rs, h))
among_told p f (r ∷ rs) k (inr h) = let ih = among_told p f rs k h in (ih.0, (contains_later r ih.0 rs ih.1.0, ih.1.1))

among_found : (p : Source) (f : Plan) (rs : List (ℕ × Range)) (k : ℕ) (x : ℕ × Range) → Contains rs x → IsOwnNumber p f x.1 k → IsOwnAmong p f rs k
among_found p f [] k x c h = absurd (no_member x c)
among_found p f (r ∷ rs) k x c h =
    either_of (contains_cases r x rs c) (λ e. inl (let P : ℕ × Range → Type 0 = λ z. IsOwnNumber p f z.1 k in subst P (sym e) h)) (λ d. inr (among_found p f rs k x d h))

same_place : (y z : Place) → Some y ≡ Some z → y ≡ z
same_place y z e = cc

pub own_place_told : (p : Source) (f : Plan) (k : ℕ) (y : Place) → place_at p k ≡ Some y → IsOwnAmong p f (plan_regions f) k → (r : Range) × (Contains (all_ranges f) r × IsOwnPlace p f r y)
own_place_told p f k y e h =
    let t = among_told p f (plan_regions f) k h in
    let P : Place → Type 0 = λ z. IsOwnPlace p f t.0.1 z in
    (t.0.1, (regions_told 1 f.rulings t.0 t.1.0, subst P (same_place t.1.1.0 y (sym t.1.1.1.0 ∙ e)) t.1.1.1.1))

pub own_place_found : (p : Source) (f : Plan) (k : ℕ) (y : Place) (r : Range) → place_at p k ≡ Some y → Contains (all_ranges f) r → IsOwnPlace p f r y → IsOwnAmong p f (plan_regions f) k
own_place_found p f k y r e c h =
    let found = regions_found 1 f.rulings r c in
    among_found p f (plan_regions f) k (found.0, r) found.1 (y, (e, h))

-- Functions that calls of areas reach

calls_told : (p : Source) (f : Plan) (rs : List (ℕ × Range)) (xs : List Area) (g : ℕ) → AreAreas p f rs xs → any_calls xs g ≡ true → (x : ℕ × Range) × (Contains rs x × CallsFrom p f x.1 g)
calls_told p f [] [] g h e = cc
calls_told p f (r ∷ rs) (x ∷ xs) g h e =
    either_of (or_cases (has_function x.contents.calls g) (any_calls xs g) e) (λ i. (r, (contains_first r rs, (h.0.contents.calls g).0 i)))
    (λ i. let ih = calls_told p f rs xs g h.1 i in (ih.0, (contains_later r ih.0 rs ih.1.0, ih.1.1)))
calls_told p f [] (x ∷ xs) g h e = absurd h
calls_told p f (r ∷ rs) [] g h e = absurd h

calls_found : (p : Source) (f : Plan) (rs : List (ℕ × Range)) (xs : List Area) (g : ℕ) (x : ℕ × Range) → AreAreas p f rs xs → Contains rs x → CallsFrom p f x.1 g → any_calls xs g ≡ true
calls_found p f [] [] g x h c k = absurd (no_member x c)
calls_found p f (r ∷ rs) (a ∷ xs) g x h c k =
    either_of (contains_cases r x rs c) (λ e. or_left (has_function a.contents.calls g) (any_calls xs g) ((h.0.contents.calls g).1 (let P : ℕ × Range → Type 0 = λ z. CallsFrom p f z.1 g in subst P (sym e) k)))
    (λ d. or_right (has_function a.contents.calls g) (any_calls xs g) (calls_found p f rs xs g x h.1 d k))
calls_found p f [] (a ∷ xs) g x h c k = absurd h
calls_found p f (r ∷ rs) [] g x h c k = absurd h

-- Places of functions: a row's function is that of its place.

and_parts : (a b : Bool) → (a && b) ≡ true → (a ≡ true) × (b ≡ true)
and_parts true b h = (refl, h)
and_parts false b h = cc

and_true : (a b : Bool) → a ≡ true → b ≡ true → (a && b) ≡ true
and_true true b h g = g
and_true false b h g = cc

pub function_place : (p : Source) (k : ℕ) (y : Place) (bits : ℕ) → KeepsRules p → place_at p k ≡ Some y → meets_at (is_of bits) (program_rows p) k ≡ true
    → (h : ℕ) × ((has_function bits h ≡ true) × Contains (places_of p h) y)
function_place p k y bits rules e m = by_row (slice_get (program_rows p) k) refl m
  where
    by_row : (o : Option PlaceLinks) → slice_get (program_rows p) k ≡ o → test_if (is_of bits) k o ≡ true → (h : ℕ) × ((has_function bits h ≡ true) × Contains (places_of p h) y)
    by_row None i t = cc
    by_row (Some row) i t =
        let parts = and_parts (nat_lt 0 k) (has_function bits row.function) t in
        (row.function, (parts.1, owner_of p k y row (ltb-true 0 k parts.0) e i))

pub place_function : (p : Source) (k h : ℕ) (y : Place) (bits : ℕ) → KeepsRules p → place_at p k ≡ Some y → has_function bits h ≡ true → Contains (places_of p h) y → meets_at (is_of bits) (program_rows p) k ≡ true
place_function p k h y bits rules e b c =
    let own = owned_number p h k y rules e c in
    ap (test_if (is_of bits) k) own.1.is ∙ and_true (nat_lt 0 k) (has_function bits own.1.row.function) (lt-ltb 0 k own.0) (ap (has_function bits) own.1.function ∙ b)

-- Functions that calls at events reach

-- an event at a statement from which calls reach the function
record EventReaches (p : Source) (f : Plan) (h : ℕ) : Type 0 where
  event : ℕ
  watch : Watch
  line : ℕ
  number : ℕ
  body : Body
  is : watch_at f event ≡ Some watch
  site : watch.site ≡ statement line
  there : IsStatement p number line body
  reached : Reaches p (statements body) h

reached_event : (p : Source) (f : Plan) (calls h : ℕ) → KeepsRules p → ((g : ℕ) → has_function calls g ≡ any_meets (calls_by_event p f (program_rows p) g) 0 (program_rows p)) → IsReachedFrom p calls h → EventReaches p f h
reached_event p f calls h rules c (one b) =
    let t = (event_call p f h).0 (sym (c h) ∙ b) in
    record {
      event = t.0;
      watch = t.1.0;
      line = t.1.1.0;
      number = t.1.1.1.0;
      body = t.1.1.1.1.0;
      is = t.1.1.1.1.1.0;
      site = t.1.1.1.1.1.1.0;
      there = t.1.1.1.1.1.1.1.0;
      reached = paths.calls t.1.1.1.1.1.1.1.1;
    }
reached_event p f calls h rules c (through {f = u} r call) =
    let t = reached_event p f calls u rules c r in
    record { event = t.event; watch = t.watch; line = t.line; number = t.number; body = t.body; is = t.is; site = t.site; there = t.there; reached = paths.through t.reached call }

event_reached : (p : Source) (f : Plan) (calls n l g : ℕ) (w : Watch) (x : Body) → KeepsRules p → ((m : ℕ) → has_function calls m ≡ any_meets (calls_by_event p f (program_rows p) m) 0 (program_rows p))
    → watch_at f n ≡ Some w → w.site ≡ statement l → IsStatement p g l x → (h : ℕ) → Reaches p (statements x) h → IsReachedFrom p calls h
event_reached p f calls n l g w x rules c is site there h (paths.calls k) = one (c h ∙ (event_call p f h).1 (n, (w, (l, (g, (x, (is, (site, (there, k)))))))))
event_reached p f calls n l g w x rules c is site there h (paths.through {g = u} r k) = through (event_reached p f calls n l g w x rules c is site there u r) k

-- All together

record Parts (p : Source) (f : Plan) (xs : List Area) (none own events set : List ℕ) (calls reached : ℕ) : Type 0 where
  rules : KeepsRules p
  areas : AreAreas p f (plan_regions f) xs
  empty : (k : ℕ) → has_place none k ≡ false
  owned : AreWith (IsOwnAmong p f (plan_regions f)) none own
  with_events : (k : ℕ) → has_place events k ≡ (has_place own k || any_meets (makes_unsafe p f (program_rows p) k) 0 (program_rows p))
  called : (g : ℕ) → has_function calls g ≡ any_meets (calls_by_event p f (program_rows p) g) 0 (program_rows p)
  closed : (g : ℕ) → (has_function reached g ≡ true) ↔ (IsReachedFrom p calls g ⊎ (any_calls xs g ≡ true))
  with_functions : (k : ℕ) → has_place set k ≡ (has_place events k || meets_at (is_of reached) (program_rows p) k)

event_unsafe : (p : Source) (f : Plan) (y : Place) → IsEventPlace p f y → IsUnsafe p f y
event_unsafe p f y t =
    inl (record {
      event = t.0;
      watch = t.1.0;
      is = t.1.1.1.1.1.0;
      line = t.1.1.0;
      site = t.1.1.1.1.1.1.0;
      function = t.1.1.1.0;
      body = t.1.1.1.1.0;
      there = t.1.1.1.1.1.1.1.0;
      place = either_of t.1.1.1.1.1.1.1.1 (λ i. inl i) (λ i. inr (inl i));
    })

function_unsafe : (p : Source) (f : Plan) (xs : List Area) (none own events set : List ℕ) (calls reached : ℕ) → Parts p f xs none own events set calls reached → (h : ℕ) (y : Place) → Contains (places_of p h) y
    → has_function reached h ≡ true → IsUnsafe p f y
function_unsafe p f xs none own events set calls reached z h y there b =
    either_of ((z.closed h).0 b)
    (λ r. let t = reached_event p f calls h z.rules z.called r in
    inl (record { event = t.event; watch = t.watch; is = t.is; line = t.line; site = t.site; function = t.number; body = t.body; there = t.there; place = inr (inr (record { function = h; reached = t.reached; there = there })) }))
    (λ c. let t = calls_told p f (plan_regions f) xs h z.areas c in region_unsafe p f t.0.1 y (regions_told 1 f.rulings t.0 t.1.0) (inr (h, (t.1.1, there))))

told : (p : Source) (f : Plan) (xs : List Area) (none own events set : List ℕ) (calls reached : ℕ) → Parts p f xs none own events set calls reached → (k : ℕ) (y : Place) → place_at p k ≡ Some y
    → has_place set k ≡ true → IsUnsafe p f y
told p f xs none own events set calls reached z k y at b =
    either_of (or_cases (has_place events k) (meets_at (is_of reached) (program_rows p) k) (sym (z.with_functions k) ∙ b))
    (λ e. either_of (or_cases (has_place own k) (any_meets (makes_unsafe p f (program_rows p) k) 0 (program_rows p)) (sym (z.with_events k) ∙ e))
    (λ i. either_of ((z.owned k).0 i) (λ j. let clash : true ≡ false = sym j ∙ z.empty k in cc) (λ j. let t = own_place_told p f k y at j in region_unsafe p f t.0 y t.1.0 (inl t.1.1)))
    (λ i. event_unsafe p f y ((event_place p f k y z.rules at).0 i)))
    (λ m. let t = function_place p k y reached z.rules at m in function_unsafe p f xs none own events set calls reached z t.0 y t.1.1 t.1.0)

put_function : (p : Source) (f : Plan) (xs : List Area) (none own events set : List ℕ) (calls reached : ℕ) → Parts p f xs none own events set calls reached → (k h : ℕ) (y : Place) → place_at p k ≡ Some y
    → Contains (places_of p h) y → IsReachedFrom p calls h ⊎ (any_calls xs h ≡ true) → has_place set k ≡ true
put_function p f xs none own events set calls reached z k h y at there r =
    z.with_functions k ∙ or_right (has_place events k) (meets_at (is_of reached) (program_rows p) k) (place_function p k h y reached z.rules at ((z.closed h).1 r) there)

put_event : (p : Source) (f : Plan) (xs : List Area) (none own events set : List ℕ) (calls reached : ℕ) → Parts p f xs none own events set calls reached → (k : ℕ) (y : Place) → place_at p k ≡ Some y → IsEventPlace p f y
    → has_place set k ≡ true
put_event p f xs none own events set calls reached z k y at t =
    z.with_functions k
    ∙ or_left (has_place events k) (meets_at (is_of reached) (program_rows p) k)
    (z.with_events k ∙ or_right (has_place own k) (any_meets (makes_unsafe p f (program_rows p) k) 0 (program_rows p)) ((event_place p f k y z.rules at).1 t))

found : (p : Source) (f : Plan) (xs : List Area) (none own events set : List ℕ) (calls reached : ℕ) → Parts p f xs none own events set calls reached → (k : ℕ) (y : Place) → place_at p k ≡ Some y
    → IsUnsafe p f y → has_place set k ≡ true
found p f xs none own events set calls reached z k y at u = by_parts (unsafe_parts p f y u)
  where
    by_event : (h : IsUnsafeByEvent p f y) → Contains (body_places h.body) y ⊎ (((has_return h.body ≡ true) × (y ≡ out h.function)) ⊎ IsReached p (statements h.body) y) → has_place set k ≡ true
    by_event h (inl i) = put_event p f xs none own events set calls reached z k y at (h.event, (h.watch, (h.line, (h.function, (h.body, (h.is, (h.site, (h.there, inl i))))))))
    by_event h (inr (inl i)) = put_event p f xs none own events set calls reached z k y at (h.event, (h.watch, (h.line, (h.function, (h.body, (h.is, (h.site, (h.there, inr i))))))))
    by_event h (inr (inr i)) =
        put_function p f xs none own events set calls reached z k i.function y at i.there
        (inl (event_reached p f calls h.event h.line h.function h.watch h.body z.rules z.called h.is h.site h.there i.function i.reached))

    by_region : (h : IsUnsafeByRegion p f y) → has_place set k ≡ true
    by_region h =
        either_of h.1.1
        (λ i. z.with_functions k
        ∙ or_left (has_place events k) (meets_at (is_of reached) (program_rows p) k)
        (z.with_events k ∙ or_left (has_place own k) (any_meets (makes_unsafe p f (program_rows p) k) 0 (program_rows p)) ((z.owned k).1 (inr (own_place_found p f k y h.0 at h.1.0 i)))))
        (λ i. let r = regions_found 1 f.rulings h.0 h.1.0 in
        put_function p f xs none own events set calls reached z k i.0 y at i.1.1 (inr (calls_found p f (plan_regions f) xs i.0 (r.0, h.0) z.areas r.1 i.1.0)))

    by_parts : IsUnsafeByEvent p f y ⊎ IsUnsafeByRegion p f y → has_place set k ≡ true
    by_parts (inl h) = by_event h h.place
    by_parts (inr h) = by_region h

-- no number beyond the places is put
only_places : (p : Source) (f : Plan) (xs : List Area) (none own events set : List ℕ) (calls reached : ℕ) → Parts p f xs none own events set calls reached → (k : ℕ) → has_place set k ≡ true → k < length (places p)
only_places p f xs none own events set calls reached z k b =
    either_of (or_cases (has_place events k) (meets_at (is_of reached) (program_rows p) k) (sym (z.with_functions k) ∙ b))
    (λ e. either_of (or_cases (has_place own k) (any_meets (makes_unsafe p f (program_rows p) k) 0 (program_rows p)) (sym (z.with_events k) ∙ e)) (λ i. in_own ((z.owned k).0 i)) in_event)
    (λ m. in_row (slice_get (program_rows p) k) refl m)
  where
    table : IsTable (program_rows p)
    table = program_table p z.rules

    many : length (program_rows p) ≡ length (places p)
    many = as_many_rows p

    in_own : (has_place none k ≡ true) ⊎ IsOwnAmong p f (plan_regions f) k → k < length (places p)
    in_own (inl i) = let clash : true ≡ false = sym i ∙ z.empty k in cc
    in_own (inr i) = let t = among_told p f (plan_regions f) k i in slice_get_within (places p) k t.1.1.0 t.1.1.1.0

    in_row : (o : Option PlaceLinks) → slice_get (program_rows p) k ≡ o → test_if (is_of reached) k o ≡ true → k < length (places p)
    in_row None e t = cc
    in_row (Some row) e t = let low = slice_get_within (program_rows p) k row e in omega (arith, low, many)

    behind_row : (i : ℕ) (o : Option PlaceLinks) → slice_get (program_rows p) i ≡ o → test_if (is_out k) i o ≡ true → k < length (places p)
    behind_row i None e t = cc
    behind_row i (Some row) e t =
        let parts = and_parts (is_return_kind row.kind) (node_number row.behind == k) t in
        let same : node_number row.behind ≡ k = eqb-true (node_number row.behind) k parts.1 in
        let low = (table.each i row e).behind in
        omega (arith, same, low, many)

    in_event : any_meets (makes_unsafe p f (program_rows p) k) 0 (program_rows p) ≡ true → k < length (places p)
    in_event e =
        let some = any_found_all (makes_unsafe p f (program_rows p) k) (program_rows p) e in
        let row : PlaceLinks = some.1.0 in
        let parts = and_parts (has_event p f some.0 row) (is_unsafe_at (program_rows p) some.0 row.end k) some.1.1.1 in
        let end = (table.each some.0 row some.1.1.0).end in
        either_of (or_cases (is_between some.0 row.end k) (any_run (is_out k) (program_rows p) (suc some.0) (row.end - suc some.0)) parts.1)
        (λ i. let high = ltb-true k row.end (and_parts (nat_le some.0 k) (nat_lt k row.end) i).1 in omega (arith, high, end, many))
        (λ i. let r = run_found (is_out k) (program_rows p) (suc some.0) (row.end - suc some.0) i in behind_row r.0 (slice_get (program_rows p) r.0) refl r.1.1)

pub all_unsafe : (p : Source) (f : Plan) (xs : List Area) (none own events set : List ℕ) (calls reached : ℕ) → KeepsRules p → AreAreas p f (plan_regions f) xs
    → ((k : ℕ) → has_place none k ≡ false) → AreWith (IsOwnAmong p f (plan_regions f)) none own
    → ((k : ℕ) → has_place events k ≡ (has_place own k || any_meets (makes_unsafe p f (program_rows p) k) 0 (program_rows p)))
    → ((g : ℕ) → has_function calls g ≡ any_meets (calls_by_event p f (program_rows p) g) 0 (program_rows p))
    → ((g : ℕ) → (has_function reached g ≡ true) ↔ (IsReachedFrom p calls g ⊎ (any_calls xs g ≡ true)))
    → ((k : ℕ) → has_place set k ≡ (has_place events k || meets_at (is_of reached) (program_rows p) k)) → AreUnsafe p f set
all_unsafe p f xs none own events set calls reached rules areas n w e c r s =
    let z : Parts p f xs none own events set calls reached = record { rules = rules; areas = areas; empty = n; owned = w; with_events = e; called = c; closed = r; with_functions = s } in
    record {
      exactly = λ k y at. (told p f xs none own events set calls reached z k y at, found p f xs none own events set calls reached z k y at);
      only = only_places p f xs none own events set calls reached z;
    }
