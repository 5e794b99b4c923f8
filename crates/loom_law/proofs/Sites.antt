-- The plan of a filter has each event where its region's kind puts it.
use Rattle.std.proofs.Common.{ℕ, zero, suc, ◌+◌, ◌<◌, ◌≡◌, ◌⊎◌, inl, inr, true, List, [], ◌∷◌, ◌++◌, length, map, slice_get, flat_map, Option, Some, None, refl, sym, ap, subst, ◌∙◌, arith}
use Rattle.std.specs.List.{Contains}
use Rattle.std.proofs.lemmas.List.Elements.{Contains-append_left, Contains-append_right, Contains-append_cases}
use Rattle.loom_tree.specs.Tree.{Source, Body, simple, if_, while_, Function}
use Rattle.loom_tree.specs.Tree as tree
use Rattle.loom_command.specs.Filter.{LineEvent, OrderStep, Region, Clause, Filter}
use Rattle.loom_law.specs.Filter.{statement, function, Watch, Range, Plan, watch_of, watches_of_region, watches_of_clause, numbers, range_from, ranges_from, ruling_from, rulings_from, plan_of, ranges_of}
use Rattle.loom_law.specs.FilterView.{all_ranges}
use Rattle.loom_law.specs.Paths.{watch_at, Node, node_places, places_in, places_of, IsReached, IsReachedAt, IsUnsafe}
use Rattle.loom_law.specs.Paths as path
use Rattle.loom_lang.specs.Places.{Place, nowhere, entry, inside, back_edge, out, body_places}
use Rattle.loom_law.specs.Laws.{HasSoundPlaces, IsOutsideWhereFlagged}
use Rattle.loom_event.specs.Replay.{ThreadState, thread_at}
use Rattle.loom_law.specs.Control.{Command, Action, install, means, command_at}
use Rattle.loom_law.specs.Lawful.{Setting, Front, plans, own, IsFlaggedBy, IsOutside, ListsPlaces, running_thread}
use Rattle.loom_law.proofs.Course.{contains_first, contains_later, no_member, contains_cases}
use Rattle.loom_law.proofs.Sight.{IsSited, IsWellSited}
use Rattle.loom_law.proofs.Sound.{sound_of_sites}

-- Positions in lists

get_left : {A : Type 0} (xs ys : List A) (i : ℕ) → i < length xs → slice_get (xs ++ ys) i ≡ slice_get xs i
get_left [] ys i lt = absurd (omega arith)
get_left (x ∷ xs) ys zero lt = refl
get_left (x ∷ xs) ys (suc i) lt = get_left xs ys i (omega arith)

get_right : {A : Type 0} (xs ys : List A) (i j : ℕ) → j ≡ length xs + i → slice_get (xs ++ ys) j ≡ slice_get ys i
get_right [] ys i j e = ap (λ k. slice_get ys k) (omega arith)
get_right (x ∷ xs) ys i zero e = absurd (omega arith)
get_right (x ∷ xs) ys i (suc j) e = get_right xs ys i j (omega arith)

abbrev Later : {A : Type 0} → List A → List A → ℕ → A → Type 0
Later xs ys i w = (slice_get xs i ≡ Some w) ⊎ ((j : ℕ) × ((i ≡ length xs + j) × (slice_get ys j ≡ Some w)))

get_cases : {A : Type 0} (xs ys : List A) (i : ℕ) (w : A) → slice_get (xs ++ ys) i ≡ Some w → Later xs ys i w
get_cases [] ys i w h = inr (i, (omega arith, h))
get_cases (x ∷ xs) ys zero w h = inl h
get_cases {A} (x ∷ xs) ys (suc i) w h = one_on (get_cases xs ys i w h)
  where
    one_on : Later xs ys i w → Later (x ∷ xs) ys (suc i) w
    one_on (inl k) = inl k
    one_on (inr k) = let e = k.1.0 in inr (k.0, (omega arith, k.1.1))

-- so many from a position on
abbrev AgreesFrom : ℕ → List Watch → List Watch → Type 0
AgreesFrom k ws all = (i : ℕ) → i < length ws → slice_get all (k + i) ≡ slice_get ws i

agrees_left : (k : ℕ) (xs ys all : List Watch) → AgreesFrom k (xs ++ ys) all → AgreesFrom k xs all
agrees_left k xs ys all a i lt =
    let long : length (xs ++ ys) ≡ length xs + length ys = long_append xs ys in
    a i (omega arith) ∙ get_left xs ys i lt
  where
    long_append : (us vs : List Watch) → length (us ++ vs) ≡ length us + length vs
    long_append [] vs = omega arith
    long_append (u ∷ us) vs = let e = long_append us vs in omega arith

agrees_right : (k n : ℕ) (xs ys all : List Watch) → n ≡ k + length xs → AgreesFrom k (xs ++ ys) all → AgreesFrom n ys all
agrees_right k n xs ys all e a i lt =
    let long : length (xs ++ ys) ≡ length xs + length ys = long_append xs ys in
    ap (λ z. slice_get all z) (omega arith) ∙ a (length xs + i) (omega arith) ∙ get_right xs ys i (length xs + i) refl
  where
    long_append : (us vs : List Watch) → length (us ++ vs) ≡ length us + length vs
    long_append [] vs = omega arith
    long_append (u ∷ us) vs = let e = long_append us vs in omega arith

-- Events of lines

line_at : (es : List LineEvent) (i : ℕ) (w : Watch) → slice_get (map watch_of es) i ≡ Some w → (l : ℕ) × (w.site ≡ statement l)
line_at [] i w h = cc
line_at (x ∷ es) zero w h =
    let same : watch_of x ≡ w = cc in
    (x.line, ap (λ (v : Watch). v.site) (sym same))
line_at (x ∷ es) (suc i) w h = line_at es i w h

step_at : (ss : List OrderStep) (i : ℕ) (w : Watch) → slice_get (map (λ (s : OrderStep). watch_of s.event) ss) i ≡ Some w → (l : ℕ) × (w.site ≡ statement l)
step_at [] i w h = cc
step_at (x ∷ ss) zero w h =
    let same : watch_of x.event ≡ w = cc in
    (LineEvent.line x.event, ap (λ (v : Watch). v.site) (sym same))
step_at (x ∷ ss) (suc i) w h = step_at ss i w h

numbers_member : (n : ℕ) (es : List LineEvent) (m : ℕ) → Contains (numbers n es) m → (i : ℕ) × ((m ≡ n + i) × (i < length es))
numbers_member n [] m c = absurd (no_member m c)
numbers_member n (x ∷ es) m c = by_cases (numbers_member (suc n) es m) (contains_cases n m (numbers (suc n) es) c)
  where
    by_cases : (Contains (numbers (suc n) es) m → (i : ℕ) × ((m ≡ suc n + i) × (i < length es))) → (n ≡ m) ⊎ Contains (numbers (suc n) es) m
        → (i : ℕ) × ((m ≡ n + i) × (i < suc (length es)))
    by_cases ih (inl e) = (0, (omega arith, omega arith))
    by_cases ih (inr k) = let r = ih k in let e = r.1.0 in let lt = r.1.1 in (suc r.0, (omega arith, omega arith))

length_map : (es : List LineEvent) → length (map watch_of es) ≡ length es
length_map [] = refl
length_map (x ∷ es) = ap suc (length_map es)

watch_there : (f : Plan) (m j : ℕ) (w : Watch) → m ≡ suc j → watch_at f m ≡ Some w → slice_get f.watches j ≡ Some w
watch_there f zero j w e h = absurd (omega arith)
watch_there f (suc m) j w e h =
    let P : ℕ → Type 0 = λ z. slice_get f.watches z ≡ Some w in
    let same : m ≡ j = omega arith in
    subst P same h

-- Regions are where they belong

between_sited : (p : Source) (f : Plan) (k n : ℕ) (es xs : List LineEvent) → n ≡ suc k → AgreesFrom k (map watch_of es ++ map watch_of xs) f.watches
    → IsSited f (Range.between (numbers n es) (numbers (n + length es) xs))
between_sited p f k n es xs e a m c w is =
    let r = numbers_member n es m c in
    let at : m ≡ n + r.0 = r.1.0 in
    let below : r.0 < length es = r.1.1 in
    let long : length (map watch_of es) ≡ length es = length_map es in
    let there : slice_get f.watches (k + r.0) ≡ Some w = watch_there f m (k + r.0) w (omega arith) is in
    line_at es r.0 w (sym (agrees_left k (map watch_of es) (map watch_of xs) f.watches a r.0 (omega arith)) ∙ there)

whole_sited : (p : Source) (f : Plan) (k n : ℕ) (v : Watch) (g : Option ℕ) → v.site ≡ function g → n ≡ suc k → AgreesFrom k (v ∷ []) f.watches → IsSited f (Range.whole n)
whole_sited p f k n v g at e a w is =
    let there : slice_get f.watches (k + 0) ≡ Some w = watch_there f n (k + 0) w (omega arith) is in
    let same : v ≡ w = some_same v w (sym (a 0 (omega arith)) ∙ there) in
    (g, ap (λ (u : Watch). u.site) (sym same) ∙ at)
  where
    some_same : (u u' : Watch) → Some u ≡ Some u' → u ≡ u'
    some_same u u' q = cc

region_sited : (p : Source) (f : Plan) (k n : ℕ) (r : Region) → n ≡ suc k → AgreesFrom k (watches_of_region p r) f.watches → IsSited f (range_from n r)
region_sited p f k n (Region.between es xs) e a = between_sited p f k n es xs e a
region_sited p f k n (Region.whole name test) e a = whole_sited p f k n _ _ refl e a

regions_sited : (p : Source) (f : Plan) (k n : ℕ) (rs : List Region) (r : Range) → n ≡ suc k → AgreesFrom k (flat_map (watches_of_region p) rs) f.watches
    → Contains (ranges_from p n rs) r → IsSited f r
regions_sited p f k n [] r e a c = absurd (no_member r c)
regions_sited p f k n (q ∷ qs) r e a c =
    let ws : List Watch = watches_of_region p q in
    let more : List Watch = flat_map (watches_of_region p) qs in
    by_cases (region_sited p f k n q e (agrees_left k ws more f.watches a))
    (regions_sited p f (k + length ws) (n + length ws) qs r (omega arith) (agrees_right k (k + length ws) ws more f.watches refl a))
    (contains_cases (range_from n q) r (ranges_from p (n + length ws) qs) c)
  where
    by_cases : IsSited f (range_from n q) → (Contains (ranges_from p (n + length (watches_of_region p q)) qs) r → IsSited f r)
        → (range_from n q ≡ r) ⊎ Contains (ranges_from p (n + length (watches_of_region p q)) qs) r → IsSited f r
    by_cases one ih (inl same) =
        let P : Range → Type 0 = λ z. IsSited f z in
        subst P same one
    by_cases one ih (inr h) = ih h

clause_sited : (p : Source) (f : Plan) (k n : ℕ) (c : Clause) (r : Range) → n ≡ suc k → AgreesFrom k (watches_of_clause p c) f.watches
    → Contains (ranges_of (ruling_from p n c)) r → IsSited f r
clause_sited p f k n (Clause.order ss) r e a m = absurd (no_member r m)
clause_sited p f k n (Clause.exclusive rs) r e a m = regions_sited p f k n rs r e a m
clause_sited p f k n (Clause.unilateral q) r e a m = by_cases (contains_cases (range_from n q) r [] m)
  where
    by_cases : (range_from n q ≡ r) ⊎ Contains [] r → IsSited f r
    by_cases (inl same) =
        let P : Range → Type 0 = λ z. IsSited f z in
        subst P same (region_sited p f k n q e a)
    by_cases (inr h) = absurd (no_member r h)

clauses_sited : (p : Source) (f : Plan) (k n : ℕ) (cs : Filter) (r : Range) → n ≡ suc k → AgreesFrom k (flat_map (watches_of_clause p) cs) f.watches
    → Contains (flat_map ranges_of (rulings_from p n cs)) r → IsSited f r
clauses_sited p f k n [] r e a m = absurd (no_member r m)
clauses_sited p f k n (c ∷ cs) r e a m =
    let ws : List Watch = watches_of_clause p c in
    let more : List Watch = flat_map (watches_of_clause p) cs in
    by_cases (clause_sited p f k n c r e (agrees_left k ws more f.watches a))
    (clauses_sited p f (k + length ws) (n + length ws) cs r (omega arith) (agrees_right k (k + length ws) ws more f.watches refl a))
    (Contains-append_cases (ranges_of (ruling_from p n c)) (flat_map ranges_of (rulings_from p (n + length ws) cs)) r m)
  where
    rest : List Range
    rest = flat_map ranges_of (rulings_from p (n + length (watches_of_clause p c)) cs)

    by_cases : (Contains (ranges_of (ruling_from p n c)) r → IsSited f r) → (Contains rest r → IsSited f r)
        → Contains (ranges_of (ruling_from p n c)) r ⊎ Contains rest r → IsSited f r
    by_cases one ih (inl h) = one h
    by_cases one ih (inr h) = ih h

-- An event that watches a function is a region

no_line : {B : Type 0} (w : Watch) (g : Option ℕ) → (l : ℕ) × (w.site ≡ statement l) → w.site ≡ function g → B
no_line w g a h =
    let e : statement a.0 ≡ function g = sym a.1 ∙ h in
    cc

region_event : (p : Source) (n j : ℕ) (r : Region) (w : Watch) (g : Option ℕ) → slice_get (watches_of_region p r) j ≡ Some w → w.site ≡ function g
    → range_from n r ≡ Range.whole (n + j)
region_event p n j (Region.between es xs) w g is site = by_cases (get_cases (map watch_of es) (map watch_of xs) j w is)
  where
    by_cases : Later (map watch_of es) (map watch_of xs) j w → Range.between (numbers n es) (numbers (n + length es) xs) ≡ Range.whole (n + j)
    by_cases (inl h) = no_line w g (line_at es j w h) site
    by_cases (inr h) = no_line w g (line_at xs h.0 w h.1.1) site
region_event p n zero (Region.whole name test) w g is site = ap Range.whole (omega arith)
region_event p n (suc j) (Region.whole name test) w g is site = cc

regions_event : (p : Source) (n j : ℕ) (rs : List Region) (w : Watch) (g : Option ℕ) → slice_get (flat_map (watches_of_region p) rs) j ≡ Some w → w.site ≡ function g
    → Contains (ranges_from p n rs) (Range.whole (n + j))
regions_event p n j [] w g is site = cc
regions_event p n j (r ∷ rs) w g is site =
    by_cases (λ i h. regions_event p (n + length (watches_of_region p r)) i rs w g h site) (get_cases (watches_of_region p r) (flat_map (watches_of_region p) rs) j w is)
  where
    more : List Watch
    more = flat_map (watches_of_region p) rs

    n' : ℕ
    n' = n + length (watches_of_region p r)

    by_cases : ((i : ℕ) → slice_get more i ≡ Some w → Contains (ranges_from p n' rs) (Range.whole (n' + i))) → Later (watches_of_region p r) more j w
        → Contains (range_from n r ∷ ranges_from p n' rs) (Range.whole (n + j))
    by_cases ih (inl h) =
        let P : Range → Type 0 = λ z. Contains (range_from n r ∷ ranges_from p n' rs) z in
        subst P (region_event p n j r w g h site) (contains_first (range_from n r) (ranges_from p n' rs))
    by_cases ih (inr h) =
        let e : j ≡ length (watches_of_region p r) + h.0 = h.1.0 in
        let P : ℕ → Type 0 = λ z. Contains (range_from n r ∷ ranges_from p n' rs) (Range.whole z) in
        let same : n' + h.0 ≡ n + j = omega arith in
        subst P same (contains_later (range_from n r) (Range.whole (n' + h.0)) (ranges_from p n' rs) (ih h.0 h.1.1))

clause_event : (p : Source) (n j : ℕ) (c : Clause) (w : Watch) (g : Option ℕ) → slice_get (watches_of_clause p c) j ≡ Some w → w.site ≡ function g
    → Contains (ranges_of (ruling_from p n c)) (Range.whole (n + j))
clause_event p n j (Clause.order ss) w g is site = no_line w g (step_at ss j w is) site
clause_event p n j (Clause.exclusive rs) w g is site = regions_event p n j rs w g is site
clause_event p n j (Clause.unilateral r) w g is site =
    let P : Range → Type 0 = λ z. Contains (range_from n r ∷ []) z in
    subst P (region_event p n j r w g is site) (contains_first (range_from n r) [])

clauses_event : (p : Source) (n j : ℕ) (cs : Filter) (w : Watch) (g : Option ℕ) → slice_get (flat_map (watches_of_clause p) cs) j ≡ Some w → w.site ≡ function g
    → Contains (flat_map ranges_of (rulings_from p n cs)) (Range.whole (n + j))
clauses_event p n j [] w g is site = cc
clauses_event p n j (c ∷ cs) w g is site =
    by_cases (λ i h. clauses_event p (n + length (watches_of_clause p c)) i cs w g h site) (get_cases (watches_of_clause p c) (flat_map (watches_of_clause p) cs) j w is)
  where
    more : List Watch
    more = flat_map (watches_of_clause p) cs

    n' : ℕ
    n' = n + length (watches_of_clause p c)

    here_ : List Range
    here_ = ranges_of (ruling_from p n c)

    rest : List Range
    rest = flat_map ranges_of (rulings_from p n' cs)

    by_cases : ((i : ℕ) → slice_get more i ≡ Some w → Contains rest (Range.whole (n' + i))) → Later (watches_of_clause p c) more j w
        → Contains (here_ ++ rest) (Range.whole (n + j))
    by_cases ih (inl h) = Contains-append_left here_ rest (Range.whole (n + j)) (clause_event p n j c w g h site)
    by_cases ih (inr h) =
        let e : j ≡ length (watches_of_clause p c) + h.0 = h.1.0 in
        let P : ℕ → Type 0 = λ z. Contains (here_ ++ rest) (Range.whole z) in
        let same : n' + h.0 ≡ n + j = omega arith in
        subst P same (Contains-append_right here_ rest (Range.whole (n' + h.0)) (ih h.0 h.1.1))

-- Filters

pub plan_sited : (p : Source) (t : Filter) → IsWellSited (plan_of p t)
plan_sited p t = record {
  ranges = (λ r c. clauses_sited p (plan_of p t) 0 1 t r (omega arith) (λ i lt. ap (λ z. slice_get (flat_map (watches_of_clause p) t) z) (omega arith)) c);
  functions = (λ n w g is site. of_number n w g is site);
}
  where
    of_number : (n : ℕ) (w : Watch) (g : Option ℕ) → watch_at (plan_of p t) n ≡ Some w → w.site ≡ function g → Contains (all_ranges (plan_of p t)) (Range.whole n)
    of_number zero w g is site = cc
    of_number (suc j) w g is site =
        let P : ℕ → Type 0 = λ z. Contains (all_ranges (plan_of p t)) (Range.whole z) in
        let same : 1 + j ≡ suc j = omega arith in
        subst P same (clauses_event p 1 j t w g is site)

-- The unsafe places of each filter are sound.
pub places_are_sound : HasSoundPlaces
places_are_sound p t = sound_of_sites p (plan_of p t) (plan_sited p t)

-- Place 0 is safe

-- of a list of places, none is place 0
abbrev AreProper : List Place → Type 0
AreProper ps = Contains ps nowhere → ⊥

proper_cons : (y : Place) (ps : List Place) → (y ≡ nowhere → ⊥) → AreProper ps → AreProper (y ∷ ps)
proper_cons y ps a b c = by_cases (contains_cases y nowhere ps c)
  where
    by_cases : (y ≡ nowhere) ⊎ Contains ps nowhere → ⊥
    by_cases (inl e) = a e
    by_cases (inr h) = b h

proper_append : (ps qs : List Place) → AreProper ps → AreProper qs → AreProper (ps ++ qs)
proper_append ps qs a b c = by_cases (Contains-append_cases ps qs nowhere c)
  where
    by_cases : Contains ps nowhere ⊎ Contains qs nowhere → ⊥
    by_cases (inl h) = a h
    by_cases (inr h) = b h

proper_none : AreProper []
proper_none c = no_member nowhere c

entry_proper : (g : ℕ) → entry g ≡ nowhere → ⊥
entry_proper g e = cc

inside_proper : (l : ℕ) → inside l ≡ nowhere → ⊥
inside_proper l e = cc

edge_proper : (l : ℕ) → back_edge l ≡ nowhere → ⊥
edge_proper l e = cc

out_proper : (g : ℕ) → out g ≡ nowhere → ⊥
out_proper g e = cc

body_proper : (b : Body) → AreProper (body_places b)
body_proper tree.end = proper_none
body_proper (simple l s rest) = proper_cons (inside l) (body_places rest) (inside_proper l) (body_proper rest)
body_proper (if_ l e a b rest) =
    proper_cons (inside l) (body_places a ++ (body_places b ++ body_places rest)) (inside_proper l)
    (proper_append (body_places a) (body_places b ++ body_places rest) (body_proper a) (proper_append (body_places b) (body_places rest) (body_proper b) (body_proper rest)))
body_proper (while_ l e a rest) =
    proper_cons (inside l) (back_edge l ∷ (body_places a ++ body_places rest)) (inside_proper l)
    (proper_cons (back_edge l) (body_places a ++ body_places rest) (edge_proper l) (proper_append (body_places a) (body_places rest) (body_proper a) (body_proper rest)))

places_proper : (g : ℕ) (f : Option Function) → AreProper (places_in g f)
places_proper g None = proper_none
places_proper g (Some f) =
    proper_cons (entry g) (body_places f.body ++ out g ∷ []) (entry_proper g)
    (proper_append (body_places f.body) (out g ∷ []) (body_proper f.body) (proper_cons (out g) [] (out_proper g) proper_none))

node_proper : (g : ℕ) (n : Node) → AreProper (node_places g n)
node_proper g (path.begins l) = proper_cons (inside l) [] (inside_proper l) proper_none
node_proper g (path.complete l) = proper_cons (inside l) [] (inside_proper l) proper_none
node_proper g (path.turns l) = proper_cons (back_edge l) (inside l ∷ []) (edge_proper l) (proper_cons (inside l) [] (inside_proper l) proper_none)
node_proper g path.leaves = proper_cons (out g) [] (out_proper g) proper_none

reached_proper : (p : Source) (xs : List Body) → IsReached p xs nowhere → ⊥
reached_proper p xs r = places_proper r.function (slice_get p.funcs r.function) r.there

reached_at_proper : (p : Source) (g : ℕ) (n : Node) → IsReachedAt p g n nowhere → ⊥
reached_at_proper p g (path.begins l) r = reached_proper p (r.0 ∷ []) r.2
reached_at_proper p g (path.complete l) r = r
reached_at_proper p g (path.turns l) r = r
reached_at_proper p g path.leaves r = r

pub nowhere_safe : (p : Source) (f : Plan) → IsUnsafe p f nowhere → ⊥
nowhere_safe p f (inl u) = by_cases u.place
  where
    by_cases : Contains (body_places u.body) nowhere ⊎ (((path.has_return u.body ≡ true) × (nowhere ≡ out u.function)) ⊎ IsReached p (path.statements u.body) nowhere) → ⊥
    by_cases (inl c) = body_proper u.body c
    by_cases (inr (inl h)) = out_proper u.function (sym h.1)
    by_cases (inr (inr r)) = reached_proper p (path.statements u.body) r
nowhere_safe p f (inr (inl u)) = by_cases u.place
  where
    by_cases : Contains (node_places u.number u.node) nowhere ⊎ IsReachedAt p u.number u.node nowhere → ⊥
    by_cases (inl c) = node_proper u.number u.node c
    by_cases (inr r) = reached_at_proper p u.number u.node r
nowhere_safe p f (inr (inr u)) = by_cases u.place
  where
    by_cases : (Contains (places_of p u.number) nowhere × (nowhere ≡ entry u.number → ⊥)) ⊎ IsReached p (path.statements_of p u.number) nowhere → ⊥
    by_cases (inl c) = places_proper u.number (slice_get p.funcs u.number) c.0
    by_cases (inr r) = reached_proper p (path.statements_of p u.number) r

-- At an install a thread that stands at a flagged place is outside the filter's regions, and none of its events is under way.
pub outside_where_flagged : IsOutsideWhereFlagged
outside_where_flagged s x t y flagged h there = places_are_sound s.program t (plans s) x h y there (safe flagged)
  where
    safe : (y ≡ nowhere) ⊎ (IsUnsafe s.program (plan_of s.program t) y → ⊥) → IsUnsafe s.program (plan_of s.program t) y → ⊥
    safe (inl e) =
        let P : Place → Type 0 = λ z. IsUnsafe s.program (plan_of s.program t) z → ⊥ in
        subst P (sym e) (nowhere_safe s.program (plan_of s.program t))
    safe (inr h') = h'

-- So the clause of `Installed` that all threads are outside follows from the places that it lists.

flagged_safe : (p : Source) (t : Filter) (o : Option Command) (c : Command) (y : Place) → o ≡ Some c → c.action ≡ install (means (plan_of p t)) → IsFlaggedBy p o y
    → (y ≡ nowhere) ⊎ (IsUnsafe p (plan_of p t) y → ⊥)
flagged_safe p t o c y is installs h =
    let P : Option Command → Type 0 = λ z. IsFlaggedBy p z y in
    let Q : Action → Type 0 = λ z. IsFlaggedBy p (Some (record c { action = z })) y in
    subst Q installs (subst P is h)

pub all_outside : (s : Setting) (f : Front) (k : ℕ) (row : List ℕ) (t : Filter) (c : Command) → command_at s.commands k ≡ Some c
    → c.action ≡ install (means (plan_of s.program t)) → (ls : ListsPlaces s f k row) → (u : ℕ)
    → IsOutside s f.entries u (running_thread (thread_at f.store u)) (plan_of s.program t) (ListsPlaces.place ls u)
all_outside s f k row t c is installs ls u = by_state (running_thread (thread_at f.store u))
  where
    by_state : (o : Option ThreadState) → IsOutside s f.entries u o (plan_of s.program t) (ListsPlaces.place ls u)
    by_state None = tt
    by_state (Some x) =
        outside_where_flagged s (own s f.entries u x) t (ListsPlaces.place ls u)
        (flagged_safe s.program t (command_at s.commands k) c (ListsPlaces.place ls u) is installs (ListsPlaces.flagged ls u))
