-- Unsafe places are places of the program, and a place of the program has its number alone.
use Rattle.std.proofs.Common.{ℕ, zero, suc, ◌+◌, ◌≡◌, ◌==◌, ◌⊎◌, inl, inr, Bool, true, false, List, [], ◌∷◌, ◌++◌, slice_get, Option, Some, None, refl, sym, ap, subst, ◌∙◌, if◌then◌else◌, arith}
use Rattle.std.specs.List.{Contains}
use Rattle.std.proofs.lemmas.List.Elements.{Contains-append_left, Contains-append_right, Contains-append_cases}
use Rattle.loom_tree.specs.Tree.{Expression, Simple, Body, simple, if_, while_, Function, Source}
use Rattle.loom_tree.specs.Tree as tree
use Rattle.loom_lang.specs.Places.{Place, nowhere, entry, inside, back_edge, out, body_places, places_from, places}
use Rattle.loom_law.specs.Filter.{Plan}
use Rattle.loom_law.specs.Walk.{is_same_place, position_of, place_number}
use Rattle.loom_law.specs.Paths.{Node, begins, complete, turns, leaves, first_node, behind_simple, links, links_of, statements, is_simple_return, has_return, statements_of, IsStatement, places_in, places_of, IsReached, Comes, here, goes, node_places, IsReachedAt, IsUnsafe}
use Rattle.loom_law.proofs.Course.{contains_first, contains_later, no_member, contains_cases, is_returning, not_return}
use Rattle.loom_law.proofs.Unsafe.{statement_places, own_place}

-- Nodes of a body

-- the places of the node are those of this list
abbrev pub IsNodeOf : List Place → Node → Type 0
IsNodeOf ps (begins l) = Contains ps (inside l)
IsNodeOf ps (complete l) = Contains ps (inside l)
IsNodeOf ps (turns l) = Contains ps (back_edge l) × Contains ps (inside l)
IsNodeOf ps leaves = Unit {0}

more_node : (ps qs : List Place) (n : Node) → ((y : Place) → Contains ps y → Contains qs y) → IsNodeOf ps n → IsNodeOf qs n
more_node ps qs (begins l) s h = s (inside l) h
more_node ps qs (complete l) s h = s (inside l) h
more_node ps qs (turns l) s h = (s (back_edge l) h.0, s (inside l) h.1)
more_node ps qs leaves s h = tt

first_there : (qs : List Place) (b : Body) (k : Node) → ((y : Place) → Contains (body_places b) y → Contains qs y) → IsNodeOf qs k → IsNodeOf qs (first_node b k)
first_there qs tree.end k s h = h
first_there qs (simple l e rest) k s h = s (inside l) (contains_first (inside l) (body_places rest))
first_there qs (if_ l e a b rest) k s h = s (inside l) (contains_first (inside l) (body_places a ++ (body_places b ++ body_places rest)))
first_there qs (while_ l e a rest) k s h = s (inside l) (contains_first (inside l) (back_edge l ∷ (body_places a ++ body_places rest)))

behind_there : (qs : List Place) (e : Simple Expression) (n : Node) → IsNodeOf qs n → IsNodeOf qs (behind_simple e n)
behind_there qs e n h = by_cases (is_simple_return e) refl
  where
    by_cases : (b : Bool) → is_simple_return e ≡ b → IsNodeOf qs (behind_simple e n)
    by_cases true is = subst (IsNodeOf qs) (sym (is_returning e n is)) tt
    by_cases false is = subst (IsNodeOf qs) (sym (not_return e n is)) h

-- where each link of a list leads to
abbrev LeadsToPlaces : List Place → List (Node × Node) → Type 0
LeadsToPlaces qs [] = Unit {0}
LeadsToPlaces qs (l ∷ ls) = IsNodeOf qs l.1 × LeadsToPlaces qs ls

both_lead : (qs : List Place) (xs ys : List (Node × Node)) → LeadsToPlaces qs xs → LeadsToPlaces qs ys → LeadsToPlaces qs (xs ++ ys)
both_lead qs [] ys a b = b
both_lead qs (x ∷ xs) ys a b = (a.0, both_lead qs xs ys a.1 b)

one_leads : (qs : List Place) (ls : List (Node × Node)) (m n : Node) → LeadsToPlaces qs ls → Contains ls (m, n) → IsNodeOf qs n
one_leads qs [] m n h c = absurd (no_member (m, n) c)
one_leads qs (l ∷ ls) m n h c = by_cases (one_leads qs ls m n h.1) (contains_cases l (m, n) ls c)
  where
    by_cases : (Contains ls (m, n) → IsNodeOf qs n) → (◌≡◌ {A = Node × Node} l (m, n)) ⊎ Contains ls (m, n) → IsNodeOf qs n
    by_cases ih (inl e) = subst (IsNodeOf qs) (ap (λ (z : Node × Node). z.1) e) h.0
    by_cases ih (inr k) = ih k

links_lead : (qs : List Place) (b : Body) (k : Node) → ((y : Place) → Contains (body_places b) y → Contains qs y) → IsNodeOf qs k → LeadsToPlaces qs (links b k)
links_lead qs tree.end k s h = tt
links_lead qs (simple l e rest) k s h =
    let in_rest : (y : Place) → Contains (body_places rest) y → Contains qs y = λ y c. s y (contains_later (inside l) y (body_places rest) c) in
    let own : Contains qs (inside l) = s (inside l) (contains_first (inside l) (body_places rest)) in
    (own, (behind_there qs e (first_node rest k) (first_there qs rest k in_rest h), links_lead qs rest k in_rest h))
links_lead qs (if_ l e a b rest) k s h =
    let pa : List Place = body_places a in
    let pb : List Place = body_places b in
    let pr : List Place = body_places rest in
    let own : Contains qs (inside l) = s (inside l) (contains_first (inside l) (pa ++ (pb ++ pr))) in
    let in_a : (y : Place) → Contains pa y → Contains qs y = λ y c. s y (contains_later (inside l) y (pa ++ (pb ++ pr)) (Contains-append_left pa (pb ++ pr) y c)) in
    let in_b : (y : Place) → Contains pb y → Contains qs y = λ y c.
    s y (contains_later (inside l) y (pa ++ (pb ++ pr)) (Contains-append_right pa (pb ++ pr) y (Contains-append_left pb pr y c))) in
    let in_r : (y : Place) → Contains pr y → Contains qs y = λ y c.
    s y (contains_later (inside l) y (pa ++ (pb ++ pr)) (Contains-append_right pa (pb ++ pr) y (Contains-append_right pb pr y c))) in (
      first_there qs a (complete l) in_a own,
      (
        first_there qs b (complete l) in_b own,
        (
          first_there qs rest k in_r h,
          both_lead qs (links a (complete l)) (links b (complete l) ++ links rest k) (links_lead qs a (complete l) in_a own)
              (both_lead qs (links b (complete l)) (links rest k) (links_lead qs b (complete l) in_b own) (links_lead qs rest k in_r h)),
        ),
      ),
    )
links_lead qs (while_ l e a rest) k s h =
    let pa : List Place = body_places a in
    let pr : List Place = body_places rest in
    let own : Contains qs (inside l) = s (inside l) (contains_first (inside l) (back_edge l ∷ (pa ++ pr))) in
    let edge_there : Contains qs (back_edge l) = s (back_edge l) (contains_later (inside l) (back_edge l) (back_edge l ∷ (pa ++ pr)) (contains_first (back_edge l) (pa ++ pr))) in
    let in_a : (y : Place) → Contains pa y → Contains qs y = λ y c.
    s y (contains_later (inside l) y (back_edge l ∷ (pa ++ pr)) (contains_later (back_edge l) y (pa ++ pr) (Contains-append_left pa pr y c))) in
    let in_r : (y : Place) → Contains pr y → Contains qs y = λ y c.
    s y (contains_later (inside l) y (back_edge l ∷ (pa ++ pr)) (contains_later (back_edge l) y (pa ++ pr) (Contains-append_right pa pr y c))) in
    let both : IsNodeOf qs (turns l) = (edge_there, own) in (
      first_there qs a (turns l) in_a both,
      (
        own,
        (
          first_there qs a (turns l) in_a both,
          (
            own,
            (
              first_there qs rest k in_r h,
              both_lead qs (links a (turns l)) (links rest k) (links_lead qs a (turns l) in_a both) (links_lead qs rest k in_r h),
            ),
          ),
        ),
      ),
    )

-- a path stays in its function
path_stays : (fn : Function) (f : Plan) (xs : List ℕ) (start n : Node) → IsNodeOf (body_places fn.body) start → Comes (links_of fn) f xs start n → IsNodeOf (body_places fn.body) n
path_stays fn f xs start n h here = h
path_stays fn f xs start n h (goes {m = m} c l t) = one_leads (body_places fn.body) (links_of fn) m n (links_lead (body_places fn.body) fn.body leaves (λ y d. d) tt) l

-- Places of functions

place_from : (n i : ℕ) (fs : List Function) (f : Function) (y : Place) → slice_get fs i ≡ Some f → Contains (entry (n + i) ∷ (body_places f.body ++ out (n + i) ∷ [])) y
    → Contains (places_from n fs) y
place_from n i [] f y is c = cc
place_from n zero (g ∷ fs) f y is c =
    let same : g ≡ f = cc in
    let P : Function → Type 0 = λ z. Contains (entry (n + 0) ∷ (body_places z.body ++ out (n + 0) ∷ [])) y in
    let Q : ℕ → Type 0 = λ z. Contains (entry z ∷ (body_places g.body ++ out z ∷ [])) y in
    let none : n + 0 ≡ n = omega arith in
    first_part (subst Q none (subst P (sym same) c))
  where
    first_part : Contains (entry n ∷ (body_places g.body ++ out n ∷ [])) y → Contains (entry n ∷ (body_places g.body ++ out n ∷ places_from (suc n) fs)) y
    first_part d = by_first (contains_cases (entry n) y (body_places g.body ++ out n ∷ []) d)
      where
        by_rest : Contains (body_places g.body) y ⊎ Contains (out n ∷ []) y → Contains (body_places g.body ++ out n ∷ places_from (suc n) fs) y
        by_rest (inl k) = Contains-append_left (body_places g.body) (out n ∷ places_from (suc n) fs) y k
        by_rest (inr k) = Contains-append_right (body_places g.body) (out n ∷ places_from (suc n) fs) y (Contains-append_left (out n ∷ []) (places_from (suc n) fs) y k)

        by_first : (entry n ≡ y) ⊎ Contains (body_places g.body ++ out n ∷ []) y → Contains (entry n ∷ (body_places g.body ++ out n ∷ places_from (suc n) fs)) y
        by_first (inl e) = subst (Contains (entry n ∷ (body_places g.body ++ out n ∷ places_from (suc n) fs))) e (contains_first (entry n) _)
        by_first (inr k) = contains_later (entry n) y _ (by_rest (Contains-append_cases (body_places g.body) (out n ∷ []) y k))
place_from n (suc i) (g ∷ fs) f y is c =
    let P : ℕ → Type 0 = λ z. Contains (entry z ∷ (body_places f.body ++ out z ∷ [])) y in
    let same : n + suc i ≡ suc n + i = omega arith in
    contains_later (entry n) y (body_places g.body ++ out n ∷ places_from (suc n) fs)
    (Contains-append_right (body_places g.body) (out n ∷ places_from (suc n) fs) y
    (contains_later (out n) y (places_from (suc n) fs) (place_from (suc n) i fs f y is (subst P same c))))

function_place : (p : Source) (g : ℕ) (o : Option Function) (y : Place) → slice_get p.funcs g ≡ o → Contains (places_in g o) y → Contains (places p) y
function_place p g None y is c = absurd (no_member y c)
function_place p g (Some f) y is c =
    let P : ℕ → Type 0 = λ z. Contains (entry z ∷ (body_places f.body ++ out z ∷ [])) y in
    let same : g ≡ 0 + g = omega arith in
    contains_later nowhere y (places_from 0 p.funcs) (place_from 0 g p.funcs f y is (subst P same c))

place_of : (p : Source) (g : ℕ) (y : Place) → Contains (places_of p g) y → Contains (places p) y
place_of p g y c = function_place p g (slice_get p.funcs g) y refl c

body_place : (p : Source) (g : ℕ) (f : Function) (y : Place) → slice_get p.funcs g ≡ Some f → Contains (body_places f.body) y → Contains (places p) y
body_place p g f y is c = function_place p g (Some f) y is (contains_later (entry g) y (body_places f.body ++ out g ∷ []) (Contains-append_left (body_places f.body) (out g ∷ []) y c))

out_place : (p : Source) (g : ℕ) (f : Function) → slice_get p.funcs g ≡ Some f → Contains (places p) (out g)
out_place p g f is =
    function_place p g (Some f) (out g) is
    (contains_later (entry g) (out g) (body_places f.body ++ out g ∷ []) (Contains-append_right (body_places f.body) (out g ∷ []) (out g) (contains_first (out g) [])))

statement_place : (p : Source) (g l : ℕ) (x : Body) (y : Place) → IsStatement p g l x → Contains (body_places x) y → Contains (places p) y
statement_place p g l x y h c = body_place p g h.function y h.is (statement_places (Function.body h.function) x y h.there c)

reached_place : (p : Source) (xs : List Body) (y : Place) → IsReached p xs y → Contains (places p) y
reached_place p xs y r = place_of p r.function y r.there

one_of_node : (p : Source) (g : ℕ) (f : Function) (n : Node) (y : Place) → slice_get p.funcs g ≡ Some f → IsNodeOf (body_places f.body) n → Contains (node_places g n) y → Contains (places p) y
one_of_node p g f (begins l) y is h c = by_cases (contains_cases (inside l) y [] c)
  where
    by_cases : (inside l ≡ y) ⊎ Contains [] y → Contains (places p) y
    by_cases (inl e) = subst (Contains (places p)) e (body_place p g f (inside l) is h)
    by_cases (inr k) = absurd (no_member y k)
one_of_node p g f (complete l) y is h c = by_cases (contains_cases (inside l) y [] c)
  where
    by_cases : (inside l ≡ y) ⊎ Contains [] y → Contains (places p) y
    by_cases (inl e) = subst (Contains (places p)) e (body_place p g f (inside l) is h)
    by_cases (inr k) = absurd (no_member y k)
one_of_node p g f (turns l) y is h c = by_cases (contains_cases (back_edge l) y (inside l ∷ []) c)
  where
    by_second : (inside l ≡ y) ⊎ Contains [] y → Contains (places p) y
    by_second (inl e) = subst (Contains (places p)) e (body_place p g f (inside l) is h.1)
    by_second (inr k) = absurd (no_member y k)

    by_cases : (back_edge l ≡ y) ⊎ Contains (inside l ∷ []) y → Contains (places p) y
    by_cases (inl e) = subst (Contains (places p)) e (body_place p g f (back_edge l) is h.0)
    by_cases (inr k) = by_second (contains_cases (inside l) y [] k)
one_of_node p g f leaves y is h c = by_cases (contains_cases (out g) y [] c)
  where
    by_cases : (out g ≡ y) ⊎ Contains [] y → Contains (places p) y
    by_cases (inl e) = subst (Contains (places p)) e (out_place p g f is)
    by_cases (inr k) = absurd (no_member y k)

node_reached : (p : Source) (g : ℕ) (n : Node) (y : Place) → IsReachedAt p g n y → Contains (places p) y
node_reached p g (begins l) y r = reached_place p (r.0 ∷ []) y r.2
node_reached p g (complete l) y r = absurd r
node_reached p g (turns l) y r = absurd r
node_reached p g leaves y r = absurd r

some_same : (f g : Function) → Some f ≡ Some g → f ≡ g
some_same f g e = cc

-- where a path begins
start_there : (p : Source) (g l : ℕ) (f : Function) (x : Body) → slice_get p.funcs g ≡ Some f → IsStatement p g l x → Contains (body_places f.body) (inside l)
start_there p g l f x is h =
    let P : Function → Type 0 = λ z. Contains (body_places z.body) (inside l) in
    subst P (some_same h.function f (sym h.is ∙ is)) (statement_places (Function.body h.function) x (inside l) h.there (own_place x l h.line))

-- An unsafe place is one of the program.
pub unsafe_there : (p : Source) (f : Plan) (y : Place) → IsUnsafe p f y → Contains (places p) y
unsafe_there p f y (inl u) = by_cases u.place
  where
    by_cases : Contains (body_places u.body) y ⊎ (((has_return u.body ≡ true) × (y ≡ out u.function)) ⊎ IsReached p (statements u.body) y) → Contains (places p) y
    by_cases (inl c) = statement_place p u.function u.line u.body y u.there c
    by_cases (inr (inl e)) = subst (Contains (places p)) (sym e.1) (out_place p u.function (IsStatement.function u.there) (IsStatement.is u.there))
    by_cases (inr (inr r)) = reached_place p (statements u.body) y r
unsafe_there p f y (inr (inl u)) = by_cases u.place
  where
    node_there : IsNodeOf (body_places (Function.body u.function)) u.node
    node_there =
        path_stays u.function f u.exits (begins u.line) u.node (start_there p u.number u.line u.function u.there.0 u.of_number u.there.1) u.comes

    by_cases : Contains (node_places u.number u.node) y ⊎ IsReachedAt p u.number u.node y → Contains (places p) y
    by_cases (inl c) = one_of_node p u.number u.function u.node y u.of_number node_there c
    by_cases (inr r) = node_reached p u.number u.node y r
unsafe_there p f y (inr (inr u)) = by_cases u.place
  where
    by_cases : (Contains (places_of p u.number) y × (y ≡ entry u.number → ⊥)) ⊎ IsReached p (statements_of p u.number) y → Contains (places p) y
    by_cases (inl c) = place_of p u.number y c.0
    by_cases (inr r) = reached_place p (statements_of p u.number) y r

-- Numbers

same_number : (m n : ℕ) → (m == n) ≡ true → m ≡ n
same_number m n h = grind arith

same_place : (x y : Place) → is_same_place x y ≡ true → x ≡ y
same_place nowhere nowhere h = refl
same_place nowhere (entry g) h = cc
same_place nowhere (inside l) h = cc
same_place nowhere (back_edge l) h = cc
same_place nowhere (out g) h = cc
same_place (entry f) nowhere h = cc
same_place (entry f) (entry g) h = ap entry (same_number f g h)
same_place (entry f) (inside l) h = cc
same_place (entry f) (back_edge l) h = cc
same_place (entry f) (out g) h = cc
same_place (inside m) nowhere h = cc
same_place (inside m) (entry g) h = cc
same_place (inside m) (inside l) h = ap inside (same_number m l h)
same_place (inside m) (back_edge l) h = cc
same_place (inside m) (out g) h = cc
same_place (back_edge m) nowhere h = cc
same_place (back_edge m) (entry g) h = cc
same_place (back_edge m) (inside l) h = cc
same_place (back_edge m) (back_edge l) h = ap back_edge (same_number m l h)
same_place (back_edge m) (out g) h = cc
same_place (out f) nowhere h = cc
same_place (out f) (entry g) h = cc
same_place (out f) (inside l) h = cc
same_place (out f) (back_edge l) h = cc
same_place (out f) (out g) h = ap out (same_number f g h)

is_same : (m : ℕ) → (m == m) ≡ true
is_same m = grind arith

itself : (x : Place) → is_same_place x x ≡ true
itself nowhere = refl
itself (entry f) = is_same f
itself (inside l) = is_same l
itself (back_edge l) = is_same l
itself (out f) = is_same f

one_position : (x y : Place) (qs : List Place) → Contains qs x → position_of x qs ≡ position_of y qs → x ≡ y
one_position x y [] c e = absurd (no_member x c)
one_position x y (q ∷ qs) c e = by_tests (is_same_place q x) (is_same_place q y) refl refl e (λ d g. one_position x y qs d g)
  where
    clash : (b : Bool) → b ≡ true → b ≡ false → ⊥
    clash true h g = cc
    clash false h g = cc

    rest : is_same_place q x ≡ false → (q ≡ x) ⊎ Contains qs x → Contains qs x
    rest h (inl same) = absurd (clash (is_same_place q x) (subst (λ z. is_same_place q z ≡ true) same (itself q)) h)
    rest h (inr k) = k

    by_tests : (a b : Bool) → is_same_place q x ≡ a → is_same_place q y ≡ b → (if a then 0 else suc (position_of x qs)) ≡ (if b then 0 else suc (position_of y qs))
        → (Contains qs x → position_of x qs ≡ position_of y qs → x ≡ y) → x ≡ y
    by_tests true true h g n ih = sym (same_place q x h) ∙ same_place q y g
    by_tests true false h g n ih = let no : ⊥ = omega arith in absurd no
    by_tests false true h g n ih = let no : ⊥ = omega arith in absurd no
    by_tests false false h g n ih = ih (rest h (contains_cases q x qs c)) (omega arith)

-- A place of the program has its number alone.
pub number_alone : (p : Source) (x y : Place) → Contains (places p) x → place_number p x ≡ place_number p y → x ≡ y
number_alone p x y c e = one_position x y (places p) c e
