-- The places of a region that is a function, and regions of no function.
use Rattle.std.proofs.Common.{ℕ, zero, suc, ◌<◌, ◌≤◌, ◌≡◌, ◌==◌, ◌⊎◌, ◌↔◌, inl, inr, Bool, true, false, not, ◌&&◌, ◌||◌, nat_lt, List, length, slice_get, Option, Some, None, refl, sym, ap, subst, ◌∙◌, arith, eqb-true, eq-eqb}
use Rattle.std.specs.List.{Contains}
use Rattle.std.proofs.lemmas.Bool.{lt-ltb}
use Rattle.std.proofs.lemmas.Option.{slice_get_within, slice_get_past}
use Rattle.loom_tree.specs.Tree.{Function, Source}
use Rattle.loom_lang.specs.Rules.{KeepsRules}
use Rattle.loom_lang.specs.Places.{Place, nowhere, entry, inside, back_edge, out, places, place_at}
use Rattle.loom_trace.specs.Places.{has_place}
use Rattle.loom_law.specs.Filter.{whole, Plan, has}
use Rattle.loom_law.specs.Paths.{statements_in, statements_of, Reaches, places_in, places_of}
use Rattle.loom_law.specs.Paths as path
use Rattle.loom_law.specs.FilterRefusal.{IsWholeOf, CallsFrom, BeginsInside}
use Rattle.loom_law.proofs.Course.{no_member}
use Rattle.loom_law.proofs.Holdings.{either_of, or_cases, or_left, or_right}
use Rattle.loom_plan.specs.Sets.{event_numbers}
use Rattle.loom_plan.proofs.Walks.{function_within}
use Rattle.loom_sites.specs.declared.links.PlaceKind.{PlaceKind}
use Rattle.loom_sites.specs.declared.links.PlaceKind.TheVariants as kind
use Rattle.loom_sites.specs.declared.links.PlaceLinks.{PlaceLinks}
use Rattle.loom_sites.specs.declared.area.AreaContents.{AreaContents}
use Rattle.loom_sites.specs.Links.{is_statement, is_entry, is_call_of, program_rows}
use Rattle.loom_sites.specs.Rows.{test_if, meets_at, any_meets}
use Rattle.loom_sites.specs.Functions.{has_function, AreFunctions, calls_there}
use Rattle.loom_sites.specs.Events.{is_frame_event, calls_by_event}
use Rattle.loom_sites.specs.Areas.{is_own, IsOwnNumber, TellsContents, AreWith}
use Rattle.loom_sites.proofs.Bits.{none_of_zero}
use Rattle.loom_sites.proofs.Passes.{any_found_all}
use Rattle.loom_sites.proofs.RowPlaces.{program_aligned, row_place, place_row, statement_place, IsOfPlace}
use Rattle.loom_sites.proofs.Courses.{same_number}
use Rattle.loom_sites.proofs.Owners.{owned_number, owner_of}
use Rattle.loom_sites.proofs.EventPlaces.{statement_owner, call_statement, row_calls, event_call}
use Rattle.loom_sites.proofs.Regions.{entry_function}
use Rattle.loom_sites.proofs.Wholes.{same_function, frame_event, event_frame}

and_parts : (a b : Bool) → (a && b) ≡ true → (a ≡ true) × (b ≡ true)
and_parts true b h = (refl, h)
and_parts false b h = cc

and_true : (a b : Bool) → a ≡ true → b ≡ true → (a && b) ≡ true
and_true true b h g = g
and_true false b h g = cc

same_row : (a b : PlaceLinks) → Some a ≡ Some b → a ≡ b
same_row a b e = cc

-- The table calls functions of the program alone.

row_within : (p : Source) (k h : ℕ) (row : PlaceLinks) → slice_get (program_rows p) k ≡ Some row → is_call_of h row.kind ≡ true → h < length p.funcs
row_within p k h row is e =
    let at = statement_place p k row is (call_statement h row.kind e) in
    let o = statement_owner p k at.0 at.1 in
    let c = row_calls p o.owner k at.0 o.statement o.next h row o.stand o.there.line is e in
    function_within p c.0 h c.1.1

pub direct_within : (p : Source) (set : List ℕ) (bits : ℕ) → ((g : ℕ) → has_function bits g ≡ any_meets (calls_there set g) 0 (program_rows p)) → AreFunctions p bits
direct_within p set bits h g e =
    let some = any_found_all (calls_there set g) (program_rows p) (sym (h g) ∙ e) in
    row_within p some.0 g some.1.0 some.1.1.0 (and_parts (has_place set some.0) (is_call_of g some.1.0.kind) some.1.1.1).1

pub events_within : (p : Source) (f : Plan) (bits : ℕ) → ((g : ℕ) → has_function bits g ≡ any_meets (calls_by_event p f (program_rows p) g) 0 (program_rows p)) → AreFunctions p bits
events_within p f bits h g e =
    let t = (event_call p f g).0 (sym (h g) ∙ e) in
    let c = t.1.1.1.1.1.1.1.1 in
    function_within p c.name g c.number

-- The own places of a region that is a function are its places but the entry place.

not_true : (b : Bool) → not b ≡ true → b ≡ false
not_true true h = cc
not_true false h = refl

-- a statement is no entry place
no_entry_kind : (x : PlaceKind) → is_statement x ≡ true → not (is_entry x) ≡ true
no_entry_kind kind.Entry e = cc
no_entry_kind kind.Out e = refl
no_entry_kind kind.Turn e = refl
no_entry_kind kind.Plain e = refl
no_entry_kind kind.Return e = refl
no_entry_kind (kind.Call h) e = refl

number_told : (p : Source) (f : Plan) (n g : ℕ) → IsWholeOf f n g → (k : ℕ) → meets_at (is_own g) (program_rows p) k ≡ true → IsOwnNumber p f (whole n) k
number_told p f n g w k e = by_row (slice_get (program_rows p) k) refl e
  where
    positive : (i : ℕ) (y : Place) → place_at p i ≡ Some y → (y ≡ nowhere → ⊥) → 0 < i
    positive zero y at h = absurd (h (let same : y ≡ nowhere = cc in same))
    positive (suc i) y at h = omega arith

    own : (row : PlaceLinks) → slice_get (program_rows p) k ≡ Some row → row.function ≡ g → (y : Place) → place_at p k ≡ Some y → (y ≡ nowhere → ⊥) → (y ≡ entry g → ⊥) → IsOwnNumber p f (whole n) k
    own row is same y at here other =
        let P : ℕ → Type 0 = λ z. Contains (places_of p z) y in
        (y, (at, (g, (w, (subst P same (owner_of p k y row (positive k y at here) at is), other)))))

    by_place : (row : PlaceLinks) → slice_get (program_rows p) k ≡ Some row → row.function ≡ g → is_entry row.kind ≡ false → (y : Place) → place_at p k ≡ Some y → IsOfPlace y row.kind → IsOwnNumber p f (whole n) k
    by_place row is same none nowhere at h = let clash : true ≡ false = sym (ap is_entry h) ∙ none in cc
    by_place row is same none (entry q) at h = let clash : true ≡ false = sym (ap is_entry h) ∙ none in cc
    by_place row is same none (inside l) at h = own row is same (inside l) at (λ d. cc) (λ d. cc)
    by_place row is same none (back_edge l) at h = own row is same (back_edge l) at (λ d. cc) (λ d. cc)
    by_place row is same none (out q) at h = own row is same (out q) at (λ d. cc) (λ d. cc)

    by_row : (o : Option PlaceLinks) → slice_get (program_rows p) k ≡ o → test_if (is_own g) k o ≡ true → IsOwnNumber p f (whole n) k
    by_row None is t = cc
    by_row (Some row) is t =
        let parts = and_parts (row.function == g) (not (is_entry row.kind)) t in
        let y = row_place (program_rows p) (places p) k row (program_aligned p) is in
        by_place row is (eqb-true row.function g parts.0) (not_true (is_entry row.kind) parts.1) y.0 y.1.0 y.1.1

number_found : (p : Source) (f : Plan) (n g : ℕ) → KeepsRules p → IsWholeOf f n g → (k : ℕ) → IsOwnNumber p f (whole n) k → meets_at (is_own g) (program_rows p) k ≡ true
number_found p f n g rules w k h =
    let y : Place = h.0 in
    let c = h.1.1 in
    let same : c.0 ≡ g = same_function f n c.0 g c.1.0 w in
    let P : ℕ → Type 0 = λ z. Contains (places_of p z) y in
    let Q : ℕ → Type 0 = λ z. y ≡ entry z → ⊥ in
    let own = owned_number p g k y rules h.1.0 (subst P same c.1.1.0) in
    let found = place_row (program_rows p) (places p) k y (program_aligned p) h.1.0 in
    let row : found.0 ≡ own.1.row = same_row found.0 own.1.row (sym found.1.0 ∙ own.1.is) in
    let R : PlaceLinks → Type 0 = λ z. IsOfPlace y z.kind in
    ap (test_if (is_own g) k) own.1.is
    ∙ and_true (own.1.row.function == g) (not (is_entry own.1.row.kind)) (eq-eqb own.1.row.function g own.1.function)
    (by_place own.1.row own.1.is own.1.function own.0 y h.1.0 (subst Q same c.1.1.1) (subst R row found.1.1))
  where
    no_entry : (x z : PlaceKind) → x ≡ z → not (is_entry z) ≡ true → not (is_entry x) ≡ true
    no_entry x z e i = ap (λ (a : PlaceKind). not (is_entry a)) e ∙ i

    by_place : (row : PlaceLinks) → slice_get (program_rows p) k ≡ Some row → row.function ≡ g → 0 < k → (y : Place) → place_at p k ≡ Some y → (y ≡ entry g → ⊥) → IsOfPlace y row.kind → not (is_entry row.kind) ≡ true
    by_place row is own low nowhere at other i = let same : k ≡ 0 = same_number p k 0 nowhere rules at refl in absurd (omega (arith, same, low))
    by_place row is own low (entry q) at other i = let same : q ≡ g = sym (entry_function p k q row rules at is) ∙ own in absurd (other (ap entry same))
    by_place row is own low (inside l) at other i = no_entry_kind row.kind i
    by_place row is own low (back_edge l) at other i = no_entry row.kind kind.Turn i refl
    by_place row is own low (out q) at other i = no_entry row.kind kind.Out i refl

pub frame_own : (p : Source) (f : Plan) (n g count : ℕ) (own old new : List ℕ) → KeepsRules p → IsWholeOf f n g → count ≡ length (program_rows p) → ((k : ℕ) → has_place own k ≡ meets_at (is_own g) (program_rows p) k)
    → ((k : ℕ) → has_place new k ≡ (has_place old k || (nat_lt k count && has_place own k))) → AreWith (IsOwnNumber p f (whole n)) old new
frame_own p f n g count own old new rules w many h e k = (told, found)
  where
    told : has_place new k ≡ true → (has_place old k ≡ true) ⊎ IsOwnNumber p f (whole n) k
    told i =
        either_of (or_cases (has_place old k) (nat_lt k count && has_place own k) (sym (e k) ∙ i)) (λ a. inl a)
        (λ a. inr (number_told p f n g w k (sym (h k) ∙ (and_parts (nat_lt k count) (has_place own k) a).1)))

    low : (o : Option PlaceLinks) → slice_get (program_rows p) k ≡ o → test_if (is_own g) k o ≡ true → k < count
    low None is t = cc
    low (Some row) is t = let less = slice_get_within (program_rows p) k row is in omega (arith, less, many)

    found : (has_place old k ≡ true) ⊎ IsOwnNumber p f (whole n) k → has_place new k ≡ true
    found (inl a) = e k ∙ or_left (has_place old k) (nat_lt k count && has_place own k) a
    found (inr a) =
        let meets = number_found p f n g rules w k a in
        e k ∙ or_right (has_place old k) (nat_lt k count && has_place own k) (and_true (nat_lt k count) (has_place own k) (lt-ltb k count (low (slice_get (program_rows p) k) refl meets)) (h k ∙ meets))

-- A region of no function of the program has nothing inside but its own event.

no_place : (p : Source) (g : ℕ) (y : Place) → length p.funcs ≤ g → Contains (places_of p g) y → ⊥
no_place p g y h c = let P : Option Function → Type 0 = λ z. Contains (places_in g z) y in no_member y (subst P (slice_get_past p.funcs g h) c)

no_calls : (p : Source) (g h : ℕ) → length p.funcs ≤ g → Reaches p (statements_of p g) h → ⊥
no_calls p g h past (path.calls c) = let P : Option Function → Type 0 = λ z. Contains (statements_in z) c.statement in no_member c.statement (subst P (slice_get_past p.funcs g past) c.there)
no_calls p g h past (path.through {g = u} r c) = no_calls p g u past r

pub nothing_own : (p : Source) (f : Plan) (n : ℕ) (set : List ℕ) → ((g : ℕ) → IsWholeOf f n g → length p.funcs ≤ g) → AreWith (IsOwnNumber p f (whole n)) set set
nothing_own p f n set past k = (λ e. inl e, found)
  where
    found : (has_place set k ≡ true) ⊎ IsOwnNumber p f (whole n) k → has_place set k ≡ true
    found (inl e) = e
    found (inr h) = let c = h.1.1 in absurd (no_place p c.0 h.0 (past c.0 c.1.0) c.1.1.0)

-- Events of the same function as the region's
abbrev pub IsOfSame : Plan → ℕ → ℕ → Type 0
IsOfSame f n m = (g : ℕ) × (IsWholeOf f n g × IsWholeOf f m g)

pub nothing_inside : (p : Source) (f : Plan) (n : ℕ) (x : AreaContents) → ((g : ℕ) → IsWholeOf f n g → length p.funcs ≤ g) → x.functions ≡ 0 → x.calls ≡ 0 → ((m : ℕ) → (has (event_numbers x.events) m ≡ true) ↔ IsOfSame f n m)
    → TellsContents p f (whole n) x
nothing_inside p f n x past no_functions no_called events = record {
  functions = λ g low. (λ e. absurd (none x.functions g no_functions e), λ w. (let high = past g w in absurd (omega (arith, low, high))));
  within = λ g e. absurd (none x.functions g no_functions e);
  calls = λ g. (λ e. absurd (none x.calls g no_called e), λ c. absurd (no_call g c));
  events = λ m. (λ e. (let t = (events m).0 e in inr (t.0, (t.1.1, inl t.1.0))), found m);
}
  where
    none : (bits g : ℕ) → bits ≡ 0 → has_function bits g ≡ true → ⊥
    none bits g e h = let clash : true ≡ false = sym h ∙ (ap (λ (z : ℕ). has_function z g) e ∙ none_of_zero g) in cc

    no_call : (g : ℕ) → CallsFrom p f (whole n) g → ⊥
    no_call g c = no_calls p c.0 g (past c.0 c.1.0) c.1.1

    found : (m : ℕ) → BeginsInside p f (whole n) m → has (event_numbers x.events) m ≡ true
    found m (inl h) =
        let g : ℕ = h.1.1.0 in
        let s = h.1.1.1.1.1.0 in
        let low = slice_get_within p.funcs g s.1.function s.1.is in
        either_of h.1.1.1.1.1.1 (λ w. (let high = past g w in absurd (omega (arith, low, high)))) (λ c. absurd (no_call g c))
    found m (inr h) = either_of h.1.1 (λ w. (events m).1 (h.0, (w, h.1.0))) (λ c. absurd (no_call h.0 c))

-- the event of a function that the program hasn't
pub frame_same : (f : Plan) (n g : ℕ) → IsWholeOf f n g → (m : ℕ) → (is_frame_event f g m ≡ true) ↔ IsOfSame f n m
frame_same f n g w m = (
  λ e. (g, (w, frame_event f g m e)),
  λ h. (let P : ℕ → Type 0 = λ z. IsWholeOf f m z in event_frame f g m (subst P (same_function f n h.0 g h.1.0 w) h.1.1)),
)

pub all_past : (p : Source) (f : Plan) (n g : ℕ) → IsWholeOf f n g → length p.funcs ≤ g → (h : ℕ) → IsWholeOf f n h → length p.funcs ≤ h
all_past p f n g w past h v = let same = same_function f n g h w v in omega (arith, past, same)
