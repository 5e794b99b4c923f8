-- The function of each row is that of its place.
use Rattle.std.proofs.Common.{ℕ, zero, suc, ◌+◌, ◌-◌, ◌<◌, ◌≤◌, ◌≡◌, List, [], ◌∷◌, ◌++◌, slice_get, Option, Some, None, refl, sym, ap, subst, ◌∙◌, arith}
use Rattle.std.specs.List.{Contains}
use Rattle.std.proofs.lemmas.Option.{slice_get_within}
use Rattle.std.proofs.lemmas.List.Elements.{Contains-append_left, Contains-append_right, Contains-append_cases}
use Rattle.std.proofs.Math.Decide.{ℕ_discrete}
use Rattle.loom_tree.specs.Tree.{Body, simple, if_, while_, Function, Source}
use Rattle.loom_tree.specs.Tree as tree
use Rattle.loom_lang.specs.Rules.{KeepsRules}
use Rattle.loom_lang.specs.Places.{Place, nowhere, entry, out, body_places, places, place_at}
use Rattle.loom_flow.specs.FlatCode.{place_count}
use Rattle.loom_law.specs.Paths.{places_in, places_of}
use Rattle.loom_law.proofs.Course.{contains_first, contains_later, contains_cases, no_member}
use Rattle.loom_law.proofs.Holdings.{either_of}
use Rattle.loom_plan.proofs.Rows.{get_some}
use Rattle.loom_sites.specs.declared.node.TableNode.{TableNode}
use Rattle.loom_sites.specs.declared.node.TableNode.TheVariants as n
use Rattle.loom_sites.specs.declared.links.PlaceLinks.{PlaceLinks}
use Rattle.loom_sites.specs.declared.links.Owner.{Owner}
use Rattle.loom_sites.specs.Links.{body_rows, out_behind, program_rows}
use Rattle.loom_sites.proofs.Rows.{length_rows}
use Rattle.loom_sites.proofs.Stands.{Stand, FunctionStand, function_stands, place_in_function}
use Rattle.loom_sites.proofs.Courses.{same_number}

abbrev AreOwned : ℕ → List PlaceLinks → Type 0
AreOwned g [] = Unit {0}
AreOwned g (row ∷ rows) = (row.function ≡ g) × AreOwned g rows

owned_both : (g : ℕ) (xs ys : List PlaceLinks) → AreOwned g xs → AreOwned g ys → AreOwned g (xs ++ ys)
owned_both g [] ys h k = k
owned_both g (x ∷ xs) ys h k = (h.0, owned_both g xs ys h.1 k)

rows_owned : (p : Source) (o : Owner) (k : ℕ) (b : Body) (next : TableNode) → AreOwned o.number (body_rows p o k b next)
rows_owned p o k tree.end next = tt
rows_owned p o k (simple l s rest) next = (refl, rows_owned p o (suc k) rest next)
rows_owned p o k (if_ l e a b rest) next = (
  refl,
  owned_both o.number (body_rows p o (suc k) a (n.Complete k)) _ (rows_owned p o (suc k) a (n.Complete k))
      (owned_both o.number (body_rows p o (suc k + place_count a) b (n.Complete k)) _ (rows_owned p o (suc k + place_count a) b (n.Complete k)) (rows_owned p o (suc k + place_count a + place_count b) rest next)),
)
rows_owned p o k (while_ l e a rest) next =
    (refl, (refl, owned_both o.number (body_rows p o (suc (suc k)) a (n.Start (suc k))) _ (rows_owned p o (suc (suc k)) a (n.Start (suc k))) (rows_owned p o (suc (suc k) + place_count a) rest next)))

owned_at : (g : ℕ) (rows : List PlaceLinks) (i : ℕ) (row : PlaceLinks) → AreOwned g rows → slice_get rows i ≡ Some row → row.function ≡ g
owned_at g [] i row h e = cc
owned_at g (x ∷ rows) zero row h e = let same : x ≡ row = cc in ap (λ (z : PlaceLinks). z.function) (sym same) ∙ h.0
owned_at g (x ∷ rows) (suc i) row h e = owned_at g rows i row h.1 e

-- lists and their elements
pub get_contains : {A : Type 0} (xs : List A) (i : ℕ) (x : A) → slice_get xs i ≡ Some x → Contains xs x
get_contains [] i x e = cc
get_contains {A} (y ∷ xs) zero x e = let same : y ≡ x = cc in let P : A → Type 0 = λ z. Contains (y ∷ xs) z in subst P same (contains_first y xs)
get_contains (y ∷ xs) (suc i) x e = contains_later y x xs (get_contains xs i x e)

pub contains_get : {A : Type 0} (xs : List A) (x : A) → Contains xs x → (i : ℕ) × (slice_get xs i ≡ Some x)
contains_get [] x c = absurd (no_member x c)
contains_get (y ∷ xs) x c = either_of (contains_cases y x xs c) (λ e. (0, ap Some e)) (λ d. let ih = contains_get xs x d in (suc ih.0, ih.1))

-- a place of function g, with its row
pub record IsOwned (p : Source) (g k : ℕ) (y : Place) : Type 0 where
  pub row : PlaceLinks
  pub is : slice_get (program_rows p) k ≡ Some row
  pub function : row.function ≡ g

body_owned : (p : Source) (o : Owner) (k i : ℕ) (b : Body) (next : TableNode) (y : Place) → Stand p o k b next → k ≤ i → i < k + place_count b → IsOwned p o.number i y
body_owned p o k i b next y stand low high =
    let rows : List PlaceLinks = body_rows p o k b next in
    let d : ℕ = i - k in
    let long = length_rows p o k b next in
    let found = get_some rows d (omega (arith, long, low, high)) in
    let at : k + d ≡ i = omega (arith, low) in
    record { row = found.0; is = ap (slice_get (program_rows p)) (sym at) ∙ stand.rows d found.0 found.1; function = owned_at o.number rows d found.0 (rows_owned p o k b next) found.1 }

pub owned_in : (p : Source) (g j k : ℕ) (f : Function) (y : Place) → FunctionStand p g j f → j ≤ k → k ≤ out_behind j f → IsOwned p g k y
owned_in p g j k f y stand low high =
    let last : ℕ = out_behind j f in
    elim (ℕ_discrete k j) [
      | yes e ↦ record { row = _; is = ap (slice_get (program_rows p)) e ∙ stand.entry_row; function = refl }
      | no d ↦ elim (ℕ_discrete k last) [
        | yes e ↦ record { row = _; is = ap (slice_get (program_rows p)) e ∙ stand.out_row; function = refl }
        | no q ↦ body_owned p (record { number = g; out = last }) (suc j) k f.body (n.Start last) y stand.body (omega arith) (omega arith)
      ]
    ]

same_some : {A : Type 0} (x y : A) → Some x ≡ Some y → x ≡ y
same_some x y e = cc

-- the place itself is one of the function's
pub place_in : (p : Source) (g j k : ℕ) (f : Function) (y : Place) → slice_get p.funcs g ≡ Some f → FunctionStand p g j f → j ≤ k → k ≤ out_behind j f → place_at p k ≡ Some y → Contains (places_of p g) y
place_in p g j k f y is stand low high at =
    let last : ℕ = out_behind j f in
    let P : Option Function → Type 0 = λ z. Contains (places_in g z) y in
    let Q : Place → Type 0 = λ z. Contains (places_in g (Some f)) z in
    subst P (sym is)
    (elim (ℕ_discrete k j) [
      | yes e ↦ subst Q (same_some (entry g) y (sym stand.entry_place ∙ (ap (place_at p) (sym e) ∙ at))) (contains_first (entry g) (body_places f.body ++ out g ∷ []))
      | no d ↦ contains_later (entry g) y (body_places f.body ++ out g ∷ [])
          (elim (ℕ_discrete k last) [
            | yes e ↦ Contains-append_right (body_places f.body) (out g ∷ []) y
                (let R : Place → Type 0 = λ z. Contains (out g ∷ []) z in subst R (same_some (out g) y (sym stand.out_place ∙ (ap (place_at p) (sym e) ∙ at))) (contains_first (out g) []))
            | no q ↦ Contains-append_left (body_places f.body) (out g ∷ []) y (in_body (omega arith) (omega arith))
          ])
    ])
  where
    in_body : suc j ≤ k → k < out_behind j f → Contains (body_places f.body) y
    in_body from to =
        let d : ℕ = k - suc j in
        let found = get_some (body_places f.body) d (omega (arith, from, to)) in
        let there : suc j + d ≡ k = omega (arith, from) in
        let same : found.0 ≡ y = same_some found.0 y (sym (stand.body.places d found.0 found.1) ∙ (ap (slice_get (places p)) there ∙ at)) in
        let R : Place → Type 0 = λ z. Contains (body_places f.body) z in
        subst R same (get_contains (body_places f.body) d found.0 found.1)

-- and each place of a function has a number in it
pub record HasNumberIn (p : Source) (g : ℕ) (y : Place) : Type 0 where
  pub function : Function
  pub is : slice_get p.funcs g ≡ Some function
  pub first : ℕ
  pub stand : FunctionStand p g first function
  pub number : ℕ
  pub from : first ≤ number
  pub to : number ≤ out_behind first function
  pub place : place_at p number ≡ Some y

in_function : (p : Source) (g : ℕ) (y : Place) (o : Option Function) → slice_get p.funcs g ≡ o → Contains (places_in g o) y → HasNumberIn p g y
in_function p g y None e c = absurd (no_member y c)
in_function p g y (Some f) e c =
    let s = function_stands p g f e in
    let last : ℕ = out_behind s.0 f in
    either_of (contains_cases (entry g) y (body_places f.body ++ out g ∷ []) c)
    (λ same. record { function = f; is = e; first = s.0; stand = s.1; number = s.0; from = omega arith; to = omega arith; place = s.1.entry_place ∙ ap Some same })
    (λ d. either_of (Contains-append_cases (body_places f.body) (out g ∷ []) y d)
    (λ q. let found = contains_get (body_places f.body) y q in
    let low = slice_get_within (body_places f.body) found.0 y found.1 in
    record { function = f; is = e; first = s.0; stand = s.1; number = suc s.0 + found.0; from = omega arith; to = omega (arith, low); place = s.1.body.places found.0 y found.1 })
    (λ q. either_of (contains_cases (out g) y [] q)
    (λ same. record { function = f; is = e; first = s.0; stand = s.1; number = last; from = omega arith; to = omega arith; place = s.1.out_place ∙ ap Some same })
    (λ r. absurd (no_member y r))))

pub number_in : (p : Source) (g : ℕ) (y : Place) → Contains (places_of p g) y → HasNumberIn p g y
number_in p g y c = in_function p g y (slice_get p.funcs g) refl c

-- the number is not 0
positive : (p : Source) (g j k : ℕ) (f : Function) → FunctionStand p g j f → j ≤ k → 0 < k
positive p g zero k f stand low = let clash : Some nowhere ≡ Some (entry g) = stand.entry_place in cc
positive p g (suc j) k f stand low = omega (arith, low)

pub owned_number : (p : Source) (g k : ℕ) (y : Place) → KeepsRules p → place_at p k ≡ Some y → Contains (places_of p g) y → (0 < k) × IsOwned p g k y
owned_number p g k y rules at c =
    let h = number_in p g y c in
    let same : h.number ≡ k = same_number p h.number k y rules h.place at in
    let P : ℕ → Type 0 = λ z. (0 < z) × IsOwned p g z y in
    subst P same (positive p g h.first h.number h.function h.stand h.from, owned_in p g h.first h.number h.function y h.stand h.from h.to)

pub owner_of : (p : Source) (k : ℕ) (y : Place) (row : PlaceLinks) → 0 < k → place_at p k ≡ Some y → slice_get (program_rows p) k ≡ Some row → Contains (places_of p row.function) y
owner_of p k y row low at is =
    let r = place_in_function p k low (slice_get_within (places p) k y at) in
    let own = owned_in p r.number r.first k r.function y r.stand r.from r.to in
    let same : own.row ≡ row = same_some own.row row (sym own.is ∙ is) in
    let number : r.number ≡ row.function = sym own.function ∙ ap (λ (z : PlaceLinks). z.function) same in
    let P : ℕ → Type 0 = λ z. Contains (places_of p z) y in
    subst P number (place_in p r.number r.first k r.function y r.is r.stand r.from r.to at)
