-- Where statements stand in the table, and among the places.
use Rattle.std.proofs.Common.{ℕ, zero, suc, ◌+◌, ◌<◌, ◌≤◌, ◌≡◌, ◌⊎◌, inl, inr, List, [], ◌∷◌, ◌++◌, length, length-append, slice_get, Some, refl, ap, subst, ◌∙◌, arith}
use Rattle.std.proofs.lemmas.Bool.{cases_lt}
use Rattle.loom_tree.specs.Tree.{Expression, Simple, Body, simple, if_, while_, Function, Source}
use Rattle.loom_lang.specs.Places.{Place, entry, inside, back_edge, out, body_places, places_from, places, place_at}
use Rattle.loom_flow.specs.FlatCode.{place_count}
use Rattle.loom_sites.specs.declared.node.TableNode.{TableNode}
use Rattle.loom_sites.specs.declared.node.TableNode.TheVariants as n
use Rattle.loom_sites.specs.declared.links.PlaceKind.{PlaceKind}
use Rattle.loom_sites.specs.declared.links.PlaceKind.TheVariants as kind
use Rattle.loom_sites.specs.declared.links.PlaceLinks.{PlaceLinks}
use Rattle.loom_sites.specs.declared.links.Owner.{Owner}
use Rattle.loom_sites.specs.Links.{simple_kind, first_at, next_simple, frame_row, simple_row, block_row, body_rows, out_behind, functions_rows, program_rows}
use Rattle.loom_sites.proofs.Rows.{length_rows}

-- From number k on, the first list goes on as the second.
abbrev pub IsAt : {A : Type 0} → List A → ℕ → List A → Type 0
IsAt {A} xs k ys = (i : ℕ) (y : A) → slice_get ys i ≡ Some y → slice_get xs (k + i) ≡ Some y

get_left : {A : Type 0} (ys zs : List A) (i : ℕ) (y : A) → slice_get ys i ≡ Some y → slice_get (ys ++ zs) i ≡ Some y
get_left [] zs i y e = cc
get_left (x ∷ ys) zs zero y e = e
get_left (x ∷ ys) zs (suc i) y e = get_left ys zs i y e

get_right : {A : Type 0} (ys zs : List A) (i : ℕ) (y : A) → slice_get zs i ≡ Some y → slice_get (ys ++ zs) (length ys + i) ≡ Some y
get_right [] zs i y e = let at : 0 + i ≡ i = omega arith in ap (slice_get zs) at ∙ e
get_right (x ∷ ys) zs i y e = let at : suc (length ys) + i ≡ suc (length ys + i) = omega arith in ap (slice_get (x ∷ (ys ++ zs))) at ∙ get_right ys zs i y e

pub at_left : {A : Type 0} (xs ys zs : List A) (k : ℕ) → IsAt xs k (ys ++ zs) → IsAt xs k ys
at_left xs ys zs k h i y e = h i y (get_left ys zs i y e)

pub at_right : {A : Type 0} (xs ys zs : List A) (k j : ℕ) → j ≡ k + length ys → IsAt xs k (ys ++ zs) → IsAt xs j zs
at_right xs ys zs k j e h i y g = let at : j + i ≡ k + (length ys + i) = omega (arith, e) in ap (slice_get xs) at ∙ h (length ys + i) y (get_right ys zs i y g)

pub at_later : {A : Type 0} (xs ys : List A) (x : A) (k j : ℕ) → j ≡ suc k → IsAt xs k (x ∷ ys) → IsAt xs j ys
at_later xs ys x k j e h i y g = let at : j + i ≡ k + suc i = omega (arith, e) in ap (slice_get xs) at ∙ h (suc i) y g

pub at_first : {A : Type 0} (xs ys : List A) (x : A) (k : ℕ) → IsAt xs k (x ∷ ys) → slice_get xs k ≡ Some x
at_first xs ys x k h = let at : k ≡ k + 0 = omega arith in ap (slice_get xs) at ∙ h 0 x refl

-- The statements stand in the table from number k on, with this node behind them, and their places have these numbers.
pub record Stand (p : Source) (o : Owner) (k : ℕ) (b : Body) (next : TableNode) : Type 0 where
  pub rows : IsAt (program_rows p) k (body_rows p o k b next)
  pub places : IsAt (places p) k (body_places b)

-- the parts of statements

pub rest_of_simple : (p : Source) (o : Owner) (k l : ℕ) (s : Simple Expression) (rest : Body) (next : TableNode) → Stand p o k (simple l s rest) next → Stand p o (suc k) rest next
rest_of_simple p o k l s rest next h = record {
  rows = at_later (program_rows p) (body_rows p o (suc k) rest next) _ k (suc k) refl h.rows;
  places = at_later (places p) (body_places rest) (inside l) k (suc k) refl h.places;
}

pub first_branch : (p : Source) (o : Owner) (k l : ℕ) (e : Expression) (a b rest : Body) (next : TableNode) → Stand p o k (if_ l e a b rest) next → Stand p o (suc k) a (n.Complete k)
first_branch p o k l e a b rest next h =
    let other : ℕ = suc k + place_count a in
    let end : ℕ = other + place_count b in
    let ys : List PlaceLinks = body_rows p o other b (n.Complete k) ++ body_rows p o end rest next in
    record {
      rows = at_left (program_rows p) (body_rows p o (suc k) a (n.Complete k)) ys (suc k) (at_later (program_rows p) (body_rows p o (suc k) a (n.Complete k) ++ ys) _ k (suc k) refl h.rows);
      places = at_left (places p) (body_places a) (body_places b ++ body_places rest) (suc k) (at_later (places p) (body_places a ++ (body_places b ++ body_places rest)) (inside l) k (suc k) refl h.places);
    }

pub behind_first : (p : Source) (o : Owner) (k l : ℕ) (e : Expression) (a b rest : Body) (next : TableNode) → Stand p o k (if_ l e a b rest) next
    → IsAt (program_rows p) (suc k + place_count a) (body_rows p o (suc k + place_count a) b (n.Complete k) ++ body_rows p o (suc k + place_count a + place_count b) rest next)
    × IsAt (places p) (suc k + place_count a) (body_places b ++ body_places rest)
behind_first p o k l e a b rest next h =
    let other : ℕ = suc k + place_count a in
    let end : ℕ = other + place_count b in
    let xs : List PlaceLinks = body_rows p o (suc k) a (n.Complete k) in
    let ys : List PlaceLinks = body_rows p o other b (n.Complete k) ++ body_rows p o end rest next in
    let many = length_rows p o (suc k) a (n.Complete k) in (
      at_right (program_rows p) xs ys (suc k) other (omega (arith, many)) (at_later (program_rows p) (xs ++ ys) _ k (suc k) refl h.rows),
      at_right (places p) (body_places a) (body_places b ++ body_places rest) (suc k) other refl (at_later (places p) (body_places a ++ (body_places b ++ body_places rest)) (inside l) k (suc k) refl h.places),
    )

pub second_branch : (p : Source) (o : Owner) (k l : ℕ) (e : Expression) (a b rest : Body) (next : TableNode) → Stand p o k (if_ l e a b rest) next
    → Stand p o (suc k + place_count a) b (n.Complete k)
second_branch p o k l e a b rest next h =
    let other : ℕ = suc k + place_count a in
    let both = behind_first p o k l e a b rest next h in
    record {
      rows = at_left (program_rows p) (body_rows p o other b (n.Complete k)) (body_rows p o (other + place_count b) rest next) other both.0;
      places = at_left (places p) (body_places b) (body_places rest) other both.1;
    }

pub rest_of_if : (p : Source) (o : Owner) (k l : ℕ) (e : Expression) (a b rest : Body) (next : TableNode) → Stand p o k (if_ l e a b rest) next
    → Stand p o (suc k + place_count a + place_count b) rest next
rest_of_if p o k l e a b rest next h =
    let other : ℕ = suc k + place_count a in
    let end : ℕ = other + place_count b in
    let both = behind_first p o k l e a b rest next h in
    let many = length_rows p o other b (n.Complete k) in
    record {
      rows = at_right (program_rows p) (body_rows p o other b (n.Complete k)) (body_rows p o end rest next) other end (omega (arith, many)) both.0;
      places = at_right (places p) (body_places b) (body_places rest) other end refl both.1;
    }

abbrev pub loop_row : Owner → ℕ → Body → Body → TableNode → PlaceKind → PlaceLinks
loop_row o k a rest next x =
    block_row o x (first_at a (suc (suc k)) (n.Start (suc k))) (n.Complete k) (first_at rest (suc (suc k) + place_count a) next) (suc (suc k) + place_count a)

pub loop_body : (p : Source) (o : Owner) (k l : ℕ) (e : Expression) (a rest : Body) (next : TableNode) → Stand p o k (while_ l e a rest) next → Stand p o (suc (suc k)) a (n.Start (suc k))
loop_body p o k l e a rest next h =
    let first : ℕ = suc (suc k) in
    let xs : List PlaceLinks = body_rows p o first a (n.Start (suc k)) in
    let ys : List PlaceLinks = body_rows p o (first + place_count a) rest next in
    record {
      rows = at_left (program_rows p) xs ys first (at_later (program_rows p) (xs ++ ys) (loop_row o k a rest next kind.Turn) (suc k) first refl (at_later (program_rows p) (loop_row o k a rest next kind.Turn ∷ (xs ++ ys)) (loop_row o k a rest next kind.Plain) k (suc k) refl h.rows));
      places = at_left (places p) (body_places a) (body_places rest) first (at_later (places p) (body_places a ++ body_places rest) (back_edge l) (suc k) first refl (at_later (places p) (back_edge l ∷ (body_places a ++ body_places rest)) (inside l) k (suc k) refl h.places));
    }

pub rest_of_loop : (p : Source) (o : Owner) (k l : ℕ) (e : Expression) (a rest : Body) (next : TableNode) → Stand p o k (while_ l e a rest) next → Stand p o (suc (suc k) + place_count a) rest next
rest_of_loop p o k l e a rest next h =
    let first : ℕ = suc (suc k) in
    let end : ℕ = first + place_count a in
    let xs : List PlaceLinks = body_rows p o first a (n.Start (suc k)) in
    let ys : List PlaceLinks = body_rows p o end rest next in
    let many = length_rows p o first a (n.Start (suc k)) in
    record {
      rows = at_right (program_rows p) xs ys first end (omega (arith, many)) (at_later (program_rows p) (xs ++ ys) (loop_row o k a rest next kind.Turn) (suc k) first refl (at_later (program_rows p) (loop_row o k a rest next kind.Turn ∷ (xs ++ ys)) (loop_row o k a rest next kind.Plain) k (suc k) refl h.rows));
      places = at_right (places p) (body_places a) (body_places rest) first end refl (at_later (places p) (body_places a ++ body_places rest) (back_edge l) (suc k) first refl (at_later (places p) (back_edge l ∷ (body_places a ++ body_places rest)) (inside l) k (suc k) refl h.places));
    }

-- the first row and place of statements

pub simple_here : (p : Source) (o : Owner) (k l : ℕ) (s : Simple Expression) (rest : Body) (next : TableNode) → Stand p o k (simple l s rest) next
    → (slice_get (program_rows p) k ≡ Some (simple_row o k (simple_kind p s) (next_simple o s (first_at rest (suc k) next)))) × (place_at p k ≡ Some (inside l))
simple_here p o k l s rest next h = (at_first (program_rows p) _ _ k h.rows, at_first (places p) _ _ k h.places)

pub if_here : (p : Source) (o : Owner) (k l : ℕ) (e : Expression) (a b rest : Body) (next : TableNode) → Stand p o k (if_ l e a b rest) next
    → (slice_get (program_rows p) k
    ≡ Some (block_row o kind.Plain (first_at a (suc k) (n.Complete k)) (first_at b (suc k + place_count a) (n.Complete k)) (first_at rest (suc k + place_count a + place_count b) next) (suc k + place_count a + place_count b)))
    × (place_at p k ≡ Some (inside l))
if_here p o k l e a b rest next h = (at_first (program_rows p) _ _ k h.rows, at_first (places p) _ _ k h.places)

pub while_here : (p : Source) (o : Owner) (k l : ℕ) (e : Expression) (a rest : Body) (next : TableNode) → Stand p o k (while_ l e a rest) next
    → (slice_get (program_rows p) k ≡ Some (loop_row o k a rest next kind.Plain)) × (place_at p k ≡ Some (inside l))
while_here p o k l e a rest next h =
    let first : ℕ = suc (suc k) in
    let xs : List PlaceLinks = body_rows p o first a (n.Start (suc k)) ++ body_rows p o (first + place_count a) rest next in (
      at_first (program_rows p) (loop_row o k a rest next kind.Turn ∷ xs) (loop_row o k a rest next kind.Plain) k h.rows,
      at_first (places p) (back_edge l ∷ (body_places a ++ body_places rest)) (inside l) k h.places,
    )

pub turn_here : (p : Source) (o : Owner) (k l : ℕ) (e : Expression) (a rest : Body) (next : TableNode) → Stand p o k (while_ l e a rest) next
    → (slice_get (program_rows p) (suc k) ≡ Some (loop_row o k a rest next kind.Turn)) × (place_at p (suc k) ≡ Some (back_edge l))
turn_here p o k l e a rest next h =
    let first : ℕ = suc (suc k) in
    let xs : List PlaceLinks = body_rows p o first a (n.Start (suc k)) ++ body_rows p o (first + place_count a) rest next in
    let ys : List Place = body_places a ++ body_places rest in (
      at_first (program_rows p) xs (loop_row o k a rest next kind.Turn) (suc k) (at_later (program_rows p) (loop_row o k a rest next kind.Turn ∷ xs) (loop_row o k a rest next kind.Plain) k (suc k) refl h.rows),
      at_first (places p) ys (back_edge l) (suc k) (at_later (places p) (back_edge l ∷ ys) (inside l) k (suc k) refl h.places),
    )

-- Functions

-- function g stands in the table from number k on
pub record FunctionStand (p : Source) (g k : ℕ) (f : Function) : Type 0 where
  pub entry_row : slice_get (program_rows p) k ≡ Some (frame_row kind.Entry k g)
  pub entry_place : place_at p k ≡ Some (entry g)
  pub body : Stand p (record { number = g; out = out_behind k f }) (suc k) f.body (n.Start (out_behind k f))
  pub out_row : slice_get (program_rows p) (out_behind k f) ≡ Some (frame_row kind.Out (out_behind k f) g)
  pub out_place : place_at p (out_behind k f) ≡ Some (out g)

first_function : (p : Source) (m k : ℕ) (f : Function) (fs : List Function) → IsAt (program_rows p) k (functions_rows p m k (f ∷ fs)) → IsAt (places p) k (places_from m (f ∷ fs)) → FunctionStand p m k f
first_function p m k f fs h g =
    let o : Owner = record { number = m; out = out_behind k f } in
    let last : ℕ = out_behind k f in
    let xs : List PlaceLinks = body_rows p o (suc k) f.body (n.Start last) in
    let ys : List PlaceLinks = frame_row kind.Out last m ∷ functions_rows p (suc m) (suc last) fs in
    let zs : List Place = out m ∷ places_from (suc m) fs in
    let many = length_rows p o (suc k) f.body (n.Start last) in
    let rows : IsAt (program_rows p) (suc k) (xs ++ ys) = at_later (program_rows p) (xs ++ ys) (frame_row kind.Entry k m) k (suc k) refl h in
    let ps : IsAt (places p) (suc k) (body_places f.body ++ zs) = at_later (places p) (body_places f.body ++ zs) (entry m) k (suc k) refl g in
    record {
      entry_row = at_first (program_rows p) (xs ++ ys) (frame_row kind.Entry k m) k h;
      entry_place = at_first (places p) (body_places f.body ++ zs) (entry m) k g;
      body = record { rows = at_left (program_rows p) xs ys (suc k) rows; places = at_left (places p) (body_places f.body) zs (suc k) ps };
      out_row = at_first (program_rows p) (functions_rows p (suc m) (suc last) fs) (frame_row kind.Out last m) last (at_right (program_rows p) xs ys (suc k) last (omega (arith, many)) rows);
      out_place = at_first (places p) (places_from (suc m) fs) (out m) last (at_right (places p) (body_places f.body) zs (suc k) last refl ps);
    }

later_functions : (p : Source) (m k : ℕ) (f : Function) (fs : List Function) → IsAt (program_rows p) k (functions_rows p m k (f ∷ fs)) → IsAt (places p) k (places_from m (f ∷ fs))
    → IsAt (program_rows p) (suc (out_behind k f)) (functions_rows p (suc m) (suc (out_behind k f)) fs) × IsAt (places p) (suc (out_behind k f)) (places_from (suc m) fs)
later_functions p m k f fs h g =
    let o : Owner = record { number = m; out = out_behind k f } in
    let last : ℕ = out_behind k f in
    let xs : List PlaceLinks = body_rows p o (suc k) f.body (n.Start last) in
    let ys : List PlaceLinks = frame_row kind.Out last m ∷ functions_rows p (suc m) (suc last) fs in
    let zs : List Place = out m ∷ places_from (suc m) fs in
    let many = length_rows p o (suc k) f.body (n.Start last) in (
      at_later (program_rows p) (functions_rows p (suc m) (suc last) fs) (frame_row kind.Out last m) last (suc last) refl
          (at_right (program_rows p) xs ys (suc k) last (omega (arith, many)) (at_later (program_rows p) (xs ++ ys) (frame_row kind.Entry k m) k (suc k) refl h)),
      at_later (places p) (places_from (suc m) fs) (out m) last (suc last) refl
          (at_right (places p) (body_places f.body) zs (suc k) last refl (at_later (places p) (body_places f.body ++ zs) (entry m) k (suc k) refl g)),
    )

functions_stand : (p : Source) (m k : ℕ) (fs : List Function) (i : ℕ) (f : Function) → IsAt (program_rows p) k (functions_rows p m k fs) → IsAt (places p) k (places_from m fs) → slice_get fs i ≡ Some f
    → (j : ℕ) × FunctionStand p (m + i) j f
functions_stand p m k [] i f h g e = cc
functions_stand p m k (x ∷ fs) zero f h g e =
    let same : x ≡ f = cc in
    let number : m ≡ m + 0 = omega arith in
    let P : Function → Type 0 = λ z. FunctionStand p m k z in
    let Q : ℕ → Type 0 = λ z. FunctionStand p z k f in
    (k, subst Q number (subst P same (first_function p m k x fs h g)))
functions_stand p m k (x ∷ fs) (suc i) f h g e =
    let more = later_functions p m k x fs h g in
    let ih = functions_stand p (suc m) (suc (out_behind k x)) fs i f more.0 more.1 e in
    let number : suc m + i ≡ m + suc i = omega arith in
    let Q : ℕ → Type 0 = λ z. FunctionStand p z ih.0 f in
    (ih.0, subst Q number ih.1)

later_get : {A : Type 0} (x : A) (xs : List A) → IsAt (x ∷ xs) 1 xs
later_get x xs i y e = let at : 1 + i ≡ suc i = omega arith in ap (slice_get (x ∷ xs)) at ∙ e

pub function_stands : (p : Source) (g : ℕ) (f : Function) → slice_get p.funcs g ≡ Some f → (k : ℕ) × FunctionStand p g k f
function_stands p g f e =
    let h = functions_stand p 0 1 p.funcs g f (later_get (frame_row kind.Entry 0 0) (functions_rows p 0 1 p.funcs)) (later_get Place.nowhere (places_from 0 p.funcs)) e in
    let number : 0 + g ≡ g = omega arith in
    let Q : ℕ → Type 0 = λ z. FunctionStand p z h.0 f in
    (h.0, subst Q number h.1)

-- Each place but place 0 is one of a function that stands in the table.
pub record IsInFunction (p : Source) (i : ℕ) : Type 0 where
  pub number : ℕ
  pub first : ℕ
  pub function : Function
  pub is : slice_get p.funcs number ≡ Some function
  pub stand : FunctionStand p number first function
  pub from : first ≤ i
  pub to : i ≤ out_behind first function

in_functions : (p : Source) (m k : ℕ) (fs : List Function) (i : ℕ) → ((d : ℕ) (f : Function) → slice_get fs d ≡ Some f → slice_get p.funcs (m + d) ≡ Some f)
    → IsAt (program_rows p) k (functions_rows p m k fs) → IsAt (places p) k (places_from m fs) → k ≤ i → i < k + length (places_from m fs) → IsInFunction p i
in_functions p m k [] i is h g low high = absurd (omega arith)
in_functions p m k (x ∷ fs) i is h g low high =
    by_order (cases_lt (out_behind k x) i)
    (λ after. in_functions p (suc m) (suc (out_behind k x)) fs i
    (λ d f e. (let at : suc m + d ≡ m + suc d = omega arith in ap (slice_get p.funcs) at ∙ is (suc d) f e))
    more.0 more.1 (omega (arith, after)) (omega (arith, after, high, many)))
  where
    more : IsAt (program_rows p) (suc (out_behind k x)) (functions_rows p (suc m) (suc (out_behind k x)) fs) × IsAt (places p) (suc (out_behind k x)) (places_from (suc m) fs)
    more = later_functions p m k x fs h g

    many : length (body_places x.body ++ out m ∷ places_from (suc m) fs) ≡ length (body_places x.body) + suc (length (places_from (suc m) fs))
    many = length-append (body_places x.body) (out m ∷ places_from (suc m) fs)

    number : slice_get p.funcs m ≡ Some x
    number = let at : m ≡ m + 0 = omega arith in ap (slice_get p.funcs) at ∙ is 0 x refl

    by_order : (out_behind k x < i) ⊎ (i ≤ out_behind k x) → (out_behind k x < i → IsInFunction p i) → IsInFunction p i
    by_order (inl after) ih = ih after
    by_order (inr within) ih = record { number = m; first = k; function = x; is = number; stand = first_function p m k x fs h g; from = low; to = within }

pub place_in_function : (p : Source) (i : ℕ) → 0 < i → i < length (places p) → IsInFunction p i
place_in_function p i low high =
    in_functions p 0 1 p.funcs i (λ d f e. (let at : 0 + d ≡ d = omega arith in ap (slice_get p.funcs) at ∙ e))
    (later_get (frame_row kind.Entry 0 0) (functions_rows p 0 1 p.funcs)) (later_get Place.nowhere (places_from 0 p.funcs)) (omega arith) (omega arith)
