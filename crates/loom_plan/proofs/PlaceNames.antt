-- The names at a place are those of the function in which it lies.
use Rattle.std.proofs.Common.{ℕ, zero, suc, ◌≡◌, ◌+◌, inl, inr, List, [], ◌∷◌, ◌++◌, map, slice_get, Some, refl, ap, subst, ◌∙◌, arith}
use Rattle.std.specs.List.{Contains}
use Rattle.loom_tree.specs.Tree.{Function}
use Rattle.loom_lang.specs.Places.{Place, entry, out, body_places, places_from}
use Rattle.loom_lang.specs.Rules.{locals_of}
use Rattle.loom_plan.specs.PlaceEvents.{names_from, names_or_none}
use Rattle.loom_plan.specs.Laws.{IsPlaceIn, HasNamesAtPlaces}

abbrev Names : Type 0
Names = List (List ℕ)

-- of the places of a body, the one behind them, or one of the others
data PlaceCase (x : Place) (m k : ℕ) (names : Names) (ps rest : List Place) (after : List Names) : Type 0 where
  within : Contains ps x → slice_get (map (λ (y : Place). names) ps ++ names ∷ after) k ≡ Some names → PlaceCase x m k names ps rest after
  last : x ≡ out m → slice_get (map (λ (y : Place). names) ps ++ names ∷ after) k ≡ Some names → PlaceCase x m k names ps rest after
  later : (i : ℕ) → slice_get rest i ≡ Some x → slice_get (map (λ (y : Place). names) ps ++ names ∷ after) k ≡ slice_get after i → PlaceCase x m k names ps rest after

first_in : (x p : Place) (ps : List Place) → p ≡ x → Contains (p ∷ ps) x
first_in x p ps e = (0, omega arith, e)

later_in : (x p : Place) (ps : List Place) → Contains ps x → Contains (p ∷ ps) x
later_in x p ps h = let low = h.1 in (suc h.0, omega arith, h.2)

spot : (x : Place) (m k : ℕ) (names : Names) (ps rest : List Place) (after : List Names) → slice_get (ps ++ out m ∷ rest) k ≡ Some x → PlaceCase x m k names ps rest after
spot x m zero names [] rest after e = last (let same : x ≡ out m = cc in same) refl
spot x m (suc i) names [] rest after e = later i e refl
spot x m zero names (p ∷ ps) rest after e = within (first_in x p ps (let same : p ≡ x = cc in same)) refl
spot x m (suc k) names (p ∷ ps) rest after e = by (spot x m k names ps rest after e)
  where
    by : PlaceCase x m k names ps rest after → PlaceCase x m (suc k) names (p ∷ ps) rest after
    by (within c g) = within (later_in x p ps c) g
    by (last q g) = last q g
    by (later i h g) = later i h g

record Lies (n : ℕ) (fs : List Function) (k : ℕ) (x : Place) : Type 0 where
  behind : ℕ
  function : Function
  is : slice_get fs behind ≡ Some function
  place : IsPlaceIn (n + behind) function x
  names : slice_get (names_from fs) k ≡ Some (locals_of function)

at_number : (n m : ℕ) (f : Function) (x : Place) → n ≡ m → IsPlaceIn n f x → IsPlaceIn m f x
at_number n m f x e h = subst (λ (i : ℕ). IsPlaceIn i f x) e h

lies : (n : ℕ) (fs : List Function) (k : ℕ) (x : Place) → slice_get (places_from n fs) k ≡ Some x → Lies n fs k x
lies n [] zero x e = cc
lies n [] (suc k) x e = cc
lies n (f ∷ fs) zero x e = record { behind = 0; function = f; is = refl; place = at_number n (n + 0) f x (omega arith) (inl (let same : x ≡ entry n = cc in same)); names = refl }
lies n (f ∷ fs) (suc k) x e = by (spot x n k (locals_of f) (body_places f.body) (places_from (suc n) fs) (names_from fs) e) (lies (suc n) fs)
  where
    by : PlaceCase x n k (locals_of f) (body_places f.body) (places_from (suc n) fs) (names_from fs) → ((i : ℕ) (y : Place) → slice_get (places_from (suc n) fs) i ≡ Some y → Lies (suc n) fs i y)
        → Lies n (f ∷ fs) (suc k) x
    by (within c g) more = record { behind = 0; function = f; is = refl; place = at_number n (n + 0) f x (omega arith) (inr (inl c)); names = g }
    by (last q g) more = record { behind = 0; function = f; is = refl; place = at_number n (n + 0) f x (omega arith) (inr (inr q)); names = g }
    by (later i h g) more =
        let there : Lies (suc n) fs i x = more i x h in
        record { behind = suc there.behind; function = there.function; is = there.is; place = at_number (suc n + there.behind) (n + suc there.behind) there.function x (omega arith) there.place; names = g ∙ there.names }

pub names_at_places : HasNamesAtPlaces
names_at_places p zero x low e = absurd (omega arith)
names_at_places p (suc k) x low e =
    let there : Lies 0 p.funcs k x = lies 0 p.funcs k x e in
    record {
      number = there.behind;
      function = there.function;
      is = there.is;
      place = at_number (0 + there.behind) there.behind there.function x (omega arith) there.place;
      names = ap names_or_none there.names;
    }
