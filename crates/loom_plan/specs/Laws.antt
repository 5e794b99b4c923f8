-- Laws of what is watched.
use Rattle.std.specs.Prelude.{ℕ, ◌≡◌, ◌<◌, ◌⊎◌, slice_get, Some}
use Rattle.std.specs.List.{Contains}
use Rattle.loom_tree.specs.Tree.{Function, Source}
use Rattle.loom_lang.specs.Places.{Place, entry, out, body_places, place_at}
use Rattle.loom_lang.specs.Rules.{locals_of}
use Rattle.loom_plan.specs.PlaceEvents.{names_at}

-- it is a place of function n
abbrev pub IsPlaceIn : ℕ → Function → Place → Type 0
IsPlaceIn n f x = (x ≡ entry n) ⊎ (Contains (body_places f.body) x ⊎ (x ≡ out n))

-- a function in which the place lies, the names of whose locals are those at the place
pub record NamesPlace (p : Source) (k : ℕ) (x : Place) : Type 0 where
  pub number : ℕ
  pub function : Function
  pub is : slice_get p.funcs number ≡ Some function
  pub place : IsPlaceIn number function x
  pub names : names_at p k ≡ locals_of function

-- Each place but place 0 lies in a function, and the names at it are those of the locals of that function.
abbrev pub HasNamesAtPlaces : Type 0
HasNamesAtPlaces = (p : Source) (k : ℕ) (x : Place) → 0 < k → place_at p k ≡ Some x → NamesPlace p k x
