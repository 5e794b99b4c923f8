-- What unsafe places and refusals call inside a region is one thing.
use Rattle.std.specs.Prelude.{ℕ, ◌≡◌, ◌⊎◌}
use Rattle.std.specs.List.{Contains}
use Rattle.loom_tree.specs.Tree.{Source}
use Rattle.loom_lang.specs.Places.{Place, entry}
use Rattle.loom_law.specs.Filter.{Range, between, whole, Plan}
use Rattle.loom_law.specs.FilterView.{all_ranges}
use Rattle.loom_law.specs.Paths.{Node, node_places, places_of, IsUnsafeByPath, IsUnsafeByFunction}
use Rattle.loom_law.specs.FilterRefusal.{ComesInside, IsWholeOf, CallsFrom}

-- a place of the region's own function: where a path comes inside it, or each but the entry place of a whole function
abbrev pub IsPlaceInside : Source → Plan → Range → Place → Type 0
IsPlaceInside p f (between es xs) y = (g : ℕ) × ((node : Node) × (ComesInside p f es xs g node × Contains (node_places g node) y))
IsPlaceInside p f (whole n) y = (g : ℕ) × (IsWholeOf f n g × (Contains (places_of p g) y × (y ≡ entry g → ⊥)))

-- a place of a function that calls inside the region reach
abbrev pub IsPlaceCalled : Source → Plan → Range → Place → Type 0
IsPlaceCalled p f r y = (h : ℕ) × (CallsFrom p f r h × Contains (places_of p h) y)

-- a place of some region of the filter
pub record IsRegionPlace (p : Source) (f : Plan) (y : Place) : Type 0 where
  pub region : Range
  pub there : Contains (all_ranges f) region
  pub place : IsPlaceInside p f region y ⊎ IsPlaceCalled p f region y

-- The places that are unsafe by a region are those inside it, as the refusals of regions that are entered again or nest say what is inside.
abbrev pub HasRegionPlaces : Type 0
HasRegionPlaces = (p : Source) (f : Plan) (y : Place)
    → ((IsUnsafeByPath p f y ⊎ IsUnsafeByFunction p f y) → IsRegionPlace p f y) × (IsRegionPlace p f y → IsUnsafeByPath p f y ⊎ IsUnsafeByFunction p f y)
