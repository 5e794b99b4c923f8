-- What it means to tell the unsafe places of a filter in a program.
use Rattle.std.specs.Prelude.{ℕ, ◌≡◌, ◌<◌, ◌↔◌, IsTrue, true, List, length, Some, Result, Ok, Err}
use Rattle.loom_trace.specs.Places.{has_place}
use Rattle.loom_tree.specs.Tree.{Source}
use Rattle.loom_lang.specs.Places.{Place, places, place_at}
use Rattle.loom_filter.specs.declared.parse.FilterError.{FilterError}
use Rattle.loom_filter.specs.declared.parse.FilterError.TheVariants as e
use Rattle.loom_filter.specs.FilterError.{fault_of}
use Rattle.loom_law.specs.Filter.{Plan}
use Rattle.loom_law.specs.Paths.{IsUnsafe}
use Rattle.loom_law.specs.FilterRefusal.{IsPathFault}
use Rattle.loom_law.specs.Judgement.{IsFirst, HasNone}

-- The set has the numbers of the unsafe places, and no others. That these are enough is the law `HasSoundPlaces` of `loom_law`.
pub record AreUnsafe (p : Source) (f : Plan) (set : List ℕ) : Type 0 where
  pub exactly : (k : ℕ) (y : Place) → place_at p k ≡ Some y → IsTrue (has_place set k) ↔ IsUnsafe p f y
  pub only : (k : ℕ) → has_place set k ≡ true → k < length (places p)

-- No path refuses the filter, and these are its unsafe places; or it is refused, for the first fault.
abbrev pub TellsPlaces : Source → Plan → Result (List ℕ) FilterError → Type 0
TellsPlaces p f (Ok set) = HasNone (IsPathFault p f) × AreUnsafe p f set
TellsPlaces p f (Err (e.Refused r)) = IsFirst (IsPathFault p f) (fault_of r)
TellsPlaces p f (Err e.NoMemory) = Unit {0}
