-- The places that are flagged while a command is asked, as sets of numbers.
use Rattle.std.specs.Prelude.{ℕ, zero, suc, ◌≡◌, ◌<◌, ◌==◌, ◌||◌, ◌↔◌, IsTrue, true, false, not, List, length, Option, Some, None, slice_get}
use Rattle.std.specs.Option.{option_flatten}
use Rattle.loom_tree.specs.Tree.{Source}
use Rattle.loom_lang.specs.Places.{Place, places, place_at}
use Rattle.loom_trace.specs.Places.{has_place}
use Rattle.loom_law.specs.Filter.{Plan}
use Rattle.loom_law.specs.Control.{Control, Command, command_at, install, means}
use Rattle.loom_law.specs.Lawful.{IsFlagged, refusal}
use Rattle.loom_world.specs.Book.{Book, setting, front}

-- The set has each place of the program but those of the other set, and place 0.
abbrev pub AreOtherPlaces : Source → List ℕ → List ℕ → Type 0
AreOtherPlaces p unsafe set = (q : ℕ) → q < length (places p) → has_place set q ≡ ((q == 0) || not (has_place unsafe q))

abbrev pub AreAllPlaces : Source → List ℕ → Type 0
AreAllPlaces p set = (q : ℕ) → q < length (places p) → has_place set q ≡ true

abbrev pub AreNoPlaces : List ℕ → Type 0
AreNoPlaces set = (q : ℕ) → has_place set q ≡ false

-- The set has the numbers of the places that are flagged for command k.
abbrev pub AreFlagsFor : Book → ℕ → List ℕ → Type 0
AreFlagsFor b k set = (q : ℕ) (y : Place) → place_at b.program q ≡ Some y → IsTrue (has_place set q) ↔ IsFlagged (setting b) k y

-- Command k is asked, and isn't refused.
pub record IsUnderWay (b : Book) (k : ℕ) : Type 0 where
  pub asked : Control.asked (front b).control ≡ Some k
  pub not_refused : refusal (setting b) (front b).control k ≡ None

-- The set has the places that are flagged for the command that is asked, and none where none is. Where the command is to be refused no thread asks.
pub record AreFlags (b : Book) (set : List ℕ) : Type 0 where
  pub up : (k : ℕ) → IsUnderWay b k → AreFlagsFor b k set
  pub down : Control.asked (front b).control ≡ None → AreNoPlaces set

-- A place is flagged now.
pub record IsFlaggedNow (b : Book) (y : Place) : Type 0 where
  pub command : ℕ
  pub under_way : IsUnderWay b command
  pub flagged : IsFlagged (setting b) command y

-- the set of the command of a number, from 1, where it puts a filter in
abbrev pub flags_at : List (Option (List ℕ)) → ℕ → Option (List ℕ)
flags_at sets zero = None
flags_at sets (suc n) = option_flatten (slice_get sets n)

-- Each command that puts a filter in has the set of its flags, and there are a set of all places and one of none.
pub record HasFlagSets (b : Book) (sets : List (Option (List ℕ))) (every empty : List ℕ) : Type 0 where
  pub each : (k : ℕ) (set : List ℕ) → flags_at sets k ≡ Some set → AreFlagsFor b k set
  pub there : (k : ℕ) (c : Command) (f : Plan) → command_at b.commands k ≡ Some c → c.action ≡ install (means f) → (set : List ℕ) × (flags_at sets k ≡ Some set)
  pub all : AreAllPlaces b.program every
  pub none : AreNoPlaces empty
