-- What lies inside regions.
use Rattle.std.specs.Prelude.{ℕ, suc, ◌≡◌, ◌<◌, ◌≤◌, ◌⊎◌, ◌↔◌, IsTrue, ◌==◌, not, Bool, true, false, ◌&&◌, ◌||◌, List, [], ◌∷◌, length, Some}
use Rattle.std.specs.List.{Contains}
use Rattle.loom_trace.specs.Places.{has_place}
use Rattle.loom_tree.specs.Tree.{Source}
use Rattle.loom_lang.specs.Places.{Place, entry, place_at}
use Rattle.loom_command.specs.FilterFault.{most_events}
use Rattle.loom_law.specs.Filter.{Range, between, whole, Plan, has, entry_events}
use Rattle.loom_law.specs.Paths.{Node, places_of, node_places}
use Rattle.loom_law.specs.FilterRefusal.{ComesInside, IsWholeOf, LiesIn, CallsFrom, BeginsInside}
use Rattle.loom_plan.specs.Sets.{event_numbers}
use Rattle.loom_sites.specs.declared.links.PlaceLinks.{PlaceLinks}
use Rattle.loom_sites.specs.declared.reach.NodeSet.{NodeSet}
use Rattle.loom_sites.specs.declared.area.AreaContents.{AreaContents}
use Rattle.loom_sites.specs.declared.area.Area.{Area}
use Rattle.loom_sites.specs.Links.{is_entry, is_turn}
use Rattle.loom_sites.specs.Rows.{RowTest, meets_at}
use Rattle.loom_sites.specs.Functions.{has_function}
use Rattle.loom_sites.specs.Events.{watched_at}

-- tests of places

-- a node of the set has the place
abbrev pub has_its_node : NodeSet → RowTest
has_its_node r k row = has_place r.starts k || has_place r.completions k

-- a loop turns there in the set
abbrev pub turns_there : NodeSet → RowTest
turns_there r k row = has_place r.starts k && is_turn row.kind

-- the place is one of a node of the set
abbrev pub is_shown : NodeSet → List PlaceLinks → ℕ → Bool
is_shown r rows k = meets_at (has_its_node r) rows k || meets_at (turns_there r) rows (suc k)

-- event n begins there, at one of these places or in one of these functions
abbrev pub has_inside : Source → Plan → List ℕ → ℕ → ℕ → RowTest
has_inside p f places calls n k row = (has_place places k || has_function calls row.function) && has (watched_at p f k) n

-- it is one of the function, but not its entry place
abbrev pub is_own : ℕ → RowTest
is_own g k row = (row.function == g) && not (is_entry row.kind)

-- What is told of a region

-- its own places: those of the nodes inside, and those of its function but the entry place
abbrev pub IsOwnPlace : Source → Plan → Range → Place → Type 0
IsOwnPlace p f (between es xs) y = (g : ℕ) × ((node : Node) × (ComesInside p f es xs g node × Contains (node_places g node) y))
IsOwnPlace p f (whole n) y = (g : ℕ) × (IsWholeOf f n g × (Contains (places_of p g) y × (y ≡ entry g → ⊥)))

abbrev pub IsOwnNumber : Source → Plan → Range → ℕ → Type 0
IsOwnNumber p f r k = (y : Place) × ((place_at p k ≡ Some y) × IsOwnPlace p f r y)

pub record TellsContents (p : Source) (f : Plan) (r : Range) (x : AreaContents) : Type 0 where
  pub functions : (g : ℕ) → g < length p.funcs → IsTrue (has_function x.functions g) ↔ LiesIn p f r g
  pub within : (g : ℕ) → has_function x.functions g ≡ true → g < length p.funcs
  pub calls : (g : ℕ) → IsTrue (has_function x.calls g) ↔ CallsFrom p f r g
  pub events : (n : ℕ) → IsTrue (has (event_numbers x.events) n) ↔ BeginsInside p f r n

-- events that a set can have
abbrev pub IsEventNumber : ℕ → Type 0
IsEventNumber n = (0 < n) × (n ≤ most_events)

pub record TellsArea (p : Source) (f : Plan) (c : ℕ) (r : Range) (x : Area) : Type 0 where
  pub clause : x.clause ≡ c
  pub entries : (n : ℕ) → IsEventNumber n → IsTrue (has (event_numbers x.entries) n) ↔ Contains (entry_events r) n
  pub contents : TellsContents p f r x.contents

-- one for each region
abbrev pub AreAreas : Source → Plan → List (ℕ × Range) → List Area → Type 0
AreAreas p f [] [] = Unit {0}
AreAreas p f (r ∷ rs) (x ∷ xs) = TellsArea p f r.0 r.1 x × AreAreas p f rs xs
AreAreas p f _ _ = ⊥

-- The places were those, and are with the own ones of these regions.
abbrev pub IsOwnAmong : Source → Plan → List (ℕ × Range) → ℕ → Type 0
IsOwnAmong p f [] k = ⊥
IsOwnAmong p f (r ∷ rs) k = IsOwnNumber p f r.1 k ⊎ IsOwnAmong p f rs k

abbrev pub AreWith : (ℕ → Type 0) → List ℕ → List ℕ → Type 0
AreWith P old new = (k : ℕ) → IsTrue (has_place new k) ↔ ((has_place old k ≡ true) ⊎ P k)

-- calls inside one of these reach the function
abbrev pub any_calls : List Area → ℕ → Bool
any_calls [] g = false
any_calls (x ∷ xs) g = has_function x.contents.calls g || any_calls xs g
