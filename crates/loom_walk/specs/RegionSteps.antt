-- What the calls that go through notes of regions do to them.
use Rattle.std.specs.Prelude.{ℕ, ◌≡◌, ◌==◌, Bool, false, not, ◌&&◌, ◌||◌, List, Option, Some, None, if◌then◌else◌}
use Rattle.std.specs.List.{AllByRecursion, AllZip, filter, list_any}
use Rattle.loom_law.specs.Filter.{Plan}
use Rattle.loom_law.specs.Walk.{Inside, is_left_with, is_inside_clause}
use Rattle.loom_plan.specs.declared.sets.RegionSet.{RegionSet}
use Rattle.loom_plan.specs.Operations.{insides}
use Rattle.loom_walk.specs.declared.region_notes.RegionNote.{RegionNote}
use Rattle.loom_walk.specs.Notes.{insides_at}

-- the notes are all of the frame of this depth; none is
abbrev pub AreOfFrame : ℕ → List RegionNote → Type 0
AreOfFrame d notes = AllByRecursion (λ (n : RegionNote). n.depth ≡ d) notes

abbrev pub AreOfOthers : ℕ → List RegionNote → Type 0
AreOfOthers d notes = AllByRecursion (λ (n : RegionNote). (n.depth == d) ≡ false) notes

-- a note of filter k for that frame
abbrev pub IsNoteOf : ℕ → ℕ → Option RegionNote → Type 0
IsNoteOf d k None = ⊥
IsNoteOf d k (Some n) = (n.depth ≡ d) × (n.filter ≡ k)

-- the new notes have these regions of filter k, for the frame of depth d, beside those of the old ones
abbrev pub HasMore : ℕ → ℕ → RegionSet → List RegionNote → List RegionNote → Type 0
HasMore d k rs old new = (test : Inside → Bool) (g : Plan) (e j : ℕ)
    → list_any test (insides_at g new e j) ≡ ((((d == e) && (k == j)) && list_any test (insides g j rs)) || list_any test (insides_at g old e j))

-- a region that isn't left with these events of filter k
abbrev pub is_staying_with : ℕ → List ℕ → Inside → Bool
is_staying_with k ns i = not (is_left_with k ns i)

-- what is left of regions of filter k behind these events, where they are those of a frame of depth e, and the top frame has depth d
abbrev pub insides_behind : ℕ → ℕ → List ℕ → ℕ → List Inside → List Inside
insides_behind k d ns e is = if e == d then filter (is_staying_with k ns) is else is

-- one of the note's regions is of filter k and of clause m, behind these events
abbrev pub is_inside_behind : Plan → ℕ → ℕ → List ℕ → ℕ → RegionNote → Bool
is_inside_behind f k d ns m n = (n.filter == k) && is_inside_clause (insides_behind k d ns n.depth (insides f k n.regions)) k m

-- The new note is the old one behind these events: f is what filter k is.
pub record IsNoteBehind (f : Plan) (k d : ℕ) (ns : List ℕ) (old new : RegionNote) : Type 0 where
  pub depth : new.depth ≡ old.depth
  pub filter : new.filter ≡ old.filter
  pub regions : (j : ℕ) (g : Plan) → old.filter ≡ j → (j ≡ k → g ≡ f) → insides g j new.regions ≡ insides_behind k d ns old.depth (insides g j old.regions)

abbrev pub AreNotesBehind : Plan → ℕ → ℕ → List ℕ → List RegionNote → List RegionNote → Type 0
AreNotesBehind f k d ns old new = AllZip (IsNoteBehind f k d ns) old new
