-- What a thread notes of its open frames: the events that began with open statements, and the regions that it is inside.
use Rattle.std.specs.Prelude.{ℕ, suc, ◌≡◌, ◌==◌, ◌≤◌, Bool, true, false, ◌&&◌, List, [], ◌∷◌, ◌++◌, length, map, reverse, if◌then◌else◌}
use Rattle.std.specs.List.{AllByRecursion, filter, list_any}
use Rattle.loom_law.specs.Filter.{Plan, has}
use Rattle.loom_law.specs.Walk.{Plans, OpenStatement, OpenFrame, Inside}
use Rattle.loom_plan.specs.Sets.{event_numbers}
use Rattle.loom_plan.specs.Operations.{insides}
use Rattle.loom_walk.specs.declared.event_notes.EventNote.{EventNote}
use Rattle.loom_walk.specs.declared.region_notes.RegionNote.{RegionNote}

-- The innermost statement

-- the first of these statements, or the innermost one of the top frame, is that of this line
abbrev pub IsFirstStatement : ℕ → List OpenStatement → Type 0
IsFirstStatement l [] = ⊥
IsFirstStatement l (s ∷ ss) = s.line ≡ l

abbrev pub IsTopStatement : ℕ → List OpenFrame → Type 0
IsTopStatement l [] = ⊥
IsTopStatement l (x ∷ xs) = IsFirstStatement l x.statements

-- and it is the only one of them, or of those of the top frame
abbrev pub IsFirstAlone : ℕ → List OpenStatement → Type 0
IsFirstAlone l [] = ⊥
IsFirstAlone l (s ∷ ss) = (s.line ≡ l) × (has (map (λ (x : OpenStatement). x.line) ss) l ≡ false)

abbrev pub IsInnermost : ℕ → List OpenFrame → Type 0
IsInnermost l [] = ⊥
IsInnermost l (x ∷ xs) = IsFirstAlone l x.statements

-- Events

-- the notes of a thread, the newest one last, and how many there is room for
pub record EventNotes : Type 0 where
  pub notes : List EventNote
  pub room : ℕ

-- events of a filter that began with the statement of this line, in the frame of this depth: the first one of a thread has depth 1
pub record BegunEvents : Type 0 where
  pub depth : ℕ
  pub line : ℕ
  pub filter : ℕ
  pub events : List ℕ

abbrev pub begun_of : EventNote → BegunEvents
begun_of n = record { depth = n.depth; line = n.line; filter = n.filter; events = event_numbers n.events }

-- what these notes tell, the newest one first
abbrev pub begun_by : List EventNote → List BegunEvents
begun_by notes = map begun_of (reverse notes)

-- what began with a statement of this line, with the statements of a frame, and with those of all open frames

abbrev pub begun_with_statement : ℕ → ℕ → List (ℕ × List ℕ) → List BegunEvents
begun_with_statement d l [] = []
begun_with_statement d l (x ∷ xs) = record { depth = d; line = l; filter = x.0; events = x.1 } ∷ begun_with_statement d l xs

abbrev pub begun_in_frame : ℕ → List OpenStatement → List BegunEvents
begun_in_frame d [] = []
begun_in_frame d (s ∷ ss) = begun_with_statement d s.line s.events ++ begun_in_frame d ss

abbrev pub begun_in : List OpenFrame → List BegunEvents
begun_in [] = []
begun_in (x ∷ xs) = begun_in_frame (suc (length xs)) x.statements ++ begun_in xs

-- The notes tell of each open frame which events began with its open statements.
abbrev pub AreEventNotes : List EventNote → List OpenFrame → Type 0
AreEventNotes notes fs = begun_by notes ≡ begun_in fs

-- of the statement of this line in the frame of this depth, and of the frame
abbrev pub is_of_statement : ℕ → ℕ → BegunEvents → Bool
is_of_statement d l b = (b.depth == d) && (b.line == l)

abbrev pub is_of_frame : ℕ → BegunEvents → Bool
is_of_frame d b = b.depth == d

-- the first of them is of that statement
abbrev pub is_first_of : ℕ → ℕ → List BegunEvents → Bool
is_first_of d l [] = false
is_first_of d l (b ∷ bs) = is_of_statement d l b

-- the events of filter k in those at the front that are of that statement
abbrev pub events_of_statement : ℕ → ℕ → ℕ → List BegunEvents → List ℕ
events_of_statement d l k [] = []
events_of_statement d l k (b ∷ bs) = if is_of_statement d l b then (if b.filter == k then b.events else events_of_statement d l k bs) else []

-- what is behind those at the front that meet a test
abbrev pub behind_those : (BegunEvents → Bool) → List BegunEvents → List BegunEvents
behind_those test [] = []
behind_those test (b ∷ bs) = if test b then behind_those test bs else b ∷ bs

-- Regions

-- the notes of a thread, those of inner frames last, and how many there is room for
pub record RegionNotes : Type 0 where
  pub notes : List RegionNote
  pub room : ℕ

-- the regions of filter k that are noted for the frame of this depth
abbrev pub insides_at : Plan → List RegionNote → ℕ → ℕ → List Inside
insides_at f [] d k = []
insides_at f (n ∷ ns) d k =
    if (n.depth == d) && (n.filter == k) then insides f k n.regions ++ insides_at f ns d k else insides_at f ns d k

abbrev pub of_filter : ℕ → List Inside → List Inside
of_filter k is = filter (λ (i : Inside). i.filter == k) is

-- the same regions, in whichever order and however often they stand: each test finds one in both or in none
abbrev pub HaveSame : List Inside → List Inside → Type 0
HaveSame is js = (test : Inside → Bool) → list_any test is ≡ list_any test js

-- In each open frame, the innermost first, a thread is inside the regions that are noted for its depth.
abbrev pub AreRegionNotes : Plans → List RegionNote → List OpenFrame → Type 0
AreRegionNotes plans notes [] = Unit {0}
AreRegionNotes plans notes (x ∷ xs) =
    ((k : ℕ) → HaveSame (of_filter k x.inside) (insides_at (plans k) notes (suc (length xs)) k)) × AreRegionNotes plans notes xs

-- each note's depth is that of an open frame, and no note's is below that of the one before it
abbrev pub HaveDepths : ℕ → ℕ → List RegionNote → Type 0
HaveDepths from most [] = Unit {0}
HaveDepths from most (n ∷ ns) = ((from ≤ n.depth) × (n.depth ≤ most)) × HaveDepths n.depth most ns

-- all are regions of these filters
abbrev pub AreOfFilters : List ℕ → List RegionNote → Type 0
AreOfFilters ks notes = AllByRecursion (λ (n : RegionNote). has ks n.filter ≡ true) notes
