-- What filters make a thread do, beside its instructions: a small copy of the walk of its part.
use Rattle.std.specs.Prelude.{ℕ, suc, ◌≡◌, ◌≤◌, Bool, false, List, [], ◌∷◌, ◌++◌, length, ℤ, Option, Some, None}
use Rattle.std.specs.List.{AllByRecursion, filter}
use Rattle.loom_tree.specs.Tree.{Source}
use Rattle.loom_lang.specs.Places.{Place, place_at}
use Rattle.loom_lang.specs.Places as place
use Rattle.loom_lang.specs.Trace.{Act, begin, trap}
use Rattle.loom_flow.specs.State.{named}
use Rattle.loom_law.specs.Filter.{has}
use Rattle.loom_law.specs.Walk.{Version, Plans, Operation, wait, post, back, tick, OpenFrame, Spot, beginning, entered, complete, left, trapped, elsewhere, Queue, Walk, function_line, new_filters}
use Rattle.loom_law.specs.Control.{Control, first_control}
use Rattle.loom_plan.specs.Compiled.{Compiled}
use Rattle.loom_plan.specs.PlaceEvents.{names_at}
use Rattle.loom_walk.specs.declared.spot.Spot.{Spot as ShortSpot}
use Rattle.loom_walk.specs.declared.spot.Spot.TheVariants as s
use Rattle.loom_walk.specs.declared.clause_rows.ClauseRow.{ClauseRow}
use Rattle.loom_walk.specs.declared.event_notes.EventNote.{EventNote}
use Rattle.loom_walk.specs.declared.region_notes.RegionNote.{RegionNote}
use Rattle.loom_walk.specs.declared.owed.OwedOperation.{OwedOperation}
use Rattle.loom_walk.specs.Owed.{Owed, queue, HasOperations, filters_owed, operation_of}
use Rattle.loom_walk.specs.ClauseRows.{filters_of, AreHoldings}
use Rattle.loom_walk.specs.Notes.{IsTopStatement, AreEventNotes, AreRegionNotes, HaveDepths, AreOfFilters}
use Rattle.loom_walk.specs.Growth.{HaveNoMore, AreThere}

pub record FilterWalk : Type 0 where
  -- the version that the thread has
  pub version : Version
  pub clauses : List ClauseRow
  pub events : List EventNote
  pub regions : List RegionNote
  pub spot : ShortSpot
  pub owed : Owed
  -- how many entry and back-edge places were passed since the last entry
  pub passed : ℕ
  pub is_blocked : Bool
  -- how many frames are open
  pub depth : ℕ
  -- how many events, and how many regions, there is room to note
  pub room : ℕ

-- of a thread that hasn't begun
abbrev pub first_walk : ℕ → FilterWalk
first_walk room = record {
  version = Control.version first_control;
  clauses = [];
  events = [];
  regions = [];
  spot = s.Elsewhere;
  owed = record { line = 0; tick = None; back = false; rows = [] };
  passed = 0;
  is_blocked = false;
  depth = 0;
  room = room;
}

-- the same spot, by places and lines alone
abbrev pub IsSpot : Source → ShortSpot → Spot → Type 0
IsSpot p s.Elsewhere elsewhere = Unit {0}
IsSpot p (s.Beginning line at) (beginning l env) = (line ≡ l) × (place_at p at ≡ Some (place.inside l))
IsSpot p (s.Entered at) (entered f env) = place_at p at ≡ Some (place.entry f)
IsSpot p (s.Complete line) (complete l) = line ≡ l
IsSpot p (s.Left func) (left f is) = func ≡ f
IsSpot p (s.Trapped line) (trapped l) = line ≡ l
IsSpot p _ _ = ⊥

-- A statement that has begun is the innermost open one.
abbrev pub IsOnTop : Spot → List OpenFrame → Type 0
IsOnTop (beginning l env) fs = IsTopStatement l fs
IsOnTop _ fs = Unit {0}

-- the place of a beginning
abbrev pub begin_place : ShortSpot → Option ℕ
begin_place (s.Beginning line at) = Some at
begin_place (s.Entered at) = Some at
begin_place _ = None

-- and the line of a statement that has begun
abbrev pub beginning_line : ShortSpot → Option ℕ
beginning_line (s.Beginning line at) = Some line
beginning_line _ = None

-- At a beginning it is owed on the line of the statement, or of the `fn` of the function.
abbrev pub IsOwedLine : Source → ShortSpot → ℕ → Type 0
IsOwedLine p (s.Beginning line at) l = l ≡ line
IsOwedLine p (s.Entered at) l = (f : ℕ) → place_at p at ≡ Some (place.entry f) → l ≡ function_line p f
IsOwedLine p _ l = Unit {0}

-- The thread is there in the walk of its part, but for the versions that it is still to take.
pub record IsAt (p : Source) (plans : Plans) (w : FilterWalk) (z : Walk) : Type 0 where
  pub active : z.active ≡ w.version.active
  pub holdings : AreHoldings w.clauses z.held
  pub depth : length z.frames ≡ w.depth
  pub events : AreEventNotes w.events z.frames
  pub regions : AreRegionNotes plans w.regions z.frames
  pub spot : IsSpot p w.spot z.spot
  pub top : IsOnTop z.spot z.frames
  pub line : IsOwedLine p w.spot w.owed.line
  pub owed : z.owed ≡ queue w.owed
  pub passed : length z.passed ≡ w.passed
  pub blocked : z.is_blocked ≡ w.is_blocked

-- What it keeps between its calls: it has a row of clauses for each filter of its version, what is owed is of those filters, one row of each at most,
-- and regions are noted in the order of the frames, for those filters alone.
pub record KeepsRows (w : FilterWalk) : Type 0 where
  pub filters : filters_of w.clauses ≡ w.version.active
  pub owed : AllByRecursion HasOperations w.owed.rows
  pub own_owed : HaveNoMore (filters_owed w.owed.rows) w.version.active
  pub depths : HaveDepths 1 w.depth w.regions
  pub own : AreOfFilters w.version.active w.regions
  pub few_events : length w.events ≤ w.room
  pub few_regions : length w.regions ≤ w.room

-- So it is, and there is the same room for regions as for events.
pub record KeepsWalk (w : FilterWalk) (room : ℕ) : Type 0 where
  pub rows : KeepsRows w
  pub regions : room ≡ w.room

-- Each filter of the version is there, in this program.
pub record HasFilters (p : Source) (cs : List (Option Compiled)) (v : Version) : Type 0 where
  pub all : AreThere p cs v.active

-- These are the locals where the walk is: at a beginning, or where a frame begins. Elsewhere they are of no account.
abbrev pub HasLocalsAt : Source → ShortSpot → List ℤ → Spot → Type 0
HasLocalsAt p (s.Beginning line at) vs (beginning l env) = env ≡ named (names_at p at) vs
HasLocalsAt p (s.Entered at) vs (entered f env) = env ≡ named (names_at p at) vs
HasLocalsAt p _ vs _ = Unit {0}

-- There is the same room, and no more is noted than before.
pub record KeepsRoom (old new : FilterWalk) : Type 0 where
  pub room : new.room ≡ old.room
  pub events : length new.events ≤ length old.events
  pub regions : length new.regions ≤ length old.regions

-- One more event and one more region are noted at most.
pub record NotesOneMore (old new : FilterWalk) : Type 0 where
  pub room : new.room ≡ old.room
  pub events : length new.events ≤ suc (length old.events)
  pub regions : length new.regions ≤ suc (length old.regions)

-- An entry that a thread's own instruction asks for is neither its begin nor a trap.
abbrev pub IsInstructionAct : Act → Type 0
IsInstructionAct begin = ⊥
IsInstructionAct (trap c) = ⊥
IsInstructionAct _ = Unit {0}

-- These operations change nothing but that they are made.
abbrev pub IsOnlyMade : Operation → Type 0
IsOnlyMade (wait k n) = Unit {0}
IsOnlyMade (post k n) = Unit {0}
IsOnlyMade (tick x) = Unit {0}
IsOnlyMade back = Unit {0}
IsOnlyMade _ = ⊥

-- the first operation of a queue
abbrev pub IsFirstOperation : Queue → Option OwedOperation → Type 0
IsFirstOperation [] None = Unit {0}
IsFirstOperation (x ∷ xs) (Some y) = x.1 ≡ operation_of y
IsFirstOperation _ _ = ⊥

-- The new filters of a version stand behind those that stay.
abbrev pub HasNewBehind : List ℕ → List ℕ → Type 0
HasNewBehind old ks = ks ≡ filter (has ks) old ++ new_filters old ks
