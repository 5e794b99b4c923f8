-- A private run of a thread: what it comes to.
use Rattle.std.specs.Prelude.{ℕ, ◌≡◌, ◌<◌, ◌⊎◌, Bool, true, false, List, [], ◌∷◌, length, option_map, Option, Some}
use Rattle.loom_tree.specs.Tree.{Source}
use Rattle.loom_lang.specs.Places.{place_at, line_of_place}
use Rattle.loom_flow.specs.Flow.{Flow}
use Rattle.loom_flow.specs.Progress.{ends, progress}
use Rattle.loom_trace.specs.Places.{has_place}
use Rattle.loom_trace.specs.declared.request.Request.{Request}
use Rattle.loom_trace.specs.declared.request.Request.TheVariants as r
use Rattle.loom_law.specs.Walk.{Version, PartStep, Queue, request_place}
use Rattle.loom_law.specs.ThreadPart.{Own, walk_of}
use Rattle.loom_plan.specs.Compiled.{Compiled}
use Rattle.loom_version.specs.Plans.{plans_in}
use Rattle.loom_walk.specs.FilterWalk.{FilterWalk, KeepsRoom}
use Rattle.loom_walk.specs.Owed.{queue}
use Rattle.loom_strand.specs.declared.execution.Execution.{Execution}
use Rattle.loom_strand.specs.declared.stage.Birth.{Birth}
use Rattle.loom_strand.specs.declared.stage.Stage.{Stage}
use Rattle.loom_strand.specs.declared.stage.Stage.TheVariants as stage
use Rattle.loom_strand.specs.declared.stage.Want.{Want}
use Rattle.loom_strand.specs.declared.stage.Want.TheVariants as want
use Rattle.loom_strand.specs.declared.step_result.Stop.{Stop}
use Rattle.loom_strand.specs.declared.step_result.Stop.TheVariants as stop
use Rattle.loom_strand.specs.declared.machine.Phase.TheVariants as phase
use Rattle.loom_strand.specs.Machine.{Machine, blank, position}
use Rattle.loom_strand.specs.PositionRequest.{request_at}
use Rattle.loom_strand.specs.StepResult.{place_here, place_coming}
use Rattle.loom_strand.specs.Halt.{PassesNext, StopsBefore, IsHalting}
use Rattle.loom_strand.specs.Life.{asks_cross}
use Rattle.loom_strand.specs.Way.{Look, end_line, next_step}
use Rattle.loom_strand.specs.InPart.{IsInPart, IsSomewhere, GoesOn}
use Rattle.loom_strand.specs.StrandInvariant.{IsSoundPosition, IsInOwn, HasRoom, operation_request, IsAsked}

-- The machine is at a position of the code, with room.
pub record IsRunning (c : Flow) (m : Machine) : Type 0 where
  pub sound : IsSoundPosition c (position m)
  pub own : IsInOwn c (position m)
  pub room : HasRoom c m

-- A thread that has begun and hasn't ended can go on: before its first frame the machine is as it was made, and nothing is owed.
abbrev pub MayRunFrom : Flow → Birth → Stage → Machine → FilterWalk → Type 0
MayRunFrom c b stage.Waits m w = ⊥
MayRunFrom c b stage.Enters m w = (b.func < length c.entrances) × (HasRoom c m × (((m.state ≡ blank) × (m.phase ≡ phase.Before)) × (queue w.owed ≡ [])))
MayRunFrom c b stage.Runs m w = IsRunning c m
MayRunFrom c b stage.Over m w = ⊥

abbrev pub MayRun : Flow → Birth → Execution → Type 0
MayRun c b e = MayRunFrom c b e.stage e.machine e.walk

-- The next step of the machine passes no flagged place, and none before which a newer version is to be taken.
abbrev pub IsFreeStep : Flow → List ℕ → Bool → Machine → Type 0
IsFreeStep c flags newer m = (k : ℕ) → place_coming c (place_here c (position m)) (progress c (position m)) ≡ Some k → (has_place flags k ≡ false) × (newer ≡ false)

-- why a run stops, where the thread's function has this line: `newer` where a newer version is to be taken
abbrev pub Stops : Flow → Birth → List ℕ → Bool → Execution → Stop → Type 0
Stops c b flags newer e (stop.Asks q) = (queue e.walk.owed ≡ []) × ((e.stage ≡ stage.Runs) × ((line : ℕ) → request_at line (progress c (position e.machine)) ≡ Some q))
Stops c b flags newer e stop.Ends = (queue e.walk.owed ≡ []) × ((e.stage ≡ stage.Runs) × (progress c (position e.machine) ≡ ends))
Stops c b flags newer e stop.Owes = queue e.walk.owed ≡ [] → ⊥
Stops c b flags newer e (stop.Crosses k) = (queue e.walk.owed ≡ []) × (PassesNext c b e k × ((newer ≡ true) × (has_place flags k ≡ false)))
Stops c b flags newer e (stop.Flagged k) = (queue e.walk.owed ≡ []) × (PassesNext c b e k × (has_place flags k ≡ true))

-- The thread went on, past no flagged place, and stopped. Where a newer version is to be taken it passed no place.
pub record Runs (c : Flow) (cs : List (Option Compiled)) (b : Birth) (flags : List ℕ) (newer : Bool) (old new : Execution) (x : Stop) : Type 0 where
  pub gone : GoesOn c cs b flags old new
  pub may : MayRun c b new
  pub notes : KeepsRoom old.walk new.walk
  pub stops : Stops c b flags newer new x
  -- where it can't go on, or isn't to, it stays
  pub still : IsHalting c old → new ≡ old
  pub waits : (k : ℕ) → StopsBefore c b flags newer old k → new ≡ old
  pub first : newer ≡ true → new.walk.passed ≡ old.walk.passed

-- It passed the entry place of its first frame.
pub record EntersFirst (c : Flow) (cs : List (Option Compiled)) (b : Birth) (flags : List ℕ) (newer : Bool) (old new : Execution) : Type 0 where
  pub gone : GoesOn c cs b flags old new
  pub running : IsRunning c new.machine
  pub stage : new.stage ≡ stage.Runs
  pub notes : KeepsRoom old.walk new.walk
  pub none_newer : newer ≡ false
  -- it wasn't to stop there
  pub free : (k : ℕ) → StopsBefore c b flags newer old k → ⊥

-- The thread stopped somewhere in its part, for this reason.
pub record HasStopped (c : Flow) (b : Birth) (newer : Bool) (e : Execution) (x : Stop) : Type 0 where
  pub filters : List (Option Compiled)
  pub flags : List ℕ
  pub somewhere : IsSomewhere c filters b e
  pub may : MayRun c b e
  pub stops : Stops c b flags newer e x

-- the line of the place of this number
abbrev pub IsLineAt : Source → ℕ → ℕ → Type 0
IsLineAt p k l = option_map (line_of_place p) (place_at p k) ≡ Some l

-- the request for what is owed first
abbrev pub IsFirstRequest : Queue → Request → Type 0
IsFirstRequest [] q = ⊥
IsFirstRequest (x ∷ xs) q = operation_request x.0 x.1 ≡ Some q

-- What a thread asks for where it stopped, and a newer version where there is one; or it stands at a flagged place.
abbrev pub Halts : Flow → List (Option Compiled) → Birth → List ℕ → Bool → Version → Execution → Want → Type 0
Halts c cs b flags newer v e (want.Ask q) =
    ((x : Own) (look : Look) (steps : List PartStep) → IsInPart c cs b x e look steps
    → IsAsked c.program (walk_of c.program (plans_in cs) x steps) (next_step c b e.stage e.machine) (end_line c.program b.func) e.place v q)
    × (asks_cross q ≡ newer)
Halts c cs b flags newer v e (want.Place k) = (queue e.walk.owed ≡ []) × (PassesNext c b e k × ((has_place flags k ≡ true) × (e.place ≡ k)))
Halts c cs b flags newer v e want.Ended = ⊥

-- Where it asks for something, its next step passes no flagged place.
abbrev pub AsksFree : Flow → Birth → List ℕ → Execution → Want → Type 0
AsksFree c b flags e (want.Ask q) = (k : ℕ) → queue e.walk.owed ≡ [] → PassesNext c b e k → has_place flags k ≡ false
AsksFree c b flags e _ = Unit {0}

-- Whatever led it to where it was leads to where it is.
abbrev pub KeepsWay : Flow → List (Option Compiled) → Birth → Execution → Execution → Type 0
KeepsWay c cs b old new = (x : Own) (look : Look) (steps : List PartStep) → IsInPart c cs b x old look steps → IsInPart c cs b x new look steps

-- It went on nowhere: only its place is told anew.
pub record StandsStill (c : Flow) (cs : List (Option Compiled)) (b : Birth) (old new : Execution) : Type 0 where
  pub same : new ≡ record old { place = new.place }
  pub keeps : KeepsWay c cs b old new

-- Where it can't go on, and stands at the place of its request already, it stays as it is.
abbrev pub StaysAtRequest : Flow → List (Option Compiled) → Birth → Execution → Execution → Type 0
StaysAtRequest c cs b old new = IsHalting c old → (x : Own) (look : Look) (steps : List PartStep) → IsInPart c cs b x old look steps
    → place_at c.program old.place ≡ Some (request_place (walk_of c.program (plans_in cs) x steps)) → new ≡ old

-- Before a place that is flagged, or before which a newer version is to be taken, only its place is told anew, as that one.
abbrev pub StaysBefore : Flow → Birth → List ℕ → Bool → Execution → Execution → Type 0
StaysBefore c b flags newer old new = (k : ℕ) → StopsBefore c b flags newer old k → new ≡ record old { place = k }

-- What comes of a stop.
pub record ComesOf (c : Flow) (cs : List (Option Compiled)) (b : Birth) (flags : List ℕ) (newer : Bool) (v : Version) (old new : Execution) (x : Want) : Type 0 where
  pub keeps : KeepsWay c cs b old new
  pub halts : Halts c cs b flags newer v new x
  pub free : AsksFree c b flags new x
  pub stands : StaysAtRequest c cs b old new
  pub stays : StaysBefore c b flags newer old new

-- It went on, and halts.
pub record GoesToHalt (c : Flow) (cs : List (Option Compiled)) (b : Birth) (flags : List ℕ) (newer : Bool) (v : Version) (old new : Execution) (x : Want) : Type 0 where
  pub unblocked : old.walk.is_blocked ≡ true → has_place flags old.place ≡ false
  pub gone : GoesOn c cs b flags old new
  pub may : MayRun c b new
  pub notes : KeepsRoom old.walk new.walk
  pub first : newer ≡ true → new.walk.passed ≡ old.walk.passed
  -- where it can't go on, or isn't to, it stays
  pub still : IsHalting c old → StandsStill c cs b old new
  pub waits : (k : ℕ) → StopsBefore c b flags newer old k → StandsStill c cs b old new
  pub stands : StaysAtRequest c cs b old new
  pub stays : StaysBefore c b flags newer old new
  pub halts : Halts c cs b flags newer v new x
  pub free : AsksFree c b flags new x

-- It is blocked at a flagged place, and stays there.
pub record StaysBlocked (flags : List ℕ) (old new : Execution) (x : Want) : Type 0 where
  pub blocked : old.walk.is_blocked ≡ true
  pub flagged : has_place flags old.place ≡ true
  pub same : new ≡ old
  pub place : x ≡ want.Place old.place

-- What a private run comes to, by how far the thread was.
abbrev pub RunsFrom : Stage → Flow → List (Option Compiled) → Birth → List ℕ → Bool → Version → Execution → Execution → Want → Type 0
RunsFrom stage.Waits c cs b flags newer v old new x = (new ≡ old) × (x ≡ want.Ask (r.Begin (end_line c.program b.func)))
RunsFrom stage.Over c cs b flags newer v old new x = (new ≡ old) × (x ≡ want.Ended)
RunsFrom _ c cs b flags newer v old new x = StaysBlocked flags old new x ⊎ GoesToHalt c cs b flags newer v old new x

-- A thread that lives is somewhere in its part, and stands at a place of the program.
abbrev pub MayHaltFrom : Stage → Flow → List (Option Compiled) → Birth → Execution → Type 0
MayHaltFrom stage.Waits c cs b e = Unit {0}
MayHaltFrom stage.Over c cs b e = Unit {0}
MayHaltFrom _ c cs b e = MayRun c b e × (IsSomewhere c cs b e × (e.place < length c.sites))

abbrev pub MayHalt : Flow → List (Option Compiled) → Birth → Execution → Type 0
MayHalt c cs b e = MayHaltFrom e.stage c cs b e
