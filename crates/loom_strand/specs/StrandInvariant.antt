-- What a thread keeps between its calls.
use Rattle.std.specs.Prelude.{ℕ, suc, ◌≡◌, ◌≤◌, ◌<◌, ◌⊎◌, true, false, List, [], ◌∷◌, length, Option, Some, None}
use Rattle.loom_tree.specs.Tree.{Source}
use Rattle.loom_lang.specs.Rules.{KeepsRules}
use Rattle.loom_lang.specs.Places.{Place, place_at, line_of_place}
use Rattle.loom_flow.specs.Flow.{Flow}
use Rattle.loom_flow.specs.State.{Frame, State}
use Rattle.loom_flow.specs.Position.{Position, before, leaves, over}
use Rattle.loom_flow.specs.Progress.{Progress}
use Rattle.loom_flow.specs.FlatCode.{lowered}
use Rattle.loom_flow.specs.Depth.{depth_before, most_values}
use Rattle.loom_flow.specs.Laws.{IsInFunction}
use Rattle.loom_trace.specs.declared.request.Request.{Request}
use Rattle.loom_trace.specs.declared.request.Request.TheVariants as r
use Rattle.loom_event.specs.Answer.{IsFunctionWith}
use Rattle.loom_law.specs.Walk.{Version, Operation, wait, enters, at, past, post, leave, back, tick, PartStep, Walk, request_place, Owes}
use Rattle.loom_law.specs.ThreadPart.{walk_of, IsPart}
use Rattle.loom_law.specs.TurnLaws.{ends_blocked}
use Rattle.loom_version.specs.Version.{version_limit}
use Rattle.loom_walk.specs.Owed.{queue}
use Rattle.loom_walk.specs.FilterWalk.{first_walk}
use Rattle.loom_strand.specs.declared.stage.Birth.{Birth}
use Rattle.loom_strand.specs.declared.stage.Stage.{Stage}
use Rattle.loom_strand.specs.declared.stage.Stage.TheVariants as stage
use Rattle.loom_strand.specs.declared.machine.Phase.TheVariants as phase
use Rattle.loom_strand.specs.Machine.{Machine, HasCall, position, blank, frames_below}
use Rattle.loom_strand.specs.PositionRequest.{request_at}
use Rattle.loom_strand.specs.Life.{has_none, has_ended, awaits_end, asks_cross, IsLastBlockedAt}
use Rattle.loom_strand.specs.Way.{Look, looks_for_grant, IsJoining, end_line, next_step, IsPlaceAhead}
use Rattle.loom_strand.specs.declared.execution.Execution.{Execution}
use Rattle.loom_strand.specs.Halt.{IsHalting}
use Rattle.loom_strand.specs.InPart.{IsInPart}
use Rattle.loom_strand.specs.Strand.{Strand, own_of, plans, CanTake, IsOutrun, IsWholePart}

-- The machine

-- A frame that waits goes on inside the code, with the one value that it waits for.
pub record GoesOnIn (c : Flow) (f : Frame) : Type 0 where
  pub call : HasCall c.sites f.site
  pub inside : call.at < length c.code
  pub values : depth_before c call.at ≡ Some 1

abbrev pub AllGoOn : Flow → List Frame → Type 0
AllGoOn c [] = Unit {0}
AllGoOn c (f ∷ fs) = GoesOnIn c f × AllGoOn c fs

pub record HasFrames (c : Flow) (fs : List Frame) : Type 0 where
  pub few : length fs ≤ frames_below
  pub go_on : AllGoOn c fs

-- Before an instruction of the code as many values wait as are foreseen there.
pub record IsBefore (c : Flow) (z : State) : Type 0 where
  pub inside : z.at < length c.code
  pub values : depth_before c z.at ≡ Some (length z.values)
  pub frames : HasFrames c z.below

-- Where a frame is to end no value waits.
pub record IsLeaving (c : Flow) (z : State) : Type 0 where
  pub values : length z.values ≡ 0
  pub frames : HasFrames c z.below

abbrev pub IsSoundPosition : Flow → Position → Type 0
IsSoundPosition c (before z) = IsBefore c z
IsSoundPosition c (leaves z v) = IsLeaving c z
IsSoundPosition c over = Unit {0}

-- Each frame is in the code of its own function.

abbrev pub AllInOwn : Flow → List Frame → Type 0
AllInOwn c [] = Unit {0}
AllInOwn c (f ∷ fs) = ((call : HasCall c.sites f.site) → IsInFunction c f.func call.at) × AllInOwn c fs

abbrev pub IsInOwn : Flow → Position → Type 0
IsInOwn c (before z) = IsInFunction c z.func z.at × AllInOwn c z.below
IsInOwn c (leaves z v) = (z.func < length c.entrances) × AllInOwn c z.below
IsInOwn c over = Unit {0}

-- There is room for as many values as wait at most before an instruction, and for as many frames as there may be.
pub record HasRoom (c : Flow) (m : Machine) : Type 0 where
  pub values : m.most_values ≡ most_values c
  pub frames : m.most_frames ≡ frames_below

-- What is asked for

-- the request for an operation on this line, if a thread asks for it where it owes it
abbrev pub operation_request : ℕ → Operation → Option Request
operation_request l (wait k n) = Some (r.Wait l k n)
operation_request l (enters k c) = Some (r.Enter l k c)
operation_request l (at k ns) = Some (r.At l k ns)
operation_request l (past k ns) = Some (r.Past l k ns)
operation_request l (post k n) = Some (r.Post l k n)
operation_request l (leave k c) = Some (r.Leave l k c)
operation_request l back = Some (r.Back l)
operation_request l (tick x) = Some (r.Tick l x)
operation_request l _ = None

-- What comes next, where nothing is owed; what is owed first; or a newer version, directly before what comes next or what is owed.
pub data IsAsked (p : Source) (z : Walk) (w : Progress) (line k : ℕ) (newest : Version) (q : Request) : Type 0 where
  asks_act : z.owed ≡ [] → request_at line w ≡ Some q → place_at p k ≡ Some (request_place z) → IsAsked p z w line k newest q
  asks_owed : (l : ℕ) (o : Operation) → Owes z.owed l o → operation_request l o ≡ Some q → IsAsked p z w line k newest q
  asks_version : (x : Place) → IsPlaceAhead z.owed z w x → place_at p k ≡ Some x → q ≡ r.Cross (line_of_place p x) k newest.number (length z.passed) → IsAsked p z w line k newest q

abbrev pub AsksIfAny : Source → Walk → Progress → ℕ → ℕ → Version → Option Request → Type 0
AsksIfAny p z w line k newest None = Unit {0}
AsksIfAny p z w line k newest (Some q) = IsAsked p z w line k newest q

-- What is asked for was asked for with a version that may be taken.
abbrev pub MayTake : Strand → Option Request → Type 0
MayTake s None = Unit {0}
MayTake s (Some q) = CanTake s s.newest

-- Stages

-- only its begin, or nothing yet
abbrev pub AsksBegin : ℕ → Option Request → Type 0
AsksBegin line want = (want ≡ None) ⊎ (want ≡ Some (r.Begin line))

pub record WaitingInvariant (s : Strand) (b : Birth) : Type 0 where
  pub none : s.entries ≡ []
  pub versions : s.versions ≡ []
  pub function : IsFunctionWith s.program b.func b.args
  pub asks : AsksBegin (end_line s.program b.func) s.want
  pub place : s.execution.place ≡ 0

-- how many versions a thread can have taken, where this is the last one of them: the first of these is the n-th
abbrev pub HaveNumbersFrom : ℕ → List Version → Type 0
HaveNumbersFrom n [] = Unit {0}
HaveNumbersFrom n (v ∷ []) = n ≤ suc v.number
HaveNumbersFrom n (v ∷ u ∷ us) = HaveNumbersFrom (suc n) (u ∷ us)

abbrev pub HaveNumbers : List Version → Type 0
HaveNumbers vs = HaveNumbersFrom 1 vs

-- It asks for a newer version exactly where there is one.
abbrev pub CrossesIfAny : List Version → Version → Option Request → Type 0
CrossesIfAny vs v None = Unit {0}
CrossesIfAny vs v (Some q) = (asks_cross q ≡ true → IsOutrun vs v) × (IsOutrun vs v → asks_cross q ≡ true)

-- A thread that was told that its request is disabled stands at the place of the request, can't go on, and asks for that.
pub record IsWaiting (s : Strand) (b : Birth) (steps : List PartStep) : Type 0 where
  pub place : place_at s.program s.execution.place ≡ Some (request_place (walk_of s.program (plans s) (own_of s b) steps))
  pub halts : IsHalting (lowered s.program) s.execution
  pub asks : (k : ℕ) (v : Version) (q : Request)
      → IsAsked s.program (walk_of s.program (plans s) (own_of s b) steps) (next_step (lowered s.program) b s.execution.stage s.execution.machine) (end_line s.program b.func) k v q
      → asks_cross q ≡ false → IsLastBlockedAt s.thread q s.entries

pub record LivingInvariant (s : Strand) (b : Birth) : Type 0 where
  pub function : IsFunctionWith s.program b.func b.args
  pub look : Look
  pub steps : List PartStep
  pub there : IsInPart (lowered s.program) s.filters b (own_of s b) s.execution look steps
  pub joins : look ≡ looks_for_grant → (awaits_end s.entries ≡ true) × IsJoining (next_step (lowered s.program) b s.execution.stage s.execution.machine)
  pub part : IsPart s.program (plans s) (own_of s b)
  pub asks : AsksIfAny s.program (walk_of s.program (plans s) (own_of s b) steps) (next_step (lowered s.program) b s.execution.stage s.execution.machine) (end_line s.program b.func)
      s.execution.place s.newest s.want
  pub crosses : CrossesIfAny s.versions s.newest s.want
  pub blocked : s.execution.walk.is_blocked ≡ ends_blocked s.entries
  pub waits : ends_blocked s.entries ≡ true → IsWaiting s b steps
  -- its place is one of the program
  pub within : s.execution.place < length (Flow.sites (lowered s.program))
  pub begun : has_none s.entries ≡ false
  pub lives : has_ended s.entries ≡ false
  pub taken : HaveNumbers s.versions
  pub events : length (s.execution.walk.events) ≤ length s.entries
  pub regions : length (s.execution.walk.regions) ≤ length s.entries

pub record EndInvariant (s : Strand) (b : Birth) : Type 0 where
  pub function : IsFunctionWith s.program b.func b.args
  pub whole : IsWholePart s.program (plans s) (own_of s b)
  pub ended : has_ended s.entries ≡ true
  pub asks : s.want ≡ None

abbrev pub StageInvariant : Stage → Strand → Option Birth → Type 0
StageInvariant stage.Waits s None = (s.entries ≡ []) × ((s.versions ≡ []) × ((s.want ≡ None) × (s.execution.place ≡ 0)))
StageInvariant stage.Waits s (Some b) = WaitingInvariant s b
StageInvariant stage.Enters s (Some b) = LivingInvariant s b
StageInvariant stage.Runs s (Some b) = LivingInvariant s b
StageInvariant stage.Over s (Some b) = EndInvariant s b
StageInvariant _ s None = ⊥

-- The machine of a thread whose first frame hasn't begun is as it was made, and so is what filters make a thread do that hasn't begun.
abbrev pub IsBlank : Stage → Execution → Type 0
IsBlank stage.Waits e = ((e.machine.state ≡ blank) × (e.machine.phase ≡ phase.Before)) × (e.walk ≡ first_walk e.walk.room)
IsBlank stage.Enters e = ((e.machine.state ≡ blank) × (e.machine.phase ≡ phase.Before)) × (queue e.walk.owed ≡ [])
IsBlank _ e = Unit {0}

-- Where its frames run the machine is at a position of the code.
abbrev pub IsSound : Flow → Stage → Machine → Type 0
IsSound c stage.Runs m = IsSoundPosition c (position m) × IsInOwn c (position m)
IsSound c _ m = Unit {0}

pub record StrandInvariant (s : Strand) : Type 0 where
  pub lawful : KeepsRules s.program
  pub room : HasRoom (lowered s.program) s.execution.machine
  pub notes : s.execution.walk.room ≡ s.limit
  pub newest : s.newest.number ≤ version_limit
  pub blank : IsBlank s.execution.stage s.execution
  pub sound : IsSound (lowered s.program) s.execution.stage s.execution.machine
  pub stage : StageInvariant s.execution.stage s s.birth
  pub takes : MayTake s s.want

-- and it has room for as many versions as there may be
pub record KeepsRoomFor (room : ℕ) (s : Strand) : Type 0 where
  pub versions : room ≡ suc version_limit
  pub kept : StrandInvariant s
