-- The machine of a thread: where the thread is, and for how much it has room.
use Rattle.std.specs.Prelude.{ℕ, suc, ◌+◌, ◌-◌, ◌^◌, ◌≡◌, ◌≤◌, ◌<◌, Bool, true, false, List, [], ◌∷◌, length, ℤ, pos, replicate, Some, slice_get}
use Rattle.loom_lang.specs.Limits.{param_limit}
use Rattle.loom_lang.specs.Trace.{frame_limit}
use Rattle.loom_flow.specs.declared.code.Ask.{Ask}
use Rattle.loom_flow.specs.declared.code.Ask.TheVariants.{Spawn}
use Rattle.loom_flow.specs.declared.code.Control.{Control}
use Rattle.loom_flow.specs.declared.code.Control.TheVariants.{Call}
use Rattle.loom_flow.specs.declared.code.CodeStep.{CodeStep}
use Rattle.loom_flow.specs.declared.code.CodeStep.TheVariants as s
use Rattle.loom_flow.specs.declared.code.Instr.{Instr}
use Rattle.loom_flow.specs.declared.code.Site.{Site}
use Rattle.loom_flow.specs.Flow.{Flow, resume}
use Rattle.loom_flow.specs.Depth.{takes_off, puts_on}
use Rattle.loom_flow.specs.Laws.{HasLocals}
use Rattle.loom_flow.specs.State.{Frame, State, frame_room}
use Rattle.loom_flow.specs.Position.{Position, before, leaves, over}
use Rattle.loom_flow.specs.Progress.{Progress, asks}
use Rattle.loom_strand.specs.declared.machine.Phase.{Phase}
use Rattle.loom_strand.specs.declared.machine.Phase.TheVariants as phase

pub record Machine : Type 0 where
  pub phase : Phase
  -- once the last frame has ended it is of no account
  pub state : State
  pub most_values : ℕ
  pub most_frames : ℕ

abbrev pub position_in : Phase → State → Position
position_in phase.Before z = before z
position_in (phase.Leaves v) z = leaves z v
position_in phase.Over z = over

abbrev pub position : Machine → Position
position m = position_in m.phase m.state

-- the same room, with another state
abbrev pub with_state : Machine → State → Machine
with_state m z = record m { state = z }

-- the same room, at another position
abbrev pub with_position : Machine → Position → Machine
with_position m (before z) = record m { state = z; phase = phase.Before }
with_position m (leaves z v) = record m { state = z; phase = phase.Leaves v }
with_position m over = record m { phase = phase.Over }

-- before the thread begins
abbrev pub blank : State
blank = record { at = 0; values = []; func = 0; locals = replicate frame_room (pos 0); below = [] }

-- the frames that fit below the newest one
abbrev pub frames_below : ℕ
frames_below = frame_limit - 1

abbrev pub new_machine : ℕ → Machine
new_machine n = record { phase = phase.Before; state = blank; most_values = n; most_frames = frames_below }

-- by whether a condition is 0
abbrev pub branch_state : Bool → State → State → State
branch_state true zero other = zero
branch_state false zero other = other

-- The number of the next instruction is one of 64 bits.
abbrev pub HasNext : State → Type 0
HasNext z = suc z.at < 2 ^ 64

-- There is room for the values that a step of an instruction leaves.
abbrev pub HasRoomFor : Machine → CodeStep → Type 0
HasRoomFor m x = length m.state.values - takes_off x + puts_on x ≤ m.most_values

-- What an answer gives has its place: there is room for it, or it goes into a local of the frame.
abbrev pub HasPlaceHere : Flow → Machine → Type 0
HasPlaceHere c m = (i : Instr) → slice_get c.code m.state.at ≡ Some i → HasRoomFor m i.step × HasLocals i.step

-- There is room for the result of a frame, where one waits for it.
abbrev pub HasRoomBelow : Machine → List Frame → Type 0
HasRoomBelow m [] = Unit {0}
HasRoomBelow m (f ∷ fs) = length m.state.values < m.most_values

-- A new frame, or thread, has room for so many arguments.

abbrev pub AskHasFewArguments : Ask → Type 0
AskHasFewArguments (Spawn f n d) = n ≤ param_limit
AskHasFewArguments _ = Unit {0}

-- It takes an answer with this value, where it asks.
abbrev pub TakesAnswer : Machine → Machine → ℤ → Progress → Type 0
TakesAnswer old new v (asks line q behind) = new ≡ with_position old (behind v)
TakesAnswer old new v _ = Unit {0}

-- The statement at this place has a call, and goes on behind it at this instruction.
pub record HasCall (sites : List Site) (place : ℕ) : Type 0 where
  pub within : place < length sites
  pub at : ℕ
  pub resumes : resume (slice_get sites place) ≡ Some at

-- The frame below, where there is one, waits for a call at one of these places.
abbrev pub HasFirstCall : List Site → List Frame → Type 0
HasFirstCall sites [] = Unit {0}
HasFirstCall sites (f ∷ fs) = HasCall sites f.site

-- The function that is called has an entrance, and few arguments.
abbrev pub HasCallFor : Flow → Control → Type 0
HasCallFor c (Call f n) = (f < length c.entrances) × (n ≤ param_limit)
HasCallFor c _ = Unit {0}

abbrev pub TakesFewArguments : Flow → CodeStep → Type 0
TakesFewArguments c (s.Compute x) = Unit {0}
TakesFewArguments c (s.Ask x) = AskHasFewArguments x
TakesFewArguments c (s.Control x) = HasCallFor c x
