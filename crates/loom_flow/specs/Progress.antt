-- What comes of the next step of a thread: the meaning of flat code.
use Rattle.std.specs.Prelude.{slice_get, ℕ, suc, ◌+◌, ◌&&◌, List, [], ◌∷◌, length, ℤ, pos, negsuc, Option, Some, None, nat_lt, if◌then◌else◌}
use Rattle.loom_lang.specs.Values.{is_zero, op_value, divides, negated, inverted}
use Rattle.loom_lang.specs.Trace.{Item, begins, done, edge, enter, out, Cause, division, index, frames, frame_limit}
use Rattle.loom_flow.specs.declared.code.Operand.TheVariants as o
use Rattle.loom_flow.specs.declared.code.Array.{Array}
use Rattle.loom_flow.specs.declared.code.Compute.{Compute}
use Rattle.loom_flow.specs.declared.code.Compute.TheVariants.{Move, Negate, Invert, Apply, Discard}
use Rattle.loom_flow.specs.declared.code.Ask.{Ask}
use Rattle.loom_flow.specs.declared.code.Ask.TheVariants.{Read, ReadCell, Write, WriteCell, Lock, Unlock, Down, Up, Join, Print, Spawn}
use Rattle.loom_flow.specs.declared.code.Control.{Control}
use Rattle.loom_flow.specs.declared.code.Control.TheVariants.{Begin, Done, Edge, Jump, JumpIfZero, Call, Return, Out}
use Rattle.loom_flow.specs.declared.code.CodeStep.{CodeStep}
use Rattle.loom_flow.specs.declared.code.CodeStep.TheVariants as s
use Rattle.loom_flow.specs.declared.code.Instr.{Instr}
use Rattle.loom_flow.specs.declared.code.Entrance.{Entrance}
use Rattle.loom_flow.specs.Flow.{Flow, resume, return_point}
use Rattle.loom_flow.specs.State.{Frame, State, operand_value, without, given, forward, jumped, argument_values, without_arguments, at_start, locals_now}
use Rattle.loom_flow.specs.Position.{Position, before, leaves, over}
use Rattle.loom_flow.specs.Question.{Question, read, write, lock, unlock, down, up, spawn, join, print}

pub data Progress : Type 0 where
  -- It goes on past a mark, or past none. Each mark is a point of its own.
  goes : Option Item → Position → Progress
  -- It asks on this line. Behind the answer it is where the answer's value leads: the value of a read, the number of a new thread; of the
  -- others it is of no account.
  asks : ℕ → Question → (ℤ → Position) → Progress
  traps : ℕ → Cause → Progress
  -- the thread is to end
  ends : Progress
  -- there is no such instruction
  nothing : Progress

-- Computing

-- at the next instruction, past no mark
abbrev pub on : State → Progress
on z = goes None (before (forward z))

-- a division by 0 traps
abbrev pub of_compute : State → ℕ → Compute → Progress
of_compute z line (Move a d) = on (given (without z a) d (operand_value z a))
of_compute z line (Negate a d) = on (given (without z a) d (negated (operand_value z a)))
of_compute z line (Invert a d) = on (given (without z a) d (inverted (operand_value z a)))
of_compute z line (Apply op a b d) =
    if divides op && is_zero (operand_value z b) then traps line division
    else on (given (without (without z b) a) d (op_value op (operand_value (without z b) a) (operand_value z b)))
of_compute z line Discard = on (without z o.Top)

-- Asking

-- with the number of a cell, where the index is one of the array
abbrev pub in_array : ℕ → Array → ℤ → (ℕ → Progress) → Progress
in_array line a (pos i) more = if nat_lt i a.count then more (a.first + i) else traps line index
in_array line a (negsuc i) more = traps line index

-- a question whose answer gives a value
abbrev pub asks_value : ℕ → Question → (ℤ → State) → Progress
asks_value line q behind = asks line q (λ v. before (forward (behind v)))

-- one whose answer gives none
abbrev pub asks_act : ℕ → Question → State → Progress
asks_act line q behind = asks line q (λ v. before (forward behind))

abbrev pub of_ask : State → ℕ → Ask → Progress
of_ask z line (Read w d) = asks_value line (read w) (λ v. given z d v)
of_ask z line (ReadCell a n d) = in_array line a (operand_value z n) (λ w. asks_value line (read w) (λ v. given (without z n) d v))
of_ask z line (Write w a) = asks_act line (write w (operand_value z a)) (without z a)
of_ask z line (WriteCell a n b) = in_array line a (operand_value (without z b) n) (λ w. asks_act line (write w (operand_value z b)) (without (without z b) n))
of_ask z line (Lock m) = asks_act line (lock m) z
of_ask z line (Unlock m) = asks_act line (unlock m) z
of_ask z line (Down x) = asks_act line (down x) z
of_ask z line (Up x) = asks_act line (up x) z
of_ask z line (Join a) = asks_act line (join (operand_value z a)) (without z a)
of_ask z line (Print a) = asks_act line (print (operand_value z a)) (without z a)
of_ask z line (Spawn f n d) = asks_value line (spawn f (argument_values z n)) (λ v. given (without_arguments z n) d v)

-- Frames

-- at the start of a new frame
abbrev pub enters : Flow → ℕ → State → Progress
enters c f z = goes (Some (enter f (locals_now c z))) (before z)

-- a new frame above this one, which waits at this place
abbrev pub calls : Flow → State → ℕ → ℕ → List ℤ → Option Entrance → Progress
calls c z place f vs None = nothing
calls c z place f vs (Some e) = enters c f (at_start f e vs z.values ((record { func = z.func; locals = z.locals; site = place }) ∷ z.below))

-- in the frame below the one that has ended, with its result on top of the values
abbrev pub returns : Flow → List ℤ → ℤ → List Frame → Position
returns c vs v [] = over
returns c vs v (f ∷ fs) = before (record { at = return_point c (resume (slice_get c.sites f.site)); values = v ∷ vs; func = f.func; locals = f.locals; below = fs })

-- a frame too many traps
abbrev pub of_control : Flow → State → ℕ → ℕ → Control → Progress
of_control c z line place Begin = goes (Some (begins line (locals_now c z))) (before (forward z))
of_control c z line place Done = goes (Some (done line)) (before (forward z))
of_control c z line place (Edge at) = goes (Some (edge line)) (before (jumped z at))
of_control c z line place (Jump at) = goes None (before (jumped z at))
of_control c z line place (JumpIfZero a at) = if is_zero (operand_value z a) then goes None (before (jumped (without z a) at)) else on (without z a)
of_control c z line place (Call f n) =
    if nat_lt (suc (length z.below)) frame_limit then calls c (without_arguments z n) place f (argument_values z n) (slice_get c.entrances f)
    else traps line frames
of_control c z line place (Return a) = goes (Some (done line)) (leaves (without z a) (operand_value z a))
of_control c z line place Out = goes None (leaves z (pos 0))

-- Threads

abbrev pub of_step : Flow → State → Instr → CodeStep → Progress
of_step c z i (s.Compute x) = of_compute z i.line x
of_step c z i (s.Ask x) = of_ask z i.line x
of_step c z i (s.Control x) = of_control c z i.line i.place x

abbrev pub of_instr : Flow → State → Option Instr → Progress
of_instr c z None = nothing
of_instr c z (Some i) = of_step c z i i.step

abbrev pub progress : Flow → Position → Progress
progress c (before z) = of_instr c z (slice_get c.code z.at)
progress c (leaves z v) = goes (Some (out z.func)) (returns c z.values v z.below)
progress c over = ends
