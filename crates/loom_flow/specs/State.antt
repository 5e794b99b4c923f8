-- A thread before an instruction: its values, its locals and its frames.
use Rattle.std.specs.Prelude.{slice_get, ℕ, zero, suc, List, [], ◌∷◌, ℤ, pos, Option, Some, None, take, drop, reverse}
use Rattle.loom_tree.specs.Tree.{Function}
use Rattle.loom_lang.specs.Limits.{local_limit}
use Rattle.loom_lang.specs.Rules.{locals_of}
use Rattle.loom_lang.specs.Trace.{Locals}
use Rattle.loom_flow.specs.declared.code.Operand.{Operand}
use Rattle.loom_flow.specs.declared.code.Operand.TheVariants as o
use Rattle.loom_flow.specs.declared.code.Target.{Target}
use Rattle.loom_flow.specs.declared.code.Target.TheVariants as t
use Rattle.loom_flow.specs.declared.code.Entrance.{Entrance}
use Rattle.loom_flow.specs.Flow.{Flow}

-- a frame that waits for the result of a call: its function, its locals, and the place of the statement that calls
pub record Frame : Type 0 where
  pub func : ℕ
  pub locals : List ℤ
  pub site : ℕ

-- where a thread is: the number of its next instruction, its values with the top first, the function and the locals of its frame, and
-- the frames below it
pub record State : Type 0 where
  pub at : ℕ
  pub values : List ℤ
  pub func : ℕ
  pub locals : List ℤ
  pub below : List Frame

-- Values

abbrev pub value_of : Option ℤ → ℤ
value_of None = pos 0
value_of (Some v) = v

abbrev pub top : List ℤ → ℤ
top [] = pos 0
top (v ∷ vs) = v

abbrev pub operand_value : State → Operand → ℤ
operand_value z o.Top = top z.values
operand_value z (o.Local x) = value_of (slice_get z.locals x)
operand_value z (o.Number n) = n

-- behind an operand that was taken
abbrev pub values_without : Operand → List ℤ → List ℤ
values_without o.Top vs = drop 1 vs
values_without _ vs = vs

abbrev pub without : State → Operand → State
without z a = record z { values = values_without a z.values }

abbrev pub put_at : ℕ → ℤ → List ℤ → List ℤ
put_at x v [] = []
put_at zero v (w ∷ ws) = v ∷ ws
put_at (suc x) v (w ∷ ws) = w ∷ put_at x v ws

-- with a value left where it belongs
abbrev pub values_given : Target → ℤ → List ℤ → List ℤ
values_given t.Push v vs = v ∷ vs
values_given (t.Local x) v vs = vs

abbrev pub locals_given : Target → ℤ → List ℤ → List ℤ
locals_given t.Push v vs = vs
locals_given (t.Local x) v vs = put_at x v vs

abbrev pub given : State → Target → ℤ → State
given z d v = record z { values = values_given d v z.values; locals = locals_given d v z.locals }

-- at the next instruction, and at another
abbrev pub forward : State → State
forward z = record z { at = suc z.at }

abbrev pub jumped : State → ℕ → State
jumped z at = record z { at = at }

-- Frames

-- so many values, the first of these; 0 where there are no more
abbrev pub filled : ℕ → List ℤ → List ℤ
filled zero vs = []
filled (suc n) [] = pos 0 ∷ filled n []
filled (suc n) (v ∷ vs) = v ∷ filled n vs

-- the arguments that are the last ones put on the values, in their order
abbrev pub argument_values : State → ℕ → List ℤ
argument_values z n = reverse (take n z.values)

abbrev pub without_arguments : State → ℕ → State
without_arguments z n = record z { values = drop n z.values }

-- A frame has room for as many locals as a function may have.
abbrev pub frame_room : ℕ
frame_room = local_limit

-- the locals of a new frame: an argument for each parameter, and 0 for the others
abbrev pub local_values : Entrance → List ℤ → List ℤ
local_values e vs = filled frame_room (filled e.params vs)

-- the locals of a frame by their names
abbrev pub named : List (List ℕ) → List ℤ → Locals
named [] vs = []
named (x ∷ xs) [] = []
named (x ∷ xs) (v ∷ vs) = (x, v) ∷ named xs vs

abbrev pub names : Option Function → List (List ℕ)
names None = []
names (Some f) = locals_of f

abbrev pub locals_now : Flow → State → Locals
locals_now c z = named (names (slice_get c.program.funcs z.func)) z.locals

-- at the start of a function, with these arguments, over these values and frames
abbrev pub at_start : ℕ → Entrance → List ℤ → List ℤ → List Frame → State
at_start f e argument_values values below = record { at = e.start; values = values; func = f; locals = local_values e argument_values; below = below }
