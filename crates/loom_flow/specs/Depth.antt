-- How many values there are before and behind instructions.
use Rattle.std.specs.Prelude.{ℕ, ◌+◌, ◌-◌, ◌≤◌, nat_le, max, List, [], ◌∷◌, Option, Some, None, map, take, if◌then◌else◌}
use Rattle.loom_tree.specs.Tree.{Expression, Right, Simple, let_, set, set_cell, return, Body, end, simple, if_, while_, Function, Source}
use Rattle.loom_tree.specs.Tree as tree
use Rattle.loom_lang.specs.WellFormed.{node_count}
use Rattle.loom_flow.specs.declared.code.Operand.{Operand}
use Rattle.loom_flow.specs.declared.code.Operand.TheVariants as o
use Rattle.loom_flow.specs.declared.code.Target.{Target}
use Rattle.loom_flow.specs.declared.code.Target.TheVariants as t
use Rattle.loom_flow.specs.declared.code.CodeStep.{CodeStep}
use Rattle.loom_flow.specs.declared.code.CodeStep.TheVariants as s
use Rattle.loom_flow.specs.declared.code.Compute.TheVariants.{Move, Negate, Invert, Apply, Discard}
use Rattle.loom_flow.specs.declared.code.Ask.TheVariants.{Read, ReadCell, Write, WriteCell, Join, Print, Spawn}
use Rattle.loom_flow.specs.declared.code.Control.TheVariants.{JumpIfZero, Call, Return}
use Rattle.loom_flow.specs.declared.code.Instr.{Instr}
use Rattle.loom_flow.specs.Flow.{Flow}

-- how many values an operand takes off, and how many a target puts on
abbrev pub pops : Operand → ℕ
pops o.Top = 1
pops _ = 0

abbrev pub pushes : Target → ℕ
pushes t.Push = 1
pushes (t.Local x) = 0

abbrev pub takes_off : CodeStep → ℕ
takes_off (s.Compute (Move a d)) = pops a
takes_off (s.Ask (ReadCell a n d)) = pops n
takes_off (s.Compute (Negate a d)) = pops a
takes_off (s.Compute (Invert a d)) = pops a
takes_off (s.Compute (Apply o a b d)) = pops a + pops b
takes_off (s.Ask (Write w a)) = pops a
takes_off (s.Ask (WriteCell a n b)) = pops n + pops b
takes_off (s.Ask (Join a)) = pops a
takes_off (s.Ask (Print a)) = pops a
takes_off (s.Ask (Spawn f n d)) = n
takes_off (s.Control (Call f n)) = n
takes_off (s.Compute Discard) = 1
takes_off (s.Control (Return a)) = pops a
takes_off (s.Control (JumpIfZero a to)) = pops a
takes_off _ = 0

-- a call puts on its result
abbrev pub puts_on : CodeStep → ℕ
puts_on (s.Compute (Move a d)) = pushes d
puts_on (s.Ask (Read w d)) = pushes d
puts_on (s.Ask (ReadCell a n d)) = pushes d
puts_on (s.Compute (Negate a d)) = pushes d
puts_on (s.Compute (Invert a d)) = pushes d
puts_on (s.Compute (Apply o a b d)) = pushes d
puts_on (s.Ask (Spawn f n d)) = pushes d
puts_on (s.Control (Call f n)) = 1
puts_on _ = 0

-- how many values there are behind these steps, where none takes off more than there are
abbrev pub depth_after : ℕ → List CodeStep → Option ℕ
depth_after d [] = Some d
depth_after d (x ∷ xs) = if nat_le (takes_off x) d then depth_after (d - takes_off x + puts_on x) xs else None

-- how many there are before the instruction of this number, where the code is gone through from its first instruction to its last
abbrev pub depth_before : Flow → ℕ → Option ℕ
depth_before c at = depth_after 0 (map (λ (i : Instr). i.step) (take at c.code))

-- The most values that there are before one of these instructions, where there are `d` before the first.
abbrev pub most_before : ℕ → List Instr → ℕ
most_before d [] = 0
most_before d (i ∷ is) = max d (most_before (d - takes_off i.step + puts_on i.step) is)

-- how many values wait at most before an instruction of the code: for so many a thread needs room
abbrev pub most_values : Flow → ℕ
most_values c = most_before 0 c.code

-- Each expression of a program has at most so many nodes.

abbrev pub AreSmall : ℕ → List Expression → Type 0
AreSmall n [] = Unit {0}
AreSmall n (e ∷ es) = (node_count e ≤ n) × AreSmall n es

abbrev pub IsSmallRight : ℕ → Right Expression → Type 0
IsSmallRight n (Right.value e) = node_count e ≤ n
IsSmallRight n (Right.call f es) = AreSmall n es
IsSmallRight n (Right.spawn f es) = AreSmall n es

abbrev pub IsSmallSimple : ℕ → Simple Expression → Type 0
IsSmallSimple n (let_ x r) = IsSmallRight n r
IsSmallSimple n (set x r) = IsSmallRight n r
IsSmallSimple n (set_cell x i e) = (node_count i ≤ n) × (node_count e ≤ n)
IsSmallSimple n (Simple.call f es) = AreSmall n es
IsSmallSimple n (return (Some e)) = node_count e ≤ n
IsSmallSimple n (tree.join e) = node_count e ≤ n
IsSmallSimple n (tree.print e) = node_count e ≤ n
IsSmallSimple n _ = Unit {0}

abbrev pub IsSmallBody : ℕ → Body → Type 0
IsSmallBody n end = Unit {0}
IsSmallBody n (simple l x rest) = IsSmallSimple n x × IsSmallBody n rest
IsSmallBody n (if_ l e a b rest) = (node_count e ≤ n) × IsSmallBody n a × IsSmallBody n b × IsSmallBody n rest
IsSmallBody n (while_ l e a rest) = (node_count e ≤ n) × IsSmallBody n a × IsSmallBody n rest

abbrev pub AreSmallFunctions : ℕ → List Function → Type 0
AreSmallFunctions n [] = Unit {0}
AreSmallFunctions n (f ∷ fs) = IsSmallBody n f.body × AreSmallFunctions n fs

abbrev pub HasSmallBodies : ℕ → Source → Type 0
HasSmallBodies n p = AreSmallFunctions n p.funcs
