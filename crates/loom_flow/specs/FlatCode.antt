-- From the tree of a program to its flat code.
use Rattle.std.specs.Prelude.{bit_or, ◌^◌, ℕ, suc, ◌+◌, List, [], ◌∷◌, ◌++◌, pos, length, map, Option, Some, None}
use Rattle.loom_tree.specs.Tree.{Expression, num, var, cell, neg, inverse, bin, Right, Simple, let_, set, set_cell, return, Body, end, simple, if_, while_, Function, Source}
use Rattle.loom_tree.specs.Tree as tree
use Rattle.loom_lang.specs.Rules.{locals_of}
use Rattle.loom_lang.specs.Numbers.{index_of, Cells, cells_named, mutex_number, sema_number, function_number}
use Rattle.loom_lang.specs.Places.{body_places}
use Rattle.loom_flow.specs.declared.code.Operand.{Operand}
use Rattle.loom_flow.specs.declared.code.Operand.TheVariants as o
use Rattle.loom_flow.specs.declared.code.Target.{Target}
use Rattle.loom_flow.specs.declared.code.Target.TheVariants as t
use Rattle.loom_flow.specs.declared.code.Array.{Array}
use Rattle.loom_flow.specs.declared.code.CodeStep.{CodeStep}
use Rattle.loom_flow.specs.declared.code.CodeStep.TheVariants as s
use Rattle.loom_flow.specs.declared.code.Compute.TheVariants.{Move, Negate, Invert, Apply, Discard}
use Rattle.loom_flow.specs.declared.code.Ask.{Ask}
use Rattle.loom_flow.specs.declared.statement.Taker.{Taker}
use Rattle.loom_flow.specs.declared.statement.Taker.TheVariants as taker
use Rattle.loom_flow.specs.declared.code.Ask.TheVariants.{Read, ReadCell, Write, WriteCell, Lock, Unlock, Down, Up, Join, Print, Spawn}
use Rattle.loom_flow.specs.declared.code.Control.TheVariants.{Begin, Done, Edge, Jump, JumpIfZero, Call, Return, Out}
use Rattle.loom_flow.specs.declared.code.Instr.{Instr}
use Rattle.loom_flow.specs.declared.code.Site.{Site}
use Rattle.loom_flow.specs.declared.code.Entrance.{Entrance}
use Rattle.loom_flow.specs.Flow.{Flow}

-- Numbers of names; in a program each name has one.

abbrev pub or_zero : Option ℕ → ℕ
or_zero None = 0
or_zero (Some n) = n

abbrev pub first_cell : Option Cells → ℕ
first_cell None = 0
first_cell (Some c) = c.first

abbrev pub array_of : Option Cells → Array
array_of None = record { first = 0; count = 0 }
array_of (Some c) = record { first = c.first; count = or_zero c.count }

abbrev pub word_named : Source → List ℕ → ℕ
word_named p x = first_cell (cells_named p x)

abbrev pub array_named : Source → List ℕ → Array
array_named p x = array_of (cells_named p x)

-- Expressions; the names are those of the frame's locals

abbrev pub local_operand : Option ℕ → Operand
local_operand None = o.Top
local_operand (Some x) = o.Local x

-- Numbers and locals stand in the instruction that takes them.
abbrev pub operand_of : List (List ℕ) → Expression → Operand
operand_of xs (num n) = o.Number n
operand_of xs (var x) = local_operand (index_of x xs)
operand_of xs _ = o.Top

-- and nothing is done for them before
abbrev pub unless_there : Operand → List CodeStep → List CodeStep
unless_there o.Top steps = steps
unless_there _ steps = []

abbrev pub variable_step : Source → Target → List ℕ → Option ℕ → CodeStep
variable_step p d x None = s.Ask (Read (word_named p x) d)
variable_step p d x (Some k) = s.Compute (Move (o.Local k) d)

-- the steps that leave an expression's value
abbrev pub steps_to : Source → List (List ℕ) → Target → Expression → List CodeStep
steps_to p xs d (num n) = s.Compute (Move (o.Number n) d) ∷ []
steps_to p xs d (var x) = variable_step p d x (index_of x xs) ∷ []
steps_to p xs d (cell x i) = unless_there (operand_of xs i) (steps_to p xs t.Push i) ++ s.Ask (ReadCell (array_named p x) (operand_of xs i) d) ∷ []
steps_to p xs d (neg a) = unless_there (operand_of xs a) (steps_to p xs t.Push a) ++ s.Compute (Negate (operand_of xs a) d) ∷ []
steps_to p xs d (inverse a) = unless_there (operand_of xs a) (steps_to p xs t.Push a) ++ s.Compute (Invert (operand_of xs a) d) ∷ []
steps_to p xs d (bin o a b) =
    unless_there (operand_of xs a) (steps_to p xs t.Push a)
    ++ (unless_there (operand_of xs b) (steps_to p xs t.Push b) ++ s.Compute (Apply o (operand_of xs a) (operand_of xs b) d) ∷ [])

-- the steps before an instruction that takes the expression as an operand
abbrev pub operand_steps : Source → List (List ℕ) → Expression → List CodeStep
operand_steps p xs e = unless_there (operand_of xs e) (steps_to p xs t.Push e)

abbrev pub argument_steps : Source → List (List ℕ) → List Expression → List CodeStep
argument_steps p xs [] = []
argument_steps p xs (e ∷ es) = steps_to p xs t.Push e ++ argument_steps p xs es

abbrev pub call_steps : Source → List (List ℕ) → List ℕ → List Expression → List CodeStep
call_steps p xs f es = argument_steps p xs es ++ s.Control (Call (or_zero (function_number p f)) (length es)) ∷ []

abbrev pub spawn_steps : Source → List (List ℕ) → List ℕ → List Expression → List CodeStep
spawn_steps p xs f es = argument_steps p xs es ++ s.Ask (Spawn (or_zero (function_number p f)) (length es) t.Push) ∷ []

-- Statements

-- the step that writes what is on top
abbrev pub store_step : Source → List ℕ → Option ℕ → CodeStep
store_step p x None = s.Ask (Write (word_named p x) o.Top)
store_step p x (Some k) = s.Compute (Move o.Top (t.Local k))

-- an expression's value is left in a local at once
abbrev pub value_steps : Source → List (List ℕ) → List ℕ → Expression → Option ℕ → List CodeStep
value_steps p xs x e None = operand_steps p xs e ++ s.Ask (Write (word_named p x) (operand_of xs e)) ∷ []
value_steps p xs x e (Some k) = steps_to p xs (t.Local k) e

abbrev pub set_steps : Source → List (List ℕ) → List ℕ → Right Expression → List CodeStep
set_steps p xs x (Right.value e) = value_steps p xs x e (index_of x xs)
set_steps p xs x (Right.call f es) = call_steps p xs f es ++ store_step p x (index_of x xs) ∷ []
set_steps p xs x (Right.spawn f es) = spawn_steps p xs f es ++ store_step p x (index_of x xs) ∷ []

-- what takes an operand asks for this
abbrev pub ask_of : Taker → Operand → Ask
ask_of taker.Join a = Join a
ask_of taker.Print a = Print a

-- from the statement's beginning to its completion
abbrev pub simple_steps : Source → List (List ℕ) → Simple Expression → List CodeStep
simple_steps p xs (let_ x r) = s.Control Begin ∷ (set_steps p xs x r ++ s.Control Done ∷ [])
simple_steps p xs (set x r) = s.Control Begin ∷ (set_steps p xs x r ++ s.Control Done ∷ [])
simple_steps p xs (set_cell x i e) =
    s.Control Begin ∷ (operand_steps p xs i ++ (operand_steps p xs e ++ s.Ask (WriteCell (array_named p x) (operand_of xs i) (operand_of xs e)) ∷ s.Control Done ∷ []))
simple_steps p xs (Simple.call f es) = s.Control Begin ∷ (call_steps p xs f es ++ s.Compute Discard ∷ s.Control Done ∷ [])
simple_steps p xs (return None) = s.Control Begin ∷ s.Control (Return (o.Number (pos 0))) ∷ []
simple_steps p xs (return (Some e)) = s.Control Begin ∷ (operand_steps p xs e ++ s.Control (Return (operand_of xs e)) ∷ [])
simple_steps p xs (tree.lock x) = s.Control Begin ∷ s.Ask (Lock (or_zero (mutex_number p x))) ∷ s.Control Done ∷ []
simple_steps p xs (tree.unlock x) = s.Control Begin ∷ s.Ask (Unlock (or_zero (mutex_number p x))) ∷ s.Control Done ∷ []
simple_steps p xs (tree.down x) = s.Control Begin ∷ s.Ask (Down (or_zero (sema_number p x))) ∷ s.Control Done ∷ []
simple_steps p xs (tree.up x) = s.Control Begin ∷ s.Ask (Up (or_zero (sema_number p x))) ∷ s.Control Done ∷ []
simple_steps p xs (tree.join e) = s.Control Begin ∷ (operand_steps p xs e ++ s.Ask (Join (operand_of xs e)) ∷ s.Control Done ∷ [])
simple_steps p xs (tree.print e) = s.Control Begin ∷ (operand_steps p xs e ++ s.Ask (Print (operand_of xs e)) ∷ s.Control Done ∷ [])
simple_steps p xs tree.skip = s.Control Begin ∷ s.Control Done ∷ []

-- the number of the instruction behind the call of a statement whose first instruction has this number, if it has one
abbrev pub resume_of : Source → List (List ℕ) → ℕ → Simple Expression → Option ℕ
resume_of p xs at (let_ x (Right.call f es)) = Some (at + (1 + length (call_steps p xs f es)))
resume_of p xs at (set x (Right.call f es)) = Some (at + (1 + length (call_steps p xs f es)))
resume_of p xs at (Simple.call f es) = Some (at + (1 + length (call_steps p xs f es)))
resume_of p xs at _ = None

abbrev pub instr : ℕ → ℕ → CodeStep → Instr
instr line place step = record { line = line; place = place; step = step }

abbrev pub instrs : ℕ → ℕ → List CodeStep → List Instr
instrs line place [] = []
instrs line place (x ∷ xs) = instr line place x ∷ instrs line place xs

-- how many instructions statements have
abbrev pub size : Source → List (List ℕ) → Body → ℕ
size p xs end = 0
size p xs (simple l x rest) = length (simple_steps p xs x) + size p xs rest
size p xs (if_ l e a b rest) = length (operand_steps p xs e) + (4 + size p xs a + size p xs b + size p xs rest)
size p xs (while_ l e a rest) = length (operand_steps p xs e) + (4 + size p xs a + size p xs rest)

-- A place's number has 16 bits, so that there may be so many.
abbrev pub site_limit : ℕ
site_limit = 65536

-- how many places they have
abbrev pub place_count : Body → ℕ
place_count b = length (body_places b)

-- The code of statements. The first instruction has the number `at`, the first place the number `place`.
abbrev pub flat_body : Source → List (List ℕ) → ℕ → ℕ → Body → List Instr
flat_body p xs at place end = []
flat_body p xs at place (simple l x rest) =
    instrs l place (simple_steps p xs x) ++ flat_body p xs (at + length (simple_steps p xs x)) (suc place) rest
flat_body p xs at place (if_ l e a b rest) =
    let first : ℕ = at + (2 + length (operand_steps p xs e)) in
    let second : ℕ = first + (1 + size p xs a) in
    let done : ℕ = second + size p xs b in
    instrs l place (s.Control Begin ∷ (operand_steps p xs e ++ s.Control (JumpIfZero (operand_of xs e) second) ∷ []))
    ++ (flat_body p xs first (suc place) a
    ++ instr l place (s.Control (Jump done))
    ∷ (flat_body p xs second (suc place + place_count a) b
    ++ instr l place (s.Control Done)
    ∷ flat_body p xs (suc done) (suc place + place_count a + place_count b) rest))
flat_body p xs at place (while_ l e a rest) =
    let head : ℕ = at + 1 in
    let first : ℕ = head + (1 + length (operand_steps p xs e)) in
    let done : ℕ = first + (1 + size p xs a) in
    instrs l place (s.Control Begin ∷ (operand_steps p xs e ++ s.Control (JumpIfZero (operand_of xs e) done) ∷ []))
    ++ (flat_body p xs first (suc (suc place)) a
    ++ instr l (suc place) (s.Control (Edge head))
    ∷ instr l place (s.Control Done)
    ∷ flat_body p xs (suc done) (suc (suc place) + place_count a) rest)

abbrev pub site : ℕ → Option ℕ → Site
site line resume = record { line = line; resume = resume }

-- the places of statements, with the same numbers
abbrev pub body_sites : Source → List (List ℕ) → ℕ → Body → List Site
body_sites p xs at end = []
body_sites p xs at (simple l x rest) = site l (resume_of p xs at x) ∷ body_sites p xs (at + length (simple_steps p xs x)) rest
body_sites p xs at (if_ l e a b rest) =
    let first : ℕ = at + (2 + length (operand_steps p xs e)) in
    let second : ℕ = first + (1 + size p xs a) in
    let done : ℕ = second + size p xs b in
    site l None ∷ (body_sites p xs first a ++ (body_sites p xs second b ++ body_sites p xs (suc done) rest))
body_sites p xs at (while_ l e a rest) =
    let first : ℕ = at + (2 + length (operand_steps p xs e)) in
    let done : ℕ = first + (1 + size p xs a) in
    site l None ∷ site l None ∷ (body_sites p xs first a ++ body_sites p xs (suc done) rest)

-- Functions

abbrev pub functions_code : Source → ℕ → ℕ → List Function → List Instr
functions_code p at place [] = []
functions_code p at place (f ∷ fs) =
    flat_body p (locals_of f) at (suc place) f.body
    ++ instr f.line (suc place + place_count f.body) (s.Control Out)
    ∷ functions_code p (suc (at + size p (locals_of f) f.body)) (suc (suc (place + place_count f.body))) fs

abbrev pub functions_sites : Source → ℕ → List Function → List Site
functions_sites p at [] = []
functions_sites p at (f ∷ fs) =
    site f.line None ∷ (body_sites p (locals_of f) at f.body ++ site f.line None ∷ functions_sites p (suc (at + size p (locals_of f) f.body)) fs)

abbrev pub entrances : Source → ℕ → ℕ → List Function → List Entrance
entrances p at place [] = []
entrances p at place (f ∷ fs) =
    (record { start = at; place = place; params = length f.params })
    ∷ entrances p (suc (at + size p (locals_of f) f.body)) (suc (suc (place + place_count f.body))) fs

-- the functions that calls in statements name, one of each call
abbrev pub calls_right : Source → Right Expression → List ℕ
calls_right p (Right.call f es) = or_zero (function_number p f) ∷ []
calls_right p _ = []

abbrev pub calls_simple : Source → Simple Expression → List ℕ
calls_simple p (let_ x r) = calls_right p r
calls_simple p (set x r) = calls_right p r
calls_simple p (Simple.call f es) = or_zero (function_number p f) ∷ []
calls_simple p _ = []

abbrev pub calls_body : Source → Body → List ℕ
calls_body p end = []
calls_body p (simple l x rest) = calls_simple p x ++ calls_body p rest
calls_body p (if_ l e a b rest) = calls_body p a ++ (calls_body p b ++ calls_body p rest)
calls_body p (while_ l e a rest) = calls_body p a ++ calls_body p rest

-- a set of numbers, with one bit for each
abbrev pub set_of : ℕ → List ℕ → ℕ
set_of bits [] = bits
set_of bits (n ∷ ns) = set_of (bit_or bits (2 ^ n)) ns

-- Place 0 is where unborn and ended threads stand.
abbrev pub lowered : Source → Flow
lowered p = record {
  program = p;
  code = functions_code p 0 1 p.funcs;
  sites = site 0 None ∷ functions_sites p 0 p.funcs;
  entrances = entrances p 0 1 p.funcs;
  calls = map (λ (f : Function). set_of 0 (calls_body p f.body)) p.funcs;
}
