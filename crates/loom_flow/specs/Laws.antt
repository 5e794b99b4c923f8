-- What flat code keeps of a program, and what its instructions keep to.
use Rattle.std.specs.Prelude.{slice_get, Contains, IsBitSet, ℕ, suc, ◌+◌, ◌-◌, ◌≡◌, ◌≤◌, ◌<◌, ◌↔◌, ℤ, List, Option, Some, None, map, length}
use Rattle.loom_tree.specs.Tree.{Function, Source}
use Rattle.loom_lang.specs.Limits.{param_limit}
use Rattle.loom_lang.specs.Rules.{KeepsRules, cell_count}
use Rattle.loom_lang.specs.Places.{Place, entry, inside, back_edge, out, places, place_at, line_of_place}
use Rattle.loom_lang.specs.Trace.{Item, Outcome, IsTrace}
use Rattle.loom_flow.specs.declared.code.Operand.{Operand}
use Rattle.loom_flow.specs.declared.code.Operand.TheVariants as o
use Rattle.loom_flow.specs.declared.code.Target.{Target}
use Rattle.loom_flow.specs.declared.code.Target.TheVariants as t
use Rattle.loom_flow.specs.declared.code.Compute.TheVariants.{Move, Negate, Invert, Apply}
use Rattle.loom_flow.specs.declared.code.CodeStep.{CodeStep}
use Rattle.loom_flow.specs.declared.code.CodeStep.TheVariants as s
use Rattle.loom_flow.specs.declared.code.Ask.TheVariants.{Read, ReadCell, Write, WriteCell, Lock, Unlock, Down, Up, Join, Print, Spawn}
use Rattle.loom_flow.specs.declared.code.Control.TheVariants.{Edge, Jump, JumpIfZero, Call, Return, Out}
use Rattle.loom_flow.specs.declared.code.Instr.{Instr}
use Rattle.loom_flow.specs.declared.code.Site.{Site}
use Rattle.loom_flow.specs.declared.code.Entrance.{Entrance}
use Rattle.loom_flow.specs.Flow.{Flow, resume}
use Rattle.loom_flow.specs.State.{frame_room}
use Rattle.loom_flow.specs.FlatTrace.{IsFlatTrace}
use Rattle.loom_flow.specs.FlatCode.{or_zero, calls_body, lowered}
use Rattle.loom_flow.specs.Depth.{pops, takes_off, puts_on, depth_before, HasSmallBodies}

-- The flat code has the traces of the tree, for every function and all arguments.
abbrev pub HasTraces : Flow → Source → Type 0
HasTraces c p = (f : ℕ) (vs : List ℤ) (items : List Item) (r : Outcome) → IsFlatTrace c f vs items r ↔ IsTrace p f vs items r

-- It has as many places as the tree, with the same lines.
abbrev pub HasPlaces : Flow → Source → Type 0
HasPlaces c p = map (λ (s : Site). s.line) c.sites ≡ map (line_of_place p) (places p)

-- Each function has a word of bits, one for each function: that of `g` is 1 in the word of `f` where `f` calls `g` itself, else it is 0.
abbrev pub HasCalls : Flow → Source → Type 0
HasCalls c p = (f : ℕ) (h : Function) (g : ℕ) → slice_get p.funcs f ≡ Some h → IsBitSet (or_zero (slice_get c.calls f)) g ↔ Contains (calls_body p h.body) g

-- Functions

abbrev pub start_or : ℕ → Option Entrance → ℕ
start_or n None = n
start_or n (Some e) = e.start

-- Instruction `at` is one of function `n`: it stands from the function's start on, and before the start of the next one or the end of the
-- code.
pub record IsInFunction (c : Flow) (n at : ℕ) : Type 0 where
  pub entrance : Entrance
  pub there : slice_get c.entrances n ≡ Some entrance
  pub from : entrance.start ≤ at
  pub before : at < start_or (length c.code) (slice_get c.entrances (suc n))

-- Places

-- The place of an instruction of function `n`: the loop's back edge, the end of the function, or the statement's own place.
abbrev pub place_of : ℕ → ℕ → CodeStep → Place
place_of n line (s.Control (Edge to)) = back_edge line
place_of n line (s.Control Out) = out n
place_of n line _ = inside line

-- Each instruction has its place and the line of that, and each entrance has its place.
pub record HasInstructionPlaces (c : Flow) (p : Source) : Type 0 where
  -- each instruction is one of a function
  pub functions : (at : ℕ) → at < length c.code → (n : ℕ) × IsInFunction c n at
  pub instructions : (n at : ℕ) (i : Instr) → IsInFunction c n at → slice_get c.code at ≡ Some i
      → (place_at p i.place ≡ Some (place_of n i.line i.step)) × (line_of_place p (place_of n i.line i.step) ≡ i.line)
  pub entrances : (n : ℕ) (e : Entrance) → slice_get c.entrances n ≡ Some e → place_at p e.place ≡ Some (entry n)

-- Where an instruction leads

-- The function has an entrance, and an instruction stands there.
abbrev pub HasStart : Flow → ℕ → Type 0
HasStart c f = (e : Entrance) × (slice_get c.entrances f ≡ Some e) × (e.start < length c.code)

-- Instruction `at` leads into `Q` alone: to the next instruction, and by a jump to one behind it, by a back edge to any. A call or a spawn
-- begins at the start of a function, and behind a call the frame goes on at the next instruction.
abbrev pub LeadsInto : (ℕ → Type 0) → Flow → ℕ → Instr → CodeStep → Type 0
LeadsInto Q c at i (s.Control (Jump to)) = Q (suc at) × (at < to) × Q to
LeadsInto Q c at i (s.Control (JumpIfZero a to)) = Q (suc at) × (at < to) × Q to
LeadsInto Q c at i (s.Control (Edge to)) = Q (suc at) × Q to
LeadsInto Q c at i (s.Control (Call f n)) = Q (suc at) × HasStart c f × (resume (slice_get c.sites i.place) ≡ Some (suc at))
LeadsInto Q c at i (s.Ask (Spawn f n d)) = Q (suc at) × HasStart c f
LeadsInto Q c at i (s.Control (Return a)) = Unit {0}
LeadsInto Q c at i (s.Control Out) = Unit {0}
LeadsInto Q c at i _ = Q (suc at)

-- No instruction leads out of the code, and in a frame only back edges lead back.
abbrev pub JumpsForward : Flow → Type 0
JumpsForward c = (at : ℕ) (i : Instr) → slice_get c.code at ≡ Some i → LeadsInto (λ to. to < length c.code) c at i i.step

-- None leads out of its function.
pub record KeepsFunctions (c : Flow) : Type 0 where
  pub inside : (n at : ℕ) → IsInFunction c n at → at < length c.code
  pub starts : (n : ℕ) (e : Entrance) → slice_get c.entrances n ≡ Some e → IsInFunction c n e.start
  pub instructions : (n at : ℕ) (i : Instr) → IsInFunction c n at → slice_get c.code at ≡ Some i → LeadsInto (IsInFunction c n) c at i i.step

-- Values

-- With `d` values before it, an instruction takes off no more than these, and wherever it leads as many wait as are foreseen there. What
-- jumps, calls or returns takes off all of them: a frame begins with no values, and goes on behind a call with the result alone.
abbrev pub KeepsDepth : Flow → ℕ → ℕ → CodeStep → Type 0
KeepsDepth c at d (s.Control (Jump to)) = (d ≡ 0) × (depth_before c to ≡ Some 0)
KeepsDepth c at d (s.Control (JumpIfZero a to)) = (d ≡ pops a) × (depth_before c (suc at) ≡ Some 0) × (depth_before c to ≡ Some 0)
KeepsDepth c at d (s.Control (Edge to)) = (d ≡ 0) × (depth_before c to ≡ Some 0)
KeepsDepth c at d (s.Control (Call f n)) = (d ≡ n) × (depth_before c (suc at) ≡ Some 1)
KeepsDepth c at d (s.Control (Return a)) = d ≡ pops a
KeepsDepth c at d (s.Control Out) = d ≡ 0
KeepsDepth c at d x = (takes_off x ≤ d) × (depth_before c (suc at) ≡ Some (d - takes_off x + puts_on x))

-- No instruction finds too few values, on whatever way it is reached, or more than `most`.
pub record HasOperands (c : Flow) (most : ℕ) : Type 0 where
  pub starts : (n : ℕ) (e : Entrance) → slice_get c.entrances n ≡ Some e → depth_before c e.start ≡ Some 0
  pub instructions : (at : ℕ) (i : Instr) → slice_get c.code at ≡ Some i → (d : ℕ) × (depth_before c at ≡ Some d) × (d ≤ most) × KeepsDepth c at d i.step

-- What an interpreter rests on, of the flat code of every program

abbrev pub AllJumpForward : Type 0
AllJumpForward = (p : Source) → KeepsRules p → JumpsForward (lowered p)

abbrev pub AllKeepFunctions : Type 0
AllKeepFunctions = (p : Source) → KeepsRules p → KeepsFunctions (lowered p)

-- where no expression has more nodes than these
abbrev pub AllHaveOperands : Type 0
AllHaveOperands = (p : Source) → KeepsRules p → (n : ℕ) → HasSmallBodies n p → HasOperands (lowered p) (n + param_limit)

-- Locals

-- The locals that an instruction names are locals of a frame.

abbrev pub HasLocal : Operand → Type 0
HasLocal (o.Local x) = x < frame_room
HasLocal _ = Unit {0}

abbrev pub HasLocalFor : Target → Type 0
HasLocalFor (t.Local x) = x < frame_room
HasLocalFor t.Push = Unit {0}

abbrev pub HasLocals : CodeStep → Type 0
HasLocals (s.Compute (Move a d)) = HasLocal a × HasLocalFor d
HasLocals (s.Compute (Negate a d)) = HasLocal a × HasLocalFor d
HasLocals (s.Compute (Invert a d)) = HasLocal a × HasLocalFor d
HasLocals (s.Compute (Apply op a b d)) = HasLocal a × HasLocal b × HasLocalFor d
HasLocals (s.Ask (Read w d)) = HasLocalFor d
HasLocals (s.Ask (ReadCell a n d)) = HasLocal n × HasLocalFor d
HasLocals (s.Ask (Write w a)) = HasLocal a
HasLocals (s.Ask (WriteCell a n b)) = HasLocal n × HasLocal b
HasLocals (s.Ask (Join a)) = HasLocal a
HasLocals (s.Ask (Print a)) = HasLocal a
HasLocals (s.Ask (Spawn f n d)) = HasLocalFor d
HasLocals (s.Control (JumpIfZero a to)) = HasLocal a
HasLocals (s.Control (Return a)) = HasLocal a
HasLocals _ = Unit {0}

abbrev pub AllHaveLocals : Type 0
AllHaveLocals = (p : Source) → KeepsRules p → (at : ℕ) (i : Instr) → slice_get (lowered p).code at ≡ Some i → HasLocals i.step

-- Numbers

-- The function has so many parameters.
abbrev pub HasParams : Source → ℕ → ℕ → Type 0
HasParams p f n = (g : Function) × (slice_get p.funcs f ≡ Some g) × (n ≡ length g.params)

-- The numbers in an instruction are those of the program.
abbrev pub HasProgramNumbers : Source → CodeStep → Type 0
HasProgramNumbers p (s.Ask (Read w d)) = w < cell_count p.words
HasProgramNumbers p (s.Ask (ReadCell a n d)) = a.first + a.count ≤ cell_count p.words
HasProgramNumbers p (s.Ask (Write w a)) = w < cell_count p.words
HasProgramNumbers p (s.Ask (WriteCell a n b)) = a.first + a.count ≤ cell_count p.words
HasProgramNumbers p (s.Ask (Lock m)) = m < length p.mutexes
HasProgramNumbers p (s.Ask (Unlock m)) = m < length p.mutexes
HasProgramNumbers p (s.Ask (Down x)) = x < length p.semas
HasProgramNumbers p (s.Ask (Up x)) = x < length p.semas
HasProgramNumbers p (s.Ask (Spawn f n d)) = HasParams p f n
HasProgramNumbers p (s.Control (Call f n)) = HasParams p f n
HasProgramNumbers p _ = Unit {0}

abbrev pub AllHaveProgramNumbers : Type 0
AllHaveProgramNumbers = (p : Source) → KeepsRules p → (at : ℕ) (i : Instr) → slice_get (lowered p).code at ≡ Some i → HasProgramNumbers p i.step
