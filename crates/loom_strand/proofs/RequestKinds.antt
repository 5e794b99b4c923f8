-- What a thread asks for.
use Rattle.std.proofs.Common.{ℕ, suc, ◌+◌, ◌&&◌, ◌≡◌, ◌≤◌, ◌<◌, Bool, true, false, List, ℤ, pos, negsuc, Option, Some, None, refl, inl, inr, subst, ◌∙◌, nat_lt, if◌then◌else◌}
use Rattle.std.proofs.Common.{ltb-true, slice_get, length, length-take, take, arith}
use Rattle.std.proofs.lemmas.List.{length-reverse}
use Rattle.loom_lang.specs.Values.{is_zero, op_value, divides}
use Rattle.loom_lang.specs.Trace.{division, index, frames, reason, frame_limit}
use Rattle.loom_flow.specs.declared.code.Array.{Array}
use Rattle.loom_flow.specs.declared.code.Compute.TheVariants.{Move, Negate, Invert, Apply, Discard}
use Rattle.loom_flow.specs.declared.code.Ask.TheVariants.{Read, ReadCell, Write, WriteCell, Lock, Unlock, Down, Up, Join, Print, Spawn}
use Rattle.loom_flow.specs.declared.code.Control.TheVariants.{Begin, Done, Edge, Jump, JumpIfZero, Call, Return, Out}
use Rattle.loom_flow.specs.declared.code.CodeStep.{CodeStep}
use Rattle.loom_flow.specs.declared.code.CodeStep.TheVariants as s
use Rattle.loom_flow.specs.declared.code.Instr.{Instr}
use Rattle.loom_flow.specs.declared.code.Entrance.{Entrance}
use Rattle.loom_flow.specs.Flow.{Flow}
use Rattle.loom_flow.specs.State.{State, operand_value, without, given, jumped, argument_values, without_arguments}
use Rattle.loom_flow.specs.Position.{Position, before, leaves, over}
use Rattle.loom_flow.specs.Question.{read, write}
use Rattle.loom_flow.specs.Progress.{Progress, goes, asks, traps, on, in_array, asks_value, asks_act, calls, of_step, of_instr, progress}
use Rattle.loom_flow.specs.Code.{IsLowered}
use Rattle.loom_flow.specs.Laws.{KeepsDepth, HasProgramNumbers}
use Rattle.loom_flow.proofs.ProgramNumbers.{lowered_numbers}
use Rattle.loom_trace.specs.declared.request.Request.{Request}
use Rattle.loom_trace.specs.declared.request.Request.TheVariants as r
use Rattle.loom_event.specs.Answer.{HasNumbers}
use Rattle.loom_strand.specs.PositionRequest.{question_request}
use Rattle.loom_strand.specs.StrandInvariant.{IsBefore, IsSoundPosition}
use Rattle.loom_strand.proofs.Soundness.{depth_at, instr_at}

-- What is asked for, if anything, is in `P`.
abbrev pub Asked : (Request → Type 0) → Progress → Type 0
Asked P (asks line q behind) = P (question_request line q)
Asked P (traps line cause) = P (r.Trap line (reason cause))
Asked P _ = Unit {0}

asked_if : (P : Request → Type 0) (b : Bool) (p q : Progress) → (b ≡ true → Asked P p) → (b ≡ false → Asked P q) → Asked P (if b then p else q)
asked_if P true p q f g = f refl
asked_if P false p q f g = g refl

asked_cell : (P : Request → Type 0) (line : ℕ) (a : Array) (v : ℤ) (more : ℕ → Progress) → ((k : ℕ) → k < a.count → Asked P (more (a.first + k))) → P (r.Trap line 2)
    → Asked P (in_array line a v more)
asked_cell P line a (pos k) more f trap =
    asked_if P (nat_lt k a.count) (more (a.first + k)) (traps line index) (λ e. f k (ltb-true k a.count e)) (λ e. trap)
asked_cell P line a (negsuc k) more f trap = trap

-- what an instruction of this line may ask for
abbrev Requests : (Request → Type 0) → State → ℕ → CodeStep → Type 0
Requests P z line (s.Compute (Apply o a b d)) = P (r.Trap line 1)
Requests P z line (s.Ask (Read w d)) = P (r.Read line w)
Requests P z line (s.Ask (ReadCell a n d)) = ((k : ℕ) → k < a.count → P (r.Read line (a.first + k))) × P (r.Trap line 2)
Requests P z line (s.Ask (Write w a)) = P (r.Write line w (operand_value z a))
Requests P z line (s.Ask (WriteCell a n b)) = ((k : ℕ) → k < a.count → P (r.Write line (a.first + k) (operand_value z b))) × P (r.Trap line 2)
Requests P z line (s.Ask (Lock m)) = P (r.Lock line m)
Requests P z line (s.Ask (Unlock m)) = P (r.Unlock line m)
Requests P z line (s.Ask (Down x)) = P (r.Down line x)
Requests P z line (s.Ask (Up x)) = P (r.Up line x)
Requests P z line (s.Ask (Join a)) = P (r.Join line (operand_value z a))
Requests P z line (s.Ask (Print a)) = P (r.Print line (operand_value z a))
Requests P z line (s.Ask (Spawn f n d)) = P (r.Spawn line f (argument_values z n))
Requests P z line (s.Control (Call f n)) = P (r.Trap line 6)
Requests P z line _ = Unit {0}

asked_calls : (P : Request → Type 0) (c : Flow) (z : State) (place f : ℕ) (vs : List ℤ) (e : Option Entrance) → Asked P (calls c z place f vs e)
asked_calls P c z place f vs None = tt
asked_calls P c z place f vs (Some e) = tt

step_asked : (P : Request → Type 0) (c : Flow) (z : State) (i : Instr) (x : CodeStep) → Requests P z i.line x → Asked P (of_step c z i x)
step_asked P c z i (s.Compute (Move a d)) h = tt
step_asked P c z i (s.Compute (Negate a d)) h = tt
step_asked P c z i (s.Compute (Invert a d)) h = tt
step_asked P c z i (s.Compute (Apply o a b d)) h =
    asked_if P (divides o && is_zero (operand_value z b)) (traps i.line division) (on (given (without (without z b) a) d (op_value o (operand_value (without z b) a) (operand_value z b)))) (λ e. h) (λ e. tt)
step_asked P c z i (s.Compute Discard) h = tt
step_asked P c z i (s.Ask (Read w d)) h = h
step_asked P c z i (s.Ask (ReadCell a n d)) h = asked_cell P i.line a (operand_value z n) (λ w. asks_value i.line (read w) (λ v. given (without z n) d v)) h.0 h.1
step_asked P c z i (s.Ask (Write w a)) h = h
step_asked P c z i (s.Ask (WriteCell a n b)) h = asked_cell P i.line a (operand_value (without z b) n) (λ w. asks_act i.line (write w (operand_value z b)) (without (without z b) n)) h.0 h.1
step_asked P c z i (s.Ask (Lock m)) h = h
step_asked P c z i (s.Ask (Unlock m)) h = h
step_asked P c z i (s.Ask (Down x)) h = h
step_asked P c z i (s.Ask (Up x)) h = h
step_asked P c z i (s.Ask (Join a)) h = h
step_asked P c z i (s.Ask (Print a)) h = h
step_asked P c z i (s.Ask (Spawn f n d)) h = h
step_asked P c z i (s.Control Begin) h = tt
step_asked P c z i (s.Control Done) h = tt
step_asked P c z i (s.Control (Edge to)) h = tt
step_asked P c z i (s.Control (Jump to)) h = tt
step_asked P c z i (s.Control (JumpIfZero a to)) h =
    asked_if P (is_zero (operand_value z a)) (goes None (before (jumped (without z a) to))) (on (without z a)) (λ e. tt) (λ e. tt)
step_asked P c z i (s.Control (Call f n)) h =
    asked_if P (nat_lt (suc (length z.below)) frame_limit) (calls c (without_arguments z n) i.place f (argument_values z n) (slice_get c.entrances f)) (traps i.line frames)
    (λ e. asked_calls P c (without_arguments z n) i.place f (argument_values z n) (slice_get c.entrances f)) (λ e. h)
step_asked P c z i (s.Control (Return a)) h = tt
step_asked P c z i (s.Control Out) h = tt

-- so it is of each position, where it is so of its instruction
asked_at : (P : Request → Type 0) (c : Flow) (z : Position) → IsSoundPosition c z
    → ((y : State) (i : Instr) → z ≡ before y → slice_get c.code y.at ≡ Some i → IsBefore c y → Requests P y i.line i.step) → Asked P (progress c z)
asked_at P c (before z) h f =
    let here : (i : Instr) × (slice_get c.code z.at ≡ Some i) = instr_at c z h in
    subst (λ o. Asked P (of_instr c z o)) (sym here.1) (step_asked P c z here.0 here.0.step (f z here.0 refl here.1 h))
  where
    sym : {A : Type 0} {x y : A} → x ≡ y → y ≡ x
    sym e = cc
asked_at P c (leaves z v) h f = tt
asked_at P c over h f = tt

-- Numbers

-- as many values wait as a spawn takes off
spawn_length : (z : State) (n : ℕ) → n ≤ length z.values → length (argument_values z n) ≡ n
spawn_length z n h = omega (arith, h, length-reverse (take n z.values), length-take n z.values)

numbers_asked : (c : Flow) (z : State) (line : ℕ) (x : CodeStep) → HasProgramNumbers c.program x → KeepsDepth c z.at (length z.values) x → Requests (HasNumbers c.program) z line x
numbers_asked c z line (s.Compute (Apply o a b d)) h depth = inl refl
numbers_asked c z line (s.Compute _) h depth = tt
numbers_asked c z line (s.Ask (Read w d)) h depth = h
numbers_asked c z line (s.Ask (ReadCell a n d)) h depth = ((λ k l. omega (arith, h, l)), inr (inl refl))
numbers_asked c z line (s.Ask (Write w a)) h depth = h
numbers_asked c z line (s.Ask (WriteCell a n b)) h depth = ((λ k l. omega (arith, h, l)), inr (inl refl))
numbers_asked c z line (s.Ask (Lock k)) h depth = h
numbers_asked c z line (s.Ask (Unlock k)) h depth = h
numbers_asked c z line (s.Ask (Down k)) h depth = h
numbers_asked c z line (s.Ask (Up k)) h depth = h
numbers_asked c z line (s.Ask (Join a)) h depth = tt
numbers_asked c z line (s.Ask (Print a)) h depth = tt
numbers_asked c z line (s.Ask (Spawn f n d)) h depth = (h.0, h.1, spawn_length z n depth.0 ∙ h.2)
numbers_asked c z line (s.Control (Call f n)) h depth = inr (inr refl)
numbers_asked c z line (s.Control _) h depth = tt

pub numbers_at : (c : Flow) (at : ℕ) (i : Instr) → IsLowered c → slice_get c.code at ≡ Some i → HasProgramNumbers c.program i.step
numbers_at c at i l e = lowered_numbers c.program l.lawful at i (subst (λ (d : Flow). slice_get d.code at ≡ Some i) l.is e)

pub asks_numbers : (c : Flow) (z : Position) → IsLowered c → IsSoundPosition c z → Asked (HasNumbers c.program) (progress c z)
asks_numbers c z l h =
    asked_at (HasNumbers c.program) c z h (λ y i e there sound. numbers_asked c y i.line i.step (numbers_at c y.at i l there) (depth_at c y i l there sound))
