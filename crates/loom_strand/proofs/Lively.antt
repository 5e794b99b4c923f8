-- An instruction ends no thread, and a step past no mark leaves none ended; nor does an answer.
use Rattle.std.proofs.Common.{ℕ, suc, ◌+◌, ◌&&◌, ◌≡◌, Bool, true, false, List, ℤ, pos, negsuc, Option, Some, None, nat_lt, slice_get, length, subst, if◌then◌else◌}
use Rattle.loom_lang.specs.Values.{is_zero, op_value, divides}
use Rattle.loom_lang.specs.Trace.{frame_limit, division, index, frames}
use Rattle.loom_flow.specs.declared.code.Array.{Array}
use Rattle.loom_flow.specs.declared.code.Compute.TheVariants.{Move, Negate, Invert, Apply, Discard}
use Rattle.loom_flow.specs.declared.code.Ask.TheVariants.{Read, ReadCell, Write, WriteCell, Lock, Unlock, Down, Up, Join, Print, Spawn}
use Rattle.loom_flow.specs.declared.code.Control.TheVariants.{Begin, Done, Edge, Jump, JumpIfZero, Call, Return, Out}
use Rattle.loom_flow.specs.declared.code.CodeStep.{CodeStep}
use Rattle.loom_flow.specs.declared.code.CodeStep.TheVariants as s
use Rattle.loom_flow.specs.declared.code.Instr.{Instr}
use Rattle.loom_flow.specs.declared.code.Entrance.{Entrance}
use Rattle.loom_flow.specs.Flow.{Flow}
use Rattle.loom_flow.specs.State.{State, operand_value, without, given, jumped, argument_values, without_arguments}
use Rattle.loom_flow.specs.Position.{Position, before, leaves, over}
use Rattle.loom_flow.specs.Question.{Question, read, write}
use Rattle.loom_flow.specs.Progress.{Progress, goes, asks, traps, ends, on, in_array, asks_value, asks_act, calls, of_step, of_instr, progress}

abbrev IsNotOver : Position → Type 0
IsNotOver over = ⊥
IsNotOver _ = Unit {0}

abbrev IsLively : Progress → Type 0
IsLively (goes None y) = IsNotOver y
IsLively (asks line q behind) = (v : ℤ) → IsNotOver (behind v)
IsLively ends = ⊥
IsLively _ = Unit {0}

lively_if : (b : Bool) (p q : Progress) → IsLively p → IsLively q → IsLively (if b then p else q)
lively_if true p q f g = f
lively_if false p q f g = g

lively_cell : (line : ℕ) (a : Array) (v : ℤ) (more : ℕ → Progress) → ((w : ℕ) → IsLively (more w)) → IsLively (in_array line a v more)
lively_cell line a (pos k) more h = lively_if (nat_lt k a.count) (more (a.first + k)) (traps line index) (h (a.first + k)) tt
lively_cell line a (negsuc k) more h = tt

lively_calls : (c : Flow) (z : State) (place f : ℕ) (vs : List ℤ) (e : Option Entrance) → IsLively (calls c z place f vs e)
lively_calls c z place f vs None = tt
lively_calls c z place f vs (Some e) = tt

lively_step : (c : Flow) (z : State) (i : Instr) (x : CodeStep) → IsLively (of_step c z i x)
lively_step c z i (s.Compute (Move a d)) = tt
lively_step c z i (s.Compute (Negate a d)) = tt
lively_step c z i (s.Compute (Invert a d)) = tt
lively_step c z i (s.Compute (Apply o a b d)) =
    lively_if (divides o && is_zero (operand_value z b)) (traps i.line division) (on (given (without (without z b) a) d (op_value o (operand_value (without z b) a) (operand_value z b)))) tt tt
lively_step c z i (s.Compute Discard) = tt
lively_step c z i (s.Ask (Read w d)) = λ v. tt
lively_step c z i (s.Ask (ReadCell a k d)) = lively_cell i.line a (operand_value z k) (λ w. asks_value i.line (read w) (λ v. given (without z k) d v)) (λ w v. tt)
lively_step c z i (s.Ask (Write w a)) = λ v. tt
lively_step c z i (s.Ask (WriteCell a k b)) = lively_cell i.line a (operand_value (without z b) k) (λ w. asks_act i.line (write w (operand_value z b)) (without (without z b) k)) (λ w v. tt)
lively_step c z i (s.Ask (Lock m)) = λ v. tt
lively_step c z i (s.Ask (Unlock m)) = λ v. tt
lively_step c z i (s.Ask (Down x)) = λ v. tt
lively_step c z i (s.Ask (Up x)) = λ v. tt
lively_step c z i (s.Ask (Join a)) = λ v. tt
lively_step c z i (s.Ask (Print a)) = λ v. tt
lively_step c z i (s.Ask (Spawn f k d)) = λ v. tt
lively_step c z i (s.Control Begin) = tt
lively_step c z i (s.Control Done) = tt
lively_step c z i (s.Control (Edge to)) = tt
lively_step c z i (s.Control (Jump to)) = tt
lively_step c z i (s.Control (JumpIfZero a to)) = lively_if (is_zero (operand_value z a)) (goes None (before (jumped (without z a) to))) (on (without z a)) tt tt
lively_step c z i (s.Control (Call f n)) =
    lively_if (nat_lt (suc (length z.below)) frame_limit) (calls c (without_arguments z n) i.place f (argument_values z n) (slice_get c.entrances f)) (traps i.line frames)
    (lively_calls c (without_arguments z n) i.place f (argument_values z n) (slice_get c.entrances f)) tt
lively_step c z i (s.Control (Return a)) = tt
lively_step c z i (s.Control Out) = tt

lively_instr : (c : Flow) (z : State) (o : Option Instr) → IsLively (of_instr c z o)
lively_instr c z None = tt
lively_instr c z (Some i) = lively_step c z i i.step

ends_over : (c : Flow) (y : Position) → progress c y ≡ ends → IsNotOver y → ⊥
ends_over c (before z) e h = subst IsLively e (lively_instr c z (slice_get c.code z.at))
ends_over c (leaves z v) e h = cc
ends_over c over e h = h

-- Behind an answer the thread isn't to end.
pub asked_lives : (c : Flow) (z : Position) (line : ℕ) (q : Question) (behind : ℤ → Position) (v : ℤ) → progress c z ≡ asks line q behind → progress c (behind v) ≡ ends → ⊥
asked_lives c (before z) line q behind v p e =
    let h : (u : ℤ) → IsNotOver (behind u) = subst IsLively p (lively_instr c z (slice_get c.code z.at)) in
    ends_over c (behind v) e (h v)
asked_lives c (leaves z u) line q behind v p e = cc
asked_lives c over line q behind v p e = cc

-- Behind a step past no mark the thread isn't to end.
pub silent_lives : (c : Flow) (z y : Position) → progress c z ≡ goes None y → progress c y ≡ ends → ⊥
silent_lives c (before z) y p e = ends_over c y e (subst IsLively p (lively_instr c z (slice_get c.code z.at)))
silent_lives c (leaves z v) y p e = cc
silent_lives c over y p e = cc
