-- Where something is asked for, the place of the instruction is that of its line.
use Rattle.std.proofs.Common.{ℕ, suc, ◌+◌, ◌&&◌, ◌≡◌, ◌<◌, Bool, true, false, List, ℤ, pos, negsuc, Option, Some, None, refl, sym, ap, subst, ◌∙◌, nat_lt, slice_get, length, if◌then◌else◌, arith}
use Rattle.loom_lang.specs.Values.{is_zero, op_value, divides}
use Rattle.loom_lang.specs.Places.{place_at}
use Rattle.loom_lang.specs.Places as site
use Rattle.loom_lang.specs.Trace.{frame_limit, division, index, frames}
use Rattle.loom_flow.specs.declared.code.Array.{Array}
use Rattle.loom_flow.specs.declared.code.Compute.{Compute}
use Rattle.loom_flow.specs.declared.code.Compute.TheVariants.{Move, Negate, Invert, Apply, Discard}
use Rattle.loom_flow.specs.declared.code.Ask.{Ask}
use Rattle.loom_flow.specs.declared.code.Ask.TheVariants.{Read, ReadCell, Write, WriteCell, Lock, Unlock, Down, Up, Join, Print, Spawn}
use Rattle.loom_flow.specs.declared.code.Control.{Control}
use Rattle.loom_flow.specs.declared.code.Control.TheVariants.{Begin, Done, Edge, Jump, JumpIfZero, Call, Return, Out}
use Rattle.loom_flow.specs.declared.code.CodeStep.{CodeStep}
use Rattle.loom_flow.specs.declared.code.CodeStep.TheVariants as s
use Rattle.loom_flow.specs.declared.code.Instr.{Instr}
use Rattle.loom_flow.specs.declared.code.Entrance.{Entrance}
use Rattle.loom_flow.specs.Flow.{Flow}
use Rattle.loom_flow.specs.State.{State, operand_value, without, given, jumped, argument_values, without_arguments}
use Rattle.loom_flow.specs.Position.{Position, before, leaves, over}
use Rattle.loom_flow.specs.Question.{read, write}
use Rattle.loom_flow.specs.Progress.{Progress, goes, asks, traps, ends, on, of_compute, in_array, asks_value, asks_act, of_ask, calls, of_control, of_step, of_instr, progress}
use Rattle.loom_flow.specs.Code.{IsLowered}
use Rattle.loom_flow.specs.Laws.{IsInFunction, place_of, HasInstructionPlaces}
use Rattle.loom_flow.proofs.FlowLaws.{instructions_of}
use Rattle.loom_trace.specs.declared.request.Request.{Request}
use Rattle.loom_trace.specs.declared.request.Request.TheVariants as r
use Rattle.loom_strand.specs.declared.machine.Phase.{Phase}
use Rattle.loom_strand.specs.declared.machine.Phase.TheVariants as phase
use Rattle.loom_strand.specs.Machine.{Machine, position, position_in}
use Rattle.loom_strand.specs.PositionRequest.{request_at}
use Rattle.loom_strand.specs.StepResult.{place_of_instr, place_here}
use Rattle.loom_strand.specs.StrandInvariant.{IsSoundPosition}
use Rattle.loom_strand.proofs.Soundness.{instr_at}

-- What is asked for, or traps, does so inside the statement of its line.
abbrev pub AsksAt : Flow → ℕ → Progress → Type 0
AsksAt c place (asks line q behind) = place_at c.program place ≡ Some (site.inside line)
AsksAt c place (traps line k) = place_at c.program place ≡ Some (site.inside line)
AsksAt c place _ = Unit {0}

asks_if : (c : Flow) (n : ℕ) (b : Bool) (p q : Progress) → AsksAt c n p → AsksAt c n q → AsksAt c n (if b then p else q)
asks_if c n true p q f g = f
asks_if c n false p q f g = g

asks_cell : (c : Flow) (n line : ℕ) (a : Array) (v : ℤ) (more : ℕ → Progress) → place_at c.program n ≡ Some (site.inside line) → ((w : ℕ) → AsksAt c n (more w)) → AsksAt c n (in_array line a v more)
asks_cell c n line a (pos k) more h g = asks_if c n (nat_lt k a.count) (more (a.first + k)) (traps line index) (g (a.first + k)) h
asks_cell c n line a (negsuc k) more h g = h

compute_asks : (c : Flow) (n : ℕ) (z : State) (line : ℕ) (x : Compute) → place_at c.program n ≡ Some (site.inside line) → AsksAt c n (of_compute z line x)
compute_asks c n z line (Move a d) h = tt
compute_asks c n z line (Negate a d) h = tt
compute_asks c n z line (Invert a d) h = tt
compute_asks c n z line (Apply o a b d) h =
    asks_if c n (divides o && is_zero (operand_value z b)) (traps line division) (on (given (without (without z b) a) d (op_value o (operand_value (without z b) a) (operand_value z b)))) h tt
compute_asks c n z line Discard h = tt

ask_asks : (c : Flow) (n : ℕ) (z : State) (line : ℕ) (x : Ask) → place_at c.program n ≡ Some (site.inside line) → AsksAt c n (of_ask z line x)
ask_asks c n z line (Read w d) h = h
ask_asks c n z line (ReadCell a k d) h = asks_cell c n line a (operand_value z k) (λ w. asks_value line (read w) (λ v. given (without z k) d v)) h (λ w. h)
ask_asks c n z line (Write w a) h = h
ask_asks c n z line (WriteCell a k b) h = asks_cell c n line a (operand_value (without z b) k) (λ w. asks_act line (write w (operand_value z b)) (without (without z b) k)) h (λ w. h)
ask_asks c n z line (Lock m) h = h
ask_asks c n z line (Unlock m) h = h
ask_asks c n z line (Down x) h = h
ask_asks c n z line (Up x) h = h
ask_asks c n z line (Join a) h = h
ask_asks c n z line (Print a) h = h
ask_asks c n z line (Spawn f k d) h = h

calls_asks : (c : Flow) (n : ℕ) (z : State) (place f : ℕ) (vs : List ℤ) (e : Option Entrance) → AsksAt c n (calls c z place f vs e)
calls_asks c n z place f vs None = tt
calls_asks c n z place f vs (Some e) = tt

call_asks : (c : Flow) (n : ℕ) (z : State) (line place f k : ℕ) → place_at c.program n ≡ Some (site.inside line) → AsksAt c n (of_control c z line place (Call f k))
call_asks c n z line place f k h =
    asks_if c n (nat_lt (suc (length z.below)) frame_limit) (calls c (without_arguments z k) place f (argument_values z k) (slice_get c.entrances f)) (traps line frames)
    (calls_asks c n (without_arguments z k) place f (argument_values z k) (slice_get c.entrances f)) h

control_asks : (c : Flow) (fn n : ℕ) (z : State) (line place : ℕ) (x : Control) → place_at c.program n ≡ Some (place_of fn line (s.Control x)) → AsksAt c n (of_control c z line place x)
control_asks c fn n z line place Begin h = tt
control_asks c fn n z line place Done h = tt
control_asks c fn n z line place (Edge to) h = tt
control_asks c fn n z line place (Jump to) h = tt
control_asks c fn n z line place (JumpIfZero a to) h = asks_if c n (is_zero (operand_value z a)) (goes None (before (jumped (without z a) to))) (on (without z a)) tt tt
control_asks c fn n z line place (Call f k) h = call_asks c n z line place f k h
control_asks c fn n z line place (Return a) h = tt
control_asks c fn n z line place Out h = tt

step_asks : (c : Flow) (fn : ℕ) (z : State) (i : Instr) (x : CodeStep) → place_at c.program i.place ≡ Some (place_of fn i.line x) → AsksAt c i.place (of_step c z i x)
step_asks c fn z i (s.Compute x) h = compute_asks c i.place z i.line x h
step_asks c fn z i (s.Ask x) h = ask_asks c i.place z i.line x h
step_asks c fn z i (s.Control x) h = control_asks c fn i.place z i.line i.place x h

here_asks : (c : Flow) (z : Position) → IsLowered c → IsSoundPosition c z → AsksAt c (place_here c z) (progress c z)
here_asks c (before z) l h =
    let here : (i : Instr) × (slice_get c.code z.at ≡ Some i) = instr_at c z h in
    let places : HasInstructionPlaces c c.program = instructions_of c c.program l refl in
    let n : (n : ℕ) × IsInFunction c n z.at = places.functions z.at h.inside in
    subst (λ o. AsksAt c (place_of_instr o) (of_instr c z o)) (sym here.1) (step_asks c n.0 z here.0 here.0.step (places.instructions n.0 z.at here.0 n.1 here.1).0)
here_asks c (leaves z v) l h = tt
here_asks c over l h = tt

-- before this instruction
pub asks_at : (c : Flow) (m : Machine) (i : Instr) → IsLowered c → IsSoundPosition c (position m) → m.phase ≡ phase.Before → slice_get c.code m.state.at ≡ Some i → AsksAt c i.place (progress c (position m))
asks_at c m i l sound is there =
    subst (λ k. AsksAt c k (progress c (position m))) (ap (λ y. place_here c (position_in y m.state)) is ∙ ap place_of_instr there) (here_asks c (position m) l sound)

-- What is asked for, whatever line a function has, is no end.

end_number : Option Request → ℕ
end_number (Some (r.End n)) = n
end_number _ = 0

two_ends : (q : Request) → ((line : ℕ) → Some (r.End line) ≡ Some q) → ⊥
unfolding end_number
two_ends q h = let no : ◌≡◌ {A = ℕ} 0 1 = ap end_number (h 0 ∙ sym (h 1)) in omega (arith, no)

none_asked : (q : Request) → ◌≡◌ {A = Option Request} None (Some q) → ⊥
none_asked q e = cc

pub asks_no_end : (w : Progress) (q : Request) → ((line : ℕ) → request_at line w ≡ Some q) → w ≡ ends → ⊥
asks_no_end w q h is = two_ends q (λ line. sym (ap (request_at line) is) ∙ h line)

asks_before : (c : Flow) (m : Machine) (q : Request) (x : Phase) → m.phase ≡ x → IsSoundPosition c (position_in x m.state) → ((line : ℕ) → request_at line (progress c (position_in x m.state)) ≡ Some q)
    → (m.phase ≡ phase.Before) × (m.state.at < length c.code)
asks_before c m q phase.Before is sound h = (is, sound.inside)
asks_before c m q (phase.Leaves v) is sound h = absurd (none_asked q (h 0))
asks_before c m q phase.Over is sound h = absurd (two_ends q h)

-- The machine is before an instruction there.
pub asks_inside : (c : Flow) (m : Machine) (q : Request) → IsSoundPosition c (position m) → ((line : ℕ) → request_at line (progress c (position m)) ≡ Some q) → (m.phase ≡ phase.Before) × (m.state.at < length c.code)
asks_inside c m q sound h = asks_before c m q m.phase refl sound h
