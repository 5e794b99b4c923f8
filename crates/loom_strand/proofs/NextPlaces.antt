-- The place that the next step passes.
use Rattle.std.proofs.Common.{ℕ, suc, ◌+◌, ◌&&◌, ◌≡◌, Bool, true, false, List, ℤ, pos, negsuc, Option, Some, None, refl, sym, ap, ◌∙◌, nat_lt, slice_get, length, if◌then◌else◌}
use Rattle.loom_lang.specs.Values.{is_zero, op_value, divides}
use Rattle.loom_lang.specs.Trace.{frame_limit, division, index, frames}
use Rattle.loom_flow.specs.declared.code.Operand.{Operand}
use Rattle.loom_flow.specs.declared.code.Array.{Array}
use Rattle.loom_flow.specs.declared.code.Compute.{Compute}
use Rattle.loom_flow.specs.declared.code.Compute.TheVariants.{Move, Negate, Invert, Apply, Discard}
use Rattle.loom_flow.specs.declared.code.Ask.{Ask}
use Rattle.loom_flow.specs.declared.code.Ask.TheVariants.{Read, ReadCell, Write, WriteCell, Lock, Unlock, Down, Up, Join, Print, Spawn}
use Rattle.loom_flow.specs.declared.code.Control.TheVariants.{JumpIfZero, Call}
use Rattle.loom_flow.specs.declared.code.Instr.{Instr}
use Rattle.loom_flow.specs.declared.code.Entrance.{Entrance}
use Rattle.loom_flow.specs.Flow.{Flow}
use Rattle.loom_flow.specs.State.{State, operand_value, without, given, jumped, argument_values, without_arguments}
use Rattle.loom_flow.specs.Position.{before}
use Rattle.loom_flow.specs.Question.{read, write}
use Rattle.loom_flow.specs.Progress.{Progress, goes, traps, on, of_compute, in_array, asks_value, asks_act, of_ask, calls, of_control, of_step, of_instr, progress}
use Rattle.loom_strand.specs.declared.machine.Phase.TheVariants as phase
use Rattle.loom_strand.specs.Machine.{Machine, position_in, position}
use Rattle.loom_strand.specs.StepResult.{place_of_entrance, place_of_instr, place_here, place_coming}

none_if : (c : Flow) (n : ℕ) (b : Bool) (p q : Progress) → place_coming c n p ≡ None → place_coming c n q ≡ None → place_coming c n (if b then p else q) ≡ None
none_if c n true p q f g = f
none_if c n false p q f g = g

none_cell : (c : Flow) (n line : ℕ) (a : Array) (v : ℤ) (more : ℕ → Progress) → ((w : ℕ) → place_coming c n (more w) ≡ None) → place_coming c n (in_array line a v more) ≡ None
none_cell c n line a (pos k) more h = none_if c n (nat_lt k a.count) (more (a.first + k)) (traps line index) (h (a.first + k)) refl
none_cell c n line a (negsuc k) more h = refl

pub compute_passes : (c : Flow) (n : ℕ) (z : State) (line : ℕ) (x : Compute) → place_coming c n (of_compute z line x) ≡ None
compute_passes c n z line (Move a d) = refl
compute_passes c n z line (Negate a d) = refl
compute_passes c n z line (Invert a d) = refl
compute_passes c n z line (Apply o a b d) =
    none_if c n (divides o && is_zero (operand_value z b)) (traps line division) (on (given (without (without z b) a) d (op_value o (operand_value (without z b) a) (operand_value z b)))) refl refl
compute_passes c n z line Discard = refl

pub ask_passes : (c : Flow) (n : ℕ) (z : State) (line : ℕ) (x : Ask) → place_coming c n (of_ask z line x) ≡ None
ask_passes c n z line (Read w d) = refl
ask_passes c n z line (ReadCell a k d) = none_cell c n line a (operand_value z k) (λ w. asks_value line (read w) (λ v. given (without z k) d v)) (λ w. refl)
ask_passes c n z line (Write w a) = refl
ask_passes c n z line (WriteCell a k b) = none_cell c n line a (operand_value (without z b) k) (λ w. asks_act line (write w (operand_value z b)) (without (without z b) k)) (λ w. refl)
ask_passes c n z line (Lock m) = refl
ask_passes c n z line (Unlock m) = refl
ask_passes c n z line (Down x) = refl
ask_passes c n z line (Up x) = refl
ask_passes c n z line (Join a) = refl
ask_passes c n z line (Print a) = refl
ask_passes c n z line (Spawn f k d) = refl

pub branch_passes : (c : Flow) (n : ℕ) (z : State) (line place to : ℕ) (a : Operand) → place_coming c n (of_control c z line place (JumpIfZero a to)) ≡ None
branch_passes c n z line place to a = none_if c n (is_zero (operand_value z a)) (goes None (before (jumped (without z a) to))) (on (without z a)) refl refl

-- a call, with and without room for its frame
deep_call : (c : Flow) (n : ℕ) (b : Bool) (p q : Progress) → b ≡ false → place_coming c n q ≡ None → place_coming c n (if b then p else q) ≡ None
deep_call c n true p q e h = cc
deep_call c n false p q e h = h

pub full_passes : (c : Flow) (n : ℕ) (z : State) (line place f k : ℕ) → nat_lt (suc (length z.below)) frame_limit ≡ false → place_coming c n (of_control c z line place (Call f k)) ≡ None
full_passes c n z line place f k e =
    deep_call c n (nat_lt (suc (length z.below)) frame_limit) (calls c (without_arguments z k) place f (argument_values z k) (slice_get c.entrances f)) (traps line frames) e refl

called : (c : Flow) (n : ℕ) (b : Bool) (p q : Progress) (k : ℕ) → b ≡ true → place_coming c n p ≡ Some k → place_coming c n (if b then p else q) ≡ Some k
called c n true p q k e h = h
called c n false p q k e h = cc

calls_entry : (c : Flow) (n : ℕ) (z : State) (place f : ℕ) (vs : List ℤ) (o : Option Entrance) (e : Entrance) → o ≡ Some e → slice_get c.entrances f ≡ Some e → place_coming c n (calls c z place f vs o) ≡ Some e.place
calls_entry c n z place f vs None e is there = cc
calls_entry c n z place f vs (Some d) e is there = ap (λ o. Some (place_of_entrance o)) there

pub call_passes : (c : Flow) (n : ℕ) (z : State) (line place f k : ℕ) (e : Entrance) → nat_lt (suc (length z.below)) frame_limit ≡ true → slice_get c.entrances f ≡ Some e
    → place_coming c n (of_control c z line place (Call f k)) ≡ Some e.place
call_passes c n z line place f k e few there =
    called c n (nat_lt (suc (length z.below)) frame_limit) (calls c (without_arguments z k) place f (argument_values z k) (slice_get c.entrances f)) (traps line frames) e.place few
    (calls_entry c n (without_arguments z k) place f (argument_values z k) (slice_get c.entrances f) e there there)

-- before an instruction
pub before_passes : (c : Flow) (m : Machine) (i : Instr) (x : Option ℕ) → m.phase ≡ phase.Before → slice_get c.code m.state.at ≡ Some i → x ≡ place_coming c i.place (of_step c m.state i i.step)
    → x ≡ place_coming c (place_here c (position m)) (progress c (position m))
before_passes c m i x is there h =
    h
    ∙ sym (ap (λ y. place_coming c (place_here c (position_in y m.state)) (progress c (position_in y m.state))) is
    ∙ ap (λ o. place_coming c (place_of_instr o) (of_instr c m.state o)) there)
