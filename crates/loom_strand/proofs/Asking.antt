-- Where a thread asks it is before an instruction that asks.
use Rattle.std.proofs.Common.{ℕ, ◌≡◌, ◌<◌, ◌∙◌, Bool, true, false, List, ℤ, Option, Some, None, refl, sym, ap, subst, nat_lt, slice_get, get_or, suc, length, if◌then◌else◌}
use Rattle.std.proofs.lemmas.Option.{slice_get_within}
use Rattle.loom_lang.specs.Trace.{frame_limit, frames}
use Rattle.loom_lang.specs.Values.{is_zero}
use Rattle.loom_flow.specs.declared.code.CodeStep.TheVariants as s
use Rattle.loom_flow.specs.declared.code.Ask.{Ask}
use Rattle.loom_flow.specs.declared.code.Control.{Control}
use Rattle.loom_flow.specs.declared.code.Control.TheVariants.{Begin, Done, Edge, Jump, JumpIfZero, Call, Return, Out}
use Rattle.loom_flow.specs.declared.code.Entrance.{Entrance}
use Rattle.loom_flow.specs.declared.code.Instr.{Instr}
use Rattle.loom_flow.specs.Flow.{Flow}
use Rattle.loom_flow.specs.State.{State, operand_value, without, jumped, argument_values, without_arguments}
use Rattle.loom_flow.specs.Position.{before}
use Rattle.loom_flow.specs.Progress.{Progress, goes, traps, on, calls, of_ask, of_control, of_step, of_instr, progress}
use Rattle.loom_flow.proofs.Each.{same_element}
use Rattle.loom_strand.specs.declared.machine.Phase.{Phase}
use Rattle.loom_strand.specs.declared.machine.Phase.TheVariants as phase
use Rattle.loom_strand.specs.Machine.{Machine, position_in, position}
use Rattle.loom_strand.specs.Reply.{IsAsking}
use Rattle.loom_strand.proofs.Advance.{code_at}

abbrev IsHere : Flow → Machine → Type 0
IsHere c m = (m.phase ≡ phase.Before) × ((i : Instr) × (slice_get c.code m.state.at ≡ Some i) × IsAsking (of_step c m.state i i.step))

asks_here : (c : Flow) (m : Machine) → IsAsking (progress c (position m)) → IsHere c m
asks_here c m h = by_phase m.phase refl h
  where
    by_instr : (o : Option Instr) → slice_get c.code m.state.at ≡ o → IsAsking (of_instr c m.state o) → (i : Instr) × (slice_get c.code m.state.at ≡ Some i) × IsAsking (of_step c m.state i i.step)
    by_instr None e g = absurd g
    by_instr (Some i) e g = (i, e, g)

    by_phase : (y : Phase) → m.phase ≡ y → IsAsking (progress c (position_in y m.state)) → IsHere c m
    by_phase phase.Before e g = (e, by_instr (slice_get c.code m.state.at) refl g)
    by_phase (phase.Leaves v) e g = absurd g
    by_phase phase.Over e g = absurd g

pub asks_within : (c : Flow) (m : Machine) → IsAsking (progress c (position m)) → m.state.at < length c.code
asks_within c m h = let here : IsHere c m = asks_here c m h in slice_get_within c.code m.state.at here.1.0 here.1.1

step_asks : (c : Flow) (m : Machine) (i : Instr) → slice_get c.code m.state.at ≡ Some i → IsAsking (progress c (position m)) → IsAsking (of_step c m.state i i.step)
step_asks c m i e h =
    let here : IsHere c m = asks_here c m h in
    subst (λ (j : Instr). IsAsking (of_step c m.state j j.step)) (same_element here.1.0 i (sym here.1.1 ∙ e)) here.1.2

progress_at : (c : Flow) (m : Machine) (i : Instr) → slice_get c.code m.state.at ≡ Some i → IsAsking (progress c (position m)) → progress c (position m) ≡ of_step c m.state i i.step
progress_at c m i e h = ap (λ y. progress c (position_in y m.state)) (asks_here c m h).0 ∙ ap (of_instr c m.state) e

asks_if : (b : Bool) (p q : Progress) → (IsAsking p → ⊥) → (IsAsking q → ⊥) → IsAsking (if b then p else q) → ⊥
asks_if true p q f g h = f h
asks_if false p q f g h = g h

calls_ask : (c : Flow) (z : State) (place f : ℕ) (vs : List ℤ) (o : Option Entrance) → IsAsking (calls c z place f vs o) → ⊥
calls_ask c z place f vs None h = h
calls_ask c z place f vs (Some e) h = h

-- an instruction that leads elsewhere asks for nothing
control_asks : (c : Flow) (z : State) (line place : ℕ) (x : Control) → IsAsking (of_control c z line place x) → ⊥
control_asks c z line place Begin h = h
control_asks c z line place Done h = h
control_asks c z line place (Edge to) h = h
control_asks c z line place (Jump to) h = h
control_asks c z line place (JumpIfZero a to) h = asks_if (is_zero (operand_value z a)) (goes None (before (jumped (without z a) to))) (on (without z a)) (λ g. g) (λ g. g) h
control_asks c z line place (Call f n) h =
    asks_if (nat_lt (suc (length z.below)) frame_limit) (calls c (without_arguments z n) place f (argument_values z n) (slice_get c.entrances f)) (traps line frames)
    (calls_ask c (without_arguments z n) place f (argument_values z n) (slice_get c.entrances f)) (λ g. g) h
control_asks c z line place (Return a) h = h
control_asks c z line place Out h = h

-- The instruction that was handed out asks, and leads nowhere else.

pub no_control : (c : Flow) (code : List Instr) (m : Machine) (at : ℕ) (d : Instr) (x : Control) → at ≡ m.state.at → code ≡ c.code → IsAsking (progress c (position m))
    → (get_or code at d).step ≡ s.Control x → ⊥
no_control c code m at d x here is asks step =
    let i : Instr = get_or code at d in
    control_asks c m.state i.line i.place x
    (subst (λ y. IsAsking (of_step c m.state i y)) step (step_asks c m i (code_at c code m.state at d here is (asks_within c m asks)) asks))

pub asked_step : (c : Flow) (code : List Instr) (m : Machine) (at : ℕ) (d : Instr) (x : Ask) → at ≡ m.state.at → code ≡ c.code → IsAsking (progress c (position m))
    → (get_or code at d).step ≡ s.Ask x → progress c (position m) ≡ of_ask m.state (get_or code at d).line x
asked_step c code m at d x here is asks step =
    let i : Instr = get_or code at d in
    progress_at c m i (code_at c code m.state at d here is (asks_within c m asks)) asks ∙ ap (of_step c m.state i) step
