-- One step of the machine is one step of the thread.
use Rattle.std.proofs.Common.{ℕ, ◌≡◌, ◌<◌, ◌∙◌, List, ℤ, Some, sym, ap, subst, slice_get, get_or, length}
use Rattle.std.proofs.lemmas.Option.{slice_get-get_or}
use Rattle.loom_lang.specs.Trace.{out}
use Rattle.loom_flow.specs.declared.code.Instr.{Instr}
use Rattle.loom_flow.specs.Flow.{Flow}
use Rattle.loom_flow.specs.State.{State}
use Rattle.loom_flow.specs.Position.{Position}
use Rattle.loom_flow.specs.Progress.{goes, returns, of_step, of_instr, progress}
use Rattle.loom_strand.specs.declared.machine.Phase.{Phase}
use Rattle.loom_strand.specs.declared.machine.Phase.TheVariants as phase
use Rattle.loom_strand.specs.declared.step_result.StepResult.{StepResult}
use Rattle.loom_strand.specs.Machine.{Machine, position_in, position}
use Rattle.loom_strand.specs.StepResult.{place_of_instr, place_here, StepsTo, Advances}
use Rattle.loom_strand.specs.StrandInvariant.{IsSoundPosition}

abbrev At : Flow → Machine → Machine → StepResult → Position → Type 0
At c old new result z = StepsTo c (place_here c z) old new result (progress c z)

pub before_advances : (c : Flow) (old new : Machine) (result : StepResult) (i : Instr) → old.phase ≡ phase.Before → slice_get c.code old.state.at ≡ Some i
    → StepsTo c i.place old new result (of_step c old.state i i.step) → Advances c old new result
before_advances c old new result i is there h =
    subst (At c old new result) (sym (ap (λ x. position_in x old.state) is)) (subst (λ o. StepsTo c (place_of_instr o) old new result (of_instr c old.state o)) (sym there) h)

pub leaves_advances : (c : Flow) (old new : Machine) (result : StepResult) (v : ℤ) → old.phase ≡ phase.Leaves v
    → ((place : ℕ) → StepsTo c place old new result (goes (Some (out old.state.func)) (returns c old.state.values v old.state.below))) → Advances c old new result
leaves_advances c old new result v is h = subst (At c old new result) (sym (ap (λ x. position_in x old.state) is)) (h 0)

pub sound_before : (c : Flow) (m : Machine) (x : Phase) → m.phase ≡ x → IsSoundPosition c (position m) → IsSoundPosition c (position_in x m.state)
sound_before c m x is h = subst (λ y. IsSoundPosition c (position_in y m.state)) is h

-- the instruction that stands at the thread's number in the code that was handed out
pub code_at : (c : Flow) (code : List Instr) (z : State) (at : ℕ) (d : Instr) → at ≡ z.at → code ≡ c.code → z.at < length c.code → slice_get c.code z.at ≡ Some (get_or code at d)
code_at c code z at d here is h =
    ap (slice_get c.code) (sym here) ∙ ap (λ is. slice_get is at) (sym is)
    ∙ slice_get-get_or code at d (subst (λ is. at < length is) (sym is) (subst (λ n. n < length c.code) (sym here) h))
