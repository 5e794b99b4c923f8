-- What instructions of the code find: values, locals and room.
use Rattle.std.proofs.Common.{ℕ, suc, ◌+◌, ◌-◌, ◌≡◌, ◌≤◌, ◌<◌, List, [], ◌∷◌, Some, sym, subst, slice_get, length, arith}
use Rattle.loom_flow.specs.declared.code.Control.{Control}
use Rattle.loom_flow.specs.declared.code.Control.TheVariants.{Begin, Done, Edge, Jump, JumpIfZero, Call, Return, Out}
use Rattle.loom_flow.specs.declared.code.CodeStep.{CodeStep}
use Rattle.loom_flow.specs.declared.code.CodeStep.TheVariants as s
use Rattle.loom_flow.specs.declared.code.Instr.{Instr}
use Rattle.loom_flow.specs.Flow.{Flow}
use Rattle.loom_flow.specs.State.{Frame}
use Rattle.loom_flow.specs.Code.{IsLowered}
use Rattle.loom_flow.specs.Depth.{takes_off, puts_on, depth_before, most_values}
use Rattle.loom_flow.specs.Laws.{LeadsInto, KeepsDepth, HasLocals}
use Rattle.loom_flow.proofs.Deepest.{at_most}
use Rattle.loom_flow.proofs.ProgramNumbers.{lowered_locals}
use Rattle.loom_strand.specs.Machine.{Machine, HasRoomFor, HasRoomBelow}
use Rattle.loom_strand.specs.StrandInvariant.{AllGoOn, IsBefore, IsLeaving, HasRoom}
use Rattle.loom_strand.proofs.Soundness.{next_asked, leads_at, depth_at}

fits : (c : Flow) (at n : ℕ) → at < length c.code → depth_before c at ≡ Some n → n ≤ most_values c
fits c at n l e = at_most 0 c.code at n l e

control_fits : (c : Flow) (at d : ℕ) (i : Instr) (x : Control) → LeadsInto (λ to. to < length c.code) c at i (s.Control x) → KeepsDepth c at d (s.Control x)
    → d - takes_off (s.Control x) + puts_on (s.Control x) ≤ most_values c
control_fits c at d i Begin leads depth = fits c (suc at) _ leads depth.1
control_fits c at d i Done leads depth = fits c (suc at) _ leads depth.1
control_fits c at d i (Edge to) leads depth = omega (arith, depth.0)
control_fits c at d i (Jump to) leads depth = omega (arith, depth.0)
control_fits c at d i (JumpIfZero a to) leads depth = omega (arith, depth.0)
control_fits c at d i (Call f n) leads depth = omega (arith, depth.0, fits c (suc at) 1 leads.0 depth.1)
control_fits c at d i (Return a) leads depth = omega (arith, depth)
control_fits c at d i Out leads depth = omega (arith, depth)

step_fits : (c : Flow) (at d : ℕ) (i : Instr) (x : CodeStep) → LeadsInto (λ to. to < length c.code) c at i x → KeepsDepth c at d x → d - takes_off x + puts_on x ≤ most_values c
step_fits c at d i (s.Compute x) leads depth = fits c (suc at) _ leads depth.1
step_fits c at d i (s.Ask x) leads depth = fits c (suc at) _ (next_asked c at i x leads) depth.1
step_fits c at d i (s.Control x) leads depth = control_fits c at d i x leads depth

-- There is room for what an instruction of the code leaves.
pub room_at : (c : Flow) (m : Machine) (i : Instr) → IsLowered c → HasRoom c m → IsBefore c m.state → slice_get c.code m.state.at ≡ Some i → HasRoomFor m i.step
room_at c m i l room h e =
    subst (λ n. length m.state.values - takes_off i.step + puts_on i.step ≤ n) (sym room.values)
    (step_fits c m.state.at (length m.state.values) i i.step (leads_at c m.state i l e) (depth_at c m.state i l e h))

-- They find the values that they take off, and their locals.

control_takes : (c : Flow) (at d : ℕ) (x : Control) → KeepsDepth c at d (s.Control x) → takes_off (s.Control x) ≤ d
control_takes c at d Begin depth = omega arith
control_takes c at d Done depth = omega arith
control_takes c at d (Edge to) depth = omega arith
control_takes c at d (Jump to) depth = omega arith
control_takes c at d (JumpIfZero a to) depth = omega (arith, depth.0)
control_takes c at d (Call f n) depth = omega (arith, depth.0)
control_takes c at d (Return a) depth = omega (arith, depth)
control_takes c at d Out depth = omega arith

step_takes : (c : Flow) (at d : ℕ) (x : CodeStep) → KeepsDepth c at d x → takes_off x ≤ d
step_takes c at d (s.Compute x) depth = depth.0
step_takes c at d (s.Ask x) depth = depth.0
step_takes c at d (s.Control x) depth = control_takes c at d x depth

pub values_at : (c : Flow) (m : Machine) (i : Instr) → IsLowered c → IsBefore c m.state → slice_get c.code m.state.at ≡ Some i → takes_off i.step ≤ length m.state.values
values_at c m i l h e = step_takes c m.state.at (length m.state.values) i.step (depth_at c m.state i l e h)

pub locals_at : (c : Flow) (at : ℕ) (i : Instr) → IsLowered c → slice_get c.code at ≡ Some i → HasLocals i.step
locals_at c at i l e =
    let P : Flow → Type 0 = λ z. slice_get z.code at ≡ Some i in
    lowered_locals c.program l.lawful at i (subst P l.is e)

below_fits : (c : Flow) (m : Machine) (fs : List Frame) → m.most_values ≡ most_values c → length m.state.values ≡ 0 → AllGoOn c fs → HasRoomBelow m fs
below_fits c m [] room empty h = tt
below_fits c m (f ∷ fs) room empty h = omega (arith, room, empty, fits c h.0.call.at 1 h.0.inside h.0.values)

-- There is room for the result of a frame, which leaves no other value.
pub room_below : (c : Flow) (m : Machine) → HasRoom c m → IsLeaving c m.state → HasRoomBelow m m.state.below
room_below c m room h = below_fits c m m.state.below room.values h.values h.frames.go_on
