-- A thread stays in the code of its functions.
use Rattle.std.proofs.Common.{ℕ, suc, ◌+◌, ◌&&◌, ◌≡◌, Bool, true, false, List, [], ◌∷◌, ℤ, pos, negsuc, Option, Some, None, refl, sym, ap, subst, ◌∙◌, nat_lt, slice_get, length, drop, if◌then◌else◌}
use Rattle.std.proofs.lemmas.Option.{slice_get_within}
use Rattle.loom_lang.specs.Values.{is_zero, op_value, divides}
use Rattle.loom_lang.specs.Trace.{frame_limit, division, index, frames}
use Rattle.loom_flow.specs.declared.code.Array.{Array}
use Rattle.loom_flow.specs.declared.code.Compute.{Compute}
use Rattle.loom_flow.specs.declared.code.Compute.TheVariants.{Move, Negate, Invert, Apply, Discard}
use Rattle.loom_flow.specs.declared.code.Ask.{Ask}
use Rattle.loom_flow.specs.declared.code.Ask.TheVariants.{Read, ReadCell, Write, WriteCell, Lock, Unlock, Down, Up, Join, Print, Spawn}
use Rattle.loom_flow.specs.declared.code.Control.{Control}
use Rattle.loom_flow.specs.declared.code.Control.TheVariants.{Begin, Done, Edge, Jump, JumpIfZero, Call, Return, Out}
use Rattle.loom_flow.specs.declared.code.CodeStep.{CodeStep}
use Rattle.loom_flow.specs.declared.code.CodeStep.TheVariants as s
use Rattle.loom_flow.specs.declared.code.Instr.{Instr}
use Rattle.loom_flow.specs.declared.code.Entrance.{Entrance}
use Rattle.loom_flow.specs.Flow.{Flow, resume, return_point}
use Rattle.loom_flow.specs.State.{Frame, State, operand_value, without, given, jumped, argument_values, without_arguments}
use Rattle.loom_flow.specs.Position.{Position, before, leaves, over}
use Rattle.loom_flow.specs.Question.{read, write}
use Rattle.loom_flow.specs.Progress.{Progress, goes, asks, traps, on, of_compute, in_array, asks_value, asks_act, of_ask, calls, returns, of_control, of_step, of_instr, progress}
use Rattle.loom_flow.specs.Code.{IsLowered}
use Rattle.loom_flow.specs.Laws.{IsInFunction, KeepsFunctions, LeadsInto}
use Rattle.loom_flow.proofs.Forward.{lowered_keeps}
use Rattle.loom_flow.proofs.Each.{same_element}
use Rattle.loom_strand.specs.Machine.{HasCall}
use Rattle.loom_strand.specs.StrandInvariant.{AllGoOn, IsSoundPosition, AllInOwn, IsInOwn}
use Rattle.loom_strand.proofs.Soundness.{instr_at}

-- What comes of a step leaves each frame in its own function.
abbrev pub Owns : Flow → Progress → Type 0
Owns c (goes mark z) = IsInOwn c z
Owns c (asks line q behind) = (v : ℤ) → IsInOwn c (behind v)
Owns c _ = Unit {0}

owns_if : (c : Flow) (b : Bool) (p q : Progress) → Owns c p → Owns c q → Owns c (if b then p else q)
owns_if c true p q f g = f
owns_if c false p q f g = g

owns_cell : (c : Flow) (line : ℕ) (a : Array) (v : ℤ) (more : ℕ → Progress) → ((w : ℕ) → Owns c (more w)) → Owns c (in_array line a v more)
owns_cell c line a (pos k) more h = owns_if c (nat_lt k a.count) (more (a.first + k)) (traps line index) (h (a.first + k)) tt
owns_cell c line a (negsuc k) more h = tt

compute_owns : (c : Flow) (z : State) (line : ℕ) (x : Compute) → IsInFunction c z.func (suc z.at) → AllInOwn c z.below → Owns c (of_compute z line x)
compute_owns c z line (Move a d) next below = (next, below)
compute_owns c z line (Negate a d) next below = (next, below)
compute_owns c z line (Invert a d) next below = (next, below)
compute_owns c z line (Apply o a b d) next below =
    owns_if c (divides o && is_zero (operand_value z b)) (traps line division) (on (given (without (without z b) a) d (op_value o (operand_value (without z b) a) (operand_value z b)))) tt (next, below)
compute_owns c z line Discard next below = (next, below)

ask_owns : (c : Flow) (z : State) (line : ℕ) (x : Ask) → IsInFunction c z.func (suc z.at) → AllInOwn c z.below → Owns c (of_ask z line x)
ask_owns c z line (Read w d) next below = λ v. (next, below)
ask_owns c z line (ReadCell a k d) next below = owns_cell c line a (operand_value z k) (λ w. asks_value line (read w) (λ v. given (without z k) d v)) (λ w v. (next, below))
ask_owns c z line (Write w a) next below = λ v. (next, below)
ask_owns c z line (WriteCell a k b) next below =
    owns_cell c line a (operand_value (without z b) k) (λ w. asks_act line (write w (operand_value z b)) (without (without z b) k)) (λ w v. (next, below))
ask_owns c z line (Lock m) next below = λ v. (next, below)
ask_owns c z line (Unlock m) next below = λ v. (next, below)
ask_owns c z line (Down x) next below = λ v. (next, below)
ask_owns c z line (Up x) next below = λ v. (next, below)
ask_owns c z line (Join a) next below = λ v. (next, below)
ask_owns c z line (Print a) next below = λ v. (next, below)
ask_owns c z line (Spawn f k d) next below = λ v. (next, below)

-- where a call goes on
behind_call : (c : Flow) (f at place : ℕ) → IsInFunction c f (suc at) → resume (slice_get c.sites place) ≡ Some (suc at) → (call : HasCall c.sites place) → IsInFunction c f call.at
behind_call c f at place next is call = subst (IsInFunction c f) (same_element (suc at) call.at (sym is ∙ call.resumes)) next

owns_calls : (c : Flow) (z : State) (place f : ℕ) (vs us : List ℤ) (e : Option Entrance) → KeepsFunctions c → slice_get c.entrances f ≡ e → ((call : HasCall c.sites place) → IsInFunction c z.func call.at)
    → AllInOwn c z.below → Owns c (calls c (record z { values = us }) place f vs e)
owns_calls c z place f vs us None kept is call below = tt
owns_calls c z place f vs us (Some e) kept is call below = (kept.starts f e is, (call, below))

-- an instruction that asks leads to the next one
next_asked : (c : Flow) (f at : ℕ) (i : Instr) (x : Ask) → LeadsInto (IsInFunction c f) c at i (s.Ask x) → IsInFunction c f (suc at)
next_asked c f at i (Spawn g n d) leads = leads.0
next_asked c f at i (Read w d) leads = leads
next_asked c f at i (ReadCell a n d) leads = leads
next_asked c f at i (Write w a) leads = leads
next_asked c f at i (WriteCell a n b) leads = leads
next_asked c f at i (Lock m) leads = leads
next_asked c f at i (Unlock m) leads = leads
next_asked c f at i (Down x) leads = leads
next_asked c f at i (Up x) leads = leads
next_asked c f at i (Join a) leads = leads
next_asked c f at i (Print a) leads = leads

control_owns : (c : Flow) (z : State) (i : Instr) (x : Control) → KeepsFunctions c → IsInFunction c z.func z.at → LeadsInto (IsInFunction c z.func) c z.at i (s.Control x) → AllInOwn c z.below
    → Owns c (of_control c z i.line i.place x)
control_owns c z i Begin kept here leads below = (leads, below)
control_owns c z i Done kept here leads below = (leads, below)
control_owns c z i (Edge to) kept here leads below = (leads.1, below)
control_owns c z i (Jump to) kept here leads below = (leads.2, below)
control_owns c z i (JumpIfZero a to) kept here leads below =
    owns_if c (is_zero (operand_value z a)) (goes None (before (jumped (without z a) to))) (on (without z a)) (leads.2, below) (leads.0, below)
control_owns c z i (Call f n) kept here leads below =
    owns_if c (nat_lt (suc (length z.below)) frame_limit) (calls c (without_arguments z n) i.place f (argument_values z n) (slice_get c.entrances f)) (traps i.line frames)
    (owns_calls c z i.place f (argument_values z n) (drop n z.values) (slice_get c.entrances f) kept refl (behind_call c z.func z.at i.place leads.0 leads.2) below) tt
control_owns c z i (Return a) kept here leads below = (slice_get_within c.entrances z.func here.entrance here.there, below)
control_owns c z i Out kept here leads below = (slice_get_within c.entrances z.func here.entrance here.there, below)

compute_leads : (c : Flow) (f at : ℕ) (i : Instr) (x : Compute) → LeadsInto (IsInFunction c f) c at i (s.Compute x) → IsInFunction c f (suc at)
compute_leads c f at i x leads = leads

step_owns : (c : Flow) (z : State) (i : Instr) (x : CodeStep) → KeepsFunctions c → IsInFunction c z.func z.at → LeadsInto (IsInFunction c z.func) c z.at i x → AllInOwn c z.below → Owns c (of_step c z i x)
step_owns c z i (s.Compute x) kept here leads below = compute_owns c z i.line x (compute_leads c z.func z.at i x leads) below
step_owns c z i (s.Ask x) kept here leads below = ask_owns c z i.line x (next_asked c z.func z.at i x leads) below
step_owns c z i (s.Control x) kept here leads below = control_owns c z i x kept here leads below

owns_returns : (c : Flow) (vs : List ℤ) (v : ℤ) (fs : List Frame) → AllGoOn c fs → AllInOwn c fs → IsInOwn c (returns c vs v fs)
owns_returns c vs v [] go below = tt
owns_returns c vs v (f ∷ fs) go below =
    let at : return_point c (resume (slice_get c.sites f.site)) ≡ go.0.call.at = ap (return_point c) go.0.call.resumes in
    (subst (IsInFunction c f.func) (sym at) (below.0 go.0.call), below.1)

pub keeps_functions : (c : Flow) → IsLowered c → KeepsFunctions c
keeps_functions c l = subst KeepsFunctions (sym l.is) (lowered_keeps c.program l.lawful)

pub owns : (c : Flow) (z : Position) → IsLowered c → IsSoundPosition c z → IsInOwn c z → Owns c (progress c z)
owns c (before z) l h own =
    let here : (i : Instr) × (slice_get c.code z.at ≡ Some i) = instr_at c z h in
    let kept : KeepsFunctions c = keeps_functions c l in
    subst (λ o. Owns c (of_instr c z o)) (sym here.1) (step_owns c z here.0 here.0.step kept own.0 (kept.instructions z.func z.at here.0 own.0 here.1) own.1)
owns c (leaves z v) l h own = owns_returns c z.values v z.below h.frames.go_on own.1
owns c over l h own = tt
