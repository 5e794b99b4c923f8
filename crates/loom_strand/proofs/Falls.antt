-- What falls while a thread goes on by itself.
use Rattle.std.proofs.Common.{ℕ, suc, ◌+◌, ◌-◌, ◌*◌, ◌&&◌, ◌≡◌, ◌≤◌, ◌<◌, Bool, true, false, List, [], ◌∷◌, ℤ, pos, negsuc, Option, Some, None, sym, subst, nat_lt, slice_get, length, if◌then◌else◌, arith}
use Rattle.std.proofs.Math.Nat.{mul-le-mul_right}
use Rattle.loom_lang.specs.Values.{is_zero, op_value, divides}
use Rattle.loom_lang.specs.Trace.{Item, edge, enter, frame_limit, division, index, frames}
use Rattle.loom_flow.specs.declared.code.Array.{Array}
use Rattle.loom_flow.specs.declared.code.Compute.{Compute}
use Rattle.loom_flow.specs.declared.code.Compute.TheVariants.{Move, Negate, Invert, Apply, Discard}
use Rattle.loom_flow.specs.declared.code.Ask.{Ask}
use Rattle.loom_flow.specs.declared.code.Ask.TheVariants.{Read, ReadCell, Write, WriteCell, Lock, Unlock, Down, Up, Join, Print, Spawn}
use Rattle.loom_flow.specs.declared.code.Control.{Control}
use Rattle.loom_flow.specs.declared.code.Control.TheVariants.{Begin, Done, Edge, Jump, JumpIfZero, Call, Return, Out}
use Rattle.loom_flow.specs.declared.code.CodeStep.{CodeStep}
use Rattle.loom_flow.specs.declared.code.CodeStep.TheVariants as s
use Rattle.loom_flow.specs.declared.code.Instr.{Instr}
use Rattle.loom_flow.specs.declared.code.Entrance.{Entrance}
use Rattle.loom_flow.specs.Flow.{Flow, resume, return_point}
use Rattle.loom_flow.specs.State.{Frame, State, operand_value, without, given, jumped, argument_values, without_arguments}
use Rattle.loom_flow.specs.Position.{Position, before, leaves, over}
use Rattle.loom_flow.specs.Question.{read, write}
use Rattle.loom_flow.specs.Progress.{Progress, goes, traps, on, of_compute, in_array, asks_value, asks_act, of_ask, calls, returns, of_control, of_step, of_instr, progress}
use Rattle.loom_flow.specs.Code.{IsLowered}
use Rattle.loom_flow.specs.Laws.{LeadsInto}
use Rattle.loom_law.specs.Walk.{tick_after}
use Rattle.loom_strand.specs.Machine.{frames_below}
use Rattle.loom_strand.specs.StrandInvariant.{IsSoundPosition}
use Rattle.loom_strand.proofs.Soundness.{leads_at, instr_at, keeps, Keeps}

-- more steps than one frame can make to the end of the code
abbrev pub frame_steps : Flow → ℕ
frame_steps c = 3 + length c.code

-- how far it is at most to the next place that is passed: the frames, and the instructions up to the end of the code
abbrev pub ahead : Flow → Position → ℕ
ahead c (before z) = length z.below * frame_steps c + (2 + (length c.code - z.at))
ahead c (leaves z v) = length z.below * frame_steps c + 1
ahead c over = 0

-- how far it is at most to the next request, where so many places were passed
abbrev pub left : Flow → ℕ → Position → ℕ
left c n z = (tick_after - n) * (frame_limit * frame_steps c) + ahead c z

-- Numbers

frame_falls : (b l at to : ℕ) → b * (3 + l) + (2 + (l - to)) < suc b * (3 + l) + 1
frame_falls b l at to = omega arith

step_falls : (w l at to : ℕ) → at < l → at < to → w + (2 + (l - to)) < w + (2 + (l - at))
step_falls w l at to h g = omega (arith, h, g)

frames_fit : (b l w : ℕ) → b ≤ frames_below → w < 3 + l → b * (3 + l) + w < frame_limit * (3 + l)
frames_fit b l w h g = omega (arith, g, mul-le-mul_right {m = b} {n = frames_below} (3 + l) h)

pass_falls : (m n k v w : ℕ) → suc n < m → w < k → (m - suc n) * k + w < (m - n) * k + v
pass_falls m n k v w h g =
    let one : m - n ≡ suc (m - suc n) = omega (arith, h) in
    subst (λ j. (m - suc n) * k + w < j * k + v) (sym one) (omega (arith, g))

-- a mark that passes a place
abbrev pub passes : Option Item → Bool
passes (Some (enter f env)) = true
passes (Some (edge l)) = true
passes _ = false

-- What comes of a step that passes no place is nearer.
abbrev Nears : Flow → ℕ → Progress → Type 0
Nears c n (goes mark y) = passes mark ≡ false → ahead c y < n
Nears c n _ = Unit {0}

nears_if : (c : Flow) (n : ℕ) (b : Bool) (p q : Progress) → Nears c n p → Nears c n q → Nears c n (if b then p else q)
nears_if c n true p q f g = f
nears_if c n false p q f g = g

nears_cell : (c : Flow) (n line : ℕ) (a : Array) (v : ℤ) (more : ℕ → Progress) → ((w : ℕ) → Nears c n (more w)) → Nears c n (in_array line a v more)
nears_cell c n line a (pos k) more h = nears_if c n (nat_lt k a.count) (more (a.first + k)) (traps line index) (h (a.first + k)) tt
nears_cell c n line a (negsuc k) more h = tt

-- to the next instruction, or one behind it
nears_on : (c : Flow) (z : State) (to : ℕ) → z.at < length c.code → z.at < to → ahead c (before (jumped z to)) < ahead c (before z)
nears_on c z to h g = step_falls (length z.below * frame_steps c) (length c.code) z.at to h g

compute_nears : (c : Flow) (z : State) (line : ℕ) (x : Compute) → z.at < length c.code → Nears c (ahead c (before z)) (of_compute z line x)
compute_nears c z line (Move a d) h = λ e. nears_on c z (suc z.at) h (omega arith)
compute_nears c z line (Negate a d) h = λ e. nears_on c z (suc z.at) h (omega arith)
compute_nears c z line (Invert a d) h = λ e. nears_on c z (suc z.at) h (omega arith)
compute_nears c z line (Apply o a b d) h =
    nears_if c (ahead c (before z)) (divides o && is_zero (operand_value z b)) (traps line division)
    (on (given (without (without z b) a) d (op_value o (operand_value (without z b) a) (operand_value z b)))) tt (λ e. nears_on c z (suc z.at) h (omega arith))
compute_nears c z line Discard h = λ e. nears_on c z (suc z.at) h (omega arith)

ask_nears : (c : Flow) (n : ℕ) (z : State) (line : ℕ) (x : Ask) → Nears c n (of_ask z line x)
ask_nears c n z line (Read w d) = tt
ask_nears c n z line (ReadCell a k d) = nears_cell c n line a (operand_value z k) (λ w. asks_value line (read w) (λ v. given (without z k) d v)) (λ w. tt)
ask_nears c n z line (Write w a) = tt
ask_nears c n z line (WriteCell a k b) = nears_cell c n line a (operand_value (without z b) k) (λ w. asks_act line (write w (operand_value z b)) (without (without z b) k)) (λ w. tt)
ask_nears c n z line (Lock m) = tt
ask_nears c n z line (Unlock m) = tt
ask_nears c n z line (Down x) = tt
ask_nears c n z line (Up x) = tt
ask_nears c n z line (Join a) = tt
ask_nears c n z line (Print a) = tt
ask_nears c n z line (Spawn f k d) = tt

nears_calls : (c : Flow) (n : ℕ) (z : State) (place f : ℕ) (vs : List ℤ) (e : Option Entrance) → Nears c n (calls c z place f vs e)
nears_calls c n z place f vs None = tt
nears_calls c n z place f vs (Some e) = λ h. cc

control_nears : (c : Flow) (z : State) (i : Instr) (x : Control) → z.at < length c.code → LeadsInto (λ to. to < length c.code) c z.at i (s.Control x)
    → Nears c (ahead c (before z)) (of_control c z i.line i.place x)
control_nears c z i Begin h leads = λ e. nears_on c z (suc z.at) h (omega arith)
control_nears c z i Done h leads = λ e. nears_on c z (suc z.at) h (omega arith)
control_nears c z i (Edge to) h leads = λ e. cc
control_nears c z i (Jump to) h leads = λ e. nears_on c z to h leads.1
control_nears c z i (JumpIfZero a to) h leads =
    nears_if c (ahead c (before z)) (is_zero (operand_value z a)) (goes None (before (jumped (without z a) to))) (on (without z a))
    (λ e. nears_on c z to h leads.1) (λ e. nears_on c z (suc z.at) h (omega arith))
control_nears c z i (Call f n) h leads =
    nears_if c (ahead c (before z)) (nat_lt (suc (length z.below)) frame_limit) (calls c (without_arguments z n) i.place f (argument_values z n) (slice_get c.entrances f)) (traps i.line frames)
    (nears_calls c (ahead c (before z)) (without_arguments z n) i.place f (argument_values z n) (slice_get c.entrances f)) tt
control_nears c z i (Return a) h leads = λ e. omega arith
control_nears c z i Out h leads = λ e. omega arith

step_nears : (c : Flow) (z : State) (i : Instr) (x : CodeStep) → z.at < length c.code → LeadsInto (λ to. to < length c.code) c z.at i x → Nears c (ahead c (before z)) (of_step c z i x)
step_nears c z i (s.Compute x) h leads = compute_nears c z i.line x h
step_nears c z i (s.Ask x) h leads = ask_nears c (ahead c (before z)) z i.line x
step_nears c z i (s.Control x) h leads = control_nears c z i x h leads

nears_returns : (c : Flow) (z : State) (v : ℤ) (fs : List Frame) → ahead c (returns c z.values v fs) < length fs * frame_steps c + 1
nears_returns c z v [] = omega arith
nears_returns c z v (f ∷ fs) = frame_falls (length fs) (length c.code) z.at (return_point c (resume (slice_get c.sites f.site)))

nears : (c : Flow) (z : Position) → IsLowered c → IsSoundPosition c z → Nears c (ahead c z) (progress c z)
nears c (before z) l h =
    let here : (i : Instr) × (slice_get c.code z.at ≡ Some i) = instr_at c z h in
    subst (λ o. Nears c (ahead c (before z)) (of_instr c z o)) (sym here.1) (step_nears c z here.0 here.0.step h.inside (leads_at c z here.0 l here.1))
nears c (leaves z v) l h = λ e. nears_returns c z v z.below
nears c over l h = tt

pub falls : (c : Flow) (z y : Position) (mark : Option Item) → IsLowered c → IsSoundPosition c z → progress c z ≡ goes mark y → passes mark ≡ false → (n : ℕ) → left c n y < left c n z
falls c z y mark l h p e n =
    let near : Nears c (ahead c z) (goes mark y) = subst (Nears c (ahead c z)) p (nears c z l h) in
    let nearer : ahead c y < ahead c z = near e in
    omega (arith, nearer)

fits : (c : Flow) (z : Position) → IsSoundPosition c z → ahead c z < frame_limit * frame_steps c
fits c (before z) h = frames_fit (length z.below) (length c.code) (2 + (length c.code - z.at)) h.frames.few (omega arith)
fits c (leaves z v) h = frames_fit (length z.below) (length c.code) 1 h.frames.few (omega arith)
fits c over h = omega arith

-- where a place is passed, and it isn't the thousandth
pub falls_passing : (c : Flow) (z y : Position) (mark : Option Item) → IsLowered c → IsSoundPosition c z → progress c z ≡ goes mark y → (n : ℕ) → suc n < tick_after → left c (suc n) y < left c n z
falls_passing c z y mark l h p n few =
    let next : Keeps c (goes mark y) = subst (Keeps c) p (keeps c z l h) in
    pass_falls tick_after n (frame_limit * frame_steps c) (ahead c z) (ahead c y) few (fits c y next)
