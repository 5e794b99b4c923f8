-- A thread stays at an instruction, with as many values as are foreseen there.
use Rattle.std.proofs.Common.{ℕ, suc, ◌+◌, ◌-◌, ◌&&◌, ◌≡◌, ◌≤◌, ◌<◌, Bool, true, false, List, [], ◌∷◌, ℤ, pos, negsuc, Option, Some, None, refl, sym, ap, subst, ◌∙◌, if◌then◌else◌}
use Rattle.std.proofs.Common.{nat_lt, slice_get, length, drop, length-drop, ltb-true, arith}
use Rattle.std.proofs.lemmas.Option.{slice_get-get_or, slice_get_within}
use Rattle.loom_expression.specs.Text.{node_limit}
use Rattle.loom_lang.specs.Limits.{param_limit}
use Rattle.loom_lang.specs.Values.{is_zero, op_value, divides, negated, inverted}
use Rattle.loom_lang.specs.Trace.{frame_limit, division, index, frames}
use Rattle.loom_lang.specs.Places.{places}
use Rattle.loom_flow.specs.declared.code.Array.{Array}
use Rattle.loom_flow.specs.declared.code.Operand.{Operand}
use Rattle.loom_flow.specs.declared.code.Operand.TheVariants as o
use Rattle.loom_flow.specs.declared.code.Target.{Target}
use Rattle.loom_flow.specs.declared.code.Target.TheVariants as t
use Rattle.loom_flow.specs.declared.code.Compute.{Compute}
use Rattle.loom_flow.specs.declared.code.Compute.TheVariants.{Move, Negate, Invert, Apply, Discard}
use Rattle.loom_flow.specs.declared.code.Ask.{Ask}
use Rattle.loom_flow.specs.declared.code.Ask.TheVariants.{Read, ReadCell, Write, WriteCell, Lock, Unlock, Down, Up, Join, Print, Spawn}
use Rattle.loom_flow.specs.declared.code.Control.{Control}
use Rattle.loom_flow.specs.declared.code.Control.TheVariants.{Begin, Done, Edge, Jump, JumpIfZero, Call, Return, Out}
use Rattle.loom_flow.specs.declared.code.CodeStep.{CodeStep}
use Rattle.loom_flow.specs.declared.code.CodeStep.TheVariants as s
use Rattle.loom_flow.specs.declared.code.Instr.{Instr}
use Rattle.loom_flow.specs.declared.code.Entrance.{Entrance}
use Rattle.loom_flow.specs.Flow.{Flow, resume, return_point}
use Rattle.loom_flow.specs.State.{Frame, State, operand_value, values_without, without, values_given, given, jumped, argument_values, without_arguments, at_start}
use Rattle.loom_flow.specs.Position.{Position, before, leaves, over}
use Rattle.loom_flow.specs.Progress.{Progress, goes, asks, traps, ends, nothing, on, of_compute, in_array, asks_value, asks_act, of_ask, calls, returns, of_control, of_step, of_instr, progress}
use Rattle.loom_flow.specs.Question.{read, write}
use Rattle.loom_flow.specs.Code.{IsLowered}
use Rattle.loom_flow.specs.FlatCode.{instr}
use Rattle.loom_flow.specs.Depth.{pops, pushes, depth_before}
use Rattle.loom_flow.specs.Laws.{IsInFunction, HasInstructionPlaces, HasStart, LeadsInto, JumpsForward, KeepsFunctions, KeepsDepth}
use Rattle.loom_flow.proofs.Forward.{lowered_forward, lowered_keeps}
use Rattle.loom_flow.proofs.FlowLaws.{instructions_of, as_many_sites, has_operands}
use Rattle.loom_strand.specs.Machine.{frames_below}
use Rattle.loom_strand.specs.StrandInvariant.{AllGoOn, IsBefore, IsSoundPosition}

-- What comes of a step leaves the thread sound, and there is something that comes.
abbrev pub Keeps : Flow → Progress → Type 0
Keeps c (goes mark z) = IsSoundPosition c z
Keeps c (asks line q behind) = (v : ℤ) → IsSoundPosition c (behind v)
Keeps c (traps line cause) = Unit {0}
Keeps c ends = Unit {0}
Keeps c nothing = ⊥

-- Values

pub without_length : (a : Operand) (vs : List ℤ) → length (values_without a vs) ≡ length vs - pops a
without_length o.Top vs = length-drop 1 vs
without_length (o.Local x) vs = omega arith
without_length (o.Number n) vs = omega arith

given_length : (d : Target) (v : ℤ) (vs : List ℤ) → length (values_given d v vs) ≡ length vs + pushes d
given_length t.Push v vs = omega arith
given_length (t.Local x) v vs = omega arith

left_length : (a : Operand) (d : Target) (v : ℤ) (vs : List ℤ) → length vs - pops a + pushes d ≡ length (values_given d v (values_without a vs))
left_length a d v vs = omega (arith, without_length a vs, given_length d v (values_without a vs))

taken_length : (a : Operand) (vs : List ℤ) → length vs - pops a + 0 ≡ length (values_without a vs)
taken_length a vs = omega (arith, without_length a vs)

two_length : (a b : Operand) (vs : List ℤ) → length vs - (pops a + pops b) ≡ length (values_without a (values_without b vs))
two_length a b vs = omega (arith, without_length b vs, without_length a (values_without b vs))

-- In the same frame

stays : (c : Flow) (z : State) (to n : ℕ) (vs ls : List ℤ) → IsBefore c z → to < length c.code → depth_before c to ≡ Some n → n ≡ length vs
    → IsBefore c (record { at = to; values = vs; func = z.func; locals = ls; below = z.below })
stays c z to n vs ls h l d e = record { inside = l; values = d ∙ ap {B = Option ℕ} Some e; frames = h.frames }

keeps_if : (c : Flow) (b : Bool) (p q : Progress) → (b ≡ true → Keeps c p) → (b ≡ false → Keeps c q) → Keeps c (if b then p else q)
keeps_if c true p q f g = f refl
keeps_if c false p q f g = g refl

keeps_cell : (c : Flow) (line : ℕ) (a : Array) (v : ℤ) (more : ℕ → Progress) → ((w : ℕ) → Keeps c (more w)) → Keeps c (in_array line a v more)
keeps_cell c line a (pos i) more h = keeps_if c (nat_lt i a.count) (more (a.first + i)) (traps line index) (λ e. h (a.first + i)) (λ e. tt)
keeps_cell c line a (negsuc i) more h = tt

compute_keeps : (c : Flow) (z : State) (line : ℕ) (x : Compute) → IsBefore c z → suc z.at < length c.code → KeepsDepth c z.at (length z.values) (s.Compute x) → Keeps c (of_compute z line x)
compute_keeps c z line (Move a d) h next depth = stays c z (suc z.at) _ _ _ h next depth.1 (left_length a d (operand_value z a) z.values)
compute_keeps c z line (Negate a d) h next depth = stays c z (suc z.at) _ _ _ h next depth.1 (left_length a d (negated (operand_value z a)) z.values)
compute_keeps c z line (Invert a d) h next depth = stays c z (suc z.at) _ _ _ h next depth.1 (left_length a d (inverted (operand_value z a)) z.values)
compute_keeps c z line (Apply op a b d) h next depth =
    keeps_if c (divides op && is_zero (operand_value z b)) (traps line division)
    (on (given (without (without z b) a) d (op_value op (operand_value (without z b) a) (operand_value z b)))) (λ e. tt)
    (λ e. stays c z (suc z.at) _ _ _ h next depth.1
    (omega (arith, two_length a b z.values, given_length d (op_value op (operand_value (without z b) a) (operand_value z b)) (values_without a (values_without b z.values)))))
compute_keeps c z line Discard h next depth = stays c z (suc z.at) _ _ _ h next depth.1 (taken_length o.Top z.values)

ask_keeps : (c : Flow) (z : State) (line : ℕ) (x : Ask) → IsBefore c z → suc z.at < length c.code → KeepsDepth c z.at (length z.values) (s.Ask x) → Keeps c (of_ask z line x)
ask_keeps c z line (Read w d) h next depth = λ v. stays c z (suc z.at) _ _ _ h next depth.1 (left_length (o.Number v) d v z.values)
ask_keeps c z line (ReadCell a n d) h next depth =
    keeps_cell c line a (operand_value z n) (λ w. asks_value line (read w) (λ v. given (without z n) d v)) (λ w v. stays c z (suc z.at) _ _ _ h next depth.1 (left_length n d v z.values))
ask_keeps c z line (Write w a) h next depth = λ v. stays c z (suc z.at) _ _ _ h next depth.1 (taken_length a z.values)
ask_keeps c z line (WriteCell a n b) h next depth =
    keeps_cell c line a (operand_value (without z b) n) (λ w. asks_act line (write w (operand_value z b)) (without (without z b) n))
    (λ w v. stays c z (suc z.at) _ _ _ h next depth.1 (omega (arith, two_length n b z.values)))
ask_keeps c z line (Lock m) h next depth = λ v. stays c z (suc z.at) _ _ _ h next depth.1 (omega arith)
ask_keeps c z line (Unlock m) h next depth = λ v. stays c z (suc z.at) _ _ _ h next depth.1 (omega arith)
ask_keeps c z line (Down x) h next depth = λ v. stays c z (suc z.at) _ _ _ h next depth.1 (omega arith)
ask_keeps c z line (Up x) h next depth = λ v. stays c z (suc z.at) _ _ _ h next depth.1 (omega arith)
ask_keeps c z line (Join a) h next depth = λ v. stays c z (suc z.at) _ _ _ h next depth.1 (taken_length a z.values)
ask_keeps c z line (Print a) h next depth = λ v. stays c z (suc z.at) _ _ _ h next depth.1 (taken_length a z.values)
ask_keeps c z line (Spawn f n d) h next depth = λ v. stays c z (suc z.at) _ _ _ h next depth.1 (omega (arith, length-drop n z.values, given_length d v (drop n z.values)))

-- Frames

-- the entrances, by how many values wait at them
abbrev AreEntered : Flow → Type 0
AreEntered c = (n : ℕ) (e : Entrance) → slice_get c.entrances n ≡ Some e → depth_before c e.start ≡ Some 0

keeps_calls : (c : Flow) (z : State) (place f : ℕ) (vs ws : List ℤ) (e : Option Entrance) → IsBefore c z → AreEntered c → slice_get c.entrances f ≡ e → HasStart c f
    → place < length c.sites → resume (slice_get c.sites place) ≡ Some (suc z.at) → suc z.at < length c.code → depth_before c (suc z.at) ≡ Some 1
    → suc (length z.below) ≤ frames_below → length ws ≡ 0 → Keeps c (calls c (record z { values = ws }) place f vs e)
keeps_calls c z place f vs ws None h starts is start site resumes next one few empty = cc (start.1)
keeps_calls c z place f vs ws (Some e) h starts is start site resumes next one few empty =
    let same : start.0 ≡ e = cc (start.1) in record {
      inside = subst (λ (d : Entrance). d.start < length c.code) same start.2;
      values = starts f e is ∙ ap {B = Option ℕ} Some (sym empty);
      frames = record {
        few = few;
        go_on = (
          record { call = record { within = site; at = suc z.at; resumes = resumes }; inside = next; values = one },
          h.frames.go_on,
        );
      };
    }

control_keeps : (c : Flow) (z : State) (i : Instr) (x : Control) → IsBefore c z → AreEntered c → i.place < length c.sites
    → LeadsInto (λ to. to < length c.code) c z.at i (s.Control x) → KeepsDepth c z.at (length z.values) (s.Control x) → Keeps c (of_control c z i.line i.place x)
control_keeps c z i Begin h starts site leads depth = stays c z (suc z.at) _ _ _ h leads depth.1 (omega arith)
control_keeps c z i Done h starts site leads depth = stays c z (suc z.at) _ _ _ h leads depth.1 (omega arith)
control_keeps c z i (Edge to) h starts site leads depth = stays c z to 0 _ _ h leads.1 depth.1 (sym depth.0)
control_keeps c z i (Jump to) h starts site leads depth = stays c z to 0 _ _ h leads.2 depth.1 (sym depth.0)
control_keeps c z i (JumpIfZero a to) h starts site leads depth =
    let empty : 0 ≡ length (values_without a z.values) = omega (arith, without_length a z.values, depth.0) in
    keeps_if c (is_zero (operand_value z a)) (goes None (before (jumped (without z a) to))) (on (without z a))
    (λ e. stays c z to 0 _ _ h leads.2 depth.2 empty) (λ e. stays c z (suc z.at) 0 _ _ h leads.0 depth.1 empty)
control_keeps c z i (Call f n) h starts site leads depth =
    keeps_if c (nat_lt (suc (length z.below)) frame_limit) (calls c (without_arguments z n) i.place f (argument_values z n) (slice_get c.entrances f)) (traps i.line frames)
    (λ few. keeps_calls c z i.place f (argument_values z n) (drop n z.values) (slice_get c.entrances f) h starts refl leads.1 site leads.2 leads.0 depth.1
    (omega (arith, ltb-true (suc (length z.below)) frame_limit few)) (omega (arith, length-drop n z.values, depth.0))) (λ e. tt)
control_keeps c z i (Return a) h starts site leads depth = record { values = omega (arith, without_length a z.values, depth); frames = h.frames }
control_keeps c z i Out h starts site leads depth = record { values = depth; frames = h.frames }

-- Behind its answer an instruction leads to the next one.
pub next_asked : (c : Flow) (at : ℕ) (i : Instr) (x : Ask) → LeadsInto (λ to. to < length c.code) c at i (s.Ask x) → suc at < length c.code
next_asked c at i (Spawn f n d) leads = leads.0
next_asked c at i _ leads = leads

step_keeps : (c : Flow) (z : State) (i : Instr) (x : CodeStep) → IsBefore c z → AreEntered c → i.place < length c.sites
    → LeadsInto (λ to. to < length c.code) c z.at i x → KeepsDepth c z.at (length z.values) x → Keeps c (of_step c z i x)
step_keeps c z i (s.Compute x) h starts site leads depth = compute_keeps c z i.line x h leads depth
step_keeps c z i (s.Ask x) h starts site leads depth = ask_keeps c z i.line x h (next_asked c z.at i x leads) depth
step_keeps c z i (s.Control x) h starts site leads depth = control_keeps c z i x h starts site leads depth

-- At an instruction of the code

pub leads_at : (c : Flow) (z : State) (i : Instr) → IsLowered c → slice_get c.code z.at ≡ Some i → LeadsInto (λ to. to < length c.code) c z.at i i.step
leads_at c z i l e = subst JumpsForward (sym l.is) (lowered_forward c.program l.lawful) z.at i e

pub depth_at : (c : Flow) (z : State) (i : Instr) → IsLowered c → slice_get c.code z.at ≡ Some i → IsBefore c z → KeepsDepth c z.at (length z.values) i.step
depth_at c z i l e h =
    let found : (d : ℕ) × (depth_before c z.at ≡ Some d) × (d ≤ node_limit + param_limit) × KeepsDepth c z.at d i.step = (has_operands c l).instructions z.at i e in
    let same : found.0 ≡ length z.values = cc (found.1, h.values) in
    subst (λ d. KeepsDepth c z.at d i.step) same found.3

pub site_at : (c : Flow) (at : ℕ) (i : Instr) → IsLowered c → slice_get c.code at ≡ Some i → i.place < length c.sites
site_at c at i l e =
    let places_there : HasInstructionPlaces c c.program = instructions_of c c.program l refl in
    let inside : (n : ℕ) × IsInFunction c n at = places_there.functions at (slice_get_within c.code at i e) in
    subst (λ m. i.place < m) (sym (as_many_sites c l)) (slice_get_within (places c.program) i.place _ (places_there.instructions inside.0 at i inside.1 e).0)

pub instr_at : (c : Flow) (z : State) → IsBefore c z → (i : Instr) × (slice_get c.code z.at ≡ Some i)
instr_at c z h = (_, slice_get-get_or c.code z.at (instr 0 0 (s.Control Out)) h.inside)

keeps_returns : (c : Flow) (vs : List ℤ) (v : ℤ) (fs : List Frame) → length vs ≡ 0 → length fs ≤ frames_below → AllGoOn c fs → IsSoundPosition c (returns c vs v fs)
keeps_returns c vs v [] e n h = tt
keeps_returns c vs v (f ∷ fs) e n h =
    let at : return_point c (resume (slice_get c.sites f.site)) ≡ h.0.call.at = ap (return_point c) h.0.call.resumes in record {
      inside = subst (λ n. n < length c.code) (sym at) h.0.inside;
      values = ap (depth_before c) at ∙ h.0.values ∙ ap {B = Option ℕ} Some (ap suc (sym e));
      frames = record { few = omega (arith, n); go_on = h.1 };
    }

pub keeps : (c : Flow) (z : Position) → IsLowered c → IsSoundPosition c z → Keeps c (progress c z)
keeps c (before z) l h =
    let here : (i : Instr) × (slice_get c.code z.at ≡ Some i) = instr_at c z h in
    subst (λ o. Keeps c (of_instr c z o)) (sym here.1)
    (step_keeps c z here.0 here.0.step h (has_operands c l).starts (site_at c z.at here.0 l here.1) (leads_at c z here.0 l here.1) (depth_at c z here.0 l here.1 h))
keeps c (leaves z v) l h = keeps_returns c z.values v z.below h.values h.frames.few h.frames.go_on
keeps c over l h = tt

-- the start of a thread's function
pub sound_start : (c : Flow) → IsLowered c → (n : ℕ) (e : Entrance) → slice_get c.entrances n ≡ Some e → (vs : List ℤ) → IsBefore c (at_start n e vs [] [])
sound_start c l n e is vs =
    let kept : KeepsFunctions c = subst KeepsFunctions (sym l.is) (lowered_keeps c.program l.lawful) in
    record { inside = kept.inside n e.start (kept.starts n e is); values = (has_operands c l).starts n e is; frames = record { few = omega arith; go_on = tt } }
