-- The places that the marks of a thread pass.
use Rattle.std.proofs.Common.{ℕ, suc, ◌+◌, ◌&&◌, ◌≡◌, ◌<◌, ◌∷◌, Bool, true, false, List, ℤ, pos, negsuc, Option, Some, None, refl, sym, ap, subst, ◌∙◌, nat_lt, slice_get, length, if◌then◌else◌}
use Rattle.std.proofs.lemmas.Option.{slice_get_within}
use Rattle.loom_lang.specs.Values.{is_zero, op_value, divides}
use Rattle.loom_lang.specs.Places.{entry, inside, back_edge, place_at}
use Rattle.loom_lang.specs.Trace.{Item, Locals, made, begins, done, edge, enter, out, frame_limit, division, index, frames}
use Rattle.loom_flow.specs.declared.code.Array.{Array}
use Rattle.loom_flow.specs.declared.code.Compute.{Compute}
use Rattle.loom_flow.specs.declared.code.Compute.TheVariants.{Move, Negate, Invert, Apply, Discard}
use Rattle.loom_flow.specs.declared.code.Ask.{Ask}
use Rattle.loom_flow.specs.declared.code.Ask.TheVariants.{Read, ReadCell, Write, WriteCell, Lock, Unlock, Down, Up, Join, Print, Spawn}
use Rattle.loom_flow.specs.declared.code.Control.{Control}
use Rattle.loom_flow.specs.declared.code.Control.TheVariants.{Begin, Done, Edge, Jump, JumpIfZero, Call, Return, Out}
use Rattle.loom_flow.specs.declared.code.CodeStep.{CodeStep}
use Rattle.loom_flow.specs.declared.code.CodeStep.TheVariants as s
use Rattle.loom_flow.specs.declared.code.Instr.{Instr}
use Rattle.loom_flow.specs.declared.code.Entrance.{Entrance}
use Rattle.loom_flow.specs.Flow.{Flow}
use Rattle.loom_flow.specs.State.{State, named, local_values, at_start, operand_value, without, given, forward, jumped, argument_values, without_arguments}
use Rattle.loom_flow.specs.Position.{Position, before, leaves, over}
use Rattle.loom_flow.specs.Question.{read, write}
use Rattle.loom_flow.specs.Progress.{Progress, goes, traps, on, of_compute, in_array, asks_value, asks_act, of_ask, calls, of_control, of_step, of_instr, progress}
use Rattle.loom_flow.specs.Code.{IsLowered}
use Rattle.loom_flow.specs.Laws.{IsInFunction, place_of, HasInstructionPlaces}
use Rattle.loom_flow.proofs.FlowLaws.{instructions_of}
use Rattle.loom_plan.specs.PlaceEvents.{names_at}
use Rattle.loom_strand.specs.declared.step_result.Mark.{Mark}
use Rattle.loom_strand.specs.declared.step_result.Mark.TheVariants as m
use Rattle.loom_strand.specs.Machine.{Machine, position, with_position}
use Rattle.loom_strand.specs.StepResult.{place_of_entrance, place_of_instr, place_here, mark_of}
use Rattle.loom_strand.specs.InPart.{IsMarkOf}
use Rattle.loom_strand.specs.StrandInvariant.{IsSoundPosition, IsInOwn}
use Rattle.loom_strand.proofs.Soundness.{instr_at}
use Rattle.loom_strand.proofs.Entrances.{as_many_entrances}
use Rattle.loom_strand.proofs.PlaceLaws.{names_at_begin, names_at_entry}

-- A mark has the number of its place, and no entry is a mark.
abbrev pub HasMarkPlace : Flow → ℕ → Option Item → Type 0
HasMarkPlace c place (Some (begins l env)) = place_at c.program place ≡ Some (inside l)
HasMarkPlace c place (Some (done l)) = place_at c.program place ≡ Some (inside l)
HasMarkPlace c place (Some (edge l)) = place_at c.program place ≡ Some (back_edge l)
HasMarkPlace c place (Some (enter f env)) = place_at c.program (place_of_entrance (slice_get c.entrances f)) ≡ Some (entry f)
HasMarkPlace c place (Some (made l a)) = ⊥
HasMarkPlace c place _ = Unit {0}

-- At a beginning the thread is before an instruction, with the locals that are told by the names at the place; the frame that ends is that of a
-- function.
abbrev HasLocalsThere : Flow → ℕ → Locals → Position → Type 0
HasLocalsThere c place env y = (z : State) × ((y ≡ before z) × (env ≡ named (names_at c.program place) z.locals))

abbrev pub HasMarkLocals : Flow → ℕ → Option Item → Position → Type 0
HasMarkLocals c place (Some (begins l env)) y = HasLocalsThere c place env y
HasMarkLocals c place (Some (enter f env)) y = HasLocalsThere c (place_of_entrance (slice_get c.entrances f)) env y
HasMarkLocals c place (Some (out f)) y = f < length c.program.funcs
HasMarkLocals c place _ y = Unit {0}

abbrev Marks : Flow → ℕ → Progress → Type 0
Marks c place (goes mark y) = HasMarkPlace c place mark × HasMarkLocals c place mark y
Marks c place _ = Unit {0}

marks_if : (c : Flow) (n : ℕ) (b : Bool) (p q : Progress) → Marks c n p → Marks c n q → Marks c n (if b then p else q)
marks_if c n true p q f g = f
marks_if c n false p q f g = g

marks_cell : (c : Flow) (n line : ℕ) (a : Array) (v : ℤ) (more : ℕ → Progress) → ((w : ℕ) → Marks c n (more w)) → Marks c n (in_array line a v more)
marks_cell c n line a (pos k) more h = marks_if c n (nat_lt k a.count) (more (a.first + k)) (traps line index) (h (a.first + k)) tt
marks_cell c n line a (negsuc k) more h = tt

compute_marks : (c : Flow) (n : ℕ) (z : State) (line : ℕ) (x : Compute) → Marks c n (of_compute z line x)
compute_marks c n z line (Move a d) = (tt, tt)
compute_marks c n z line (Negate a d) = (tt, tt)
compute_marks c n z line (Invert a d) = (tt, tt)
compute_marks c n z line (Apply o a b d) =
    marks_if c n (divides o && is_zero (operand_value z b)) (traps line division) (on (given (without (without z b) a) d (op_value o (operand_value (without z b) a) (operand_value z b)))) tt (tt, tt)
compute_marks c n z line Discard = (tt, tt)

ask_marks : (c : Flow) (n : ℕ) (z : State) (line : ℕ) (x : Ask) → Marks c n (of_ask z line x)
ask_marks c n z line (Read w d) = tt
ask_marks c n z line (ReadCell a k d) = marks_cell c n line a (operand_value z k) (λ w. asks_value line (read w) (λ v. given (without z k) d v)) (λ w. tt)
ask_marks c n z line (Write w a) = tt
ask_marks c n z line (WriteCell a k b) = marks_cell c n line a (operand_value (without z b) k) (λ w. asks_act line (write w (operand_value z b)) (without (without z b) k)) (λ w. tt)
ask_marks c n z line (Lock m) = tt
ask_marks c n z line (Unlock m) = tt
ask_marks c n z line (Down x) = tt
ask_marks c n z line (Up x) = tt
ask_marks c n z line (Join a) = tt
ask_marks c n z line (Print a) = tt
ask_marks c n z line (Spawn f k d) = tt

marks_calls : (c : Flow) (n : ℕ) (z : State) (place f : ℕ) (vs : List ℤ) (e : Option Entrance) → IsLowered c → slice_get c.entrances f ≡ e → Marks c n (calls c z place f vs e)
marks_calls c n z place f vs None l is = tt
marks_calls c n z place f vs (Some e) l is = (
  ap (λ d. place_at c.program (place_of_entrance d)) is ∙ (instructions_of c c.program l refl).entrances f e is,
  (
    at_start f e vs z.values ((record { func = z.func; locals = z.locals; site = place }) ∷ z.below),
    (
      refl,
      ap (λ xs. named xs (local_values e vs)) (sym (ap (λ d. names_at c.program (place_of_entrance d)) is ∙ names_at_entry c l f e is)),
    ),
  ),
)

-- the place of an instruction that leads elsewhere
own_place : (c : Flow) (at : ℕ) (i : Instr) (x : Control) → IsLowered c → slice_get c.code at ≡ Some i → i.step ≡ s.Control x
    → (n : ℕ) × (place_at c.program i.place ≡ Some (place_of n i.line (s.Control x)))
own_place c at i x l e is =
    let places : HasInstructionPlaces c c.program = instructions_of c c.program l refl in
    let n : (n : ℕ) × IsInFunction c n at = places.functions at (slice_get_within c.code at i e) in
    (n.0, (places.instructions n.0 at i n.1 e).0 ∙ ap (λ y. Some (place_of n.0 i.line y)) is)

control_marks : (c : Flow) (z : State) (i : Instr) (x : Control) → IsLowered c → IsInFunction c z.func z.at → slice_get c.code z.at ≡ Some i → i.step ≡ s.Control x
    → Marks c i.place (of_control c z i.line i.place x)
control_marks c z i Begin l own e is =
    ((own_place c z.at i Begin l e is).1, (forward z, (refl, ap (λ xs. named xs z.locals) (sym (names_at_begin c l z.func z.at i own e is)))))
control_marks c z i Done l own e is = ((own_place c z.at i Done l e is).1, tt)
control_marks c z i (Edge to) l own e is = ((own_place c z.at i (Edge to) l e is).1, tt)
control_marks c z i (Jump to) l own e is = (tt, tt)
control_marks c z i (JumpIfZero a to) l own e is =
    marks_if c i.place (is_zero (operand_value z a)) (goes None (before (jumped (without z a) to))) (on (without z a)) (tt, tt) (tt, tt)
control_marks c z i (Call f n) l own e is =
    marks_if c i.place (nat_lt (suc (length z.below)) frame_limit) (calls c (without_arguments z n) i.place f (argument_values z n) (slice_get c.entrances f)) (traps i.line frames)
    (marks_calls c i.place (without_arguments z n) i.place f (argument_values z n) (slice_get c.entrances f) l refl) tt
control_marks c z i (Return a) l own e is = ((own_place c z.at i (Return a) l e is).1, tt)
control_marks c z i Out l own e is = (tt, tt)

step_marks : (c : Flow) (z : State) (i : Instr) (x : CodeStep) → IsLowered c → IsInFunction c z.func z.at → slice_get c.code z.at ≡ Some i → i.step ≡ x → Marks c i.place (of_step c z i x)
step_marks c z i (s.Compute x) l own e is = compute_marks c i.place z i.line x
step_marks c z i (s.Ask x) l own e is = ask_marks c i.place z i.line x
step_marks c z i (s.Control x) l own e is = control_marks c z i x l own e is

marks : (c : Flow) (z : Position) → IsLowered c → IsSoundPosition c z → IsInOwn c z → Marks c (place_here c z) (progress c z)
marks c (before z) l h own =
    let here : (i : Instr) × (slice_get c.code z.at ≡ Some i) = instr_at c z h in
    subst (λ o. Marks c (place_of_instr o) (of_instr c z o)) (sym here.1) (step_marks c z here.0 here.0.step l own.0 here.1 refl)
marks c (leaves z v) l h own = (tt, subst (λ n. z.func < n) (as_many_entrances c l) own.0)
marks c over l h own = tt

pub mark_place : (c : Flow) (z y : Position) (mark : Option Item) → IsLowered c → IsSoundPosition c z → IsInOwn c z → progress c z ≡ goes mark y
    → HasMarkPlace c (place_here c z) mark × HasMarkLocals c (place_here c z) mark y
mark_place c z y mark l h own p = subst (Marks c (place_here c z)) p (marks c z l h own)

-- The mark of a step is that of its item.
pub mark_is : (c : Flow) (a b : Machine) (y : Position) (mark : Mark) (item : Option Item) → IsLowered c → IsSoundPosition c (position a) → IsInOwn c (position a) → progress c (position a) ≡ goes item y
    → Some mark ≡ mark_of c (place_here c (position a)) item → b ≡ with_position a y → (i : Item) × ((item ≡ Some i) × IsMarkOf c b.state mark i)
mark_is c a b y mark item l h own p is at = by_item item (mark_place c (position a) y item l h own p) is
  where
    same_mark : (k n : Mark) → ◌≡◌ {A = Option Mark} (Some k) (Some n) → n ≡ k
    same_mark k n e = cc

    same_locals : (place : ℕ) (env : Locals) → HasLocalsThere c place env y → env ≡ named (names_at c.program place) b.state.locals
    same_locals place env (z, (there, told)) =
        told ∙ ap (λ (q : State). named (names_at c.program place) q.locals) (sym (ap (λ (q : Machine). q.state) (at ∙ ap (with_position a) there)))

    by_item : (o : Option Item) → HasMarkPlace c (place_here c (position a)) o × HasMarkLocals c (place_here c (position a)) o y → Some mark ≡ mark_of c (place_here c (position a)) o
        → (i : Item) × ((o ≡ Some i) × IsMarkOf c b.state mark i)
    by_item None f e = cc
    by_item (Some (made n act)) f e = absurd f.0
    by_item (Some (begins n env)) f e = (
      begins n env,
      (
        refl,
        subst (λ k. IsMarkOf c b.state k (begins n env)) (same_mark mark (m.Begins (place_here c (position a))) e)
            (f.0, same_locals (place_here c (position a)) env f.1),
      ),
    )
    by_item (Some (done n)) f e = (done n, (refl, subst (λ k. IsMarkOf c b.state k (done n)) (same_mark mark (m.Done n (place_here c (position a))) e) (refl, f.0)))
    by_item (Some (edge n)) f e = (edge n, (refl, subst (λ k. IsMarkOf c b.state k (edge n)) (same_mark mark (m.Edge (place_here c (position a))) e) f.0))
    by_item (Some (enter n env)) f e = (
      enter n env,
      (
        refl,
        subst (λ k. IsMarkOf c b.state k (enter n env)) (same_mark mark (m.Enter n (place_of_entrance (slice_get c.entrances n))) e)
            (refl, (f.0, same_locals (place_of_entrance (slice_get c.entrances n)) env f.1)),
      ),
    )
    by_item (Some (out n)) f e = (out n, (refl, subst (λ k. IsMarkOf c b.state k (out n)) (same_mark mark (m.Out n) e) (refl, f.1)))
