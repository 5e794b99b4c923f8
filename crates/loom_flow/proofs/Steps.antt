-- What comes of a step, by what comes of the positions that it leads to.
use Rattle.std.proofs.Common.{ℕ, ◌+◌, ◌&&◌, suc, ◌≡◌, List, [], Bool, true, false, ℤ, pos, negsuc, Option, Some, None, refl, inl, nat_lt, slice_get, length, if◌then◌else◌}
use Rattle.loom_lang.specs.Trace as trace
use Rattle.loom_lang.specs.Trace.{Item, Outcome, Open, Lists, Thread, made, out, broken, emit, any, choice, trap_lists, frame_limit}
use Rattle.loom_lang.specs.Values.{is_zero, divides, op_value}
use Rattle.loom_flow.specs.declared.code.Operand.{Operand}
use Rattle.loom_flow.specs.declared.code.Target.{Target}
use Rattle.loom_flow.specs.declared.code.Array.{Array}
use Rattle.loom_flow.specs.declared.code.CodeStep.{CodeStep}
use Rattle.loom_flow.specs.declared.code.CodeStep.TheVariants as s
use Rattle.loom_flow.specs.declared.code.Compute.TheVariants.{Move, Negate, Invert, Apply, Discard}
use Rattle.loom_flow.specs.declared.code.Ask.TheVariants.{Read, ReadCell, Write, WriteCell, Lock, Unlock, Down, Up, Join, Print, Spawn}
use Rattle.loom_flow.specs.declared.code.Control.TheVariants.{Begin, Done, Edge, Jump, JumpIfZero, Call, Return, Out}
use Rattle.loom_flow.specs.declared.code.Instr.{Instr}
use Rattle.loom_flow.specs.declared.code.Entrance.{Entrance}
use Rattle.loom_tree.specs.declared.expression.Op.{Op}
use Rattle.loom_flow.specs.Flow.{Flow}
use Rattle.loom_flow.specs.State.{State, Frame, operand_value, without, argument_values, without_arguments, given, forward, jumped}
use Rattle.loom_flow.specs.Position.{Position, before, leaves, over}
use Rattle.loom_flow.specs.Question.{Question, read, write, lock, unlock, down, up, spawn, join, print}
use Rattle.loom_flow.specs.Progress.{Progress, goes, asks, traps, ends, nothing, on, in_array, asks_act, asks_value, calls, returns, of_step, of_instr}
use Rattle.loom_flow.specs.FlatTrace.{question_lists, progress_lists}
use Rattle.loom_flow.proofs.Relations.{Meets, meets_itself, meets_emit, meets_any, meets_choice, meets_either, choice_open}

-- Each position that it leads to is `P`.
abbrev pub Leads : (Position → Type 0) → Progress → Type 0
Leads P (goes i z) = P z
Leads P (asks line q behind) = (v : ℤ) → P (behind v)
Leads P (traps line c) = Unit {0}
Leads P ends = Unit {0}
Leads P nothing = Unit {0}

pub leads_anywhere : (P : Position → Type 0) → ((z : Position) → P z) → (x : Progress) → Leads P x
leads_anywhere P f (goes i z) = f z
leads_anywhere P f (asks line q behind) = λ v. f (behind v)
leads_anywhere P f (traps line c) = tt
leads_anywhere P f ends = tt
leads_anywhere P f nothing = tt

leads_if : (P : Position → Type 0) (b : Bool) (x y : Progress) → Leads P x → Leads P y → Leads P (if b then x else y)
leads_if P true x y f g = f
leads_if P false x y f g = g

leads_in_array : (P : Position → Type 0) (line : ℕ) (a : Array) (v : ℤ) (more : ℕ → Progress) → ((w : ℕ) → Leads P (more w)) → Leads P (in_array line a v more)
leads_in_array P line a (pos i) more f = leads_if P (nat_lt i a.count) (more (a.first + i)) (traps line trace.index) (f (a.first + i)) tt
leads_in_array P line a (negsuc i) more f = tt

-- One set of lists within another

pub meets_reading : (b : Bool) (line w : ℕ) (m n : ℤ → Lists) → ((v : ℤ) → Meets b (m v) (n v)) → Meets b (trace.reading line w m) (trace.reading line w n)
meets_reading b line w m n f = meets_any b _ _ (λ v. meets_emit b _ _ _ (f v))

pub meets_within : (b : Bool) (t : Thread) (line first : ℕ) (count : Option ℕ) (v : ℤ) (m n : ℕ → Lists) → ((w : ℕ) → Meets b (m w) (n w)) → Meets b (trace.within t line first count v m) (trace.within t line first count v n)
meets_within b t line first None v m n f = meets_itself b broken
meets_within b t line first (Some k) (pos i) m n f = meets_choice b (nat_lt i k) (m (first + i)) (n (first + i)) (trap_lists t line trace.index) (trap_lists t line trace.index) (f (first + i)) (meets_itself b (trap_lists t line trace.index))
meets_within b t line first (Some k) (negsuc i) m n f = meets_itself b _

pub meets_operated : (b : Bool) (t : Thread) (line : ℕ) (o : Op) (v w : ℤ) (m n : ℤ → Lists) → ((u : ℤ) → Meets b (m u) (n u)) → Meets b (trace.operated t line o v w m) (trace.operated t line o v w n)
meets_operated b t line o v w m n f = meets_choice b (divides o && is_zero w) (trap_lists t line trace.division) (trap_lists t line trace.division) (m (op_value o v w)) (n (op_value o v w)) (meets_itself b (trap_lists t line trace.division)) (f (op_value o v w))

pub meets_joined : (b : Bool) (t : Thread) (line : ℕ) (v : ℤ) (m n : Lists) → Meets b m n → Meets b (trace.join_of t line v m) (trace.join_of t line v n)
meets_joined b t line (pos c) m n f = meets_either b _ _ _ _ (meets_itself b _) (meets_emit b _ _ _ f)
meets_joined b t line (negsuc c) m n f = meets_itself b _

meets_question : (b : Bool) (t : Thread) (line : ℕ) (q : Question) (m n : ℤ → Lists) → ((v : ℤ) → Meets b (m v) (n v)) → Meets b (question_lists t line q m) (question_lists t line q n)
meets_question b t line (read w) m n f = meets_reading b line w m n f
meets_question b t line (write w v) m n f = meets_emit b _ _ _ (f (pos 0))
meets_question b t line (lock x) m n f = meets_emit b _ _ _ (f (pos 0))
meets_question b t line (unlock x) m n f = meets_either b _ _ _ _ (meets_itself b _) (meets_emit b _ _ _ (f (pos 0)))
meets_question b t line (down x) m n f = meets_emit b _ _ _ (f (pos 0))
meets_question b t line (up x) m n f = meets_either b _ _ _ _ (meets_itself b _) (meets_emit b _ _ _ (f (pos 0)))
meets_question b t line (spawn g vs) m n f = meets_either b _ _ _ _ (meets_itself b _) (meets_any b _ _ (λ k. meets_emit b _ _ _ (f (pos k))))
meets_question b t line (join v) m n f = meets_joined b t line v (m (pos 0)) (n (pos 0)) (f (pos 0))
meets_question b t line (print v) m n f = meets_emit b _ _ _ (f (pos 0))

pub meets_progress : (b : Bool) (t : Thread) (m n : Position → Lists) (x : Progress) → Leads (λ z. Meets b (m z) (n z)) x → Meets b (progress_lists t m x) (progress_lists t n x)
meets_progress b t m n (goes None z) f = f
meets_progress b t m n (goes (Some i) z) f = meets_emit b i (m z) (n z) f
meets_progress b t m n (asks line q behind) f = meets_question b t line q (λ v. m (behind v)) (λ v. n (behind v)) f
meets_progress b t m n (traps line c) f = meets_itself b (trap_lists t line c)
meets_progress b t m n ends f = meets_itself b t.stopped
meets_progress b t m n nothing f = meets_itself b broken

-- Lists may break off before a step.

pub within_open : (t : Thread) (line first : ℕ) (count : Option ℕ) (v : ℤ) (m : ℕ → Lists) → ((w : ℕ) → m w [] Open) → trace.within t line first count v m [] Open
within_open t line first None v m f = (refl, refl)
within_open t line first (Some k) (pos i) m f = choice_open (nat_lt i k) (m (first + i)) (trap_lists t line trace.index) (f (first + i)) (inl (refl, refl))
within_open t line first (Some k) (negsuc i) m f = inl (refl, refl)

joined_open : (t : Thread) (line : ℕ) (v : ℤ) (m : Lists) → trace.join_of t line v m [] Open
joined_open t line (pos c) m = inl (inl (refl, refl))
joined_open t line (negsuc c) m = inl (refl, refl)

question_open : (t : Thread) (line : ℕ) (q : Question) (m : ℤ → Lists) → question_lists t line q m [] Open
question_open t line (read w) m = (pos 0, inl (refl, refl))
question_open t line (write w v) m = inl (refl, refl)
question_open t line (lock x) m = inl (refl, refl)
question_open t line (unlock x) m = inl (inl (refl, refl))
question_open t line (down x) m = inl (refl, refl)
question_open t line (up x) m = inl (inl (refl, refl))
question_open t line (spawn f vs) m = inl (inl (refl, refl))
question_open t line (join v) m = joined_open t line v (m (pos 0))
question_open t line (print v) m = inl (refl, refl)

pub progress_open : (t : Thread) (m : Position → Lists) (x : Progress) → t.stopped [] Open → ((z : Position) → m z [] Open) → progress_lists t m x [] Open
progress_open t m (goes None z) stops f = f z
progress_open t m (goes (Some i) z) stops f = inl (refl, refl)
progress_open t m (asks line q behind) stops f = question_open t line q (λ v. m (behind v))
progress_open t m (traps line c) stops f = inl (refl, refl)
progress_open t m ends stops f = stops
progress_open t m nothing stops f = (refl, refl)

-- The instructions, by what comes of the states behind them

-- where a frame has ended
abbrev pub at_frame : Thread → (State → Lists) → Position → Lists
at_frame t m (before z) = m z
at_frame t m (leaves z v) = broken
at_frame t m over = t.stopped

abbrev pub returned : Flow → Thread → (State → Lists) → List ℤ → ℤ → List Frame → Lists
returned c t m vs v below = at_frame t m (returns c vs v below)

-- A frame that is to end ends in one more step.
abbrev pub by_states : Flow → Thread → (State → Lists) → Position → Lists
by_states c t m (before z) = m z
by_states c t m (leaves z v) = emit (out z.func) (returned c t m z.values v z.below)
by_states c t m over = t.stopped

abbrev pub performed : Flow → Thread → (State → Lists) → State → Instr → CodeStep → Lists
performed c t m z i x = progress_lists t (by_states c t m) (of_step c z i x)

abbrev pub fetched : Flow → Thread → (State → Lists) → State → Option Instr → Lists
fetched c t m z i = progress_lists t (by_states c t m) (of_instr c z i)

abbrev pub entered : Flow → Thread → (State → Lists) → State → Instr → ℕ → List ℤ → Option Entrance → Lists
entered c t m z i f vs e = progress_lists t (by_states c t m) (calls c z i.place f vs e)

abbrev pub called : Flow → Thread → (State → Lists) → State → Instr → ℕ → List ℤ → Lists
called c t m z i f vs =
    choice (nat_lt (suc (length z.below)) frame_limit) (entered c t m z i f vs (slice_get c.entrances f)) (trap_lists t i.line trace.frames)

progress_if : (t : Thread) (m : Position → Lists) (b : Bool) (x y : Progress) → progress_lists t m (if b then x else y) ≡ choice b (progress_lists t m x) (progress_lists t m y)
progress_if t m true x y = refl
progress_if t m false x y = refl

progress_in_array : (t : Thread) (m : Position → Lists) (line : ℕ) (a : Array) (v : ℤ) (more : ℕ → Progress)
    → progress_lists t m (in_array line a v more) ≡ trace.within t line a.first (Some a.count) v (λ w. progress_lists t m (more w))
progress_in_array t m line a (pos i) more = progress_if t m (nat_lt i a.count) (more (a.first + i)) (traps line trace.index)
progress_in_array t m line a (negsuc i) more = refl

pub apply_gives : (c : Flow) (t : Thread) (m : State → Lists) (z : State) (i : Instr) (o : Op) (a b : Operand) (d : Target)
    → performed c t m z i (s.Compute (Apply o a b d)) ≡ trace.operated t i.line o (operand_value (without z b) a) (operand_value z b) (λ v. m (forward (given (without (without z b) a) d v)))
apply_gives c t m z i o a b d =
    progress_if t (by_states c t m) (divides o && is_zero (operand_value z b)) (traps i.line trace.division)
    (on (given (without (without z b) a) d (op_value o (operand_value (without z b) a) (operand_value z b))))

pub read_cell_gives : (c : Flow) (t : Thread) (m : State → Lists) (z : State) (i : Instr) (a : Array) (n : Operand) (d : Target)
    → performed c t m z i (s.Ask (ReadCell a n d)) ≡ trace.within t i.line a.first (Some a.count) (operand_value z n) (λ w. trace.reading i.line w (λ v. m (forward (given (without z n) d v))))
read_cell_gives c t m z i a n d = progress_in_array t (by_states c t m) i.line a (operand_value z n) (λ w. asks_value i.line (read w) (λ v. given (without z n) d v))

pub write_cell_gives : (c : Flow) (t : Thread) (m : State → Lists) (z : State) (i : Instr) (a : Array) (n b : Operand)
    → performed c t m z i (s.Ask (WriteCell a n b))
    ≡ trace.within t i.line a.first (Some a.count) (operand_value (without z b) n) (λ w. emit (made i.line (trace.write w (operand_value z b))) (m (forward (without (without z b) n))))
write_cell_gives c t m z i a n b = progress_in_array t (by_states c t m) i.line a (operand_value (without z b) n) (λ w. asks_act i.line (write w (operand_value z b)) (without (without z b) n))

pub jump_gives : (c : Flow) (t : Thread) (m : State → Lists) (z : State) (i : Instr) (a : Operand) (at : ℕ)
    → performed c t m z i (s.Control (JumpIfZero a at)) ≡ choice (is_zero (operand_value z a)) (m (jumped (without z a) at)) (m (forward (without z a)))
jump_gives c t m z i a at = progress_if t (by_states c t m) (is_zero (operand_value z a)) (goes None (before (jumped (without z a) at))) (on (without z a))

pub call_gives : (c : Flow) (t : Thread) (m : State → Lists) (z : State) (i : Instr) (f n : ℕ)
    → performed c t m z i (s.Control (Call f n)) ≡ called c t m (without_arguments z n) i f (argument_values z n)
call_gives c t m z i f n =
    progress_if t (by_states c t m) (nat_lt (suc (length z.below)) frame_limit) (calls c (without_arguments z n) i.place f (argument_values z n) (slice_get c.entrances f)) (traps i.line trace.frames)

-- Straight on

false_true : false ≡ true → ⊥
false_true e = cc

-- the instruction behind it is the next one
abbrev pub is_straight : CodeStep → Bool
is_straight (s.Control (Call f n)) = false
is_straight (s.Control (Return a)) = false
is_straight (s.Control (Edge at)) = false
is_straight (s.Control (Jump at)) = false
is_straight (s.Control (JumpIfZero a at)) = false
is_straight (s.Control Out) = false
is_straight _ = true

-- before the next instruction
abbrev IsAhead : State → Position → Type 0
IsAhead z (before y) = y.at ≡ suc z.at
IsAhead z (leaves y v) = ⊥
IsAhead z over = ⊥

leads_ahead : (c : Flow) (z : State) (i : Instr) (x : CodeStep) → is_straight x ≡ true → Leads (IsAhead z) (of_step c z i x)
leads_ahead c z i (s.Compute (Move a d)) e = refl
leads_ahead c z i (s.Compute (Negate a d)) e = refl
leads_ahead c z i (s.Compute (Invert a d)) e = refl
leads_ahead c z i (s.Compute (Apply o a b d)) e =
    leads_if (IsAhead z) (divides o && is_zero (operand_value z b)) (traps i.line trace.division) (on (given (without (without z b) a) d (op_value o (operand_value (without z b) a) (operand_value z b)))) tt refl
leads_ahead c z i (s.Compute Discard) e = refl
leads_ahead c z i (s.Ask (Read w d)) e = λ v. refl
leads_ahead c z i (s.Ask (ReadCell a n d)) e =
    leads_in_array (IsAhead z) i.line a (operand_value z n) (λ w. asks_value i.line (read w) (λ v. given (without z n) d v)) (λ w v. refl)
leads_ahead c z i (s.Ask (Write w a)) e = λ v. refl
leads_ahead c z i (s.Ask (WriteCell a n b)) e =
    leads_in_array (IsAhead z) i.line a (operand_value (without z b) n) (λ w. asks_act i.line (write w (operand_value z b)) (without (without z b) n)) (λ w v. refl)
leads_ahead c z i (s.Ask (Lock x)) e = λ v. refl
leads_ahead c z i (s.Ask (Unlock x)) e = λ v. refl
leads_ahead c z i (s.Ask (Down x)) e = λ v. refl
leads_ahead c z i (s.Ask (Up x)) e = λ v. refl
leads_ahead c z i (s.Ask (Join a)) e = λ v. refl
leads_ahead c z i (s.Ask (Print a)) e = λ v. refl
leads_ahead c z i (s.Ask (Spawn f n d)) e = λ v. refl
leads_ahead c z i (s.Control Begin) e = refl
leads_ahead c z i (s.Control Done) e = refl
leads_ahead c z i (s.Control (Call f n)) e = absurd (false_true e)
leads_ahead c z i (s.Control (Return a)) e = absurd (false_true e)
leads_ahead c z i (s.Control (Edge at)) e = absurd (false_true e)
leads_ahead c z i (s.Control (Jump at)) e = absurd (false_true e)
leads_ahead c z i (s.Control (JumpIfZero a at)) e = absurd (false_true e)
leads_ahead c z i (s.Control Out) e = absurd (false_true e)

leads_on : (P Q : Position → Type 0) → ((z : Position) → P z → Q z) → (x : Progress) → Leads P x → Leads Q x
leads_on P Q f (goes i z) h = f z h
leads_on P Q f (asks line q behind) h = λ v. f (behind v) (h v)
leads_on P Q f (traps line c) h = tt
leads_on P Q f ends h = tt
leads_on P Q f nothing h = tt

pub meets_performed : (b : Bool) (c : Flow) (t : Thread) (m n : State → Lists) (z : State) (i : Instr) (x : CodeStep) → is_straight x ≡ true
    → ((y : State) → y.at ≡ suc z.at → Meets b (m y) (n y)) → Meets b (performed c t m z i x) (performed c t n z i x)
meets_performed b c t m n z i x e f =
    meets_progress b t (by_states c t m) (by_states c t n) (of_step c z i x) (leads_on (IsAhead z) (λ p. Meets b (by_states c t m p) (by_states c t n p)) ahead (of_step c z i x) (leads_ahead c z i x e))
  where
    ahead : (p : Position) → IsAhead z p → Meets b (by_states c t m p) (by_states c t n p)
    ahead (before y) h = f y h
    ahead (leaves y v) h = absurd h
    ahead over h = absurd h
