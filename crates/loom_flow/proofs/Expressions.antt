-- The steps of an expression give what the expression gives.
use Rattle.std.proofs.Common.{◌≤◌, ℕ, suc, ◌≡◌, List, [], ◌∷◌, ◌++◌, ℤ, Option, Some, None, refl, sym, ap, ◌∙◌, slice_get, length}
use mathlib.Core.Path.{fun_ext}
use Rattle.loom_tree.specs.declared.expression.Op.{Op}
use Rattle.loom_tree.specs.Tree.{Expression, num, var, cell, neg, inverse, bin, Source}
use Rattle.loom_lang.specs.Numbers.{index_of, Cells, cells_named}
use Rattle.loom_lang.specs.Values.{negated, inverted}
use Rattle.loom_lang.specs.Trace.{Lists, Thread, Locals, value_in, reading, reading_word, variable, at_index, operated, expression}
use Rattle.loom_flow.specs.declared.code.Operand.{Operand}
use Rattle.loom_flow.specs.declared.code.Operand.TheVariants as operand
use Rattle.loom_flow.specs.declared.code.Target.{Target}
use Rattle.loom_flow.specs.declared.code.Target.TheVariants as target
use Rattle.loom_flow.specs.declared.code.CodeStep.{CodeStep}
use Rattle.loom_flow.specs.declared.code.CodeStep.TheVariants as s
use Rattle.loom_flow.specs.declared.code.Compute.TheVariants.{Negate, Invert, Apply}
use Rattle.loom_flow.specs.declared.code.Ask.TheVariants.{ReadCell}
use Rattle.loom_flow.specs.Flow.{Flow}
use Rattle.loom_flow.specs.State.{State, value_of, given, jumped, named}
use Rattle.loom_flow.specs.FlatCode.{instr, array_of, array_named, first_cell, local_operand, operand_of, unless_there, variable_step, steps_to, operand_steps}
use Rattle.loom_flow.proofs.Locals.{local_value, value_named}
use Rattle.loom_flow.proofs.Steps.{apply_gives, read_cell_gives}
use Rattle.loom_flow.proofs.Straight.{straight, straight_append, skip, skip_append}

-- Each name has its number.

abbrev pub IsNumbered : Source → List ℕ → Option ℕ → Type 0
IsNumbered p x None = (d : Cells) × (cells_named p x ≡ Some d)
IsNumbered p x (Some k) = Unit {0}

abbrev pub IsArray : Source → List ℕ → Type 0
IsArray p x = (first : ℕ) × (n : ℕ) × (cells_named p x ≡ Some (record { first = first; count = Some n }))

abbrev pub IsKnown : Source → List (List ℕ) → Expression → Type 0
IsKnown p xs (num n) = Unit {0}
IsKnown p xs (var x) = IsNumbered p x (index_of x xs)
IsKnown p xs (cell x i) = IsArray p x × IsKnown p xs i
IsKnown p xs (neg a) = IsKnown p xs a
IsKnown p xs (inverse a) = IsKnown p xs a
IsKnown p xs (bin o a b) = IsKnown p xs a × IsKnown p xs b

-- Operands

-- the values with that of an operand, where it isn't in the instruction
abbrev pub left_values : Operand → ℤ → List ℤ → List ℤ
left_values operand.Top v vs = v ∷ vs
left_values (operand.Local k) v vs = vs
left_values (operand.Number n) v vs = vs

abbrev pub left : Operand → ℤ → State → State
left a v z = record z { values = left_values a v z.values }

-- what the operand gives then
abbrev pub settled : Operand → List ℤ → ℤ → ℤ
settled operand.Top vs v = v
settled (operand.Local k) vs v = value_of (slice_get vs k)
settled (operand.Number n) vs v = n

settled_variable : (t : Thread) (l : ℕ) (x : List ℕ) (vs : List ℤ) (more : ℤ → Lists) (a : Option ℕ)
    → variable t l (local_value vs a) x more ≡ variable t l (local_value vs a) x (λ v. more (settled (local_operand a) vs v))
settled_variable t l x vs more None = refl
settled_variable t l x vs more (Some k) = refl

-- An expression gives no other value.
pub settled_is : (t : Thread) (l : ℕ) (xs : List (List ℕ)) (vs : List ℤ) (e : Expression) (more : ℤ → Lists) → length xs ≤ length vs
    → expression t l (named xs vs) e more ≡ expression t l (named xs vs) e (λ v. more (settled (operand_of xs e) vs v))
settled_is t l xs vs (num n) more h = refl
settled_is t l xs vs (var x) more h =
    let found : value_in (named xs vs) x ≡ local_value vs (index_of x xs) = value_named xs vs x h in
    ap {B = Lists} (λ w. variable t l w x more) found
    ∙ settled_variable t l x vs more (index_of x xs)
    ∙ ap {B = Lists} (λ w. variable t l w x (λ v. more (settled (local_operand (index_of x xs)) vs v))) (sym found)
settled_is t l xs vs (cell x i) more h = refl
settled_is t l xs vs (neg a) more h = refl
settled_is t l xs vs (inverse a) more h = refl
settled_is t l xs vs (bin o a b) more h = refl

-- The steps that leave a value on top serve for an operand, too.

variable_operand : (c : Flow) (t : Thread) (l k : ℕ) (x : List ℕ) (steps : List CodeStep) (next : State → Lists) (z : State) (at : ℕ) (a : Option ℕ)
    → straight c t l k steps next (jumped z at) ≡ variable t l (local_value z.locals a) x (λ v. next (jumped (given z target.Push v) (skip at steps)))
    → straight c t l k (unless_there (local_operand a) steps) next (jumped z at)
    ≡ variable t l (local_value z.locals a) x (λ v. next (jumped (left (local_operand a) v z) (skip at (unless_there (local_operand a) steps))))
variable_operand c t l k x steps next z at None h = h
variable_operand c t l k x steps next z at (Some j) h = refl

pub operand_are : (c : Flow) (t : Thread) (l k : ℕ) (xs : List (List ℕ)) (e : Expression) (next : State → Lists) (z : State) (at : ℕ) → length xs ≤ length z.locals
    → straight c t l k (steps_to t.program xs target.Push e) next (jumped z at)
    ≡ expression t l (named xs z.locals) e (λ v. next (jumped (given z target.Push v) (skip at (steps_to t.program xs target.Push e))))
    → straight c t l k (operand_steps t.program xs e) next (jumped z at)
    ≡ expression t l (named xs z.locals) e (λ v. next (jumped (left (operand_of xs e) v z) (skip at (operand_steps t.program xs e))))
operand_are c t l k xs (num n) next z at h g = refl
operand_are c t l k xs (var x) next z at h g =
    let found : value_in (named xs z.locals) x ≡ local_value z.locals (index_of x xs) = value_named xs z.locals x h in
    let steps : List CodeStep = steps_to t.program xs target.Push (var x) in
    let a : Operand = local_operand (index_of x xs) in
    variable_operand c t l k x steps next z at (index_of x xs) (g ∙ ap {B = Lists} (λ w. variable t l w x (λ v. next (jumped (given z target.Push v) (skip at steps)))) found)
    ∙ ap {B = Lists} (λ w. variable t l w x (λ v. next (jumped (left a v z) (skip at (unless_there a steps))))) (sym found)
operand_are c t l k xs (cell x i) next z at h g = g
operand_are c t l k xs (neg a) next z at h g = g
operand_are c t l k xs (inverse a) next z at h g = g
operand_are c t l k xs (bin o a b) next z at h g = g

-- Single steps behind their operands

negate_is : (c : Flow) (t : Thread) (l k : ℕ) (d : Target) (a : Operand) (next : State → Lists) (z : State) (n : ℕ) (v : ℤ)
    → straight c t l k (s.Compute (Negate a d) ∷ []) next (jumped (left a v z) n) ≡ next (jumped (given z d (negated (settled a z.locals v))) (suc n))
negate_is c t l k d operand.Top next z n v = refl
negate_is c t l k d (operand.Local j) next z n v = refl
negate_is c t l k d (operand.Number m) next z n v = refl

invert_is : (c : Flow) (t : Thread) (l k : ℕ) (d : Target) (a : Operand) (next : State → Lists) (z : State) (n : ℕ) (v : ℤ)
    → straight c t l k (s.Compute (Invert a d) ∷ []) next (jumped (left a v z) n) ≡ next (jumped (given z d (inverted (settled a z.locals v))) (suc n))
invert_is c t l k d operand.Top next z n v = refl
invert_is c t l k d (operand.Local j) next z n v = refl
invert_is c t l k d (operand.Number m) next z n v = refl

apply_is : (c : Flow) (t : Thread) (l k : ℕ) (d : Target) (o : Op) (a b : Operand) (next : State → Lists) (z : State) (n : ℕ) (v w : ℤ)
    → straight c t l k (s.Compute (Apply o a b d) ∷ []) next (jumped (left b w (left a v z)) n)
    ≡ operated t l o (settled a z.locals v) (settled b z.locals w) (λ u. next (jumped (given z d u) (suc n)))
apply_is c t l k d o operand.Top operand.Top next z n v w = apply_gives c t next (jumped (left operand.Top w (left operand.Top v z)) n) (instr l k (s.Compute (Apply o operand.Top operand.Top d))) o operand.Top operand.Top d
apply_is c t l k d o operand.Top (operand.Local j) next z n v w = apply_gives c t next (jumped (left (operand.Local j) w (left operand.Top v z)) n) (instr l k (s.Compute (Apply o operand.Top (operand.Local j) d))) o operand.Top (operand.Local j) d
apply_is c t l k d o operand.Top (operand.Number m) next z n v w = apply_gives c t next (jumped (left (operand.Number m) w (left operand.Top v z)) n) (instr l k (s.Compute (Apply o operand.Top (operand.Number m) d))) o operand.Top (operand.Number m) d
apply_is c t l k d o (operand.Local i) operand.Top next z n v w = apply_gives c t next (jumped (left operand.Top w (left (operand.Local i) v z)) n) (instr l k (s.Compute (Apply o (operand.Local i) operand.Top d))) o (operand.Local i) operand.Top d
apply_is c t l k d o (operand.Local i) (operand.Local j) next z n v w = apply_gives c t next (jumped (left (operand.Local j) w (left (operand.Local i) v z)) n) (instr l k (s.Compute (Apply o (operand.Local i) (operand.Local j) d))) o (operand.Local i) (operand.Local j) d
apply_is c t l k d o (operand.Local i) (operand.Number m) next z n v w = apply_gives c t next (jumped (left (operand.Number m) w (left (operand.Local i) v z)) n) (instr l k (s.Compute (Apply o (operand.Local i) (operand.Number m) d))) o (operand.Local i) (operand.Number m) d
apply_is c t l k d o (operand.Number i) operand.Top next z n v w = apply_gives c t next (jumped (left operand.Top w (left (operand.Number i) v z)) n) (instr l k (s.Compute (Apply o (operand.Number i) operand.Top d))) o (operand.Number i) operand.Top d
apply_is c t l k d o (operand.Number i) (operand.Local j) next z n v w = apply_gives c t next (jumped (left (operand.Local j) w (left (operand.Number i) v z)) n) (instr l k (s.Compute (Apply o (operand.Number i) (operand.Local j) d))) o (operand.Number i) (operand.Local j) d
apply_is c t l k d o (operand.Number i) (operand.Number m) next z n v w = apply_gives c t next (jumped (left (operand.Number m) w (left (operand.Number i) v z)) n) (instr l k (s.Compute (Apply o (operand.Number i) (operand.Number m) d))) o (operand.Number i) (operand.Number m) d

-- a cell is read where its array has a number
read_cell_is : (c : Flow) (t : Thread) (l k : ℕ) (d : Target) (x : List ℕ) (a : Operand) (next : State → Lists) (z : State) (n : ℕ) (v : ℤ) → IsArray t.program x
    → straight c t l k (s.Ask (ReadCell (array_named t.program x) a d) ∷ []) next (jumped (left a v z) n)
    ≡ at_index t l (cells_named t.program x) (settled a z.locals v) (λ w. reading l w (λ u. next (jumped (given z d u) (suc n))))
read_cell_is c t l k d x a next z n v h =
    ap {B = Lists} (λ cells. straight c t l k (s.Ask (ReadCell (array_of cells) a d) ∷ []) next (jumped (left a v z) n)) h.2
    ∙ by a
    ∙ ap {B = Lists} (λ cells. at_index t l cells (settled a z.locals v) (λ w. reading l w (λ u. next (jumped (given z d u) (suc n))))) (sym h.2)
  where
    here : Option Cells
    here = Some (record { first = h.0; count = Some h.1 })

    by : (b : Operand) → straight c t l k (s.Ask (ReadCell (array_of here) b d) ∷ []) next (jumped (left b v z) n)
        ≡ at_index t l here (settled b z.locals v) (λ w. reading l w (λ u. next (jumped (given z d u) (suc n))))
    by operand.Top = read_cell_gives c t next (jumped (left operand.Top v z) n) (instr l k (s.Ask (ReadCell (array_of here) operand.Top d))) (array_of here) operand.Top d
    by (operand.Local j) = read_cell_gives c t next (jumped (left (operand.Local j) v z) n) (instr l k (s.Ask (ReadCell (array_of here) (operand.Local j) d))) (array_of here) (operand.Local j) d
    by (operand.Number m) = read_cell_gives c t next (jumped (left (operand.Number m) v z) n) (instr l k (s.Ask (ReadCell (array_of here) (operand.Number m) d))) (array_of here) (operand.Number m) d

variable_is : (c : Flow) (t : Thread) (l k : ℕ) (d : Target) (x : List ℕ) (next : State → Lists) (z : State) (at : ℕ) (a : Option ℕ) → IsNumbered t.program x a
    → straight c t l k (variable_step t.program d x a ∷ []) next (jumped z at) ≡ variable t l (local_value z.locals a) x (λ v. next (jumped (given z d v) (suc at)))
variable_is c t l k d x next z at None h =
    ap {B = Lists} (λ cells. reading l (first_cell cells) (λ v. next (jumped (given z d v) (suc at)))) h.1
    ∙ ap {B = Lists} (λ cells. reading_word l cells (λ v. next (jumped (given z d v) (suc at)))) (sym h.1)
variable_is c t l k d x next z at (Some j) h = refl

skip_variable : (at : ℕ) (p : Source) (d : Target) (x : List ℕ) (a : Option ℕ) → skip at (variable_step p d x a ∷ []) ≡ suc at
skip_variable at p d x a = refl

pub steps_are : (c : Flow) (t : Thread) (l k : ℕ) (xs : List (List ℕ)) (d : Target) (e : Expression) (next : State → Lists) (z : State) (at : ℕ)
    → length xs ≤ length z.locals → IsKnown t.program xs e
    → straight c t l k (steps_to t.program xs d e) next (jumped z at)
    ≡ expression t l (named xs z.locals) e (λ v. next (jumped (given z d v) (skip at (steps_to t.program xs d e))))
steps_are c t l k xs d (num n) next z at h g = refl
steps_are c t l k xs d (var x) next z at h g =
    variable_is c t l k d x next z at (index_of x xs) g
    ∙ ap {B = Lists} (λ w. variable t l w x (λ v. next (jumped (given z d v) (suc at)))) (sym (value_named xs z.locals x h))
steps_are c t l k xs d (cell x i) next z at h g =
    let env : Locals = named xs z.locals in
    let a : Operand = operand_of xs i in
    let before : List CodeStep = operand_steps t.program xs i in
    let last : List CodeStep = s.Ask (ReadCell (array_named t.program x) a d) ∷ [] in
    ap {B = Lists} (λ (m : State → Lists). m (jumped z at)) (straight_append c t l k before last next)
    ∙ operand_are c t l k xs i (straight c t l k last next) z at h (steps_are c t l k xs target.Push i (straight c t l k last next) z at h g.1)
    ∙ ap {B = Lists} (λ (m : ℤ → Lists). expression t l env i m) (fun_ext (λ v. read_cell_is c t l k d x a next z (skip at before) v g.0))
    ∙ sym (settled_is t l xs z.locals i (λ v. at_index t l (cells_named t.program x) v (λ w. reading l w (λ u. next (jumped (given z d u) (suc (skip at before)))))) h)
    ∙ ap {B = Lists} (λ n. expression t l env i (λ v. at_index t l (cells_named t.program x) v (λ w. reading l w (λ u. next (jumped (given z d u) n))))) (sym (skip_append at before last))
steps_are c t l k xs d (neg e) next z at h g =
    let env : Locals = named xs z.locals in
    let a : Operand = operand_of xs e in
    let before : List CodeStep = operand_steps t.program xs e in
    let last : List CodeStep = s.Compute (Negate a d) ∷ [] in
    ap {B = Lists} (λ (m : State → Lists). m (jumped z at)) (straight_append c t l k before last next)
    ∙ operand_are c t l k xs e (straight c t l k last next) z at h (steps_are c t l k xs target.Push e (straight c t l k last next) z at h g)
    ∙ ap {B = Lists} (λ (m : ℤ → Lists). expression t l env e m) (fun_ext (λ v. negate_is c t l k d a next z (skip at before) v))
    ∙ sym (settled_is t l xs z.locals e (λ v. next (jumped (given z d (negated v)) (suc (skip at before)))) h)
    ∙ ap {B = Lists} (λ n. expression t l env e (λ v. next (jumped (given z d (negated v)) n))) (sym (skip_append at before last))
steps_are c t l k xs d (inverse e) next z at h g =
    let env : Locals = named xs z.locals in
    let a : Operand = operand_of xs e in
    let before : List CodeStep = operand_steps t.program xs e in
    let last : List CodeStep = s.Compute (Invert a d) ∷ [] in
    ap {B = Lists} (λ (m : State → Lists). m (jumped z at)) (straight_append c t l k before last next)
    ∙ operand_are c t l k xs e (straight c t l k last next) z at h (steps_are c t l k xs target.Push e (straight c t l k last next) z at h g)
    ∙ ap {B = Lists} (λ (m : ℤ → Lists). expression t l env e m) (fun_ext (λ v. invert_is c t l k d a next z (skip at before) v))
    ∙ sym (settled_is t l xs z.locals e (λ v. next (jumped (given z d (inverted v)) (suc (skip at before)))) h)
    ∙ ap {B = Lists} (λ n. expression t l env e (λ v. next (jumped (given z d (inverted v)) n))) (sym (skip_append at before last))
steps_are c t l k xs d (bin o e f) next z at h g =
    let env : Locals = named xs z.locals in
    let a : Operand = operand_of xs e in
    let b : Operand = operand_of xs f in
    let first : List CodeStep = operand_steps t.program xs e in
    let second : List CodeStep = operand_steps t.program xs f in
    let last : List CodeStep = s.Compute (Apply o a b d) ∷ [] in
    let one : ℕ = skip at first in
    let two : ℕ = skip one second in
    ap {B = Lists} (λ (m : State → Lists). m (jumped z at)) (straight_append c t l k first (second ++ last) next)
    ∙ operand_are c t l k xs e (straight c t l k (second ++ last) next) z at h (steps_are c t l k xs target.Push e (straight c t l k (second ++ last) next) z at h g.0)
    ∙ ap {B = Lists} (λ (m : ℤ → Lists). expression t l env e m) (fun_ext (λ v.
    ap {B = Lists} (λ (m : State → Lists). m (jumped (left a v z) one)) (straight_append c t l k second last next)
    ∙ operand_are c t l k xs f (straight c t l k last next) (left a v z) one h (steps_are c t l k xs target.Push f (straight c t l k last next) (left a v z) one h g.1)
    ∙ ap {B = Lists} (λ (m : ℤ → Lists). expression t l env f m) (fun_ext (λ w. apply_is c t l k d o a b next z two v w))
    ∙ sym (settled_is t l xs z.locals f (λ w. operated t l o (settled a z.locals v) w (λ u. next (jumped (given z d u) (suc two)))) h)))
    ∙ sym (settled_is t l xs z.locals e (λ v. expression t l env f (λ w. operated t l o v w (λ u. next (jumped (given z d u) (suc two))))) h)
    ∙ ap {B = Lists} (λ n. expression t l env e (λ v. expression t l env f (λ w. operated t l o v w (λ u. next (jumped (given z d u) n)))))
    (sym (skip_append at first (second ++ last) ∙ skip_append one second last))
