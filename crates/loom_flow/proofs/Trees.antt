-- What parts of a tree give, by what comes behind them.
use Rattle.std.proofs.Common.{ℕ, suc, zero, ◌&&◌, ◌≡◌, List, [], ◌∷◌, Bool, ℤ, pos, Option, Some, None, refl, ap, length, inl}
use Rattle.loom_tree.specs.Tree.{Expression, num, var, cell, neg, inverse, bin, Body, end, simple, if_, while_}
use Rattle.loom_lang.specs.Numbers.{Cells, cells_named}
use Rattle.loom_lang.specs.Values.{is_zero, divides, op_value, negated, inverted}
use Rattle.loom_lang.specs.Trace as trace
use Rattle.loom_lang.specs.Trace.{Open, Lists, Thread, Locals, Calls, broken, choice, trap_lists, value_in, reading, reading_word, variable, within, at_index, operated, expression, each_argument, chosen, turns, body}
use Rattle.loom_flow.proofs.Relations.{Meets, meets_itself, choice_open}
use Rattle.loom_flow.proofs.Steps.{within_open, meets_reading, meets_within, meets_operated}

pub meets_variable : (b : Bool) (t : Thread) (l : ℕ) (o : Option ℤ) (x : List ℕ) (m n : ℤ → Lists) → ((v : ℤ) → Meets b (m v) (n v)) → Meets b (variable t l o x m) (variable t l o x n)
meets_variable b t l (Some v) x m n f = f v
meets_variable b t l None x m n f = by (cells_named t.program x)
  where
    by : (d : Option Cells) → Meets b (reading_word l d m) (reading_word l d n)
    by None = meets_itself b broken
    by (Some d) = meets_reading b l d.first m n f

pub meets_indexed : (b : Bool) (t : Thread) (l : ℕ) (d : Option Cells) (v : ℤ) (m n : ℕ → Lists) → ((w : ℕ) → Meets b (m w) (n w)) → Meets b (at_index t l d v m) (at_index t l d v n)
meets_indexed b t l None v m n f = meets_itself b broken
meets_indexed b t l (Some d) v m n f = meets_within b t l d.first d.count v m n f

pub meets_expression : (b : Bool) (t : Thread) (l : ℕ) (env : Locals) (e : Expression) (m n : ℤ → Lists) → ((v : ℤ) → Meets b (m v) (n v)) → Meets b (expression t l env e m) (expression t l env e n)
meets_expression b t l env (num k) m n f = f k
meets_expression b t l env (var x) m n f = meets_variable b t l (value_in env x) x m n f
meets_expression b t l env (cell x i) m n f =
    meets_expression b t l env i (λ v. at_index t l (cells_named t.program x) v (λ w. reading l w m)) (λ v. at_index t l (cells_named t.program x) v (λ w. reading l w n)) (λ v.
    meets_indexed b t l (cells_named t.program x) v (λ w. reading l w m) (λ w. reading l w n) (λ w. meets_reading b l w m n f))
meets_expression b t l env (neg a) m n f = meets_expression b t l env a (λ v. m (negated v)) (λ v. n (negated v)) (λ v. f (negated v))
meets_expression b t l env (inverse a) m n f = meets_expression b t l env a (λ v. m (inverted v)) (λ v. n (inverted v)) (λ v. f (inverted v))
meets_expression b t l env (bin o x y) m n f =
    meets_expression b t l env x (λ v. expression t l env y (λ w. operated t l o v w m)) (λ v. expression t l env y (λ w. operated t l o v w n)) (λ v.
    meets_expression b t l env y (λ w. operated t l o v w m) (λ w. operated t l o v w n) (λ w. meets_operated b t l o v w m n f))

-- there are as many values as arguments
pub meets_arguments : (b : Bool) (t : Thread) (l : ℕ) (env : Locals) (es : List Expression) (m n : List ℤ → Lists)
    → ((vs : List ℤ) → length vs ≡ length es → Meets b (m vs) (n vs)) → Meets b (each_argument t l env es m) (each_argument t l env es n)
meets_arguments b t l env [] m n f = f [] refl
meets_arguments b t l env (e ∷ es) m n f =
    meets_expression b t l env e (λ v. each_argument t l env es (λ vs. m (v ∷ vs))) (λ v. each_argument t l env es (λ vs. n (v ∷ vs))) (λ v.
    meets_arguments b t l env es (λ vs. m (v ∷ vs)) (λ vs. n (v ∷ vs)) (λ vs h. f (v ∷ vs) (ap suc h)))

-- Lists may break off before a part, where they may behind it.

indexed_open : (t : Thread) (l : ℕ) (d : Option Cells) (v : ℤ) (m : ℕ → Lists) → ((w : ℕ) → m w [] Open) → at_index t l d v m [] Open
indexed_open t l None v m f = (refl, refl)
indexed_open t l (Some d) v m f = within_open t l d.first d.count v m f

variable_open : (t : Thread) (l : ℕ) (o : Option ℤ) (x : List ℕ) (m : ℤ → Lists) → ((v : ℤ) → m v [] Open) → variable t l o x m [] Open
variable_open t l (Some v) x m f = f v
variable_open t l None x m f = by (cells_named t.program x)
  where
    by : (d : Option Cells) → reading_word l d m [] Open
    by None = (refl, refl)
    by (Some d) = (pos 0, inl (refl, refl))

pub expression_open : (t : Thread) (l : ℕ) (env : Locals) (e : Expression) (m : ℤ → Lists) → ((v : ℤ) → m v [] Open) → expression t l env e m [] Open
expression_open t l env (num k) m f = f k
expression_open t l env (var x) m f = variable_open t l (value_in env x) x m f
expression_open t l env (cell x i) m f =
    expression_open t l env i (λ v. at_index t l (cells_named t.program x) v (λ w. reading l w m)) (λ v.
    indexed_open t l (cells_named t.program x) v (λ w. reading l w m) (λ w. (pos 0, inl (refl, refl))))
expression_open t l env (neg a) m f = expression_open t l env a (λ v. m (negated v)) (λ v. f (negated v))
expression_open t l env (inverse a) m f = expression_open t l env a (λ v. m (inverted v)) (λ v. f (inverted v))
expression_open t l env (bin o x y) m f =
    expression_open t l env x (λ v. expression t l env y (λ w. operated t l o v w m)) (λ v.
    expression_open t l env y (λ w. operated t l o v w m) (λ w.
    choice_open (divides o && is_zero w) (trap_lists t l trace.division) (m (op_value o v w)) (inl (refl, refl)) (f (op_value o v w))))

pub body_open : (t : Thread) (calls : Calls) (n : ℕ) (env : Locals) (a : Body) (ret : ℤ → Lists) (more : Locals → Lists) → ((env' : Locals) → more env' [] Open) → body t calls n env a ret more [] Open
body_open t calls n env end ret more f = f env
body_open t calls n env (simple l s rest) ret more f = inl (refl, refl)
body_open t calls n env (if_ l e x y rest) ret more f = inl (refl, refl)
body_open t calls n env (while_ l e x rest) ret more f = inl (refl, refl)

abbrev pub Turn : Type 1
Turn = Locals → (Locals → Lists) → (Locals → Lists) → Lists

pub turns_open : (j : ℕ) (turn : Turn) (leave : Locals → Lists) (env : Locals) → ((env' : Locals) (again : Locals → Lists) → turn env' again leave [] Open) → turns j turn leave env [] Open
turns_open zero turn leave env f = (refl, refl)
turns_open (suc j) turn leave env f = f env (λ env'. turns j turn leave env')
