-- How many values the steps of statements need and leave.
use Rattle.std.proofs.Common.{ℕ, ◌+◌, ◌-◌, ◌≡◌, ◌≤◌, List, [], ◌∷◌, ◌++◌, true, Option, Some, None, refl, sym, subst, length, append_assoc, arith}
use Rattle.loom_tree.specs.Tree.{Expression, num, var, cell, neg, inverse, bin, Right, Simple, let_, set, set_cell, return, Function, Source}
use Rattle.loom_tree.specs.Tree as tree
use Rattle.loom_lang.specs.WellFormed.{node_count}
use Rattle.loom_lang.specs.Limits.{param_limit}
use Rattle.loom_lang.specs.Rules.{takes, KeepsRules}
use Rattle.loom_flow.specs.Arguments.{takes_right, takes_simple}
use Rattle.loom_flow.proofs.StatementRules.{few_in}
use Rattle.loom_lang.specs.Numbers.{index_of, function_number}
use Rattle.loom_flow.specs.declared.code.Operand.{Operand}
use Rattle.loom_flow.specs.declared.code.Operand.TheVariants as operand
use Rattle.loom_flow.specs.declared.code.Target.{Target}
use Rattle.loom_flow.specs.declared.code.Target.TheVariants as target
use Rattle.loom_flow.specs.declared.code.CodeStep.{CodeStep}
use Rattle.loom_flow.specs.declared.code.CodeStep.TheVariants as s
use Rattle.loom_flow.specs.declared.code.Compute.TheVariants.{Negate, Invert, Apply, Discard}
use Rattle.loom_flow.specs.declared.code.Ask.TheVariants.{ReadCell, Write, WriteCell, Join, Print, Spawn}
use Rattle.loom_flow.specs.declared.code.Control.TheVariants.{Begin, Done, Edge, Jump, JumpIfZero, Call, Return, Out}
use Rattle.loom_flow.specs.FlatCode.{or_zero, word_named, array_named, operand_of, unless_there, variable_step, steps_to, operand_steps, argument_steps, call_steps, spawn_steps, store_step, value_steps, set_steps, simple_steps}
use Rattle.loom_flow.specs.Depth.{pops, pushes, takes_off, puts_on, AreSmall, IsSmallRight, IsSmallSimple}

-- A step may stand where there are `d` values: what jumps, calls or returns takes off all.
abbrev pub Fits : ℕ → CodeStep → Type 0
Fits d (s.Control (Call f n)) = d ≡ n
Fits d (s.Control (Return a)) = d ≡ pops a
Fits d (s.Control Out) = d ≡ 0
Fits d (s.Control (Edge to)) = d ≡ 0
Fits d (s.Control (Jump to)) = d ≡ 0
Fits d (s.Control (JumpIfZero a to)) = d ≡ pops a
Fits d x = takes_off x ≤ d

pub fits_takes : (d : ℕ) (x : CodeStep) → Fits d x → takes_off x ≤ d
fits_takes d (s.Control (Call f n)) h = omega (arith, h)
fits_takes d (s.Control (Return a)) h = omega (arith, h)
fits_takes d (s.Control Out) h = omega arith
fits_takes d (s.Control (Edge to)) h = omega arith
fits_takes d (s.Control (Jump to)) h = omega arith
fits_takes d (s.Control (JumpIfZero a to)) h = omega (arith, h)
fits_takes d _ h = h

-- Steps lead from `d` values to `e`, and there are never more than `m` before one of them.
abbrev pub Balanced : ℕ → ℕ → List CodeStep → ℕ → Type 0
Balanced m d [] e = d ≡ e
Balanced m d (x ∷ xs) e = Fits d x × (d ≤ m) × Balanced m (d - takes_off x + puts_on x) xs e

pub balanced_append : (m d e f : ℕ) (xs ys : List CodeStep) → Balanced m d xs e → Balanced m e ys f → Balanced m d (xs ++ ys) f
balanced_append m d e f [] ys h g = subst (λ q. Balanced m q ys f) (sym h) g
balanced_append m d e f (x ∷ xs) ys h g = (h.0, h.1, balanced_append m (d - takes_off x + puts_on x) e f xs ys h.2 g)

-- Expressions

taken_one : (a : Operand) → pops a ≤ 1
taken_one operand.Top = omega arith
taken_one (operand.Local j) = omega arith
taken_one (operand.Number n) = omega arith

some_nodes : (e : Expression) → 1 ≤ node_count e
some_nodes (num n) = omega arith
some_nodes (var x) = omega arith
some_nodes (cell x i) = omega arith
some_nodes (neg a) = omega arith
some_nodes (inverse a) = omega arith
some_nodes (bin o a b) = omega arith

variable_balanced : (p : Source) (m d : ℕ) (t : Target) (x : List ℕ) (a : Option ℕ) → d ≤ m → Balanced m d (variable_step p t x a ∷ []) (d + pushes t)
variable_balanced p m d t x None h = (omega arith, h, omega arith)
variable_balanced p m d t x (Some j) h = (omega arith, h, omega arith)

unless_balanced : (m d : ℕ) (a : Operand) (steps : List CodeStep) → Balanced m d steps (d + 1) → Balanced m d (unless_there a steps) (d + pops a)
unless_balanced m d operand.Top steps h = h
unless_balanced m d (operand.Local j) steps h = omega arith
unless_balanced m d (operand.Number n) steps h = omega arith

-- An expression needs no more room than it has nodes.
pub steps_balanced : (p : Source) (xs : List (List ℕ)) (m d : ℕ) (t : Target) (e : Expression) → d + node_count e ≤ m → Balanced m d (steps_to p xs t e) (d + pushes t)
steps_balanced p xs m d t (num n) h = (omega arith, omega (arith, h), omega arith)
steps_balanced p xs m d t (var x) h = variable_balanced p m d t x (index_of x xs) (omega (arith, h))
steps_balanced p xs m d t (cell x i) h =
    balanced_append m d (d + pops (operand_of xs i)) (d + pushes t) (operand_steps p xs i) (s.Ask (ReadCell (array_named p x) (operand_of xs i) t) ∷ [])
    (unless_balanced m d (operand_of xs i) _ (steps_balanced p xs m d target.Push i (omega (arith, h))))
    (omega arith, omega (arith, h, taken_one (operand_of xs i)), omega arith)
steps_balanced p xs m d t (neg a) h =
    balanced_append m d (d + pops (operand_of xs a)) (d + pushes t) (operand_steps p xs a) (s.Compute (Negate (operand_of xs a) t) ∷ [])
    (unless_balanced m d (operand_of xs a) _ (steps_balanced p xs m d target.Push a (omega (arith, h))))
    (omega arith, omega (arith, h, taken_one (operand_of xs a)), omega arith)
steps_balanced p xs m d t (inverse a) h =
    balanced_append m d (d + pops (operand_of xs a)) (d + pushes t) (operand_steps p xs a) (s.Compute (Invert (operand_of xs a) t) ∷ [])
    (unless_balanced m d (operand_of xs a) _ (steps_balanced p xs m d target.Push a (omega (arith, h))))
    (omega arith, omega (arith, h, taken_one (operand_of xs a)), omega arith)
steps_balanced p xs m d t (bin o a b) h =
    let one : ℕ = d + pops (operand_of xs a) in
    let two : ℕ = one + pops (operand_of xs b) in
    balanced_append m d one (d + pushes t) (operand_steps p xs a) (operand_steps p xs b ++ s.Compute (Apply o (operand_of xs a) (operand_of xs b) t) ∷ [])
    (unless_balanced m d (operand_of xs a) _ (steps_balanced p xs m d target.Push a (omega (arith, h))))
    (balanced_append m one two (d + pushes t) (operand_steps p xs b) (s.Compute (Apply o (operand_of xs a) (operand_of xs b) t) ∷ [])
    (unless_balanced m one (operand_of xs b) _ (steps_balanced p xs m one target.Push b (omega (arith, h, taken_one (operand_of xs a)))))
    (omega arith, omega (arith, h, taken_one (operand_of xs a), taken_one (operand_of xs b), some_nodes a, some_nodes b), omega arith))

pub operand_balanced : (p : Source) (xs : List (List ℕ)) (m d : ℕ) (e : Expression) → d + node_count e ≤ m → Balanced m d (operand_steps p xs e) (d + pops (operand_of xs e))
operand_balanced p xs m d e h = unless_balanced m d (operand_of xs e) _ (steps_balanced p xs m d target.Push e h)

-- behind a step that takes what an expression left where there was nothing
taking_balanced : (p : Source) (xs : List (List ℕ)) (m : ℕ) (e : Expression) (x : CodeStep) → node_count e ≤ m → Fits (pops (operand_of xs e)) x → takes_off x ≡ pops (operand_of xs e) → puts_on x ≡ 0
    → Balanced m 0 (operand_steps p xs e ++ x ∷ []) 0
taking_balanced p xs m e x h fits same none =
    balanced_append m 0 (pops (operand_of xs e)) 0 (operand_steps p xs e) (x ∷ [])
    (subst (λ d. Balanced m 0 (operand_steps p xs e) d) (omega arith) (operand_balanced p xs m 0 e (omega (arith, h))))
    (fits, omega (arith, h, taken_one (operand_of xs e), some_nodes e), omega (arith, same, none))

-- Calls

arguments_balanced : (p : Source) (xs : List (List ℕ)) (m n d e : ℕ) (es : List Expression) → AreSmall n es → d + (length es + n) ≤ m → e ≡ d + length es → Balanced m d (argument_steps p xs es) e
arguments_balanced p xs m n d e [] small h same = omega (arith, same)
arguments_balanced p xs m n d e (a ∷ es) small h same =
    balanced_append m d (d + 1) e (steps_to p xs target.Push a) (argument_steps p xs es)
    (steps_balanced p xs m d target.Push a (omega (arith, small.0, h)))
    (arguments_balanced p xs m n (d + 1) e es small.1 (omega (arith, h)) (omega (arith, same)))

pub call_balanced : (p : Source) (xs : List (List ℕ)) (m n : ℕ) (f : List ℕ) (es : List Expression) → AreSmall n es → length es + n ≤ m → Balanced m 0 (call_steps p xs f es) 1
call_balanced p xs m n f es small h =
    balanced_append m 0 (length es) 1 (argument_steps p xs es) (s.Control (Call (or_zero (function_number p f)) (length es)) ∷ [])
    (arguments_balanced p xs m n 0 (length es) es small (omega (arith, h)) (omega arith))
    (refl, omega (arith, h), omega arith)

spawn_balanced : (p : Source) (xs : List (List ℕ)) (m n : ℕ) (f : List ℕ) (es : List Expression) → AreSmall n es → length es + n ≤ m → Balanced m 0 (spawn_steps p xs f es) 1
spawn_balanced p xs m n f es small h =
    balanced_append m 0 (length es) 1 (argument_steps p xs es) (s.Ask (Spawn (or_zero (function_number p f)) (length es) target.Push) ∷ [])
    (arguments_balanced p xs m n 0 (length es) es small (omega (arith, h)) (omega arith))
    (omega arith, omega (arith, h), omega arith)

store_balanced : (p : Source) (m : ℕ) (x : List ℕ) (a : Option ℕ) → 1 ≤ m → Balanced m 1 (store_step p x a ∷ []) 0
store_balanced p m x None h = (omega arith, h, refl)
store_balanced p m x (Some j) h = (omega arith, h, refl)

-- In a program that keeps the rules a call has at most four arguments.

pub four_arguments : (p : Source) (f : List ℕ) (es : List Expression) → KeepsRules p → takes p.funcs f (length es) ≡ true → length es ≤ param_limit
four_arguments p f es l h = few_in p p.funcs f (length es) l.functions h

-- Statements

value_balanced : (p : Source) (xs : List (List ℕ)) (m : ℕ) (x : List ℕ) (e : Expression) (a : Option ℕ) → node_count e ≤ m → Balanced m 0 (value_steps p xs x e a) 0
value_balanced p xs m x e None h = taking_balanced p xs m e (s.Ask (Write (word_named p x) (operand_of xs e))) h (omega arith) refl refl
value_balanced p xs m x e (Some j) h = steps_balanced p xs m 0 (target.Local j) e (omega (arith, h))

set_balanced : (p : Source) (xs : List (List ℕ)) (m n : ℕ) (x : List ℕ) (r : Right Expression) → KeepsRules p → n + param_limit ≤ m → takes_right p r ≡ true → IsSmallRight n r → Balanced m 0 (set_steps p xs x r) 0
set_balanced p xs m n x (Right.value e) l room known small = value_balanced p xs m x e (index_of x xs) (omega (arith, room, small))
set_balanced p xs m n x (Right.call f es) l room known small =
    balanced_append m 0 1 0 (call_steps p xs f es) (store_step p x (index_of x xs) ∷ [])
    (call_balanced p xs m n f es small (omega (arith, room, four_arguments p f es l known)))
    (store_balanced p m x (index_of x xs) (omega (arith, room)))
set_balanced p xs m n x (Right.spawn f es) l room known small =
    balanced_append m 0 1 0 (spawn_steps p xs f es) (store_step p x (index_of x xs) ∷ [])
    (spawn_balanced p xs m n f es small (omega (arith, room, four_arguments p f es l known)))
    (store_balanced p m x (index_of x xs) (omega (arith, room)))

-- with a statement's beginning and its completion
begun : (m : ℕ) (xs : List CodeStep) → Balanced m 0 xs 0 → Balanced m 0 (s.Control Begin ∷ xs) 0
begun m xs h = (omega arith, omega arith, h)

completed : (m : ℕ) (xs : List CodeStep) → Balanced m 0 xs 0 → Balanced m 0 (s.Control Begin ∷ (xs ++ s.Control Done ∷ [])) 0
completed m xs h = begun m (xs ++ s.Control Done ∷ []) (balanced_append m 0 0 0 xs (s.Control Done ∷ []) h (omega arith, omega arith, refl))

taken_completed : (p : Source) (xs : List (List ℕ)) (m : ℕ) (e : Expression) (x : CodeStep) → node_count e ≤ m → Fits (pops (operand_of xs e)) x → takes_off x ≡ pops (operand_of xs e) → puts_on x ≡ 0
    → Balanced m 0 (s.Control Begin ∷ (operand_steps p xs e ++ x ∷ s.Control Done ∷ [])) 0
taken_completed p xs m e x h fits same none =
    subst (λ ys. Balanced m 0 (s.Control Begin ∷ ys) 0) (append_assoc (operand_steps p xs e) (x ∷ []) (s.Control Done ∷ []))
    (completed m (operand_steps p xs e ++ x ∷ []) (taking_balanced p xs m e x h fits same none))

pub condition_balanced : (p : Source) (xs : List (List ℕ)) (m to : ℕ) (e : Expression) → node_count e ≤ m → Balanced m 0 (s.Control Begin ∷ (operand_steps p xs e ++ s.Control (JumpIfZero (operand_of xs e) to) ∷ [])) 0
condition_balanced p xs m to e h = begun m _ (taking_balanced p xs m e (s.Control (JumpIfZero (operand_of xs e) to)) h refl refl refl)

-- From each statement's beginning to its end there are as many values as before.
pub simple_balanced : (p : Source) (xs : List (List ℕ)) (m n : ℕ) (x : Simple Expression) → KeepsRules p → n + param_limit ≤ m → takes_simple p x ≡ true → IsSmallSimple n x → Balanced m 0 (simple_steps p xs x) 0
simple_balanced p xs m n (let_ x r) l room known small = completed m (set_steps p xs x r) (set_balanced p xs m n x r l room known small)
simple_balanced p xs m n (set x r) l room known small = completed m (set_steps p xs x r) (set_balanced p xs m n x r l room known small)
simple_balanced p xs m n (set_cell x i e) l room known small =
    let one : ℕ = pops (operand_of xs i) in
    let two : ℕ = one + pops (operand_of xs e) in
    begun m _ (
    balanced_append m 0 one 0 (operand_steps p xs i) (operand_steps p xs e ++ s.Ask (WriteCell (array_named p x) (operand_of xs i) (operand_of xs e)) ∷ s.Control Done ∷ [])
    (subst (λ d. Balanced m 0 (operand_steps p xs i) d) (omega arith) (operand_balanced p xs m 0 i (omega (arith, room, small.0))))
    (balanced_append m one two 0 (operand_steps p xs e) (s.Ask (WriteCell (array_named p x) (operand_of xs i) (operand_of xs e)) ∷ s.Control Done ∷ [])
    (operand_balanced p xs m one e (omega (arith, room, small.1, taken_one (operand_of xs i))))
    (omega arith, omega (arith, room, taken_one (operand_of xs i), taken_one (operand_of xs e)), (omega arith, omega (arith, room), omega arith))))
simple_balanced p xs m n (Simple.call f es) l room known small =
    begun m _ (
    balanced_append m 0 1 0 (call_steps p xs f es) (s.Compute Discard ∷ s.Control Done ∷ [])
    (call_balanced p xs m n f es small (omega (arith, room, four_arguments p f es l known)))
    (omega arith, omega (arith, room), (omega arith, omega arith, refl)))
simple_balanced p xs m n (return None) l room known small = (omega arith, omega arith, (refl, omega arith, refl))
simple_balanced p xs m n (return (Some e)) l room known small = begun m _ (taking_balanced p xs m e (s.Control (Return (operand_of xs e))) (omega (arith, room, small)) refl refl refl)
simple_balanced p xs m n (tree.lock x) l room known small = (omega arith, omega arith, (omega arith, omega arith, (omega arith, omega arith, refl)))
simple_balanced p xs m n (tree.unlock x) l room known small = (omega arith, omega arith, (omega arith, omega arith, (omega arith, omega arith, refl)))
simple_balanced p xs m n (tree.down x) l room known small = (omega arith, omega arith, (omega arith, omega arith, (omega arith, omega arith, refl)))
simple_balanced p xs m n (tree.up x) l room known small = (omega arith, omega arith, (omega arith, omega arith, (omega arith, omega arith, refl)))
simple_balanced p xs m n (tree.join e) l room known small = taken_completed p xs m e (s.Ask (Join (operand_of xs e))) (omega (arith, room, small)) (omega arith) refl refl
simple_balanced p xs m n (tree.print e) l room known small = taken_completed p xs m e (s.Ask (Print (operand_of xs e))) (omega (arith, room, small)) (omega arith) refl refl
simple_balanced p xs m n tree.skip l room known small = (omega arith, omega arith, (omega arith, omega arith, refl))
