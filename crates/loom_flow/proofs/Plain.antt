-- Which steps a statement without a block has.
use Rattle.std.proofs.Common.{ℕ, ◌≡◌, List, [], ◌∷◌, Bool, true, false, Option, Some, None, refl, length}
use Rattle.loom_tree.specs.Tree.{Expression, num, var, cell, neg, inverse, bin, Right, Simple, let_, set, set_cell, return, Source}
use Rattle.loom_tree.specs.Tree as tree
use Rattle.loom_lang.specs.Numbers.{index_of, function_number}
use Rattle.loom_flow.specs.declared.code.Operand.{Operand}
use Rattle.loom_flow.specs.declared.code.Operand.TheVariants as operand
use Rattle.loom_flow.specs.declared.code.Target.{Target}
use Rattle.loom_flow.specs.declared.code.Target.TheVariants as target
use Rattle.loom_flow.specs.declared.code.CodeStep.{CodeStep}
use Rattle.loom_flow.specs.declared.code.CodeStep.TheVariants as s
use Rattle.loom_flow.specs.declared.code.Ask.TheVariants.{Spawn}
use Rattle.loom_flow.specs.declared.code.Control.TheVariants.{Edge, Jump, JumpIfZero, Call, Out}
use Rattle.loom_flow.specs.FlatCode.{or_zero, operand_of, unless_there, variable_step, steps_to, operand_steps, argument_steps, call_steps, spawn_steps, store_step, value_steps, set_steps, simple_steps}
use Rattle.loom_flow.proofs.Each.{AllOf, all_append}

-- It names no function and no instruction, and doesn't stand behind a function's last statement.
abbrev pub is_plain : CodeStep → Bool
is_plain (s.Control (Call f n)) = false
is_plain (s.Ask (Spawn f n d)) = false
is_plain (s.Control (Edge to)) = false
is_plain (s.Control (Jump to)) = false
is_plain (s.Control (JumpIfZero a to)) = false
is_plain (s.Control Out) = false
is_plain _ = true

-- Each of these steps is `P`, where plain ones are.

variable_all : (P : CodeStep → Type 0) → ((x : CodeStep) → is_plain x ≡ true → P x) → (p : Source) (d : Target) (x : List ℕ) (a : Option ℕ) → P (variable_step p d x a)
variable_all P plain p d x None = plain _ refl
variable_all P plain p d x (Some j) = plain _ refl

unless_all : (P : CodeStep → Type 0) (a : Operand) (steps : List CodeStep) → AllOf P steps → AllOf P (unless_there a steps)
unless_all P operand.Top steps h = h
unless_all P (operand.Local j) steps h = tt
unless_all P (operand.Number n) steps h = tt

pub steps_all : (P : CodeStep → Type 0) → ((x : CodeStep) → is_plain x ≡ true → P x) → (p : Source) (xs : List (List ℕ)) (d : Target) (e : Expression) → AllOf P (steps_to p xs d e)
steps_all P plain p xs d (num n) = (plain _ refl, tt)
steps_all P plain p xs d (var x) = (variable_all P plain p d x (index_of x xs), tt)
steps_all P plain p xs d (cell x i) = all_append P (operand_steps p xs i) _ (unless_all P (operand_of xs i) _ (steps_all P plain p xs target.Push i)) (plain _ refl, tt)
steps_all P plain p xs d (neg a) = all_append P (operand_steps p xs a) _ (unless_all P (operand_of xs a) _ (steps_all P plain p xs target.Push a)) (plain _ refl, tt)
steps_all P plain p xs d (inverse a) = all_append P (operand_steps p xs a) _ (unless_all P (operand_of xs a) _ (steps_all P plain p xs target.Push a)) (plain _ refl, tt)
steps_all P plain p xs d (bin o a b) =
    all_append P (operand_steps p xs a) _ (unless_all P (operand_of xs a) _ (steps_all P plain p xs target.Push a))
    (all_append P (operand_steps p xs b) _ (unless_all P (operand_of xs b) _ (steps_all P plain p xs target.Push b)) (plain _ refl, tt))

pub operand_all : (P : CodeStep → Type 0) → ((x : CodeStep) → is_plain x ≡ true → P x) → (p : Source) (xs : List (List ℕ)) (e : Expression) → AllOf P (operand_steps p xs e)
operand_all P plain p xs e = unless_all P (operand_of xs e) _ (steps_all P plain p xs target.Push e)

pub arguments_all : (P : CodeStep → Type 0) → ((x : CodeStep) → is_plain x ≡ true → P x) → (p : Source) (xs : List (List ℕ)) (es : List Expression) → AllOf P (argument_steps p xs es)
arguments_all P plain p xs [] = tt
arguments_all P plain p xs (e ∷ es) = all_append P (steps_to p xs target.Push e) _ (steps_all P plain p xs target.Push e) (arguments_all P plain p xs es)

-- The statement's call or spawn is `P`.

abbrev pub CallsRight : (CodeStep → Type 0) → Source → Right Expression → Type 0
CallsRight P p (Right.value e) = Unit {0}
CallsRight P p (Right.call f es) = P (s.Control (Call (or_zero (function_number p f)) (length es)))
CallsRight P p (Right.spawn f es) = P (s.Ask (Spawn (or_zero (function_number p f)) (length es) target.Push))

abbrev pub CallsSimple : (CodeStep → Type 0) → Source → Simple Expression → Type 0
CallsSimple P p (let_ x r) = CallsRight P p r
CallsSimple P p (set x r) = CallsRight P p r
CallsSimple P p (Simple.call f es) = P (s.Control (Call (or_zero (function_number p f)) (length es)))
CallsSimple P p _ = Unit {0}

store_all : (P : CodeStep → Type 0) → ((x : CodeStep) → is_plain x ≡ true → P x) → (p : Source) (x : List ℕ) (a : Option ℕ) → P (store_step p x a)
store_all P plain p x None = plain _ refl
store_all P plain p x (Some j) = plain _ refl

value_all : (P : CodeStep → Type 0) → ((x : CodeStep) → is_plain x ≡ true → P x) → (p : Source) (xs : List (List ℕ)) (x : List ℕ) (e : Expression) (a : Option ℕ) → AllOf P (value_steps p xs x e a)
value_all P plain p xs x e None = all_append P (operand_steps p xs e) _ (operand_all P plain p xs e) (plain _ refl, tt)
value_all P plain p xs x e (Some j) = steps_all P plain p xs (target.Local j) e

set_all : (P : CodeStep → Type 0) → ((x : CodeStep) → is_plain x ≡ true → P x) → (p : Source) (xs : List (List ℕ)) (x : List ℕ) (r : Right Expression) → CallsRight P p r → AllOf P (set_steps p xs x r)
set_all P plain p xs x (Right.value e) h = value_all P plain p xs x e (index_of x xs)
set_all P plain p xs x (Right.call f es) h =
    all_append P (call_steps p xs f es) _ (all_append P (argument_steps p xs es) _ (arguments_all P plain p xs es) (h, tt)) (store_all P plain p x (index_of x xs), tt)
set_all P plain p xs x (Right.spawn f es) h =
    all_append P (spawn_steps p xs f es) _ (all_append P (argument_steps p xs es) _ (arguments_all P plain p xs es) (h, tt)) (store_all P plain p x (index_of x xs), tt)

pub simple_all : (P : CodeStep → Type 0) → ((x : CodeStep) → is_plain x ≡ true → P x) → (p : Source) (xs : List (List ℕ)) (x : Simple Expression) → CallsSimple P p x → AllOf P (simple_steps p xs x)
simple_all P plain p xs (let_ x r) h = (plain _ refl, all_append P (set_steps p xs x r) _ (set_all P plain p xs x r h) (plain _ refl, tt))
simple_all P plain p xs (set x r) h = (plain _ refl, all_append P (set_steps p xs x r) _ (set_all P plain p xs x r h) (plain _ refl, tt))
simple_all P plain p xs (set_cell x i e) h =
    (plain _ refl, all_append P (operand_steps p xs i) _ (operand_all P plain p xs i) (all_append P (operand_steps p xs e) _ (operand_all P plain p xs e) (plain _ refl, (plain _ refl, tt))))
simple_all P plain p xs (Simple.call f es) h =
    (plain _ refl, all_append P (call_steps p xs f es) _ (all_append P (argument_steps p xs es) _ (arguments_all P plain p xs es) (h, tt)) (plain _ refl, (plain _ refl, tt)))
simple_all P plain p xs (return None) h = (plain _ refl, (plain _ refl, tt))
simple_all P plain p xs (return (Some e)) h = (plain _ refl, all_append P (operand_steps p xs e) _ (operand_all P plain p xs e) (plain _ refl, tt))
simple_all P plain p xs (tree.lock x) h = (plain _ refl, (plain _ refl, (plain _ refl, tt)))
simple_all P plain p xs (tree.unlock x) h = (plain _ refl, (plain _ refl, (plain _ refl, tt)))
simple_all P plain p xs (tree.down x) h = (plain _ refl, (plain _ refl, (plain _ refl, tt)))
simple_all P plain p xs (tree.up x) h = (plain _ refl, (plain _ refl, (plain _ refl, tt)))
simple_all P plain p xs (tree.join e) h = (plain _ refl, all_append P (operand_steps p xs e) _ (operand_all P plain p xs e) (plain _ refl, (plain _ refl, tt)))
simple_all P plain p xs (tree.print e) h = (plain _ refl, all_append P (operand_steps p xs e) _ (operand_all P plain p xs e) (plain _ refl, (plain _ refl, tt)))
simple_all P plain p xs tree.skip h = (plain _ refl, (plain _ refl, tt))
