-- What holds of each step in the code of a program that keeps the rules.
use Rattle.std.proofs.Common.{ℕ, suc, zero, ◌+◌, ◌≡◌, ◌==◌, ◌≤◌, ◌<◌, ◌&&◌, ◌||◌, Bool, true, false, List, [], ◌∷◌, ◌++◌, Option, Some, None, refl, subst, ⊎_elim, slice_get, length, if◌then◌else◌, arith}
use Rattle.std.specs.Prelude.{option_map}
use Rattle.std.specs.Cmp.Lexicographic.{pointwise}
use Rattle.loom_tree.specs.Tree.{Expression, num, var, cell, neg, inverse, bin, Right, Simple, let_, set, set_cell, return, Body, end, simple, if_, while_, Function, Source}
use Rattle.loom_tree.specs.Tree as tree
use Rattle.loom_lang.specs.Numbers.{index_of, mutex_number, sema_number, function_number}
use Rattle.loom_lang.specs.Rules.{is_in, is_word, is_array, is_sema, takes, knows, knows_all, knows_call, knows_right, knows_simple, knows_body, locals_of, KeepsRules, FunctionsKeepRules}
use Rattle.loom_flow.specs.declared.code.Operand.{Operand}
use Rattle.loom_flow.specs.declared.code.Operand.TheVariants as operand
use Rattle.loom_flow.specs.declared.code.Target.{Target}
use Rattle.loom_flow.specs.declared.code.Target.TheVariants as target
use Rattle.loom_flow.specs.declared.code.CodeStep.{CodeStep}
use Rattle.loom_flow.specs.declared.code.CodeStep.TheVariants as s
use Rattle.loom_flow.specs.declared.code.Ask.TheVariants.{Read, ReadCell, Write, WriteCell, Lock, Unlock, Down, Up, Spawn}
use Rattle.loom_flow.specs.declared.code.Control.TheVariants.{Begin, Done, Edge, Jump, JumpIfZero, Call}
use Rattle.loom_flow.specs.declared.code.Instr.{Instr}
use Rattle.loom_flow.specs.Arguments.{takes_right, takes_simple, takes_body}
use Rattle.loom_flow.specs.State.{frame_room}
use Rattle.loom_flow.specs.Laws.{HasLocal, HasLocalFor, HasLocals}
use Rattle.loom_flow.specs.FlatCode.{or_zero, array_named, word_named, local_operand, operand_of, unless_there, variable_step, steps_to, operand_steps, argument_steps, call_steps, spawn_steps, store_step, value_steps, set_steps, simple_steps, instr, instrs, size, place_count, flat_body, functions_code, lowered}
use Rattle.loom_flow.proofs.Counts.{function_takes}
use Rattle.loom_flow.proofs.Each.{AllOf, all_append, same_element}
use Rattle.loom_flow.proofs.Roles.{not_in}
use Rattle.loom_flow.proofs.Truths.{both, or_else}

-- It has no number of anything that the program declares.
abbrev pub is_unnumbered : CodeStep → Bool
is_unnumbered (s.Ask (Read w d)) = false
is_unnumbered (s.Ask (ReadCell a n d)) = false
is_unnumbered (s.Ask (Write w a)) = false
is_unnumbered (s.Ask (WriteCell a n b)) = false
is_unnumbered (s.Ask (Lock m)) = false
is_unnumbered (s.Ask (Unlock m)) = false
is_unnumbered (s.Ask (Down x)) = false
is_unnumbered (s.Ask (Up x)) = false
is_unnumbered (s.Ask (Spawn f n d)) = false
is_unnumbered (s.Control (Call f n)) = false
is_unnumbered _ = true

-- It holds of the steps that a program that keeps the rules may have.
pub record HoldsOf (p : Source) (P : CodeStep → Type 0) : Type 0 where
  pub other : (x : CodeStep) → is_unnumbered x ≡ true → HasLocals x → P x
  pub read : (x : List ℕ) (d : Target) → HasLocalFor d → is_word p.words x ≡ true → P (s.Ask (Read (word_named p x) d))
  pub write : (x : List ℕ) (a : Operand) → HasLocal a → is_word p.words x ≡ true → P (s.Ask (Write (word_named p x) a))
  pub read_cell : (x : List ℕ) (n : Operand) (d : Target) → HasLocal n → HasLocalFor d → is_array p.words x ≡ true → P (s.Ask (ReadCell (array_named p x) n d))
  pub write_cell : (x : List ℕ) (n b : Operand) → HasLocal n → HasLocal b → is_array p.words x ≡ true → P (s.Ask (WriteCell (array_named p x) n b))
  pub lock : (x : List ℕ) → is_in x p.mutexes ≡ true → P (s.Ask (Lock (or_zero (mutex_number p x))))
  pub unlock : (x : List ℕ) → is_in x p.mutexes ≡ true → P (s.Ask (Unlock (or_zero (mutex_number p x))))
  pub down : (x : List ℕ) → is_sema p.semas x ≡ true → P (s.Ask (Down (or_zero (sema_number p x))))
  pub up : (x : List ℕ) → is_sema p.semas x ≡ true → P (s.Ask (Up (or_zero (sema_number p x))))
  pub spawn : (f : List ℕ) (n : ℕ) (d : Target) → HasLocalFor d → takes p.funcs f n ≡ true → P (s.Ask (Spawn (or_zero (function_number p f)) n d))
  pub call : (f : List ℕ) (n : ℕ) → takes p.funcs f n ≡ true → P (s.Control (Call (or_zero (function_number p f)) n))

-- Expressions

-- a name that is no local is that of a word
pub word_behind : (p : Source) (xs : List (List ℕ)) (x : List ℕ) → index_of x xs ≡ None → (is_in x xs || is_word p.words x) ≡ true → is_word p.words x ≡ true
word_behind p xs x e h = ⊎_elim (λ (here : is_in x xs ≡ true). absurd (not_in x xs e here)) (λ (there : is_word p.words x ≡ true). there) (or_else (is_in x xs) (is_word p.words x) h)

-- The locals of a function have room in a frame.
abbrev Fits : List (List ℕ) → Type 0
Fits xs = length xs ≤ frame_room

within_more : (x : List ℕ) (ys : List (List ℕ)) → ((j : ℕ) → index_of x ys ≡ Some j → j < length ys) → (o : Option ℕ) → index_of x ys ≡ o → (j : ℕ) → option_map suc o ≡ Some j → j < suc (length ys)
within_more x ys h None e j g = cc
within_more x ys h (Some k) e j g = let below : k < length ys = h k e in let same : suc k ≡ j = same_element (suc k) j g in omega (arith, below, same)

position_within : (x : List ℕ) (ys : List (List ℕ)) (j : ℕ) → index_of x ys ≡ Some j → j < length ys
position_within x [] j e = cc
position_within x (y ∷ ys) j e =
    elim (pointwise ◌==◌ y x) as (λ b. (if b then Some 0 else option_map suc (index_of x ys)) ≡ Some j → j < suc (length ys)) [
      | true ↦ λ f. (let same : 0 ≡ j = same_element 0 j f in omega (arith, same))
      | false ↦ λ f. within_more x ys (position_within x ys) (index_of x ys) refl j f
    ] e

local_within : (x : List ℕ) (xs : List (List ℕ)) (j : ℕ) → Fits xs → index_of x xs ≡ Some j → j < frame_room
local_within x xs j few e = let below : j < length xs = position_within x xs j e in omega (arith, below, few)

operand_local : (xs : List (List ℕ)) (e : Expression) → Fits xs → HasLocal (operand_of xs e)
operand_local xs (num n) few = tt
operand_local xs (var x) few = by (index_of x xs) refl
  where
    by : (a : Option ℕ) → index_of x xs ≡ a → HasLocal (local_operand a)
    by None e = tt
    by (Some j) e = local_within x xs j few e
operand_local xs (cell x i) few = tt
operand_local xs (neg a) few = tt
operand_local xs (inverse a) few = tt
operand_local xs (bin o a b) few = tt

variable_each : (p : Source) (P : CodeStep → Type 0) (d : Target) (xs : List (List ℕ)) (x : List ℕ) (a : Option ℕ) → HoldsOf p P → Fits xs → HasLocalFor d → index_of x xs ≡ a
    → (is_in x xs || is_word p.words x) ≡ true → P (variable_step p d x a)
variable_each p P d xs x None h few to e k = h.read x d to (word_behind p xs x e k)
variable_each p P d xs x (Some j) h few to e k = h.other _ refl (local_within x xs j few e, to)

unless_each : (P : CodeStep → Type 0) (a : Operand) (steps : List CodeStep) → AllOf P steps → AllOf P (unless_there a steps)
unless_each P operand.Top steps h = h
unless_each P (operand.Local j) steps h = tt
unless_each P (operand.Number n) steps h = tt

steps_each : (p : Source) (P : CodeStep → Type 0) (xs : List (List ℕ)) (d : Target) (e : Expression) → HoldsOf p P → Fits xs → HasLocalFor d → knows p xs e ≡ true → AllOf P (steps_to p xs d e)
steps_each p P xs d (num n) h few to k = (h.other _ refl (tt, to), tt)
steps_each p P xs d (var x) h few to k = (variable_each p P d xs x (index_of x xs) h few to refl k, tt)
steps_each p P xs d (cell x i) h few to k =
    let g : (is_array p.words x ≡ true) × (knows p xs i ≡ true) = both _ _ k in
    all_append P (operand_steps p xs i) _ (unless_each P (operand_of xs i) _ (steps_each p P xs target.Push i h few tt g.1)) (h.read_cell x (operand_of xs i) d (operand_local xs i few) to g.0, tt)
steps_each p P xs d (neg a) h few to k =
    all_append P (operand_steps p xs a) _ (unless_each P (operand_of xs a) _ (steps_each p P xs target.Push a h few tt k)) (h.other _ refl (operand_local xs a few, to), tt)
steps_each p P xs d (inverse a) h few to k =
    all_append P (operand_steps p xs a) _ (unless_each P (operand_of xs a) _ (steps_each p P xs target.Push a h few tt k)) (h.other _ refl (operand_local xs a few, to), tt)
steps_each p P xs d (bin o a b) h few to k =
    let g : (knows p xs a ≡ true) × (knows p xs b ≡ true) = both _ _ k in
    all_append P (operand_steps p xs a) _ (unless_each P (operand_of xs a) _ (steps_each p P xs target.Push a h few tt g.0))
    (all_append P (operand_steps p xs b) _ (unless_each P (operand_of xs b) _ (steps_each p P xs target.Push b h few tt g.1))
    (h.other _ refl (operand_local xs a few, operand_local xs b few, to), tt))

operand_each : (p : Source) (P : CodeStep → Type 0) (xs : List (List ℕ)) (e : Expression) → HoldsOf p P → Fits xs → knows p xs e ≡ true → AllOf P (operand_steps p xs e)
operand_each p P xs e h few k = unless_each P (operand_of xs e) _ (steps_each p P xs target.Push e h few tt k)

arguments_each : (p : Source) (P : CodeStep → Type 0) (xs : List (List ℕ)) (es : List Expression) → HoldsOf p P → Fits xs → knows_all p xs es ≡ true → AllOf P (argument_steps p xs es)
arguments_each p P xs [] h few k = tt
arguments_each p P xs (e ∷ es) h few k =
    let g : (knows p xs e ≡ true) × (knows_all p xs es ≡ true) = both _ _ k in
    all_append P (steps_to p xs target.Push e) _ (steps_each p P xs target.Push e h few tt g.0) (arguments_each p P xs es h few g.1)

-- Statements

call_each : (p : Source) (P : CodeStep → Type 0) (xs : List (List ℕ)) (f : List ℕ) (es : List Expression) → HoldsOf p P → Fits xs → knows_call p xs f es ≡ true → takes p.funcs f (length es) ≡ true
    → AllOf P (call_steps p xs f es)
call_each p P xs f es h few k t = all_append P (argument_steps p xs es) _ (arguments_each p P xs es h few (both _ _ k).1) (h.call f (length es) t, tt)

spawn_each : (p : Source) (P : CodeStep → Type 0) (xs : List (List ℕ)) (f : List ℕ) (es : List Expression) → HoldsOf p P → Fits xs → knows_call p xs f es ≡ true → takes p.funcs f (length es) ≡ true
    → AllOf P (spawn_steps p xs f es)
spawn_each p P xs f es h few k t = all_append P (argument_steps p xs es) _ (arguments_each p P xs es h few (both _ _ k).1) (h.spawn f (length es) target.Push tt t, tt)

-- what comes of a call is put into a local
store_each : (p : Source) (P : CodeStep → Type 0) (xs : List (List ℕ)) (x : List ℕ) (a : Option ℕ) → HoldsOf p P → Fits xs → index_of x xs ≡ a → is_in x xs ≡ true → P (store_step p x a)
store_each p P xs x None h few e k = absurd (not_in x xs e k)
store_each p P xs x (Some j) h few e k = h.other _ refl (tt, local_within x xs j few e)

value_each : (p : Source) (P : CodeStep → Type 0) (xs : List (List ℕ)) (x : List ℕ) (e : Expression) (a : Option ℕ) → HoldsOf p P → Fits xs → index_of x xs ≡ a
    → (is_in x xs || is_word p.words x) ≡ true → knows p xs e ≡ true → AllOf P (value_steps p xs x e a)
value_each p P xs x e None h few is k g = all_append P (operand_steps p xs e) _ (operand_each p P xs e h few g) (h.write x (operand_of xs e) (operand_local xs e few) (word_behind p xs x is k), tt)
value_each p P xs x e (Some j) h few is k g = steps_each p P xs (target.Local j) e h few (local_within x xs j few is) g

set_each : (p : Source) (P : CodeStep → Type 0) (xs : List (List ℕ)) (x : List ℕ) (r : Right Expression) → HoldsOf p P → Fits xs → knows_right p xs x r ≡ true → takes_right p r ≡ true → AllOf P (set_steps p xs x r)
set_each p P xs x (Right.value e) h few k t =
    let g : ((is_in x xs || is_word p.words x) ≡ true) × (knows p xs e ≡ true) = both _ _ k in
    value_each p P xs x e (index_of x xs) h few refl g.0 g.1
set_each p P xs x (Right.call f es) h few k t =
    let g : (is_in x xs ≡ true) × (knows_call p xs f es ≡ true) = both _ _ k in
    all_append P (call_steps p xs f es) _ (call_each p P xs f es h few g.1 t) (store_each p P xs x (index_of x xs) h few refl g.0, tt)
set_each p P xs x (Right.spawn f es) h few k t =
    let g : (is_in x xs ≡ true) × (knows_call p xs f es ≡ true) = both _ _ k in
    all_append P (spawn_steps p xs f es) _ (spawn_each p P xs f es h few g.1 t) (store_each p P xs x (index_of x xs) h few refl g.0, tt)

simple_each : (p : Source) (P : CodeStep → Type 0) (xs : List (List ℕ)) (x : Simple Expression) → HoldsOf p P → Fits xs → knows_simple p xs x ≡ true → takes_simple p x ≡ true → AllOf P (simple_steps p xs x)
simple_each p P xs (let_ x r) h few k t = (h.other _ refl tt, all_append P (set_steps p xs x r) _ (set_each p P xs x r h few k t) (h.other _ refl tt, tt))
simple_each p P xs (set x r) h few k t = (h.other _ refl tt, all_append P (set_steps p xs x r) _ (set_each p P xs x r h few k t) (h.other _ refl tt, tt))
simple_each p P xs (set_cell x i e) h few k t =
    let g : (is_array p.words x ≡ true) × ((knows p xs i && knows p xs e) ≡ true) = both _ _ k in
    let f : (knows p xs i ≡ true) × (knows p xs e ≡ true) = both _ _ g.1 in (
      h.other _ refl tt,
      all_append P (operand_steps p xs i) _ (operand_each p P xs i h few f.0)
          (all_append P (operand_steps p xs e) _ (operand_each p P xs e h few f.1) (h.write_cell x (operand_of xs i) (operand_of xs e) (operand_local xs i few) (operand_local xs e few) g.0, (h.other _ refl tt, tt))),
    )
simple_each p P xs (Simple.call f es) h few k t = (h.other _ refl tt, all_append P (call_steps p xs f es) _ (call_each p P xs f es h few k t) (h.other _ refl tt, (h.other _ refl tt, tt)))
simple_each p P xs (return None) h few k t = (h.other _ refl tt, (h.other _ refl tt, tt))
simple_each p P xs (return (Some e)) h few k t = (h.other _ refl tt, all_append P (operand_steps p xs e) _ (operand_each p P xs e h few k) (h.other _ refl (operand_local xs e few), tt))
simple_each p P xs (tree.lock x) h few k t = (h.other _ refl tt, (h.lock x k, (h.other _ refl tt, tt)))
simple_each p P xs (tree.unlock x) h few k t = (h.other _ refl tt, (h.unlock x k, (h.other _ refl tt, tt)))
simple_each p P xs (tree.down x) h few k t = (h.other _ refl tt, (h.down x k, (h.other _ refl tt, tt)))
simple_each p P xs (tree.up x) h few k t = (h.other _ refl tt, (h.up x k, (h.other _ refl tt, tt)))
simple_each p P xs (tree.join e) h few k t = (h.other _ refl tt, all_append P (operand_steps p xs e) _ (operand_each p P xs e h few k) (h.other _ refl (operand_local xs e few), (h.other _ refl tt, tt)))
simple_each p P xs (tree.print e) h few k t = (h.other _ refl tt, all_append P (operand_steps p xs e) _ (operand_each p P xs e h few k) (h.other _ refl (operand_local xs e few), (h.other _ refl tt, tt)))
simple_each p P xs tree.skip h few k t = (h.other _ refl tt, (h.other _ refl tt, tt))

-- Instructions

abbrev AllSteps : (CodeStep → Type 0) → List Instr → Type 0
AllSteps P is = AllOf (λ (i : Instr). P i.step) is

instrs_each : (P : CodeStep → Type 0) (l n : ℕ) (steps : List CodeStep) → AllOf P steps → AllSteps P (instrs l n steps)
instrs_each P l n [] h = tt
instrs_each P l n (x ∷ steps) h = (h.0, instrs_each P l n steps h.1)

both_each : (P : CodeStep → Type 0) (is js : List Instr) → AllSteps P is → AllSteps P js → AllSteps P (is ++ js)
both_each P is js h g = all_append (λ (i : Instr). P i.step) is js h g

condition_each : (p : Source) (P : CodeStep → Type 0) (xs : List (List ℕ)) (l n to : ℕ) (e : Expression) → HoldsOf p P → Fits xs → knows p xs e ≡ true
    → AllSteps P (instrs l n (s.Control Begin ∷ (operand_steps p xs e ++ s.Control (JumpIfZero (operand_of xs e) to) ∷ [])))
condition_each p P xs l n to e h few k = (h.other _ refl tt, instrs_each P l n _ (all_append P (operand_steps p xs e) _ (operand_each p P xs e h few k) (h.other _ refl (operand_local xs e few), tt)))

body_each : (p : Source) (P : CodeStep → Type 0) (xs : List (List ℕ)) (at n : ℕ) (a : Body) → HoldsOf p P → Fits xs → knows_body p xs a ≡ true → takes_body p a ≡ true → AllSteps P (flat_body p xs at n a)
body_each p P xs at n end h few k t = tt
body_each p P xs at n (simple l x rest) h few k t =
    let g : (knows_simple p xs x ≡ true) × (knows_body p xs rest ≡ true) = both _ _ k in
    let u : (takes_simple p x ≡ true) × (takes_body p rest ≡ true) = both _ _ t in
    both_each P (instrs l n (simple_steps p xs x)) _ (instrs_each P l n _ (simple_each p P xs x h few g.0 u.0)) (body_each p P xs (at + length (simple_steps p xs x)) (suc n) rest h few g.1 u.1)
body_each p P xs at n (if_ l e a b rest) h few k t =
    let first : ℕ = at + (2 + length (operand_steps p xs e)) in
    let second : ℕ = first + (1 + size p xs a) in
    let last : ℕ = second + size p xs b in
    let from_done : List Instr = instr l n (s.Control Done) ∷ flat_body p xs (suc last) (suc n + place_count a + place_count b) rest in
    let from_jump : List Instr = instr l n (s.Control (Jump last)) ∷ (flat_body p xs second (suc n + place_count a) b ++ from_done) in
    let g : (knows p xs e ≡ true) × ((knows_body p xs a && (knows_body p xs b && knows_body p xs rest)) ≡ true) = both _ _ k in
    let g_in : (knows_body p xs a ≡ true) × ((knows_body p xs b && knows_body p xs rest) ≡ true) = both _ _ g.1 in
    let g_behind : (knows_body p xs b ≡ true) × (knows_body p xs rest ≡ true) = both _ _ g_in.1 in
    let u : (takes_body p a ≡ true) × ((takes_body p b && takes_body p rest) ≡ true) = both _ _ t in
    let u_behind : (takes_body p b ≡ true) × (takes_body p rest ≡ true) = both _ _ u.1 in
    both_each P (instrs l n (s.Control Begin ∷ (operand_steps p xs e ++ s.Control (JumpIfZero (operand_of xs e) second) ∷ []))) _ (condition_each p P xs l n second e h few g.0)
    (both_each P (flat_body p xs first (suc n) a) from_jump (body_each p P xs first (suc n) a h few g_in.0 u.0) (
      h.other _ refl tt,
      both_each P (flat_body p xs second (suc n + place_count a) b) from_done (body_each p P xs second (suc n + place_count a) b h few g_behind.0 u_behind.0)
          (h.other _ refl tt, body_each p P xs (suc last) (suc n + place_count a + place_count b) rest h few g_behind.1 u_behind.1),
    ))
body_each p P xs at n (while_ l e a rest) h few k t =
    let head : ℕ = at + 1 in
    let first : ℕ = head + (1 + length (operand_steps p xs e)) in
    let last : ℕ = first + (1 + size p xs a) in
    let from_edge : List Instr = instr l (suc n) (s.Control (Edge head)) ∷ instr l n (s.Control Done) ∷ flat_body p xs (suc last) (suc (suc n) + place_count a) rest in
    let g : (knows p xs e ≡ true) × ((knows_body p xs a && knows_body p xs rest) ≡ true) = both _ _ k in
    let g_in : (knows_body p xs a ≡ true) × (knows_body p xs rest ≡ true) = both _ _ g.1 in
    let u : (takes_body p a ≡ true) × (takes_body p rest ≡ true) = both _ _ t in
    both_each P (instrs l n (s.Control Begin ∷ (operand_steps p xs e ++ s.Control (JumpIfZero (operand_of xs e) last) ∷ []))) _ (condition_each p P xs l n last e h few g.0)
    (both_each P (flat_body p xs first (suc (suc n)) a) from_edge (body_each p P xs first (suc (suc n)) a h few g_in.0 u.0)
    (h.other _ refl tt, (h.other _ refl tt, body_each p P xs (suc last) (suc (suc n) + place_count a) rest h few g_in.1 u.1)))

-- Functions

functions_each : (p : Source) (P : CodeStep → Type 0) (at n : ℕ) (fs : List Function) → HoldsOf p P → FunctionsKeepRules p fs → AllSteps P (functions_code p at n fs)
functions_each p P at n [] h l = tt
functions_each p P at n (f ∷ fs) h l =
    both_each P (flat_body p (locals_of f) at (suc n) f.body) _ (body_each p P (locals_of f) at (suc n) f.body h l.0.locals l.0.known (function_takes p f l.0))
    (h.other _ refl tt, functions_each p P (suc (at + size p (locals_of f) f.body)) (suc (suc (n + place_count f.body))) fs h l.1)

all_at : {A : Type 0} (P : A → Type 0) (xs : List A) (at : ℕ) (x : A) → AllOf P xs → slice_get xs at ≡ Some x → P x
all_at P [] at x h e = cc
all_at P (y ∷ ys) zero x h e = subst P (same_element y x e) h.0
all_at P (y ∷ ys) (suc at) x h e = all_at P ys at x h.1 e

pub each_step : (p : Source) (P : CodeStep → Type 0) (at : ℕ) (i : Instr) → KeepsRules p → HoldsOf p P → slice_get (lowered p).code at ≡ Some i → P i.step
each_step p P at i l h e = all_at (λ (j : Instr). P j.step) (lowered p).code at i (functions_each p P 0 1 p.funcs h l.functions) e
