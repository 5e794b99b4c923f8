-- What is known and counted takes as many arguments as are given.
use Rattle.std.proofs.Common.{ℕ, ◌≡◌, ◌==◌, Bool, true, false, not, ◌&&◌, ◌||◌, List, [], ◌∷◌, length, refl, sym, ap, ◌∙◌}
use Rattle.std.specs.Cmp.Lexicographic.{pointwise}
use Rattle.loom_tree.specs.declared.expression.Expr.{Expr}
use Rattle.loom_tree.specs.declared.statement.Kind.{Kind}
use Rattle.loom_tree.specs.declared.statement.Kind.TheVariants as k
use Rattle.loom_tree.specs.Tree.{Expression, Right, Simple, let_, set, set_cell, return, Body, end, simple, if_, while_, Function, Source, behind, body_of, right_of, returned_of, expression_of, expressions_of}
use Rattle.loom_tree.specs.Tree as tree
use Rattle.loom_lang.specs.Rules.{locals_of, FunctionKeepsRules, is_in, is_sema, is_function, takes, knows, knows_all, knows_call, knows_right, knows_returned, knows_simple, knows_body, counts_call, counts_right, counts_simple, counts_body}
use Rattle.loom_flow.specs.Arguments.{takes_right, takes_simple, takes_body}
use Rattle.loom_flow.proofs.Truths.{both}

all : (a b : Bool) → a ≡ true → b ≡ true → (a && b) ≡ true
all true b h g = g
all false b h g = cc

-- a function that takes so many arguments is one
pub takes_function : (fs : List Function) (x : List ℕ) (n : ℕ) → takes fs x n ≡ true → is_function fs x ≡ true
takes_function [] x n h = cc
takes_function (f ∷ fs) x n h =
    elim (pointwise ◌==◌ f.name x) as (λ b. ((b && length f.params == n) || takes fs x n) ≡ true → (b || is_function fs x) ≡ true) [
      | true ↦ λ e. refl
      | false ↦ λ e. takes_function fs x n e
    ] h

counted : (f t : Bool) → f ≡ true → (not f || t) ≡ true → t ≡ true
counted true t h g = g
counted false t h g = cc

call_takes : (p : Source) (xs : List (List ℕ)) (f : List ℕ) (es : List Expression) → knows_call p xs f es ≡ true → counts_call p f es ≡ true → takes p.funcs f (length es) ≡ true
call_takes p xs f es h g = counted (is_function p.funcs f) (takes p.funcs f (length es)) (both _ _ h).0 g

right_takes : (p : Source) (xs : List (List ℕ)) (x : List ℕ) (r : Right Expression) → knows_right p xs x r ≡ true → counts_right p r ≡ true → takes_right p r ≡ true
right_takes p xs x (Right.value e) h g = refl
right_takes p xs x (Right.call f es) h g = call_takes p xs f es (both _ _ h).1 g
right_takes p xs x (Right.spawn f es) h g = call_takes p xs f es (both _ _ h).1 g

simple_takes : (p : Source) (xs : List (List ℕ)) (x : Simple Expression) → knows_simple p xs x ≡ true → counts_simple p x ≡ true → takes_simple p x ≡ true
simple_takes p xs (let_ x r) h g = right_takes p xs x r h g
simple_takes p xs (set x r) h g = right_takes p xs x r h g
simple_takes p xs (set_cell x i e) h g = refl
simple_takes p xs (Simple.call f es) h g = call_takes p xs f es h g
simple_takes p xs (return e) h g = refl
simple_takes p xs (tree.lock x) h g = refl
simple_takes p xs (tree.unlock x) h g = refl
simple_takes p xs (tree.down x) h g = refl
simple_takes p xs (tree.up x) h g = refl
simple_takes p xs (tree.join e) h g = refl
simple_takes p xs (tree.print e) h g = refl
simple_takes p xs tree.skip h g = refl

pub body_takes : (p : Source) (xs : List (List ℕ)) (a : Body) → knows_body p xs a ≡ true → counts_body p a ≡ true → takes_body p a ≡ true
body_takes p xs end h g = refl
body_takes p xs (simple l x rest) h g =
    let h' : (knows_simple p xs x ≡ true) × (knows_body p xs rest ≡ true) = both _ _ h in
    let g' : (counts_simple p x ≡ true) × (counts_body p rest ≡ true) = both _ _ g in
    all _ _ (simple_takes p xs x h'.0 g'.0) (body_takes p xs rest h'.1 g'.1)
body_takes p xs (if_ l e a b rest) h g =
    let h' : (knows p xs e ≡ true) × ((knows_body p xs a && (knows_body p xs b && knows_body p xs rest)) ≡ true) = both _ _ h in
    let h'' : (knows_body p xs a ≡ true) × ((knows_body p xs b && knows_body p xs rest) ≡ true) = both _ _ h'.1 in
    let h''' : (knows_body p xs b ≡ true) × (knows_body p xs rest ≡ true) = both _ _ h''.1 in
    let g' : (counts_body p a ≡ true) × ((counts_body p b && counts_body p rest) ≡ true) = both _ _ g in
    let g'' : (counts_body p b ≡ true) × (counts_body p rest ≡ true) = both _ _ g'.1 in
    all _ _ (body_takes p xs a h''.0 g'.0) (all _ _ (body_takes p xs b h'''.0 g''.0) (body_takes p xs rest h'''.1 g''.1))
body_takes p xs (while_ l e a rest) h g =
    let h' : (knows p xs e ≡ true) × ((knows_body p xs a && knows_body p xs rest) ≡ true) = both _ _ h in
    let h'' : (knows_body p xs a ≡ true) × (knows_body p xs rest ≡ true) = both _ _ h'.1 in
    let g' : (counts_body p a ≡ true) × (counts_body p rest ≡ true) = both _ _ g in
    all _ _ (body_takes p xs a h''.0 g'.0) (body_takes p xs rest h''.1 g'.1)

pub function_takes : (p : Source) (f : Function) → FunctionKeepsRules p f → takes_body p f.body ≡ true
function_takes p f h = body_takes p (locals_of f) f.body h.known h.counted

-- a statement, and the statements behind it

regroup_two : (a b c : Bool) → (a && (b && c)) ≡ ((a && (b && true)) && c)
regroup_two true true c = refl
regroup_two true false c = refl
regroup_two false b c = refl

regroup_three : (a b c d : Bool) → (a && (b && (c && d))) ≡ ((a && (b && (c && true))) && d)
regroup_three true b c d = regroup_two b c d
regroup_three false b c d = refl

regroup : (a c : Bool) → (a && c) ≡ ((a && true) && c)
regroup true c = refl
regroup false c = refl

pub takes_behind : (p : Source) (l : ℕ) (s : Kind) (rest : Body) → takes_body p (behind l s rest) ≡ (takes_body p (behind 0 s end) && takes_body p rest)
takes_behind p l (k.Let x r) rest = regroup (takes_right p (right_of r)) (takes_body p rest)
takes_behind p l (k.Set x r) rest = regroup (takes_right p (right_of r)) (takes_body p rest)
takes_behind p l (k.SetCell x i e) rest = refl
takes_behind p l (k.If e a b) rest = regroup_two (takes_body p (body_of a)) (takes_body p (body_of b)) (takes_body p rest)
takes_behind p l (k.While e a) rest = regroup (takes_body p (body_of a)) (takes_body p rest)
takes_behind p l (k.Call f es) rest = regroup (takes p.funcs f (length (expressions_of es))) (takes_body p rest)
takes_behind p l (k.Return e) rest = refl
takes_behind p l (k.Lock x) rest = refl
takes_behind p l (k.Unlock x) rest = refl
takes_behind p l (k.Down x) rest = refl
takes_behind p l (k.Up x) rest = refl
takes_behind p l (k.Join e) rest = refl
takes_behind p l (k.Print e) rest = refl
takes_behind p l k.Skip rest = refl

pub knows_behind : (p : Source) (xs : List (List ℕ)) (l : ℕ) (s : Kind) (rest : Body) → knows_body p xs (behind l s rest) ≡ (knows_body p xs (behind 0 s end) && knows_body p xs rest)
knows_behind p xs l (k.Let x r) rest = regroup (knows_right p xs x (right_of r)) (knows_body p xs rest)
knows_behind p xs l (k.Set x r) rest = regroup (knows_right p xs x (right_of r)) (knows_body p xs rest)
knows_behind p xs l (k.SetCell x i e) rest = regroup (knows_simple p xs (set_cell x (expression_of i) (expression_of e))) (knows_body p xs rest)
knows_behind p xs l (k.If e a b) rest = regroup_three (knows p xs (expression_of e)) (knows_body p xs (body_of a)) (knows_body p xs (body_of b)) (knows_body p xs rest)
knows_behind p xs l (k.While e a) rest = regroup_two (knows p xs (expression_of e)) (knows_body p xs (body_of a)) (knows_body p xs rest)
knows_behind p xs l (k.Call f es) rest = regroup (knows_call p xs f (expressions_of es)) (knows_body p xs rest)
knows_behind p xs l (k.Return e) rest = regroup (knows_returned p xs (returned_of e)) (knows_body p xs rest)
knows_behind p xs l (k.Lock x) rest = regroup (is_in x p.mutexes) (knows_body p xs rest)
knows_behind p xs l (k.Unlock x) rest = regroup (is_in x p.mutexes) (knows_body p xs rest)
knows_behind p xs l (k.Down x) rest = regroup (is_sema p.semas x) (knows_body p xs rest)
knows_behind p xs l (k.Up x) rest = regroup (is_sema p.semas x) (knows_body p xs rest)
knows_behind p xs l (k.Join e) rest = regroup (knows p xs (expression_of e)) (knows_body p xs rest)
knows_behind p xs l (k.Print e) rest = regroup (knows p xs (expression_of e)) (knows_body p xs rest)
knows_behind p xs l k.Skip rest = refl

-- an argument, and the arguments behind it
pub knows_argument : (p : Source) (xs : List (List ℕ)) (e : Expr) (es rest : List Expr) → es ≡ e ∷ rest → knows_all p xs (expressions_of es) ≡ true
    → (knows p xs (expression_of e) ≡ true) × (knows_all p xs (expressions_of rest) ≡ true)
knows_argument p xs e es rest is h = both _ _ (sym (ap (λ (z : List Expr). knows_all p xs (expressions_of z)) is) ∙ h)
