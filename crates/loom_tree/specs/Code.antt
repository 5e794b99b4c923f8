-- A program without pointers is stored as the values that it stands for.
use Rattle.std.specs.Prelude.{ℕ, ℤ, List, [], ◌∷◌, map, Option, Some, None, ◌≡◌, refl, Box}
use Rattle.std.specs.Global.{Global}
use Rattle.std.specs.Ptr.{null_ptr}
use Rattle.std.proofs.Common.{ap, ◌∙◌}
use Rattle.std.specs.Coded.{Coded, code_by, coded×, coded_ℕ, coded_ℤ, coded_list, coded_option}
use Rattle.loom_tree.specs.declared.expression.Expr.{Expr}
use Rattle.loom_tree.specs.declared.expression.Expr.TheVariants as x
use Rattle.loom_tree.specs.declared.statement.Right as rust_right
use Rattle.loom_tree.specs.declared.statement.Right.TheVariants as r
use Rattle.loom_tree.specs.declared.statement.Kind.{Kind}
use Rattle.loom_tree.specs.declared.statement.Kind.TheVariants as k
use Rattle.loom_tree.specs.declared.statement.Stmts.{Stmts}
use Rattle.loom_tree.specs.declared.statement.Stmts.TheVariants as s
use Rattle.loom_tree.specs.declared.item.Word.{Word}
use Rattle.loom_tree.specs.declared.item.Sema.{Sema}
use Rattle.loom_tree.specs.contracts.statement.Stmts as c
use Rattle.loom_tree.specs.Tree.{Expression, num, var, cell, neg, inverse, bin, Right, Simple, let_, set, set_cell, return, lock, unlock, down, up, join, print, skip, Body, end, simple, if_, while_, Function, Source, expression_of, expressions_of, right_of, returned_of, body_of, behind}

-- a box that lies nowhere
abbrev pub box : Box (Unit {0}) Global
box = record { ptr = null_ptr; alloc = record { memory = record { seal = tt } }; value = tt }

abbrev pub expr_of : Expression → Expr
expr_of (num n) = x.Num n
expr_of (var n) = x.Var n
expr_of (cell n i) = x.Cell' n box (expr_of i)
expr_of (neg a) = x.Neg' box (expr_of a)
expr_of (inverse a) = x.Not' box (expr_of a)
expr_of (bin o a b) = x.Bin' o box (expr_of a) box (expr_of b)

pub expression_back : (e : Expression) → expression_of (expr_of e) ≡ e
expression_back (num n) = refl
expression_back (var n) = refl
expression_back (cell n i) = ap (cell n) (expression_back i)
expression_back (neg a) = ap neg (expression_back a)
expression_back (inverse a) = ap inverse (expression_back a)
expression_back (bin o a b) = ap (λ z. bin o z (expression_of (expr_of b))) (expression_back a) ∙ ap (λ z. bin o a z) (expression_back b)

abbrev pub exprs_of : List Expression → List Expr
exprs_of es = map expr_of es

pub expressions_back : (es : List Expression) → expressions_of (exprs_of es) ≡ es
expressions_back [] = refl
expressions_back (e ∷ es) = ap (λ z. z ∷ expressions_of (exprs_of es)) (expression_back e) ∙ ap (λ z. e ∷ z) (expressions_back es)

abbrev pub written_right : Right Expression → rust_right.Right
written_right (Right.value e) = r.Value (expr_of e)
written_right (Right.call f es) = r.Call f (exprs_of es)
written_right (Right.spawn f es) = r.Spawn f (exprs_of es)

pub right_back : (e : Right Expression) → right_of (written_right e) ≡ e
right_back (Right.value e) = ap Right.value (expression_back e)
right_back (Right.call f es) = ap (Right.call f) (expressions_back es)
right_back (Right.spawn f es) = ap (Right.spawn f) (expressions_back es)

abbrev pub written_returned : Option Expression → Option Expr
written_returned None = None
written_returned (Some e) = Some (expr_of e)

pub returned_back : (e : Option Expression) → returned_of (written_returned e) ≡ e
returned_back None = refl
returned_back (Some e) = ap Some (expression_back e)

abbrev pub kind_of : Simple Expression → Kind
kind_of (let_ n e) = k.Let n (written_right e)
kind_of (set n e) = k.Set n (written_right e)
kind_of (set_cell n i e) = k.SetCell n (expr_of i) (expr_of e)
kind_of (Simple.call f es) = k.Call f (exprs_of es)
kind_of (return e) = k.Return (written_returned e)
kind_of (lock n) = k.Lock n
kind_of (unlock n) = k.Unlock n
kind_of (down n) = k.Down n
kind_of (up n) = k.Up n
kind_of (join e) = k.Join (expr_of e)
kind_of (print e) = k.Print (expr_of e)
kind_of skip = k.Skip

pub kind_back : (l : ℕ) (e : Simple Expression) (rest : Body) → behind l (kind_of e) rest ≡ simple l e rest
kind_back l (let_ n e) rest = ap (λ z. simple l (let_ n z) rest) (right_back e)
kind_back l (set n e) rest = ap (λ z. simple l (set n z) rest) (right_back e)
kind_back l (set_cell n i e) rest = ap (λ z. simple l (set_cell n z (expression_of (expr_of e))) rest) (expression_back i) ∙ ap (λ z. simple l (set_cell n i z) rest) (expression_back e)
kind_back l (Simple.call f es) rest = ap (λ z. simple l (Simple.call f z) rest) (expressions_back es)
kind_back l (return e) rest = ap (λ z. simple l (return z) rest) (returned_back e)
kind_back l (lock n) rest = refl
kind_back l (unlock n) rest = refl
kind_back l (down n) rest = refl
kind_back l (up n) rest = refl
kind_back l (join e) rest = ap (λ z. simple l (join z) rest) (expression_back e)
kind_back l (print e) rest = ap (λ z. simple l (print z) rest) (expression_back e)
kind_back l skip rest = refl

abbrev pub stmts_of : Body → Stmts
stmts_of end = s.End
stmts_of (simple l e rest) = s.More' box l (kind_of e) box (stmts_of rest)
stmts_of (if_ l e a b rest) = s.More' box l (k.If (expr_of e) (stmts_of a) (stmts_of b)) box (stmts_of rest)
stmts_of (while_ l e a rest) = s.More' box l (k.While (expr_of e) (stmts_of a)) box (stmts_of rest)

pub body_back : (b : Body) → body_of (stmts_of b) ≡ b
body_back end = refl
body_back (simple l e rest) = kind_back l e (body_of (stmts_of rest)) ∙ ap (simple l e) (body_back rest)
body_back (if_ l e a b rest) =
    ap (λ z. if_ l z (body_of (stmts_of a)) (body_of (stmts_of b)) (body_of (stmts_of rest))) (expression_back e)
    ∙ ap (λ z. if_ l e z (body_of (stmts_of b)) (body_of (stmts_of rest))) (body_back a)
    ∙ ap (λ z. if_ l e a z (body_of (stmts_of rest))) (body_back b)
    ∙ ap (λ z. if_ l e a b z) (body_back rest)
body_back (while_ l e a rest) =
    ap (λ z. while_ l z (body_of (stmts_of a)) (body_of (stmts_of rest))) (expression_back e)
    ∙ ap (λ z. while_ l e z (body_of (stmts_of rest))) (body_back a)
    ∙ ap (λ z. while_ l e a z) (body_back rest)

abbrev pub body_code : Coded Body
body_code = code_by Stmts c.the_row.coded stmts_of body_of body_back

abbrev pub name_code : Coded (List ℕ)
name_code = coded_list coded_ℕ

abbrev pub function_code : Coded Function
function_code =
    code_by (List ℕ × (ℕ × (List (List ℕ) × Body))) (coded× name_code (coded× coded_ℕ (coded× (coded_list name_code) body_code)))
    (λ f. (f.name, (f.line, (f.params, f.body)))) (λ p. record { name = p.0; line = p.1.0; params = p.1.1.0; body = p.1.1.1 }) (λ _. refl)

abbrev pub word_code : Coded Word
word_code =
    code_by (List ℕ × (Option ℕ × ℤ)) (coded× name_code (coded× (coded_option coded_ℕ) coded_ℤ))
    (λ w. (w.name, (w.cells, w.first))) (λ p. record { name = p.0; cells = p.1.0; first = p.1.1 }) (λ _. refl)

abbrev pub sema_code : Coded Sema
sema_code = code_by (List ℕ × ℕ) (coded× name_code coded_ℕ) (λ s. (s.name, s.first)) (λ p. record { name = p.0; first = p.1 }) (λ _. refl)

abbrev pub source_code : Coded Source
source_code =
    code_by (List Word × (List (List ℕ) × (List Sema × List Function)))
    (coded× (coded_list word_code) (coded× (coded_list name_code) (coded× (coded_list sema_code) (coded_list function_code))))
    (λ p. (p.words, (p.mutexes, (p.semas, p.funcs)))) (λ q. record { words = q.0; mutexes = q.1.0; semas = q.1.1.0; funcs = q.1.1.1 }) (λ _. refl)
