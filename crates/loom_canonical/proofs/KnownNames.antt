-- The names in the statements of a program that keeps the rules are names of the language.
use Rattle.std.proofs.Common.{ℕ, ◌≡◌, ◌==◌, Bool, true, false, ◌&&◌, ◌||◌, List, [], ◌∷◌, ◌++◌, map, Some, None, refl, sym, subst}
use Rattle.std.specs.Prelude.{is_none, is_some}
use Rattle.std.specs.List.{AllByRecursion}
use Rattle.std.specs.Cmp.Lexicographic.{pointwise, same_text}
use Rattle.std.proofs.lemmas.Bool.{and_parts}
use Rattle.loom_tree.specs.declared.item.Word.{Word}
use Rattle.loom_tree.specs.declared.item.Sema.{Sema}
use Rattle.loom_tree.specs.Tree.{Expression, num, var, cell, neg, inverse, bin, Right, Simple, let_, set, set_cell, return, lock, unlock, down, up, join, print, skip, Body, end, simple, if_, while_, Function, Source}
use Rattle.loom_lexer.specs.Name.{IsName}
use Rattle.loom_lang.specs.Rules.{is_in, is_word, is_array, is_sema, is_function, knows, knows_all, knows_call, knows_right, knows_simple, knows_body, file_names}
use Rattle.loom_canonical.proofs.ExpressionTokens.{HasNames}
use Rattle.loom_canonical.proofs.StatementTokens.{HasRightNames, HasStatementNames}
use Rattle.loom_canonical.proofs.BlockTokens.{HasBodyNames}

-- lists

pub all_front : {X : Type 0} (P : X → Type 0) (xs ys : List X) → AllByRecursion P (xs ++ ys) → AllByRecursion P xs
all_front P [] ys h = tt
all_front P (x ∷ xs) ys h = (h.0, all_front P xs ys h.1)

pub all_behind : {X : Type 0} (P : X → Type 0) (xs ys : List X) → AllByRecursion P (xs ++ ys) → AllByRecursion P ys
all_behind P [] ys h = h
all_behind P (x ∷ xs) ys h = all_behind P xs ys h.1

by_either : {A : Type 0} → (a b : Bool) → (a || b) ≡ true → (a ≡ true → A) → (b ≡ true → A) → A
by_either true b h f g = f refl
by_either false b h f g = g h

name_in : (xs : List (List ℕ)) (x : List ℕ) → AllByRecursion IsName xs → is_in x xs ≡ true → IsName x
name_in [] x h k = absurd (let clash : false ≡ true = k in cc)
name_in (y ∷ ys) x h k = by_either (pointwise ◌==◌ y x) (is_in x ys) k (λ e. subst IsName (same_text y x (sym e)) h.0) (λ e. name_in ys x h.1 e)

in_either : (a b c d : Bool) → ((a && b) || c) ≡ true → (c ≡ true → d ≡ true) → (a || d) ≡ true
in_either true b c d h f = refl
in_either false b c d h f = f h

in_one : (a c d : Bool) → (a || c) ≡ true → (c ≡ true → d ≡ true) → (a || d) ≡ true
in_one true c d h f = refl
in_one false c d h f = f h

word_in : (ws : List Word) (x : List ℕ) → is_word ws x ≡ true → is_in x (map (λ (w : Word). w.name) ws) ≡ true
word_in [] x h = h
word_in (w ∷ ws) x h = in_either (pointwise ◌==◌ w.name x) (is_none w.cells) (is_word ws x) (is_in x (map (λ (v : Word). v.name) ws)) h (λ e. word_in ws x e)

array_in : (ws : List Word) (x : List ℕ) → is_array ws x ≡ true → is_in x (map (λ (w : Word). w.name) ws) ≡ true
array_in [] x h = h
array_in (w ∷ ws) x h = in_either (pointwise ◌==◌ w.name x) (is_some w.cells) (is_array ws x) (is_in x (map (λ (v : Word). v.name) ws)) h (λ e. array_in ws x e)

sema_in : (ss : List Sema) (x : List ℕ) → is_sema ss x ≡ true → is_in x (map (λ (s : Sema). s.name) ss) ≡ true
sema_in [] x h = h
sema_in (s ∷ ss) x h = in_one (pointwise ◌==◌ s.name x) (is_sema ss x) (is_in x (map (λ (v : Sema). v.name) ss)) h (λ e. sema_in ss x e)

function_in : (fs : List Function) (x : List ℕ) → is_function fs x ≡ true → is_in x (map (λ (f : Function). f.name) fs) ≡ true
function_in [] x h = h
function_in (f ∷ fs) x h = in_one (pointwise ◌==◌ f.name x) (is_function fs x) (is_in x (map (λ (v : Function). v.name) fs)) h (λ e. function_in fs x e)

-- The names of a program by their kinds, and the locals of a function, are names.
pub record HasNameKinds (p : Source) : Type 0 where
  pub words : AllByRecursion IsName (map (λ (w : Word). w.name) p.words)
  pub mutexes : AllByRecursion IsName p.mutexes
  pub semas : AllByRecursion IsName (map (λ (s : Sema). s.name) p.semas)
  pub functions : AllByRecursion IsName (map (λ (f : Function). f.name) p.funcs)

pub kinds_named : (p : Source) → AllByRecursion IsName (file_names p) → HasNameKinds p
kinds_named p h =
    let W : List (List ℕ) = map (λ (w : Word). w.name) p.words in
    let S : List (List ℕ) = map (λ (s : Sema). s.name) p.semas in
    let F : List (List ℕ) = map (λ (f : Function). f.name) p.funcs in
    let shared = all_front IsName (W ++ (p.mutexes ++ S)) F h in
    let others = all_behind IsName W (p.mutexes ++ S) shared in
    record { words = all_front IsName W (p.mutexes ++ S) shared; mutexes = all_front IsName p.mutexes S others; semas = all_behind IsName p.mutexes S others; functions = all_behind IsName (W ++ (p.mutexes ++ S)) F h }

-- names in statements

word_named : (p : Source) (x : List ℕ) → HasNameKinds p → is_word p.words x ≡ true → IsName x
word_named p x k e = name_in (map (λ (w : Word). w.name) p.words) x k.words (word_in p.words x e)

array_named : (p : Source) (x : List ℕ) → HasNameKinds p → is_array p.words x ≡ true → IsName x
array_named p x k e = name_in (map (λ (w : Word). w.name) p.words) x k.words (array_in p.words x e)

sema_named : (p : Source) (x : List ℕ) → HasNameKinds p → is_sema p.semas x ≡ true → IsName x
sema_named p x k e = name_in (map (λ (s : Sema). s.name) p.semas) x k.semas (sema_in p.semas x e)

function_named : (p : Source) (x : List ℕ) → HasNameKinds p → is_function p.funcs x ≡ true → IsName x
function_named p x k e = name_in (map (λ (f : Function). f.name) p.funcs) x k.functions (function_in p.funcs x e)

-- a local or a word
variable_named : (p : Source) (locals : List (List ℕ)) (x : List ℕ) → HasNameKinds p → AllByRecursion IsName locals → (is_in x locals || is_word p.words x) ≡ true → IsName x
variable_named p locals x k l e = by_either (is_in x locals) (is_word p.words x) e (λ h. name_in locals x l h) (λ h. word_named p x k h)

expression_named : (p : Source) (locals : List (List ℕ)) → HasNameKinds p → AllByRecursion IsName locals → (e : Expression) → knows p locals e ≡ true → HasNames e
expression_named p locals k l (num n) h = tt
expression_named p locals k l (var x) h = variable_named p locals x k l h
expression_named p locals k l (cell x i) h =
    let s = and_parts (is_array p.words x) (knows p locals i) h in
    (array_named p x k s.0, expression_named p locals k l i s.1)
expression_named p locals k l (neg a) h = expression_named p locals k l a h
expression_named p locals k l (inverse a) h = expression_named p locals k l a h
expression_named p locals k l (bin o a b) h =
    let s = and_parts (knows p locals a) (knows p locals b) h in
    (expression_named p locals k l a s.0, expression_named p locals k l b s.1)

expressions_named : (p : Source) (locals : List (List ℕ)) → HasNameKinds p → AllByRecursion IsName locals → (es : List Expression) → knows_all p locals es ≡ true → AllByRecursion HasNames es
expressions_named p locals k l [] h = tt
expressions_named p locals k l (e ∷ es) h =
    let s = and_parts (knows p locals e) (knows_all p locals es) h in
    (expression_named p locals k l e s.0, expressions_named p locals k l es s.1)

call_named : (p : Source) (locals : List (List ℕ)) → HasNameKinds p → AllByRecursion IsName locals → (f : List ℕ) (es : List Expression) → knows_call p locals f es ≡ true → IsName f × AllByRecursion HasNames es
call_named p locals k l f es h =
    let s = and_parts (is_function p.funcs f) (knows_all p locals es) h in
    (function_named p f k s.0, expressions_named p locals k l es s.1)

right_named : (p : Source) (locals : List (List ℕ)) → HasNameKinds p → AllByRecursion IsName locals → (x : List ℕ) (r : Right Expression) → knows_right p locals x r ≡ true → IsName x × HasRightNames r
right_named p locals k l x (Right.value e) h =
    let s = and_parts (is_in x locals || is_word p.words x) (knows p locals e) h in
    (variable_named p locals x k l s.0, expression_named p locals k l e s.1)
right_named p locals k l x (Right.call f es) h =
    let s = and_parts (is_in x locals) (knows_call p locals f es) h in
    (name_in locals x l s.0, call_named p locals k l f es s.1)
right_named p locals k l x (Right.spawn f es) h =
    let s = and_parts (is_in x locals) (knows_call p locals f es) h in
    (name_in locals x l s.0, call_named p locals k l f es s.1)

statement_named : (p : Source) (locals : List (List ℕ)) → HasNameKinds p → AllByRecursion IsName locals → (s : Simple Expression) → knows_simple p locals s ≡ true → HasStatementNames s
statement_named p locals k l (let_ x r) h = right_named p locals k l x r h
statement_named p locals k l (set x r) h = right_named p locals k l x r h
statement_named p locals k l (set_cell x i e) h =
    let s = and_parts (is_array p.words x) (knows p locals i && knows p locals e) h in
    let both = and_parts (knows p locals i) (knows p locals e) s.1 in
    (array_named p x k s.0, expression_named p locals k l i both.0, expression_named p locals k l e both.1)
statement_named p locals k l (Simple.call f es) h = call_named p locals k l f es h
statement_named p locals k l (return None) h = tt
statement_named p locals k l (return (Some e)) h = expression_named p locals k l e h
statement_named p locals k l (lock x) h = name_in p.mutexes x k.mutexes h
statement_named p locals k l (unlock x) h = name_in p.mutexes x k.mutexes h
statement_named p locals k l (down x) h = sema_named p x k h
statement_named p locals k l (up x) h = sema_named p x k h
statement_named p locals k l (join e) h = expression_named p locals k l e h
statement_named p locals k l (print e) h = expression_named p locals k l e h
statement_named p locals k l skip h = tt

pub body_named : (p : Source) (locals : List (List ℕ)) → HasNameKinds p → AllByRecursion IsName locals → (b : Body) → knows_body p locals b ≡ true → HasBodyNames b
body_named p locals k l end h = tt
body_named p locals k l (simple m s rest) h =
    let t = and_parts (knows_simple p locals s) (knows_body p locals rest) h in
    (statement_named p locals k l s t.0, body_named p locals k l rest t.1)
body_named p locals k l (if_ m e a b rest) h =
    let t = and_parts (knows p locals e) (knows_body p locals a && (knows_body p locals b && knows_body p locals rest)) h in
    let u = and_parts (knows_body p locals a) (knows_body p locals b && knows_body p locals rest) t.1 in
    let v = and_parts (knows_body p locals b) (knows_body p locals rest) u.1 in
    (expression_named p locals k l e t.0, body_named p locals k l a u.0, body_named p locals k l b v.0, body_named p locals k l rest v.1)
body_named p locals k l (while_ m e a rest) h =
    let t = and_parts (knows p locals e) (knows_body p locals a && knows_body p locals rest) h in
    let u = and_parts (knows_body p locals a) (knows_body p locals rest) t.1 in
    (expression_named p locals k l e t.0, body_named p locals k l a u.0, body_named p locals k l rest u.1)
