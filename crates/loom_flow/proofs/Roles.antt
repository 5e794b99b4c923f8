-- In a program that keeps the rules each name has its number.
use Rattle.std.proofs.Common.{ℕ, suc, ◌+◌, ◌≡◌, ◌==◌, List, [], ◌∷◌, ◌++◌, Bool, true, false, not, ◌&&◌, ◌||◌, Option, Some, None, option_map, is_some, is_none, refl, sym, ap, subst, ◌∙◌, map, if◌then◌else◌, ⊎_elim}
use Rattle.std.specs.Cmp.Lexicographic.{pointwise, same_text}
use Rattle.loom_tree.specs.declared.item.Word.{Word}
use Rattle.loom_tree.specs.declared.item.Sema.{Sema}
use Rattle.loom_tree.specs.Tree.{Expression, num, var, cell, neg, inverse, bin, Right, Simple, let_, set, set_cell, return, Body, end, simple, if_, while_, Function, Source}
use Rattle.loom_tree.specs.Tree as tree
use Rattle.loom_lang.specs.Rules.{cells_in, is_in, is_distinct, is_word, is_array, is_sema, is_function, knows, knows_all, knows_call, knows_right, knows_simple, knows_body, shared_names, KeepsRules}
use Rattle.loom_lang.specs.Numbers.{index_of, Cells, cells_from}
use Rattle.loom_flow.proofs.Expressions.{IsNumbered, IsArray, IsKnown}
use Rattle.loom_flow.proofs.Arguments.{AllKnown}
use Rattle.loom_flow.proofs.Simple.{IsFunction}
use Rattle.loom_flow.proofs.EachSimple.{IsKnownRight, IsKnownSimple}
use Rattle.loom_flow.proofs.BodyTraces.{IsKnownBody}
use Rattle.loom_flow.proofs.Truths.{both, or_else}

-- Names in lists

pub has_position : (x : List ℕ) (ys : List (List ℕ)) → is_in x ys ≡ true → (n : ℕ) × (index_of x ys ≡ Some n)
has_position x [] h = cc
has_position x (y ∷ ys) h =
    elim (pointwise ◌==◌ y x) as (λ b. (b || is_in x ys) ≡ true → (n : ℕ) × ((if b then Some 0 else option_map suc (index_of x ys)) ≡ Some n)) [
      | true ↦ λ e. (0, refl)
      | false ↦ λ e. let g : (n : ℕ) × (index_of x ys ≡ Some n) = has_position x ys e in (suc g.0, ap (option_map suc) g.1)
    ] h

nowhere : (n : ℕ) → None ≡ Some n → ⊥
nowhere n e = cc

-- a name that is nowhere in the list isn't in it
pub not_in : (x : List ℕ) (ys : List (List ℕ)) → index_of x ys ≡ None → is_in x ys ≡ true → ⊥
not_in x ys e h = let g : (n : ℕ) × (index_of x ys ≡ Some n) = has_position x ys h in nowhere g.0 (sym e ∙ g.1)

-- Words and arrays

word_cells : (n : ℕ) (ws : List Word) (x : List ℕ) → is_word ws x ≡ true → (d : Cells) × (cells_from n ws x ≡ Some d)
word_cells n [] x h = cc
word_cells n (w ∷ ws) x h =
    elim (pointwise ◌==◌ w.name x) as (λ b. ((b && is_none w.cells) || is_word ws x) ≡ true → (d : Cells) × ((if b then Some (record { first = n; count = w.cells }) else cells_from (n + cells_in w) ws x) ≡ Some d)) [
      | true ↦ λ e. (record { first = n; count = w.cells }, refl)
      | false ↦ λ e. word_cells (n + cells_in w) ws x e
    ] h

pub in_words : (ws : List Word) (x : List ℕ) → is_array ws x ≡ true → is_in x (map (λ (w : Word). w.name) ws) ≡ true
in_words [] x h = cc
in_words (w ∷ ws) x h =
    elim (pointwise ◌==◌ w.name x) as (λ b. ((b && is_some w.cells) || is_array ws x) ≡ true → (b || is_in x (map (λ (v : Word). v.name) ws)) ≡ true) [
      | true ↦ λ e. refl
      | false ↦ λ e. in_words ws x e
    ] h

array_here : (n : ℕ) (cells : Option ℕ) → is_some cells ≡ true → (first : ℕ) × (k : ℕ) × (◌≡◌ {A = Option Cells} (Some (record { first = n; count = cells })) (Some (record { first = first; count = Some k })))
array_here n None h = cc
array_here n (Some k) h = (n, k, refl)

pub never : (a : Bool) → a ≡ true → not a ≡ true → ⊥
never true e f = cc
never false e f = cc

array_cells : (n : ℕ) (ws : List Word) (x : List ℕ) → is_distinct (map (λ (w : Word). w.name) ws) ≡ true → is_array ws x ≡ true
    → (first : ℕ) × (k : ℕ) × (cells_from n ws x ≡ Some (record { first = first; count = Some k }))
array_cells n [] x d h = cc
array_cells n (w ∷ ws) x d h = by (pointwise ◌==◌ w.name x) refl h (array_cells (n + cells_in w) ws x (both _ _ d).1)
  where
    names : List (List ℕ)
    names = map (λ (v : Word). v.name) ws

    by : (b : Bool) → pointwise ◌==◌ w.name x ≡ b → ((b && is_some w.cells) || is_array ws x) ≡ true
        → (is_array ws x ≡ true → (first : ℕ) × (k : ℕ) × (cells_from (n + cells_in w) ws x ≡ Some (record { first = first; count = Some k })))
        → (first : ℕ) × (k : ℕ) × ((if b then Some (record { first = n; count = w.cells }) else cells_from (n + cells_in w) ws x) ≡ Some (record { first = first; count = Some k }))
    by true e g again = ⊎_elim (λ (here : is_some w.cells ≡ true). array_here n w.cells here)
        (λ (later : is_array ws x ≡ true). absurd (never (is_in w.name names) (subst (λ (y : List ℕ). is_in y names ≡ true) (sym (same_text w.name x (sym e))) (in_words ws x later)) (both _ _ d).0))
        (or_else (is_some w.cells) (is_array ws x) g)
    by false e g again = again g

is_in_front : (x : List ℕ) (xs ys : List (List ℕ)) → is_in x xs ≡ true → is_in x (xs ++ ys) ≡ true
is_in_front x [] ys h = cc
is_in_front x (y ∷ xs) ys h = elim (pointwise ◌==◌ y x) as (λ b. (b || is_in x xs) ≡ true → (b || is_in x (xs ++ ys)) ≡ true) [ true ↦ λ e. refl | false ↦ λ e. is_in_front x xs ys e ] h

pub distinct_front : (xs ys : List (List ℕ)) → is_distinct (xs ++ ys) ≡ true → is_distinct xs ≡ true
distinct_front [] ys h = refl
distinct_front (x ∷ xs) ys h =
    let g : (not (is_in x (xs ++ ys)) ≡ true) × (is_distinct (xs ++ ys) ≡ true) = both _ _ h in
    by (is_in x xs) (λ e. never (is_in x (xs ++ ys)) (is_in_front x xs ys e) g.0) (distinct_front xs ys g.1)
  where
    by : (a : Bool) → (a ≡ true → ⊥) → is_distinct xs ≡ true → (not a && is_distinct xs) ≡ true
    by true f e = absurd (f refl)
    by false f e = e

pub array_known : (p : Source) (x : List ℕ) → KeepsRules p → is_array p.words x ≡ true → IsArray p x
array_known p x l h = array_cells 0 p.words x (distinct_front (map (λ (w : Word). w.name) p.words) _ (distinct_front (shared_names p) _ l.once)) h

-- and so it has a number of cells
pub array_counted : (p : Source) (x : List ℕ) (first : ℕ) (count : Option ℕ) → KeepsRules p → is_array p.words x ≡ true → cells_from 0 p.words x ≡ Some (record { first = first; count = count }) → count ≡ None → ⊥
array_counted p x first count l h here none =
    let known : IsArray p x = array_known p x l h in
    nowhere known.1 (sym none ∙ ap counted_as (same_cells (record { first = first; count = count }) (record { first = known.0; count = Some known.1 }) (sym here ∙ known.2)))
  where
    counted_as : Cells → Option ℕ
    counted_as d = d.count

    same_cells : (d e : Cells) → ◌≡◌ {A = Option Cells} (Some d) (Some e) → d ≡ e
    same_cells d e g = cc

-- Functions, mutexes and semaphores

pub function_in : (fs : List Function) (x : List ℕ) → is_function fs x ≡ true → is_in x (map (λ (f : Function). f.name) fs) ≡ true
function_in [] x h = cc
function_in (f ∷ fs) x h =
    elim (pointwise ◌==◌ f.name x) as (λ b. (b || is_function fs x) ≡ true → (b || is_in x (map (λ (g : Function). g.name) fs)) ≡ true) [
      | true ↦ λ e. refl
      | false ↦ λ e. function_in fs x e
    ] h

pub sema_in : (ss : List Sema) (x : List ℕ) → is_sema ss x ≡ true → is_in x (map (λ (s : Sema). s.name) ss) ≡ true
sema_in [] x h = cc
sema_in (s ∷ ss) x h =
    elim (pointwise ◌==◌ s.name x) as (λ b. (b || is_sema ss x) ≡ true → (b || is_in x (map (λ (r : Sema). r.name) ss)) ≡ true) [
      | true ↦ λ e. refl
      | false ↦ λ e. sema_in ss x e
    ] h

-- Expressions and statements

variable_known : (p : Source) (xs : List (List ℕ)) (x : List ℕ) → (is_in x xs || is_word p.words x) ≡ true → IsNumbered p x (index_of x xs)
variable_known p xs x h = by (index_of x xs) refl
  where
    by : (o : Option ℕ) → index_of x xs ≡ o → IsNumbered p x o
    by None e = ⊎_elim (λ (here : is_in x xs ≡ true). absurd (not_in x xs e here)) (λ (word : is_word p.words x ≡ true). word_cells 0 p.words x word) (or_else (is_in x xs) (is_word p.words x) h)
    by (Some k) e = tt

local_known : (p : Source) (xs : List (List ℕ)) (x : List ℕ) → is_in x xs ≡ true → IsNumbered p x (index_of x xs)
local_known p xs x h = variable_known p xs x (ap (λ b. b || is_word p.words x) h)

pub knows_expression : (p : Source) (xs : List (List ℕ)) (e : Expression) → KeepsRules p → knows p xs e ≡ true → IsKnown p xs e
knows_expression p xs (num n) l h = tt
knows_expression p xs (var x) l h = variable_known p xs x h
knows_expression p xs (cell x i) l h = let g : (is_array p.words x ≡ true) × (knows p xs i ≡ true) = both _ _ h in (array_known p x l g.0, knows_expression p xs i l g.1)
knows_expression p xs (neg a) l h = knows_expression p xs a l h
knows_expression p xs (inverse a) l h = knows_expression p xs a l h
knows_expression p xs (bin o a b) l h = let g : (knows p xs a ≡ true) × (knows p xs b ≡ true) = both _ _ h in (knows_expression p xs a l g.0, knows_expression p xs b l g.1)

knows_arguments : (p : Source) (xs : List (List ℕ)) (es : List Expression) → KeepsRules p → knows_all p xs es ≡ true → AllKnown p xs es
knows_arguments p xs [] l h = tt
knows_arguments p xs (e ∷ es) l h = let g : (knows p xs e ≡ true) × (knows_all p xs es ≡ true) = both _ _ h in (knows_expression p xs e l g.0, knows_arguments p xs es l g.1)

call_known : (p : Source) (xs : List (List ℕ)) (f : List ℕ) (es : List Expression) → KeepsRules p → knows_call p xs f es ≡ true → IsFunction p f × AllKnown p xs es
call_known p xs f es l h =
    let g : (is_function p.funcs f ≡ true) × (knows_all p xs es ≡ true) = both _ _ h in
    (has_position f (map (λ (k : Function). k.name) p.funcs) (function_in p.funcs f g.0), knows_arguments p xs es l g.1)

right_known : (p : Source) (xs : List (List ℕ)) (x : List ℕ) (r : Right Expression) → KeepsRules p → knows_right p xs x r ≡ true → IsNumbered p x (index_of x xs) × IsKnownRight p xs r
right_known p xs x (Right.value e) l h = let g : ((is_in x xs || is_word p.words x) ≡ true) × (knows p xs e ≡ true) = both _ _ h in (variable_known p xs x g.0, knows_expression p xs e l g.1)
right_known p xs x (Right.call f es) l h = let g : (is_in x xs ≡ true) × (knows_call p xs f es ≡ true) = both _ _ h in (local_known p xs x g.0, call_known p xs f es l g.1)
right_known p xs x (Right.spawn f es) l h = let g : (is_in x xs ≡ true) × (knows_call p xs f es ≡ true) = both _ _ h in (local_known p xs x g.0, call_known p xs f es l g.1)

simple_known : (p : Source) (xs : List (List ℕ)) (x : Simple Expression) → KeepsRules p → knows_simple p xs x ≡ true → IsKnownSimple p xs x
simple_known p xs (let_ x r) l h = right_known p xs x r l h
simple_known p xs (set x r) l h = right_known p xs x r l h
simple_known p xs (set_cell x i e) l h =
    let g : (is_array p.words x ≡ true) × ((knows p xs i && knows p xs e) ≡ true) = both _ _ h in
    let f : (knows p xs i ≡ true) × (knows p xs e ≡ true) = both _ _ g.1 in
    (array_known p x l g.0, knows_expression p xs i l f.0, knows_expression p xs e l f.1)
simple_known p xs (Simple.call f es) l h = call_known p xs f es l h
simple_known p xs (return None) l h = tt
simple_known p xs (return (Some e)) l h = knows_expression p xs e l h
simple_known p xs (tree.lock x) l h = has_position x p.mutexes h
simple_known p xs (tree.unlock x) l h = has_position x p.mutexes h
simple_known p xs (tree.down x) l h = has_position x (map (λ (s : Sema). s.name) p.semas) (sema_in p.semas x h)
simple_known p xs (tree.up x) l h = has_position x (map (λ (s : Sema). s.name) p.semas) (sema_in p.semas x h)
simple_known p xs (tree.join e) l h = knows_expression p xs e l h
simple_known p xs (tree.print e) l h = knows_expression p xs e l h
simple_known p xs tree.skip l h = tt

pub body_known : (p : Source) (xs : List (List ℕ)) (a : Body) → KeepsRules p → knows_body p xs a ≡ true → IsKnownBody p xs a
body_known p xs end l h = tt
body_known p xs (simple k x rest) l h = let g : (knows_simple p xs x ≡ true) × (knows_body p xs rest ≡ true) = both _ _ h in (simple_known p xs x l g.0, body_known p xs rest l g.1)
body_known p xs (if_ k e a b rest) l h =
    let g : (knows p xs e ≡ true) × ((knows_body p xs a && (knows_body p xs b && knows_body p xs rest)) ≡ true) = both _ _ h in
    let f : (knows_body p xs a ≡ true) × ((knows_body p xs b && knows_body p xs rest) ≡ true) = both _ _ g.1 in
    let d : (knows_body p xs b ≡ true) × (knows_body p xs rest ≡ true) = both _ _ f.1 in
    (knows_expression p xs e l g.0, body_known p xs a l f.0, body_known p xs b l d.0, body_known p xs rest l d.1)
body_known p xs (while_ k e a rest) l h =
    let g : (knows p xs e ≡ true) × ((knows_body p xs a && knows_body p xs rest) ≡ true) = both _ _ h in
    let f : (knows_body p xs a ≡ true) × (knows_body p xs rest ≡ true) = both _ _ g.1 in
    (knows_expression p xs e l g.0, body_known p xs a l f.0, body_known p xs rest l f.1)
