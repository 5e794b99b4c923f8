-- A statement, and the statements behind it.
use Rattle.std.proofs.Common.{ℕ, ◌≡◌, Bool, true, false, ◌||◌, List, ◌++◌, refl, ap, sym, ◌∙◌, arith, subst, suc, ◌<◌, [], ◌∷◌, length, map, Option, Some, None, if◌then◌else◌, append_assoc}
use Rattle.std.specs.Prelude.{◌==◌, option_map}
use Rattle.std.specs.Cmp.Lexicographic.{pointwise}
use Rattle.std.proofs.lemmas.Bool.{eq-eqb}
use Rattle.std.proofs.lemmas.List.{append-nil, length-map}
use Rattle.loom_tree.specs.declared.statement.Kind.{Kind}
use Rattle.loom_tree.specs.declared.statement.Kind.TheVariants as k
use Rattle.loom_tree.specs.Tree.{Body, end, behind, Function, Source}
use Rattle.loom_lang.specs.Rules.{is_in, lets}
use Rattle.loom_lang.specs.Numbers.{index_of, function_number}
use Rattle.loom_lang.proofs.Distinct.{in_append}
use Rattle.loom_plan.specs.Statements.{has_line}

begins_behind : (l m : ℕ) (s : Kind) (rest : Body) → has_line (behind m s rest) l ≡ (has_line (behind m s end) l || has_line rest l)
begins_behind l m (k.If e a b) rest = grind arith
begins_behind l m (k.While e a) rest = grind arith
begins_behind l m _ rest = grind arith

begins_here : (m : ℕ) (s : Kind) → true ≡ has_line (behind m s end) m
begins_here m (k.If e a b) = rw (eq-eqb m m refl) refl
begins_here m (k.While e a) = rw (eq-eqb m m refl) refl
begins_here m _ = rw (eq-eqb m m refl) refl

pub begins_own : (l m : ℕ) (s : Kind) → m ≡ l → true ≡ has_line (behind m s end) l
begins_own l m s e = subst (λ z. true ≡ has_line (behind m s end) z) e (begins_here m s)

pub begins_first : (l m : ℕ) (s : Kind) (all rest : Body) (r : Bool) → all ≡ behind m s rest → r ≡ has_line (behind m s end) l → r ≡ true → true ≡ has_line all l
begins_first l m s all rest r e h g = rw (e, begins_behind l m s rest, sym h, g) refl

pub begins_later : (l m : ℕ) (s : Kind) (all rest : Body) (r : Bool) → all ≡ behind m s rest → r ≡ has_line (behind m s end) l → r ≡ false → has_line rest l ≡ has_line all l
begins_later l m s all rest r e h g = rw (e, begins_behind l m s rest, sym h, g) refl

lets_behind : (m : ℕ) (s : Kind) (rest : Body) → lets (behind m s rest) ≡ lets (behind 0 s end) ++ lets rest
lets_behind m (k.If e a b) rest = simp (append-nil, append_assoc)
lets_behind m (k.While e a) rest = simp append-nil
lets_behind m _ rest = refl

let_behind : (x : List ℕ) (m : ℕ) (s : Kind) (rest : Body) → is_in x (lets (behind m s rest)) ≡ (is_in x (lets (behind 0 s end)) || is_in x (lets rest))
let_behind x m s rest = ap (is_in x) (lets_behind m s rest) ∙ in_append x (lets (behind 0 s end)) (lets rest)

pub let_first : (x : List ℕ) (m : ℕ) (s : Kind) (all rest : Body) (r : Bool) → all ≡ behind m s rest → r ≡ is_in x (lets (behind 0 s end)) → r ≡ true → true ≡ is_in x (lets all)
let_first x m s all rest r e h g = rw (e, let_behind x m s rest, sym h, g) refl

pub let_later : (x : List ℕ) (m : ℕ) (s : Kind) (all rest : Body) (r : Bool) → all ≡ behind m s rest → r ≡ is_in x (lets (behind 0 s end)) → r ≡ false → is_in x (lets rest) ≡ is_in x (lets all)
let_later x m s all rest r e h g = rw (e, let_behind x m s rest, sym h, g) refl

pub no_lets : (xs : List (List ℕ)) → xs ++ lets end ≡ xs
no_lets xs = append-nil xs

-- a function's number

within_next : (ys : List (List ℕ)) (o : Option ℕ) → ((k : ℕ) → o ≡ Some k → k < length ys) → (n : ℕ) → option_map suc o ≡ Some n → n < suc (length ys)
within_next ys None h n e = cc
within_next ys (Some k) h n e = let g = h k refl in let s : suc k ≡ n = cc in omega (arith, g, s)

index_within : (x : List ℕ) (ys : List (List ℕ)) (n : ℕ) → index_of x ys ≡ Some n → n < length ys
index_within x [] n e = cc
index_within x (y ∷ ys) n e =
    elim (pointwise ◌==◌ y x) as (λ b. (if b then Some 0 else option_map suc (index_of x ys)) ≡ Some n → n < suc (length ys))
    [ true ↦ λ h. let s : 0 ≡ n = cc in omega (arith, s) | false ↦ λ h. within_next ys (index_of x ys) (index_within x ys) n h ] e

pub function_within : (p : Source) (x : List ℕ) (n : ℕ) → function_number p x ≡ Some n → n < length p.funcs
function_within p x n e =
    let h = index_within x (map (λ (f : Function). f.name) p.funcs) n e in
    let g = length-map p.funcs (λ (f : Function). f.name) in
    omega (arith, h, g)
