-- Where names stand.
use Rattle.std.proofs.Common.{ℕ, suc, ◌+◌, ◌≤◌, ◌≡◌, ◌==◌, true, false, List, [], ◌∷◌, ◌++◌, length, map, Option, Some, None, if◌then◌else◌, refl, ap, ◌∙◌, arith, length-append}
use Rattle.std.specs.Prelude.{option_map}
use Rattle.std.specs.Cmp.Lexicographic.{pointwise}
use Rattle.std.proofs.lemmas.List.{length-map}
use Rattle.loom_tree.specs.declared.item.Word.{Word}
use Rattle.loom_tree.specs.declared.item.Sema.{Sema}
use Rattle.loom_tree.specs.declared.statement.Func.{Func}
use Rattle.loom_tree.specs.Tree.{Function, function_of, functions_of, Source}
use Rattle.loom_lang.specs.Limits.{function_limit, name_limit}
use Rattle.loom_lang.specs.Numbers.{index_of, function_number}
use Rattle.loom_lang.specs.Rules.{KeepsRules}

-- where a name first stands in a list that begins at this number
abbrev pub position_from : ℕ → List ℕ → List (List ℕ) → Option ℕ
position_from n x [] = None
position_from n x (y ∷ ys) = if pointwise ◌==◌ y x then Some n else position_from (n + 1) x ys

shifted : (n : ℕ) (o : Option ℕ) → option_map (λ k. (n + 1) + k) o ≡ option_map (λ k. n + k) (option_map suc o)
shifted n None = refl
shifted n (Some k) = ap Some (omega arith)

from_any : (x : List ℕ) (ys : List (List ℕ)) (n : ℕ) → position_from n x ys ≡ option_map (λ k. n + k) (index_of x ys)
from_any x [] n = refl
from_any x (y ∷ ys) n =
    elim (pointwise ◌==◌ y x) as (λ b. (if b then Some n else position_from (n + 1) x ys) ≡ option_map (λ k. n + k) (if b then Some 0 else option_map suc (index_of x ys)))
    [ true ↦ ap Some (omega arith) | false ↦ from_any x ys (n + 1) ∙ shifted n (index_of x ys) ]

none_added : (o : Option ℕ) → option_map (λ k. 0 + k) o ≡ o
none_added None = refl
none_added (Some k) = ap Some (omega arith)

pub from_zero : (x : List ℕ) (ys : List (List ℕ)) → position_from 0 x ys ≡ index_of x ys
from_zero x ys = from_any x ys 0 ∙ none_added (index_of x ys)

-- the names of what is declared

pub names_of_names : (xs : List (List ℕ)) → map (λ x. x) xs ≡ xs
names_of_names [] = refl
names_of_names (x ∷ xs) = ap (λ zs. x ∷ zs) (names_of_names xs)

pub names_of_functions : (fs : List Func) → map (λ (f : Func). f.name) fs ≡ map (λ (f : Function). f.name) (functions_of fs)
names_of_functions [] = refl
names_of_functions (f ∷ fs) = ap (λ zs. f.name ∷ zs) (names_of_functions fs)

-- where a function's name stands, its number
pub function_at : (p : Source) (fs : List Func) (x y : List ℕ) (o : Option ℕ) → o ≡ index_of y (map (λ (f : Func). f.name) fs) → y ≡ x → functions_of fs ≡ p.funcs → o ≡ function_number p x
function_at p fs x y o h e g =
    h ∙ ap (λ z. index_of z (map (λ (f : Func). f.name) fs)) e
    ∙ ap (index_of x) (names_of_functions fs)
    ∙ ap (λ (gs : List Function). index_of x (map (λ (f : Function). f.name) gs)) g

-- there are few of them

few_names : (p : Source) → KeepsRules p → length p.words + (length p.mutexes + length p.semas) ≤ name_limit
few_names p h =
    let words = length-map p.words (λ (w : Word). w.name) in
    let semas = length-map p.semas (λ (s : Sema). s.name) in
    let one = length-append (map (λ (w : Word). w.name) p.words) (p.mutexes ++ map (λ (s : Sema). s.name) p.semas) in
    let two = length-append p.mutexes (map (λ (s : Sema). s.name) p.semas) in
    let few = h.name_count in
    omega arith

pub few_mutexes : (p : Source) → KeepsRules p → length p.mutexes ≤ name_limit
few_mutexes p h = let few = few_names p h in omega arith

pub few_semas : (p : Source) → KeepsRules p → length p.semas ≤ name_limit
few_semas p h = let few = few_names p h in omega arith

pub few_functions : (p : Source) (fs : List Func) → KeepsRules p → functions_of fs ≡ p.funcs → length fs ≤ function_limit
few_functions p fs h e =
    let same = ap length e in
    let funcs = length-map fs function_of in
    let few = h.function_count in
    omega arith
