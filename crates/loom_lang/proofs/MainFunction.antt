-- Where `main` stands.
use Rattle.std.proofs.Common.{ℕ, suc, ◌+◌, ◌≡◌, ◌==◌, Bool, true, false, not, ◌&&◌, ◌||◌, List, [], ◌∷◌, ◌++◌, length, map, slice_get, Option, Some, None, if◌then◌else◌, refl, sym, ap, subst, ◌∙◌, codes, arith}
use Rattle.std.specs.Prelude.{option_map}
use Rattle.std.specs.Cmp.Lexicographic.{pointwise, same_text}
use Rattle.std.proofs.lemmas.Bool.{and_parts, eqb-true}
use Rattle.loom_tree.specs.Tree.{Function, Source}
use Rattle.loom_lang.specs.Rules.{is_in, is_distinct, takes, shared_names, KeepsRules}
use Rattle.loom_lang.specs.Numbers.{index_of, function_number}

distinct_behind : (xs ys : List (List ℕ)) → is_distinct (xs ++ ys) ≡ true → is_distinct ys ≡ true
distinct_behind [] ys h = h
distinct_behind (x ∷ xs) ys h = distinct_behind xs ys (and_parts (not (is_in x (xs ++ ys))) (is_distinct (xs ++ ys)) h).1

abbrev names : List Function → List (List ℕ)
names fs = map (λ (f : Function). f.name) fs

taken_in : (fs : List Function) (x : List ℕ) (n : ℕ) → takes fs x n ≡ true → is_in x (names fs) ≡ true
taken_in [] x n h = cc
taken_in (f ∷ fs) x n h = here (pointwise ◌==◌ f.name x) h (taken_in fs x n)
  where
    here : (b : Bool) → ((b && length f.params == n) || takes fs x n) ≡ true → (takes fs x n ≡ true → is_in x (names fs) ≡ true) → (b || is_in x (names fs)) ≡ true
    here true h behind = refl
    here false h behind = behind h

-- the first function of that name has so many parameters
pub record IsFound (fs : List Function) (x : List ℕ) (n : ℕ) : Type 0 where
  pub number : ℕ
  pub function : Function
  pub first : index_of x (names fs) ≡ Some number
  pub is : slice_get fs number ≡ Some function
  pub params : length function.params ≡ n

found : (fs : List Function) (x : List ℕ) (n : ℕ) → is_distinct (names fs) ≡ true → takes fs x n ≡ true → IsFound fs x n
found [] x n d h = cc
found (f ∷ fs) x n d h = here (pointwise ◌==◌ f.name x) (length f.params == n) refl refl h (found fs x n (and_parts (not (is_in f.name (names fs))) (is_distinct (names fs)) d).1)
  where
    here : (b c : Bool) → pointwise ◌==◌ f.name x ≡ b → (length f.params == n) ≡ c → ((b && c) || takes fs x n) ≡ true → (takes fs x n ≡ true → IsFound fs x n)
        → IsFound (f ∷ fs) x n
    here true true is many g behind = record { number = 0; function = f; first = rw is refl; is = refl; params = eqb-true (length f.params) n many }
    here true false is many g behind =
        let same : f.name ≡ x = same_text f.name x (sym is) in
        let again : is_in f.name (names fs) ≡ true = ap (λ z. is_in z (names fs)) same ∙ taken_in fs x n g in
        let once : not (is_in f.name (names fs)) ≡ true = (and_parts (not (is_in f.name (names fs))) (is_distinct (names fs)) d).0 in
        let never : not true ≡ true = ap not (sym again) ∙ once in
        cc
    here false c is many g behind =
        let b = behind g in
        record { number = suc b.number; function = b.function; first = rw is (ap (option_map suc) b.first); is = b.is; params = b.params }

pub main_found : (p : Source) → KeepsRules p → IsFound p.funcs (codes "main") 0
main_found p h = found p.funcs (codes "main") 0 (distinct_behind (shared_names p) (names p.funcs) h.once) h.main

pub nowhere : (p : Source) → IsFound p.funcs (codes "main") 0 → function_number p (codes "main") ≡ None → ⊥
nowhere p h e = let clash : None ≡ Some h.number = sym e ∙ h.first in cc

pub main_function : (p : Source) (f : ℕ) → IsFound p.funcs (codes "main") 0 → function_number p (codes "main") ≡ Some f → (g : Function) × (slice_get p.funcs f ≡ Some g) × (0 ≡ length g.params)
main_function p f h is =
    let same : h.number ≡ f = cc (h.first) in
    (h.function, subst (λ (z : ℕ). slice_get p.funcs z ≡ Some h.function) same h.is, sym h.params)
