-- The calls of statements, as numbers and as what the definitions of paths say.
use Rattle.std.proofs.Common.{ℕ, zero, suc, ◌<◌, ◌≡◌, ◌==◌, ◌↔◌, true, false, ◌&&◌, ◌||◌, List, [], ◌∷◌, ◌++◌, length, map, slice_get, if◌then◌else◌, Some, None, refl, sym, ap, subst, ◌∙◌, eqb-true, eq-eqb}
use Rattle.std.specs.List.{Contains}
use Rattle.std.specs.Prelude.{option_map, IsBitSet}
use Rattle.std.specs.Int.{bit_at}
use Rattle.std.proofs.lemmas.Nat.{bit_set_by_shift}
use Rattle.std.proofs.lemmas.Nat.Bits.{shr_and_one}
use Rattle.std.specs.Cmp.Lexicographic.{pointwise}
use Rattle.std.proofs.lemmas.List.Elements.{Contains-append_left, Contains-append_right, Contains-append_cases}
use Rattle.loom_tree.specs.Tree.{Expression, Right, Simple, let_, set, return, Body, simple, if_, while_, Function, Source}
use Rattle.loom_tree.specs.Tree as tree
use Rattle.loom_lang.specs.Numbers.{index_of, function_number}
use Rattle.loom_lang.specs.Rules.{KeepsRules, FunctionKeepsRules, FunctionsKeepRules, is_function}
use Rattle.loom_flow.specs.Arguments.{takes_right, takes_simple, takes_body}
use Rattle.loom_flow.specs.FlatCode.{or_zero, calls_right, calls_simple, calls_body}
use Rattle.loom_flow.proofs.Truths.{both}
use Rattle.loom_flow.proofs.Counts.{takes_function, function_takes}
use Rattle.loom_law.specs.Paths.{statements, called_right, called, called_by, CallsFunction, statements_in, statements_of}
use Rattle.loom_law.proofs.Course.{contains_first, contains_later, contains_cases, no_member}
use Rattle.loom_law.proofs.Holdings.{either_of}
use Rattle.loom_plan.proofs.Walks.{function_within}
use Rattle.loom_plan.proofs.Rows.{get_some}
use Rattle.loom_sites.specs.Functions.{has_function}

-- A statement calls: the number of the function is in the list.

named : (p : Source) (x : List ℕ) (g : ℕ) → function_number p x ≡ Some g → Contains (or_zero (function_number p x) ∷ []) g
named p x g e = let P : ℕ → Type 0 = λ z. Contains (z ∷ []) g in subst P (sym (ap or_zero e)) (contains_first g [])

same_name : (x y : List ℕ) → Some x ≡ Some y → x ≡ y
same_name x y e = cc

named_by : (p : Source) (x y : List ℕ) (g : ℕ) → Some x ≡ Some y → function_number p y ≡ Some g → Contains (or_zero (function_number p x) ∷ []) g
named_by p x y g e h = named p x g (ap (function_number p) (same_name x y e) ∙ h)

right_told : (p : Source) (r : Right Expression) (x : List ℕ) (g : ℕ) → called_right r ≡ Some x → function_number p x ≡ Some g → Contains (calls_right p r) g
right_told p (Right.value e) x g h i = cc
right_told p (Right.call f es) x g h i = named_by p f x g h i
right_told p (Right.spawn f es) x g h i = cc

simple_told : (p : Source) (s : Simple Expression) (x : List ℕ) (g : ℕ) → called s ≡ Some x → function_number p x ≡ Some g → Contains (calls_simple p s) g
simple_told p (let_ y r) x g h i = right_told p r x g h i
simple_told p (set y r) x g h i = right_told p r x g h i
simple_told p (Simple.call f es) x g h i = named_by p f x g h i
simple_told p (return e) x g h i = cc
simple_told p (tree.set_cell y j e) x g h i = cc
simple_told p (tree.lock y) x g h i = cc
simple_told p (tree.unlock y) x g h i = cc
simple_told p (tree.down y) x g h i = cc
simple_told p (tree.up y) x g h i = cc
simple_told p (tree.join e) x g h i = cc
simple_told p (tree.print e) x g h i = cc
simple_told p tree.skip x g h i = cc

pub body_told : (p : Source) (b x : Body) (name : List ℕ) (g : ℕ) → Contains (statements b) x → called_by x ≡ Some name → function_number p name ≡ Some g → Contains (calls_body p b) g
body_told p tree.end x name g c h i = absurd (no_member x c)
body_told p (simple l s rest) x name g c h i =
    either_of (contains_cases (simple l s tree.end) x (statements rest) c)
    (λ e. Contains-append_left (calls_simple p s) (calls_body p rest) g (simple_told p s name g (ap called_by e ∙ h) i))
    (λ d. Contains-append_right (calls_simple p s) (calls_body p rest) g (body_told p rest x name g d h i))
body_told p (if_ l e a b rest) x name g c h i =
    either_of (contains_cases (if_ l e a b tree.end) x (statements a ++ (statements b ++ statements rest)) c)
    (λ same. let clash : None ≡ Some name = ap called_by same ∙ h in cc)
    (λ d. either_of (Contains-append_cases (statements a) (statements b ++ statements rest) x d)
    (λ j. Contains-append_left (calls_body p a) (calls_body p b ++ calls_body p rest) g (body_told p a x name g j h i))
    (λ j. Contains-append_right (calls_body p a) (calls_body p b ++ calls_body p rest) g
    (either_of (Contains-append_cases (statements b) (statements rest) x j)
    (λ m. Contains-append_left (calls_body p b) (calls_body p rest) g (body_told p b x name g m h i))
    (λ m. Contains-append_right (calls_body p b) (calls_body p rest) g (body_told p rest x name g m h i)))))
body_told p (while_ l e a rest) x name g c h i =
    either_of (contains_cases (while_ l e a tree.end) x (statements a ++ statements rest) c)
    (λ same. let clash : None ≡ Some name = ap called_by same ∙ h in cc)
    (λ d. either_of (Contains-append_cases (statements a) (statements rest) x d)
    (λ j. Contains-append_left (calls_body p a) (calls_body p rest) g (body_told p a x name g j h i))
    (λ j. Contains-append_right (calls_body p a) (calls_body p rest) g (body_told p rest x name g j h i)))

-- and the other way round, where each name that is called is a function's

only : (m g : ℕ) → Contains (m ∷ []) g → m ≡ g
only m g c = either_of (contains_cases m g [] c) (λ e. e) (λ d. absurd (no_member g d))

has_index : (fs : List Function) (x : List ℕ) → is_function fs x ≡ true → (m : ℕ) × (index_of x (map (λ (f : Function). f.name) fs) ≡ Some m)
has_index [] x h = cc
has_index (f ∷ fs) x h =
    elim (pointwise ◌==◌ f.name x) as (λ b. (b || is_function fs x) ≡ true → (m : ℕ) × ((if b then Some 0 else option_map suc (index_of x (map (λ (g : Function). g.name) fs))) ≡ Some m)) [
      | true ↦ λ e. (0, refl)
      | false ↦ λ e. (let ih = has_index fs x e in (suc ih.0, ap (option_map suc) ih.1))
    ] h

numbered : (p : Source) (x : List ℕ) (g : ℕ) → is_function p.funcs x ≡ true → Contains (or_zero (function_number p x) ∷ []) g → function_number p x ≡ Some g
numbered p x g h c =
    let is = has_index p.funcs x h in
    is.1 ∙ ap Some (sym (ap or_zero is.1) ∙ only (or_zero (function_number p x)) g c)

right_found : (p : Source) (r : Right Expression) (g : ℕ) → takes_right p r ≡ true → Contains (calls_right p r) g → (x : List ℕ) × ((called_right r ≡ Some x) × (function_number p x ≡ Some g))
right_found p (Right.value e) g h c = absurd (no_member g c)
right_found p (Right.call f es) g h c = (f, (refl, numbered p f g (takes_function p.funcs f (length es) h) c))
right_found p (Right.spawn f es) g h c = absurd (no_member g c)

simple_found : (p : Source) (s : Simple Expression) (g : ℕ) → takes_simple p s ≡ true → Contains (calls_simple p s) g → (x : List ℕ) × ((called s ≡ Some x) × (function_number p x ≡ Some g))
simple_found p (let_ y r) g h c = right_found p r g h c
simple_found p (set y r) g h c = right_found p r g h c
simple_found p (Simple.call f es) g h c = (f, (refl, numbered p f g (takes_function p.funcs f (length es) h) c))
simple_found p (return e) g h c = absurd (no_member g c)
simple_found p (tree.set_cell y j e) g h c = absurd (no_member g c)
simple_found p (tree.lock y) g h c = absurd (no_member g c)
simple_found p (tree.unlock y) g h c = absurd (no_member g c)
simple_found p (tree.down y) g h c = absurd (no_member g c)
simple_found p (tree.up y) g h c = absurd (no_member g c)
simple_found p (tree.join e) g h c = absurd (no_member g c)
simple_found p (tree.print e) g h c = absurd (no_member g c)
simple_found p tree.skip g h c = absurd (no_member g c)

moved : (p : Source) (xs ys : List Body) (g : ℕ) → ((x : Body) → Contains xs x → Contains ys x) → CallsFunction p xs g → CallsFunction p ys g
moved p xs ys g f h = record { statement = h.statement; there = f h.statement h.there; name = h.name; calls = h.calls; number = h.number }

pub body_found : (p : Source) (b : Body) (g : ℕ) → takes_body p b ≡ true → Contains (calls_body p b) g → CallsFunction p (statements b) g
body_found p tree.end g h c = absurd (no_member g c)
body_found p (simple l s rest) g h c =
    let parts = both (takes_simple p s) (takes_body p rest) h in
    either_of (Contains-append_cases (calls_simple p s) (calls_body p rest) g c)
    (λ d. let own = simple_found p s g parts.0 d in record { statement = simple l s tree.end; there = contains_first (simple l s tree.end) (statements rest); name = own.0; calls = own.1.0; number = own.1.1 })
    (λ d. moved p (statements rest) (statements (simple l s rest)) g (λ x i. contains_later (simple l s tree.end) x (statements rest) i) (body_found p rest g parts.1 d))
body_found p (if_ l e a b rest) g h c =
    let parts = both (takes_body p a) (takes_body p b && takes_body p rest) h in
    let more = both (takes_body p b) (takes_body p rest) parts.1 in
    let all : List Body = statements a ++ (statements b ++ statements rest) in
    let own : Body = if_ l e a b tree.end in
    either_of (Contains-append_cases (calls_body p a) (calls_body p b ++ calls_body p rest) g c)
    (λ d. moved p (statements a) (own ∷ all) g (λ x i. contains_later own x all (Contains-append_left (statements a) (statements b ++ statements rest) x i)) (body_found p a g parts.0 d))
    (λ d. either_of (Contains-append_cases (calls_body p b) (calls_body p rest) g d)
    (λ j. moved p (statements b) (own ∷ all) g
    (λ x i. contains_later own x all (Contains-append_right (statements a) (statements b ++ statements rest) x (Contains-append_left (statements b) (statements rest) x i))) (body_found p b g more.0 j))
    (λ j. moved p (statements rest) (own ∷ all) g
    (λ x i. contains_later own x all (Contains-append_right (statements a) (statements b ++ statements rest) x (Contains-append_right (statements b) (statements rest) x i))) (body_found p rest g more.1 j)))
body_found p (while_ l e a rest) g h c =
    let parts = both (takes_body p a) (takes_body p rest) h in
    let all : List Body = statements a ++ statements rest in
    let own : Body = while_ l e a tree.end in
    either_of (Contains-append_cases (calls_body p a) (calls_body p rest) g c)
    (λ d. moved p (statements a) (own ∷ all) g (λ x i. contains_later own x all (Contains-append_left (statements a) (statements rest) x i)) (body_found p a g parts.0 d))
    (λ d. moved p (statements rest) (own ∷ all) g (λ x i. contains_later own x all (Contains-append_right (statements a) (statements rest) x i)) (body_found p rest g parts.1 d))

-- What the bits of a function tell

bit_is : (m g : ℕ) → IsBitSet m g → has_function m g ≡ true
bit_is m g h = eq-eqb (bit_at m g) 1 (sym (shr_and_one m g) ∙ (bit_set_by_shift m g).1 h)

is_bit : (m g : ℕ) → has_function m g ≡ true → IsBitSet m g
is_bit m g h = (bit_set_by_shift m g).0 (shr_and_one m g ∙ eqb-true (bit_at m g) 1 h)

rules_of : (p : Source) (fs : List Function) (f : ℕ) (h : Function) → FunctionsKeepRules p fs → slice_get fs f ≡ Some h → FunctionKeepsRules p h
rules_of p [] f h r e = cc
rules_of p (x ∷ fs) zero h r e = let same : x ≡ h = cc in let P : Function → Type 0 = λ z. FunctionKeepsRules p z in subst P same r.0
rules_of p (x ∷ fs) (suc f) h r e = rules_of p fs f h r.1 e

pub tells_calls : (p : Source) (f calls : ℕ) → KeepsRules p → f < length p.funcs → ((h : Function) (g : ℕ) → slice_get p.funcs f ≡ Some h → IsBitSet calls g ↔ Contains (calls_body p h.body) g)
    → (g : ℕ) → (has_function calls g ≡ true) ↔ CallsFunction p (statements_of p f) g
tells_calls p f calls rules low tells g =
    let some = get_some p.funcs f low in
    let h : Function = some.0 in
    let same : statements_of p f ≡ statements h.body = ap statements_in some.1 in
    let P : List Body → Type 0 = λ z. CallsFunction p z g in (
      λ e. subst P (sym same) (body_found p h.body g (function_takes p h (rules_of p p.funcs f h rules.functions some.1)) ((tells h g some.1).0 (is_bit calls g e))),
      λ c. (let k = subst P same c in bit_is calls g ((tells h g some.1).1 (body_told p h.body k.statement k.name g k.there k.calls k.number))),
    )

pub few_calls : (p : Source) (f calls g : ℕ) → (has_function calls g ≡ true → CallsFunction p (statements_of p f) g) → has_function calls g ≡ true → g < length p.funcs
few_calls p f calls g tells e = let c = tells e in function_within p c.name g c.number
