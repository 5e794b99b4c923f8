-- The function in which a statement begins on a line: there is one at most.
use Rattle.std.proofs.Common.{ℕ, zero, suc, ◌+◌, ◌<◌, ◌≡◌, nat_lt, Bool, true, false, ◌||◌, List, [], ◌∷◌, ◌++◌, flat_map, slice_get, Option, Some, None, if◌then◌else◌, refl, ap, sym, subst, ◌∙◌, arith}
use Rattle.std.specs.Prelude.{◌==◌}
use Rattle.std.specs.List.{Contains}
use Rattle.std.proofs.lemmas.Bool.{and_parts, eqb-true, eq-eqb, ltb-true}
use Rattle.std.proofs.lemmas.List.Elements.{Contains-append_left, Contains-append_right, Contains-append_cases}
use Rattle.loom_tree.specs.Tree.{Body, end, simple, if_, while_, Function, Source}
use Rattle.loom_lang.specs.Rules.{statement_lines, is_ascending, KeepsRules}
use Rattle.loom_law.specs.Paths.{statements, Begins}
use Rattle.loom_law.specs.FilterRefusal.{HasStatement}
use Rattle.loom_law.proofs.Holdings.{either_of, or_cases, or_left, or_right}
use Rattle.loom_law.proofs.Course.{contains_first, contains_later, contains_cases}
use Rattle.loom_plan.specs.Statements.{has_line, function_from, function_on}

-- Statements of a body

abbrev BeginsOne : Body → ℕ → Type 0
BeginsOne b l = (x : Body) × (Contains (statements b) x × Begins x l)

no_element : {A : Type 0} (x : A) → Contains {X = A} [] x → ⊥
no_element x h = let lt = h.1 in omega (arith, lt)

begins_told : (b : Body) (l : ℕ) (x : Body) → Contains (statements b) x → Begins x l → has_line b l ≡ true
begins_told end l x h g = absurd (no_element x h)
begins_told (simple m s rest) l x h g =
    either_of (contains_cases (simple m s end) x (statements rest) h)
    (λ e. or_left (m == l) (has_line rest l) (eq-eqb m l (subst (λ z. Begins z l) (sym e) g)))
    (λ k. or_right (m == l) (has_line rest l) (begins_told rest l x k g))
begins_told (if_ m t a b rest) l x h g =
    either_of (contains_cases (if_ m t a b end) x (statements a ++ (statements b ++ statements rest)) h)
    (λ e. or_left ((m == l) || (has_line a l || has_line b l)) (has_line rest l) (or_left (m == l) (has_line a l || has_line b l) (eq-eqb m l (subst (λ z. Begins z l) (sym e) g))))
    (λ k. either_of (Contains-append_cases (statements a) (statements b ++ statements rest) x k)
    (λ i. or_left ((m == l) || (has_line a l || has_line b l)) (has_line rest l)
    (or_right (m == l) (has_line a l || has_line b l) (or_left (has_line a l) (has_line b l) (begins_told a l x i g))))
    (λ i. either_of (Contains-append_cases (statements b) (statements rest) x i)
    (λ j. or_left ((m == l) || (has_line a l || has_line b l)) (has_line rest l)
    (or_right (m == l) (has_line a l || has_line b l) (or_right (has_line a l) (has_line b l) (begins_told b l x j g))))
    (λ j. or_right ((m == l) || (has_line a l || has_line b l)) (has_line rest l) (begins_told rest l x j g))))
begins_told (while_ m t a rest) l x h g =
    either_of (contains_cases (while_ m t a end) x (statements a ++ statements rest) h)
    (λ e. or_left ((m == l) || has_line a l) (has_line rest l) (or_left (m == l) (has_line a l) (eq-eqb m l (subst (λ z. Begins z l) (sym e) g))))
    (λ k. either_of (Contains-append_cases (statements a) (statements rest) x k)
    (λ i. or_left ((m == l) || has_line a l) (has_line rest l) (or_right (m == l) (has_line a l) (begins_told a l x i g)))
    (λ i. or_right ((m == l) || has_line a l) (has_line rest l) (begins_told rest l x i g)))

-- in a longer list
among : (b : Body) (l : ℕ) (xs : List Body) → ((x : Body) → Contains (statements b) x → Contains xs x) → BeginsOne b l → (x : Body) × (Contains xs x × Begins x l)
among b l xs f h = (h.0, (f h.0 h.1.0, h.1.1))

begins_found : (b : Body) (l : ℕ) → has_line b l ≡ true → BeginsOne b l
begins_found end l h = cc
begins_found (simple m s rest) l h =
    either_of (or_cases (m == l) (has_line rest l) h)
    (λ e. (simple m s end, (contains_first (simple m s end) (statements rest), eqb-true m l e)))
    (λ e. among rest l (simple m s end ∷ statements rest) (λ x c. contains_later (simple m s end) x (statements rest) c) (begins_found rest l e))
begins_found (if_ m t a b rest) l h =
    let all : List Body = statements a ++ (statements b ++ statements rest) in
    let own : Body = if_ m t a b end in
    either_of (or_cases ((m == l) || (has_line a l || has_line b l)) (has_line rest l) h)
    (λ k. either_of (or_cases (m == l) (has_line a l || has_line b l) k)
    (λ e. (own, (contains_first own all, eqb-true m l e)))
    (λ i. either_of (or_cases (has_line a l) (has_line b l) i)
    (λ e. among a l (own ∷ all) (λ x c. contains_later own x all (Contains-append_left (statements a) (statements b ++ statements rest) x c)) (begins_found a l e))
    (λ e. among b l (own ∷ all)
    (λ x c. contains_later own x all (Contains-append_right (statements a) (statements b ++ statements rest) x (Contains-append_left (statements b) (statements rest) x c)))
    (begins_found b l e))))
    (λ e. among rest l (own ∷ all)
    (λ x c. contains_later own x all (Contains-append_right (statements a) (statements b ++ statements rest) x (Contains-append_right (statements b) (statements rest) x c)))
    (begins_found rest l e))
begins_found (while_ m t a rest) l h =
    let all : List Body = statements a ++ statements rest in
    let own : Body = while_ m t a end in
    either_of (or_cases ((m == l) || has_line a l) (has_line rest l) h)
    (λ k. either_of (or_cases (m == l) (has_line a l) k)
    (λ e. (own, (contains_first own all, eqb-true m l e)))
    (λ e. among a l (own ∷ all) (λ x c. contains_later own x all (Contains-append_left (statements a) (statements rest) x c)) (begins_found a l e)))
    (λ e. among rest l (own ∷ all) (λ x c. contains_later own x all (Contains-append_right (statements a) (statements rest) x c)) (begins_found rest l e))

-- Their lines

abbrev is_line : ℕ → List ℕ → Bool
is_line l [] = false
is_line l (m ∷ ms) = (m == l) || is_line l ms

line_append : (l : ℕ) (xs ys : List ℕ) → is_line l (xs ++ ys) ≡ (is_line l xs || is_line l ys)
line_append l [] ys = refl
line_append l (x ∷ xs) ys = let h = line_append l xs ys in grind arith

begins_line : (b : Body) (l : ℕ) → has_line b l ≡ is_line l (statement_lines b)
begins_line end l = refl
begins_line (simple m s rest) l = ap (λ z. (m == l) || z) (begins_line rest l)
begins_line (if_ m t a b rest) l =
    let h = line_append l (statement_lines a) (statement_lines b ++ statement_lines rest) in
    let k = line_append l (statement_lines b) (statement_lines rest) in
    let i = begins_line a l in
    let j = begins_line b l in
    let g = begins_line rest l in
    grind arith
begins_line (while_ m t a rest) l =
    let h = line_append l (statement_lines a) (statement_lines rest) in
    let i = begins_line a l in
    let g = begins_line rest l in
    grind arith

-- ascending lines are above the one before them
above : (ys : List ℕ) (b l : ℕ) → is_ascending b ys ≡ true → is_line l ys ≡ true → b < l
above [] b l h g = cc
above (y ∷ ys) b l h g =
    let k = and_parts (nat_lt b y) (is_ascending y ys) h in
    let less = ltb-true b y k.0 in
    either_of (or_cases (y == l) (is_line l ys) g)
    (λ e. let s = eqb-true y l e in omega (arith, less, s))
    (λ e. let s = above ys y l k.1 e in omega (arith, less, s))

-- and none stands twice
apart : (xs ys : List ℕ) (b l : ℕ) → is_ascending b (xs ++ ys) ≡ true → is_line l xs ≡ true → is_line l ys ≡ true → ⊥
apart [] ys b l h g k = cc
apart (x ∷ xs) ys b l h g k =
    let i = and_parts (nat_lt b x) (is_ascending x (xs ++ ys)) h in
    either_of (or_cases (x == l) (is_line l xs) g)
    (λ e. let s = eqb-true x l e in let less = above (xs ++ ys) x l i.1 (line_append l xs ys ∙ or_right (is_line l xs) (is_line l ys) k) in omega (arith, less, s))
    (λ e. apart xs ys x l i.1 e k)

-- those behind go on ascending
ascending_behind : (xs ys : List ℕ) (b : ℕ) → is_ascending b (xs ++ ys) ≡ true → (c : ℕ) × (is_ascending c ys ≡ true)
ascending_behind [] ys b h = (b, h)
ascending_behind (x ∷ xs) ys b h = ascending_behind xs ys x (and_parts (nat_lt b x) (is_ascending x (xs ++ ys)) h).1

-- Functions

abbrev all_lines : List Function → List ℕ
all_lines fs = flat_map (λ (f : Function). statement_lines f.body) fs

in_all : (fs : List Function) (k l : ℕ) (f : Function) → slice_get fs k ≡ Some f → has_line f.body l ≡ true → is_line l (all_lines fs) ≡ true
in_all [] k l f e h = cc
in_all (g ∷ fs) zero l f e h =
    let s : g ≡ f = cc in
    line_append l (statement_lines g.body) (all_lines fs)
    ∙ or_left (is_line l (statement_lines g.body)) (is_line l (all_lines fs)) (sym (begins_line g.body l) ∙ ap (λ (x : Function). has_line x.body l) s ∙ h)
in_all (g ∷ fs) (suc k) l f e h =
    line_append l (statement_lines g.body) (all_lines fs) ∙ or_right (is_line l (statement_lines g.body)) (is_line l (all_lines fs)) (in_all fs k l f e h)

from_told : (fs : List Function) (n b l k : ℕ) (f : Function) → is_ascending b (all_lines fs) ≡ true → slice_get fs k ≡ Some f → has_line f.body l ≡ true
    → function_from n fs l ≡ Some (n + k)
from_told [] n b l k f a e h = cc
from_told (g ∷ fs) n b l zero f a e h =
    let s : g ≡ f = cc in
    let here : has_line g.body l ≡ true = ap (λ (x : Function). has_line x.body l) s ∙ h in
    let number : n ≡ n + 0 = omega arith in
    rw here (ap Some number)
from_told (g ∷ fs) n b l (suc k) f a e h =
    let behind = ascending_behind (statement_lines g.body) (all_lines fs) b a in
    let ih = from_told fs (suc n) behind.0 l k f behind.1 e h in
    let number : suc n + k ≡ n + suc k = omega arith in
    not_here (has_line g.body l) refl ∙ ih ∙ ap Some number
  where
    not_here : (t : Bool) → has_line g.body l ≡ t → (if t then Some n else function_from (suc n) fs l) ≡ function_from (suc n) fs l
    not_here true i = absurd (apart (statement_lines g.body) (all_lines fs) b l a (sym (begins_line g.body l) ∙ i) (in_all fs k l f e h))
    not_here false i = refl

record IsFrom (fs : List Function) (n l g : ℕ) : Type 0 where
  place : ℕ
  number : g ≡ n + place
  function : Function
  is : slice_get fs place ≡ Some function
  begins : has_line function.body l ≡ true

from_found : (fs : List Function) (n l g : ℕ) → function_from n fs l ≡ Some g → IsFrom fs n l g
from_found [] n l g e = cc
from_found (f ∷ fs) n l g e = here (has_line f.body l) refl (λ k. from_found fs (suc n) l g k) e
  where
    later : IsFrom fs (suc n) l g → IsFrom (f ∷ fs) n l g
    later h = let e = h.number in record { place = suc h.place; number = omega (arith, e); function = h.function; is = h.is; begins = h.begins }

    here : (t : Bool) → has_line f.body l ≡ t → (function_from (suc n) fs l ≡ Some g → IsFrom fs (suc n) l g) → (if t then Some n else function_from (suc n) fs l) ≡ Some g → IsFrom (f ∷ fs) n l g
    here true i ih e = let s : n ≡ g = cc in record { place = 0; number = omega (arith, s); function = f; is = refl; begins = i }
    here false i ih e = later (ih e)

-- what is told of a line
abbrev pub TellsFunction : Source → ℕ → Option ℕ → Type 0
TellsFunction p l None = (g : ℕ) → HasStatement p l g → ⊥
TellsFunction p l (Some g) = HasStatement p l g × ((h : ℕ) → HasStatement p l h → h ≡ g)

told_of : (p : Source) (l g : ℕ) → KeepsRules p → HasStatement p l g → function_on p l ≡ Some g
told_of p l g rules h =
    let s = h.1 in
    let at = from_told p.funcs 0 0 l g s.function rules.lines s.is (begins_told s.function.body l h.0 s.there s.line) in
    let number : 0 + g ≡ g = omega arith in
    at ∙ ap Some number

found_at : (p : Source) (l g : ℕ) → function_on p l ≡ Some g → HasStatement p l g
found_at p l g e =
    let h = from_found p.funcs 0 l g e in
    let x = begins_found h.function.body l h.begins in
    let number = h.number in
    let place : h.place ≡ g = omega (arith, number) in
    (x.0, record { function = h.function; is = subst (λ z. slice_get p.funcs z ≡ Some h.function) place h.is; there = x.1.0; line = x.1.1 })

told_if : (p : Source) (l : ℕ) (o : Option ℕ) → KeepsRules p → function_on p l ≡ o → TellsFunction p l o
told_if p l None rules e = λ g h. let k = told_of p l g rules h in cc
told_if p l (Some g) rules e = (found_at p l g e, λ h k. let i = told_of p l h rules k in cc)

pub function_told : (p : Source) (l : ℕ) → KeepsRules p → TellsFunction p l (function_on p l)
function_told p l rules = told_if p l (function_on p l) rules refl
