-- How long flat code is.
use Rattle.std.proofs.Common.{ℕ, suc, ◌+◌, ◌≡◌, List, [], ◌∷◌, ◌++◌, length, refl, ap, Result, Ok, Err, OnOk, sym, ◌∙◌, subst, append_assoc, arith, length-append, Some}
use Rattle.loom_tree.specs.declared.expression.Expr.{Expr}
use Rattle.loom_tree.specs.Tree.{expression_of, expressions_of, Body, end, simple, if_, while_, Source}
use Rattle.loom_lang.specs.Places.{body_places}
use Rattle.loom_flow.specs.declared.code.CodeStep.{CodeStep}
use Rattle.loom_flow.specs.declared.code.Target.TheVariants as t
use Rattle.loom_flow.specs.declared.code.Instr.{Instr}
use Rattle.loom_flow.specs.declared.code.Site.{Site}
use Rattle.loom_flow.specs.declared.code.CodeStep.TheVariants as s
use Rattle.loom_flow.specs.declared.code.Control.TheVariants.{Begin, Done, Edge, Jump, JumpIfZero}
use Rattle.loom_flow.specs.FlatCode.{steps_to, argument_steps, operand_of, operand_steps, simple_steps, instrs, instr, size, place_count, flat_body, body_sites, site}

pub instrs_length : (l place : ℕ) (xs : List CodeStep) → length (instrs l place xs) ≡ length xs
instrs_length l place [] = refl
instrs_length l place (x ∷ xs) = ap suc (instrs_length l place xs)

-- the steps of a test have one more before and one behind
test_length : (l place : ℕ) (xs : List CodeStep) (x y : CodeStep) → length (instrs l place (x ∷ (xs ++ y ∷ []))) ≡ length xs + 2
test_length l place xs x y =
    let is = instrs_length l place (x ∷ (xs ++ y ∷ [])) in
    let two = length-append xs (y ∷ []) in
    omega (arith, is, two)

choice_length : (xs cs bs rest : List Instr) (i j : Instr) → length (xs ++ (cs ++ i ∷ (bs ++ j ∷ rest))) ≡ length xs + length cs + length bs + length rest + 2
choice_length xs cs bs rest i j =
    let one = length-append xs (cs ++ i ∷ (bs ++ j ∷ rest)) in
    let two = length-append cs (i ∷ (bs ++ j ∷ rest)) in
    let three = length-append bs (j ∷ rest) in
    omega arith

loop_length : (xs cs rest : List Instr) (i j : Instr) → length (xs ++ (cs ++ i ∷ j ∷ rest)) ≡ length xs + length cs + length rest + 2
loop_length xs cs rest i j =
    let one = length-append xs (cs ++ i ∷ j ∷ rest) in
    let two = length-append cs (i ∷ j ∷ rest) in
    omega arith

pub code_length : (p : Source) (names : List (List ℕ)) (b : Body) (at place : ℕ) → length (flat_body p names at place b) ≡ size p names b
code_length p names end at place = refl
code_length p names (simple l x rest) at place =
    let first = instrs_length l place (simple_steps p names x) in
    let behind = code_length p names rest (at + length (simple_steps p names x)) (suc place) in
    let whole = length-append (instrs l place (simple_steps p names x)) (flat_body p names (at + length (simple_steps p names x)) (suc place) rest) in
    omega arith
code_length p names (if_ l e a b rest) at place =
    let first : ℕ = at + (2 + length (operand_steps p names e)) in
    let second : ℕ = first + (1 + size p names a) in
    let done : ℕ = second + size p names b in
    let test = test_length l place (operand_steps p names e) (s.Control Begin) (s.Control (JumpIfZero (operand_of names e) second)) in
    let cs = code_length p names a first (suc place) in
    let bs = code_length p names b second (suc place + place_count a) in
    let behind = code_length p names rest (suc done) (suc place + place_count a + place_count b) in
    let whole = choice_length (instrs l place (s.Control Begin ∷ (operand_steps p names e ++ s.Control (JumpIfZero (operand_of names e) second) ∷ []))) (flat_body p names first (suc place) a) (flat_body p names second (suc place + place_count a) b) (flat_body p names (suc done) (suc place + place_count a + place_count b) rest) (instr l place (s.Control (Jump done))) (instr l place (s.Control Done)) in
    omega arith
code_length p names (while_ l e a rest) at place =
    let head : ℕ = at + 1 in
    let first : ℕ = head + (1 + length (operand_steps p names e)) in
    let done : ℕ = first + (1 + size p names a) in
    let test = test_length l place (operand_steps p names e) (s.Control Begin) (s.Control (JumpIfZero (operand_of names e) done)) in
    let cs = code_length p names a first (suc (suc place)) in
    let behind = code_length p names rest (suc done) (suc (suc place) + place_count a) in
    let whole = loop_length (instrs l place (s.Control Begin ∷ (operand_steps p names e ++ s.Control (JumpIfZero (operand_of names e) done) ∷ []))) (flat_body p names first (suc (suc place)) a) (flat_body p names (suc done) (suc (suc place) + place_count a) rest) (instr l (suc place) (s.Control (Edge head))) (instr l place (s.Control Done)) in
    omega arith

sum_length : {A : Type 0} (cs bs rest : List A) → length (cs ++ (bs ++ rest)) ≡ length cs + (length bs + length rest)
sum_length cs bs rest =
    let one = length-append cs (bs ++ rest) in
    let two = length-append bs rest in
    omega arith

pub sites_length : (p : Source) (names : List (List ℕ)) (b : Body) (at : ℕ) → length (body_sites p names at b) ≡ place_count b
sites_length p names end at = refl
sites_length p names (simple l x rest) at = ap suc (sites_length p names rest _)
sites_length p names (if_ l e a b rest) at =
    let first : ℕ = at + (2 + length (operand_steps p names e)) in
    let second : ℕ = first + (1 + size p names a) in
    let done : ℕ = second + size p names b in
    let cs = sites_length p names a first in
    let bs = sites_length p names b second in
    let behind = sites_length p names rest (suc done) in
    let whole = sum_length (body_sites p names first a) (body_sites p names second b) (body_sites p names (suc done) rest) in
    let places = sum_length (body_places a) (body_places b) (body_places rest) in
    omega arith
sites_length p names (while_ l e a rest) at =
    let first : ℕ = at + (2 + length (operand_steps p names e)) in
    let done : ℕ = first + (1 + size p names a) in
    let cs = sites_length p names a first in
    let behind = sites_length p names rest (suc done) in
    let whole = length-append (body_sites p names first a) (body_sites p names (suc done) rest) in
    let places = length-append (body_places a) (body_places rest) in
    omega arith

pub instrs_append : (l place : ℕ) (xs ys : List CodeStep) → instrs l place (xs ++ ys) ≡ instrs l place xs ++ instrs l place ys
instrs_append l place [] ys = refl
instrs_append l place (x ∷ xs) ys = ap (λ z. instr l place x ∷ z) (instrs_append l place xs ys)

-- one step more
pub step_is : (l place : ℕ) (xs : List CodeStep) (x : CodeStep) (old now new : List Instr) → now ≡ old ++ instrs l place xs → new ≡ now ++ instr l place x ∷ [] → new ≡ old ++ instrs l place (xs ++ x ∷ [])
step_is l place xs x old now new h g = g ∙ ap (λ z. z ++ instr l place x ∷ []) h ∙ append_assoc old (instrs l place xs) (instr l place x ∷ []) ∙ ap (λ z. old ++ z) (sym (instrs_append l place xs (x ∷ [])))

-- where memory suffices
pub step_more : {A E : Type 0} (r : Result A E) (l place : ℕ) (xs : List CodeStep) (x : CodeStep) (old now new : List Instr) → now ≡ old ++ instrs l place xs → OnOk r (new ≡ now ++ instr l place x ∷ []) → OnOk r (new ≡ old ++ instrs l place (xs ++ x ∷ []))
step_more (Ok v) l place xs x old now new h g = step_is l place xs x old now new h g
step_more (Err e) l place xs x old now new h g = g

pub step_behind : {A E : Type 0} (r : Result A E) (l place : ℕ) (xs ys : List CodeStep) (x : CodeStep) (old mid now new : List Instr) → mid ≡ old ++ instrs l place xs → now ≡ mid ++ instrs l place ys → OnOk r (new ≡ now ++ instr l place x ∷ []) → OnOk r (new ≡ old ++ instrs l place (xs ++ (ys ++ x ∷ [])))
step_behind r l place xs ys x old mid now new h g k =
    let is : now ≡ old ++ instrs l place (xs ++ ys) = g ∙ ap (λ z. z ++ instrs l place ys) h ∙ append_assoc old (instrs l place xs) (instrs l place ys) ∙ ap (λ z. old ++ z) (sym (instrs_append l place xs ys)) in
    let P : List CodeStep → Type 0 = λ z. OnOk r (new ≡ old ++ instrs l place z) in
    subst P (append_assoc xs ys (x ∷ [])) (step_more r l place (xs ++ ys) x old now new is k)

-- one argument more
pub arguments_step : (p : Source) (names : List (List ℕ)) (l place : ℕ) (e : Expr) (es rest : List Expr) (code more : List Instr) → es ≡ e ∷ rest → more ≡ code ++ instrs l place (steps_to p names t.Push (expression_of e)) → more ++ instrs l place (argument_steps p names (expressions_of rest)) ≡ code ++ instrs l place (argument_steps p names (expressions_of es))
arguments_step p names l place e es rest code more h g =
    ap (λ z. z ++ instrs l place (argument_steps p names (expressions_of rest))) g
    ∙ append_assoc code (instrs l place (steps_to p names t.Push (expression_of e))) (instrs l place (argument_steps p names (expressions_of rest)))
    ∙ ap (λ z. code ++ z) (sym (instrs_append l place (steps_to p names t.Push (expression_of e)) (argument_steps p names (expressions_of rest))))
    ∙ ap (λ (z : List Expr). code ++ instrs l place (argument_steps p names (expressions_of z))) (sym h)

-- statements from their beginning to their end

statement : (l place : ℕ) (ys zs : List CodeStep) (old a b new : List Instr) → a ≡ old ++ instr l place (s.Control Begin) ∷ [] → b ≡ a ++ instrs l place ys → new ≡ b ++ instrs l place zs → new ≡ old ++ instr l place (s.Control Begin) ∷ instrs l place (ys ++ zs)
statement l place ys zs old a b new h g k =
    k ∙ ap (λ w. w ++ instrs l place zs) (g ∙ ap (λ w. w ++ instrs l place ys) h)
    ∙ append_assoc (old ++ instr l place (s.Control Begin) ∷ []) (instrs l place ys) (instrs l place zs)
    ∙ append_assoc old (instr l place (s.Control Begin) ∷ []) (instrs l place ys ++ instrs l place zs)
    ∙ ap (λ w. old ++ instr l place (s.Control Begin) ∷ w) (sym (instrs_append l place ys zs))

pub statement_is : (l place : ℕ) (ys : List CodeStep) (z : CodeStep) (old a b new : List Instr) → a ≡ old ++ instr l place (s.Control Begin) ∷ [] → b ≡ a ++ instrs l place ys → new ≡ b ++ instr l place z ∷ [] → new ≡ old ++ instr l place (s.Control Begin) ∷ instrs l place (ys ++ z ∷ [])
statement_is l place ys z old a b new h g k = statement l place ys (z ∷ []) old a b new h g k

pub statement_ends : (l place : ℕ) (ys : List CodeStep) (y z : CodeStep) (old a b new : List Instr) → a ≡ old ++ instr l place (s.Control Begin) ∷ [] → b ≡ a ++ instrs l place ys → new ≡ b ++ instr l place y ∷ instr l place z ∷ [] → new ≡ old ++ instr l place (s.Control Begin) ∷ instrs l place (ys ++ y ∷ z ∷ [])
statement_ends l place ys y z old a b new h g k = statement l place ys (y ∷ z ∷ []) old a b new h g k

pub cell_is : (l place : ℕ) (xs ys : List CodeStep) (y z : CodeStep) (old a b d new : List Instr) → a ≡ old ++ instr l place (s.Control Begin) ∷ [] → b ≡ a ++ instrs l place xs → d ≡ b ++ instrs l place ys → new ≡ d ++ instr l place y ∷ instr l place z ∷ [] → new ≡ old ++ instr l place (s.Control Begin) ∷ instrs l place (xs ++ (ys ++ y ∷ z ∷ []))
cell_is l place xs ys y z old a b d new h f g k =
    let both : d ≡ a ++ instrs l place (xs ++ ys) = g ∙ ap (λ w. w ++ instrs l place ys) f ∙ append_assoc a (instrs l place xs) (instrs l place ys) ∙ ap (λ w. a ++ w) (sym (instrs_append l place xs ys)) in
    statement l place (xs ++ ys) (y ∷ z ∷ []) old a d new h both k ∙ ap (λ w. old ++ instrs l place (s.Control Begin ∷ w)) (append_assoc xs ys (y ∷ z ∷ []))

-- the number behind these steps, which stand behind the first instruction of a statement
pub number_behind : (l place : ℕ) (xs : List CodeStep) (old new : List Instr) (n at : ℕ) → n ≡ length new → new ≡ old ++ instrs l place xs → length old ≡ at + 1 → n ≡ at + (1 + length xs)
number_behind l place xs old new n at h g k =
    let many = ap length g in
    let both = length-append old (instrs l place xs) in
    let steps = instrs_length l place xs in
    omega arith

-- the place of a statement that calls
pub call_site : (line l place n : ℕ) (x : CodeStep) (xs : List CodeStep) (old now new : List Instr) (before after : List Site) → after ≡ before ++ site line (Some n) ∷ [] → n ≡ length new → new ≡ now ++ instrs l place xs → now ≡ old ++ instr l place x ∷ [] → after ≡ before ++ site line (Some (length old + (1 + length xs))) ∷ []
call_site line l place n x xs old now new before after e h g k =
    let one : length now ≡ length old + 1 = ap length k ∙ length-append old (instr l place x ∷ []) in
    e ∙ ap (λ z. before ++ site line (Some z) ∷ []) (number_behind l place xs now new n (length old) h g one)

pub length_behind : (l place : ℕ) (xs : List CodeStep) (old new : List Instr) (n : ℕ) → new ≡ old ++ instrs l place xs → n ≡ length new → n ≡ length old + length xs
length_behind l place xs old new n h g =
    let many = ap length h in
    let both = length-append old (instrs l place xs) in
    let steps = instrs_length l place xs in
    omega arith
