-- The places of flat code are those of its program.
use Rattle.std.proofs.Common.{ℕ, suc, ◌+◌, ◌*◌, ◌≤◌, ◌≡◌, List, [], ◌∷◌, ◌++◌, length, map, Some, refl, ap, sym, ◌∙◌, arith, length-append, append_assoc, None}
use Rattle.loom_lang.specs.Limits.{function_limit, statement_limit}
use Rattle.std.specs.Prelude.{slice_get, flat_map}
use Rattle.std.proofs.lemmas.List.{map-append}
use Rattle.loom_tree.specs.Tree.{Body, end, simple, if_, while_, Function, Source}
use Rattle.loom_lang.specs.Rules.{KeepsRules, statement_lines, locals_of}
use Rattle.loom_lang.specs.Places.{Place, body_places, places, places_from, line_of_place, line_of_function}
use Rattle.loom_flow.specs.declared.code.Site.{Site}
use Rattle.loom_flow.specs.Laws.{HasPlaces}
use Rattle.loom_flow.specs.FlatCode.{lowered, site, size, body_sites, functions_sites, operand_steps}

abbrev site_lines : List Site → List ℕ
site_lines ss = map (λ (s : Site). s.line) ss

abbrev place_lines : Source → List Place → List ℕ
place_lines p ps = map (line_of_place p) ps

joined : (p : Source) (ss ts : List Site) (ps qs : List Place) → site_lines ss ≡ place_lines p ps → site_lines ts ≡ place_lines p qs → site_lines (ss ++ ts) ≡ place_lines p (ps ++ qs)
joined p ss ts ps qs h g = map-append (λ (s : Site). s.line) ss ts ∙ ap (λ z. z ++ site_lines ts) h ∙ ap (λ z. place_lines p ps ++ z) g ∙ sym (map-append (line_of_place p) ps qs)

body_lines : (p : Source) (names : List (List ℕ)) (b : Body) (at : ℕ) → site_lines (body_sites p names at b) ≡ place_lines p (body_places b)
body_lines p names end at = refl
body_lines p names (simple l x rest) at = ap (λ z. l ∷ z) (body_lines p names rest _)
body_lines p names (if_ l e a b rest) at =
    let first : ℕ = at + (2 + length (operand_steps p names e)) in
    let second : ℕ = first + (1 + size p names a) in
    ap (λ z. l ∷ z)
    (joined p (body_sites p names first a) _ (body_places a) _ (body_lines p names a first)
    (joined p (body_sites p names second b) _ (body_places b) _ (body_lines p names b second) (body_lines p names rest _)))
body_lines p names (while_ l e a rest) at =
    let first : ℕ = at + (2 + length (operand_steps p names e)) in
    ap (λ z. l ∷ (l ∷ z)) (joined p (body_sites p names first a) _ (body_places a) _ (body_lines p names a first) (body_lines p names rest _))

get_behind : {X : Type 0} (xs : List X) (x : X) (ys : List X) → slice_get (xs ++ x ∷ ys) (length xs) ≡ Some x
get_behind [] x ys = refl
get_behind (w ∷ xs) x ys = get_behind xs x ys

functions_lines : (p : Source) (fs before : List Function) (at n : ℕ) → p.funcs ≡ before ++ fs → n ≡ length before → site_lines (functions_sites p at fs) ≡ place_lines p (places_from n fs)
functions_lines p [] before at n e h = refl
functions_lines p (f ∷ fs) before at n e h =
    let rest : List Site = functions_sites p (suc (at + size p (locals_of f) f.body)) fs in
    let line : f.line ≡ line_of_function (slice_get p.funcs n) = sym (ap line_of_function (ap (λ z. slice_get p.funcs z) h ∙ ap (λ z. slice_get z (length before)) e ∙ get_behind before f fs)) in
    let next : suc n ≡ length (before ++ f ∷ []) = ap suc h ∙ (let is = length-append before (f ∷ []) in omega arith) in
    let more : site_lines rest ≡ place_lines p (places_from (suc n) fs) = functions_lines p fs (before ++ f ∷ []) _ (suc n) (e ∙ sym (append_assoc before (f ∷ []) fs)) next in
    let out : site_lines (site f.line None ∷ rest) ≡ place_lines p (Place.out n ∷ places_from (suc n) fs) = ap (λ z. z ∷ site_lines rest) line ∙ ap (λ z. line_of_function (slice_get p.funcs n) ∷ z) more in
    ap (λ z. z ∷ site_lines (body_sites p (locals_of f) at f.body ++ site f.line None ∷ rest)) line
    ∙ ap (λ z. line_of_function (slice_get p.funcs n) ∷ z)
    (joined p (body_sites p (locals_of f) at f.body) (site f.line None ∷ rest) (body_places f.body) (Place.out n ∷ places_from (suc n) fs) (body_lines p (locals_of f) f.body at) out)

pub lowered_places : (p : Source) → HasPlaces (lowered p) p
lowered_places p = ap (λ z. 0 ∷ z) (functions_lines p p.funcs [] 0 0 refl refl)

-- how many there are

count_body : (b : Body) → length (body_places b) ≤ 2 * length (statement_lines b)
count_body end = omega arith
count_body (simple l x rest) = let h = count_body rest in omega arith
count_body (if_ l e a b rest) =
    let h = count_body a in
    let g = count_body b in
    let k = count_body rest in
    omega (arith, length-append (body_places a) (body_places b ++ body_places rest), length-append (body_places b) (body_places rest), length-append (statement_lines a) (statement_lines b ++ statement_lines rest), length-append (statement_lines b) (statement_lines rest))
count_body (while_ l e a rest) =
    let h = count_body a in
    let k = count_body rest in
    omega (arith, length-append (body_places a) (body_places rest), length-append (statement_lines a) (statement_lines rest))

count_functions : (n : ℕ) (fs : List Function) → length (places_from n fs) ≤ 2 * length fs + 2 * length (flat_map (λ (f : Function). statement_lines f.body) fs)
count_functions n [] = omega arith
count_functions n (f ∷ fs) =
    let h = count_body f.body in
    let k = count_functions (suc n) fs in
    omega (arith, length-append (body_places f.body) (Place.out n ∷ places_from (suc n) fs), length-append (statement_lines f.body) (flat_map (λ (f : Function). statement_lines f.body) fs))

pub few_places : (p : Source) → KeepsRules p → length (places p) ≤ 1 + 2 * (function_limit + statement_limit)
few_places p h = let k = count_functions 0 p.funcs in let fs = h.function_count in let ls = h.statements in omega arith
