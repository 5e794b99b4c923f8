-- The flat code of functions, one after another.
use Rattle.std.proofs.Common.{ℕ, ◌*◌, suc, ◌+◌, ◌≤◌, ◌≡◌, List, [], ◌∷◌, ◌++◌, length, map, refl, ap, sym, ◌∙◌, arith, append_assoc, length-append, None}
use Rattle.loom_lang.specs.Limits.{function_limit, statement_limit}
use Rattle.loom_tree.specs.Tree.{Body, Function, Source}
use Rattle.loom_lang.specs.Rules.{KeepsRules, locals_of}
use Rattle.loom_flow.specs.declared.code.Instr.{Instr}
use Rattle.loom_flow.specs.declared.code.Site.{Site}
use Rattle.loom_flow.specs.declared.code.Entrance.{Entrance}
use Rattle.loom_flow.specs.declared.code.CodeStep.TheVariants as s
use Rattle.loom_flow.specs.declared.code.Control.TheVariants.{Out}
use Rattle.loom_flow.specs.FlatCode.{instr, site, size, place_count, flat_body, body_sites, functions_code, functions_sites, entrances, calls_body, set_of, lowered, site_limit}
use Rattle.loom_flow.proofs.Sizes.{code_length, sites_length}
use Rattle.loom_flow.proofs.FlowLaws.{few_sites}

pub function_code : (p : Source) (names known : List (List ℕ)) (l at place first last : ℕ) (b : Body) (old ran new : List Instr) →
    names ≡ known →
    ran ≡ old ++ flat_body p names at first b →
    first ≡ suc place →
    new ≡ ran ++ instr l last (s.Control Out) ∷ [] →
    last ≡ suc place + place_count b →
    new ≡ old ++ (flat_body p known at (suc place) b ++ instr l (suc place + place_count b) (s.Control Out) ∷ [])
function_code p names known l at place first last b old ran new h1 h2 h3 h4 h5 =
    h4
    ∙ ap (λ z. z ++ instr l last (s.Control Out) ∷ []) (h2 ∙ ap (λ z. old ++ flat_body p z at first b) h1 ∙ ap (λ n. old ++ flat_body p known at n b) h3)
    ∙ append_assoc old (flat_body p known at (suc place) b) (instr l last (s.Control Out) ∷ [])
    ∙ ap (λ n. old ++ (flat_body p known at (suc place) b ++ instr l n (s.Control Out) ∷ [])) h5

-- one function after another

one_code_long : (p : Source) (at place : ℕ) (f : Function) → length (functions_code p at place (f ∷ [])) ≡ suc (size p (locals_of f) f.body)
one_code_long p at place f =
    let whole = length-append (flat_body p (locals_of f) at (suc place) f.body) (instr f.line (suc place + place_count f.body) (s.Control Out) ∷ []) in
    let many = code_length p (locals_of f) f.body at (suc place) in
    omega arith

sites_long : (p : Source) (at : ℕ) (f : Function) (fs : List Function) → length (functions_sites p at (f ∷ fs)) ≡ 2 + place_count f.body + length (functions_sites p (suc (at + size p (locals_of f) f.body)) fs)
sites_long p at f fs =
    let whole = length-append (body_sites p (locals_of f) at f.body) (site f.line None ∷ functions_sites p (suc (at + size p (locals_of f) f.body)) fs) in
    let many = sites_length p (locals_of f) f.body at in
    omega arith

moved_functions : (p : Source) (fs : List Function) (at at' place place' : ℕ) → at ≡ at' → place ≡ place' → functions_code p at place fs ≡ functions_code p at' place' fs
moved_functions p fs at at' place place' h g = ap (λ n. functions_code p n place fs) h ∙ ap (λ n. functions_code p at' n fs) g

moved_entrances : (p : Source) (fs : List Function) (at at' place place' : ℕ) → at ≡ at' → place ≡ place' → entrances p at place fs ≡ entrances p at' place' fs
moved_entrances p fs at at' place place' h g = ap (λ n. entrances p n place fs) h ∙ ap (λ n. entrances p at' n fs) g

-- where the next function stands
code_on : (p : Source) (f : Function) (code more : List Instr) (place : ℕ) → more ≡ code ++ functions_code p (length code) place (f ∷ []) → length more ≡ suc (length code + size p (locals_of f) f.body)
code_on p f code more place h = let one = ap length h ∙ length-append code (functions_code p (length code) place (f ∷ [])) in let two = one_code_long p (length code) place f in omega arith

sites_on : (p : Source) (f : Function) (at : ℕ) (sites more : List Site) → more ≡ sites ++ functions_sites p at (f ∷ []) → length more ≡ suc (suc (length sites + place_count f.body))
sites_on p f at sites more h = let one = ap length h ∙ length-append sites (functions_sites p at (f ∷ [])) in let two = sites_long p at f [] in omega arith

pub functions_code_step : (p : Source) (f : Function) (all fs : List Function) (code more : List Instr) (sites sites' : List Site) →
    all ≡ f ∷ fs →
    more ≡ code ++ functions_code p (length code) (length sites) (f ∷ []) →
    sites' ≡ sites ++ functions_sites p (length code) (f ∷ []) →
    more ++ functions_code p (length more) (length sites') fs ≡ code ++ functions_code p (length code) (length sites) all
functions_code_step p f all fs code more sites sites' e h g =
    let at : ℕ = suc (length code + size p (locals_of f) f.body) in
    let place : ℕ = suc (suc (length sites + place_count f.body)) in
    let body : List Instr = flat_body p (locals_of f) (length code) (suc (length sites)) f.body in
    let out : Instr = instr f.line (suc (length sites) + place_count f.body) (s.Control Out) in
    ap (λ z. z ++ functions_code p (length more) (length sites') fs) h
    ∙ ap (λ z. (code ++ (body ++ out ∷ [])) ++ z) (moved_functions p fs _ at _ place (code_on p f code more (length sites) h) (sites_on p f (length code) sites sites' g))
    ∙ append_assoc code (body ++ out ∷ []) (functions_code p at place fs)
    ∙ ap (λ z. code ++ z) (append_assoc body (out ∷ []) (functions_code p at place fs))
    ∙ ap (λ z. code ++ functions_code p (length code) (length sites) z) (sym e)

pub functions_sites_step : (p : Source) (f : Function) (all fs : List Function) (code more : List Instr) (place : ℕ) (sites sites' : List Site) →
    all ≡ f ∷ fs →
    more ≡ code ++ functions_code p (length code) place (f ∷ []) →
    sites' ≡ sites ++ functions_sites p (length code) (f ∷ []) →
    sites' ++ functions_sites p (length more) fs ≡ sites ++ functions_sites p (length code) all
functions_sites_step p f all fs code more place sites sites' e h g =
    let at : ℕ = suc (length code + size p (locals_of f) f.body) in
    let body : List Site = body_sites p (locals_of f) (length code) f.body in
    let flat : (sites ++ site f.line None ∷ (body ++ site f.line None ∷ [])) ++ functions_sites p at fs ≡ sites ++ site f.line None ∷ (body ++ site f.line None ∷ functions_sites p at fs) = simp append_assoc in
    ap (λ z. z ++ functions_sites p (length more) fs) g
    ∙ ap (λ n. (sites ++ site f.line None ∷ (body ++ site f.line None ∷ [])) ++ functions_sites p n fs) (code_on p f code more place h)
    ∙ flat
    ∙ ap (λ z. sites ++ functions_sites p (length code) z) (sym e)

pub entrances_step : (p : Source) (f : Function) (all fs : List Function) (code more : List Instr) (sites sites' : List Site) (es es' : List Entrance) →
    all ≡ f ∷ fs →
    more ≡ code ++ functions_code p (length code) (length sites) (f ∷ []) →
    sites' ≡ sites ++ functions_sites p (length code) (f ∷ []) →
    es' ≡ es ++ entrances p (length code) (length sites) (f ∷ []) →
    es' ++ entrances p (length more) (length sites') fs ≡ es ++ entrances p (length code) (length sites) all
entrances_step p f all fs code more sites sites' es es' e h g k =
    let at : ℕ = suc (length code + size p (locals_of f) f.body) in
    let place : ℕ = suc (suc (length sites + place_count f.body)) in
    ap (λ z. z ++ entrances p (length more) (length sites') fs) k
    ∙ ap (λ z. (es ++ entrances p (length code) (length sites) (f ∷ [])) ++ z) (moved_entrances p fs _ at _ place (code_on p f code more (length sites) h) (sites_on p f (length code) sites sites' g))
    ∙ append_assoc es (entrances p (length code) (length sites) (f ∷ [])) (entrances p at place fs)
    ∙ ap (λ z. es ++ entrances p (length code) (length sites) z) (sym e)

pub calls_on : (p : Source) (f : Function) (all fs : List Function) (ns ns' : List ℕ) →
    all ≡ f ∷ fs →
    ns' ≡ ns ++ set_of 0 (calls_body p f.body) ∷ [] →
    ns' ++ map (λ (g : Function). set_of 0 (calls_body p g.body)) fs ≡ ns ++ map (λ (g : Function). set_of 0 (calls_body p g.body)) all
calls_on p f all fs ns ns' e h =
    ap (λ z. z ++ map (λ (g : Function). set_of 0 (calls_body p g.body)) fs) h
    ∙ append_assoc ns (set_of 0 (calls_body p f.body) ∷ []) (map (λ (g : Function). set_of 0 (calls_body p g.body)) fs)
    ∙ ap (λ (z : List Function). ns ++ map (λ (g : Function). set_of 0 (calls_body p g.body)) z) (sym e)

-- there is room for the places of the next function
pub room_for : (p : Source) (f : Function) (all fs : List Function) (at : ℕ) (sites : List Site) → KeepsRules p → all ≡ f ∷ fs → sites ++ functions_sites p at all ≡ (lowered p).sites → length sites + (2 + place_count f.body) ≤ site_limit
room_for p f all fs at sites l e h =
    let few : length (lowered p).sites ≤ 1 + 2 * (function_limit + statement_limit) = few_sites (lowered p) (record { lawful = l; is = refl }) in
    let whole : length (sites ++ functions_sites p at (f ∷ fs)) ≡ length (lowered p).sites = ap (λ (z : List Function). length (sites ++ functions_sites p at z)) (sym e) ∙ ap length h in
    let both = length-append sites (functions_sites p at (f ∷ fs)) in
    let many = sites_long p at f fs in
    omega arith
