-- Where the functions, their places and their ends stand.
use Rattle.std.proofs.Common.{ℕ, suc, zero, ◌+◌, ◌≡◌, ◌≤◌, ◌<◌, List, [], ◌∷◌, ◌++◌, Option, Some, refl, sym, ap, subst, ◌∙◌, slice_get, length, length-append, append_assoc, ⊎_elim, arith, None}
use Rattle.std.proofs.lemmas.Bool.{cases_lt}
use Rattle.loom_tree.specs.Tree.{Body, Function, Source}
use Rattle.loom_lang.specs.Rules.{locals_of}
use Rattle.loom_lang.specs.Places.{Place, entry, out, body_places, places_from, places}
use Rattle.loom_flow.specs.declared.code.CodeStep.TheVariants as s
use Rattle.loom_flow.specs.declared.code.Control.TheVariants.{Out}
use Rattle.loom_flow.specs.declared.code.Instr.{Instr}
use Rattle.loom_flow.specs.declared.code.Entrance.{Entrance}
use Rattle.loom_flow.specs.Flow.{Flow}
use Rattle.loom_flow.specs.FlatCode.{instr, size, place_count, flat_body, body_sites, site, functions_code, functions_sites, entrances, lowered}
use Rattle.loom_flow.specs.Laws.{start_or, IsInFunction}
use Rattle.loom_flow.proofs.Sublist.{Lies, lies_first, lies_second, lies_behind, lies_whole}
use Rattle.loom_flow.proofs.Each.{same_element}
use Rattle.loom_flow.proofs.Sizes.{code_length, sites_length}

-- the code of a function, with what stands behind its last statement
abbrev pub function_code : Source → ℕ → ℕ → Function → List Instr
function_code p at place g = flat_body p (locals_of g) at (suc place) g.body ++ instr g.line (suc place + place_count g.body) (s.Control Out) ∷ []

-- Function `n` stands from its entrance to that of the next one.
pub record Stands (c : Flow) (n : ℕ) (g : Function) (e : Entrance) (next : Option Entrance) : Type 0 where
  pub code : Lies c.code e.start (function_code c.program e.start e.place g)
  pub places : Lies (places c.program) e.place (entry n ∷ (body_places g.body ++ out n ∷ []))
  pub sites : Lies c.sites (suc e.place) (body_sites c.program (locals_of g) e.start g.body)
  pub behind : start_or (length c.code) next ≡ suc (e.start + size c.program (locals_of g) g.body)
  pub inside : suc (e.start + size c.program (locals_of g) g.body) ≤ length c.code

pub function_length : (p : Source) (at place : ℕ) (g : Function) → length (function_code p at place g) ≡ suc (size p (locals_of g) g.body)
function_length p at place g =
    let e : length (flat_body p (locals_of g) at (suc place) g.body) ≡ size p (locals_of g) g.body = code_length p (locals_of g) g.body at (suc place) in
    length-append (flat_body p (locals_of g) at (suc place) g.body) _ ∙ omega arith

-- with the functions behind it
function_first : (p : Source) (at place : ℕ) (g : Function) (gs : List Function)
    → functions_code p at place (g ∷ gs) ≡ function_code p at place g ++ functions_code p (suc (at + size p (locals_of g) g.body)) (suc (suc (place + place_count g.body))) gs
function_first p at place g gs = sym (append_assoc (flat_body p (locals_of g) at (suc place) g.body) (instr g.line (suc place + place_count g.body) (s.Control Out) ∷ []) _)

places_first : (n : ℕ) (g : Function) (gs : List Function) → places_from n (g ∷ gs) ≡ (entry n ∷ (body_places g.body ++ out n ∷ [])) ++ places_from (suc n) gs
places_first n g gs = ap (λ (ps : List Place). entry n ∷ ps) (sym (append_assoc (body_places g.body) (out n ∷ []) (places_from (suc n) gs)))

places_length : (n : ℕ) (b : Body) → length (entry n ∷ (body_places b ++ out n ∷ [])) ≡ suc (suc (place_count b))
places_length n b = ap suc (length-append (body_places b) (out n ∷ []) ∙ omega arith)

functions_length : (p : Source) (at place : ℕ) (g : Function) (gs : List Function)
    → length (functions_code p at place (g ∷ gs)) ≡ suc (size p (locals_of g) g.body) + length (functions_code p (suc (at + size p (locals_of g) g.body)) (suc (suc (place + place_count g.body))) gs)
functions_length p at place g gs =
    ap length (function_first p at place g gs) ∙ length-append (function_code p at place g) _
    ∙ ap (λ n. n + length (functions_code p (suc (at + size p (locals_of g) g.body)) (suc (suc (place + place_count g.body))) gs)) (function_length p at place g)

-- the first function behind one, or the end
next_start : (p : Source) (l at place : ℕ) (gs : List Function) → at + length (functions_code p at place gs) ≡ l → start_or l (slice_get (entrances p at place gs) 0) ≡ at
next_start p l at place [] e = sym e ∙ omega arith
next_start p l at place (g ∷ gs) e = refl

-- the functions from one on, whose number, first instruction and first place are these
stands_from : (c : Flow) (fs : List Function) (n at place : ℕ)
    → Lies c.code at (functions_code c.program at place fs) → Lies (places c.program) place (places_from n fs) → Lies c.sites place (functions_sites c.program at fs)
    → at + length (functions_code c.program at place fs) ≡ length c.code
    → (k : ℕ) (e : Entrance) → slice_get (entrances c.program at place fs) k ≡ Some e
    → (g : Function) × (slice_get fs k ≡ Some g) × Stands c (n + k) g e (slice_get (entrances c.program at place fs) (suc k))
stands_from c [] n at place code ps sites whole k e h = cc
stands_from c (g ∷ gs) n at place code ps sites whole k e h =
    by (λ code_more places_more sites_more whole_more. stands_from c gs (suc n) (suc (at + size c.program (locals_of g) g.body)) (suc (suc (place + place_count g.body))) code_more places_more sites_more whole_more) k h
  where
    p : Source
    p = c.program

    xs : List (List ℕ)
    xs = locals_of g

    next : ℕ
    next = suc (at + size p xs g.body)

    later : ℕ
    later = suc (suc (place + place_count g.body))

    more : List Instr
    more = functions_code p next later gs

    here : Entrance
    here = record { start = at; place = place; params = length g.params }

    code_here : Lies c.code at (function_code p at place g ++ more)
    code_here = subst (λ (is : List Instr). Lies c.code at is) (function_first p at place g gs) code

    code_more : Lies c.code next more
    code_more = subst (λ m. Lies c.code m more) (ap (λ m. at + m) (function_length p at place g) ∙ omega arith) (lies_second c.code at (function_code p at place g) more code_here)

    places_here : Lies (places p) place ((entry n ∷ (body_places g.body ++ out n ∷ [])) ++ places_from (suc n) gs)
    places_here = subst (λ (qs : List Place). Lies (places p) place qs) (places_first n g gs) ps

    places_more : Lies (places p) later (places_from (suc n) gs)
    places_more = subst (λ m. Lies (places p) m (places_from (suc n) gs)) (ap (λ m. place + m) (places_length n g.body) ∙ omega arith)
        (lies_second (places p) place (entry n ∷ (body_places g.body ++ out n ∷ [])) (places_from (suc n) gs) places_here)

    sites_more : Lies c.sites later (functions_sites p next gs)
    sites_more = subst (λ m. Lies c.sites m (functions_sites p next gs)) (let f : length (body_sites p xs at g.body) ≡ place_count g.body = sites_length p xs g.body at in omega arith)
        (lies_second c.sites (suc place) (body_sites p xs at g.body) (site g.line None ∷ functions_sites p next gs) sites.1).1

    whole_more : next + length more ≡ length c.code
    whole_more = let f : length (functions_code p at place (g ∷ gs)) ≡ suc (size p xs g.body) + length more = functions_length p at place g gs in omega (arith, f, whole)

    Again : Type 0
    Again = Lies c.code next more → Lies (places p) later (places_from (suc n) gs) → Lies c.sites later (functions_sites p next gs) → next + length more ≡ length c.code
        → (j : ℕ) (d : Entrance) → slice_get (entrances p next later gs) j ≡ Some d
        → (f : Function) × (slice_get gs j ≡ Some f) × Stands c (suc n + j) f d (slice_get (entrances p next later gs) (suc j))

    by : Again → (j : ℕ) → slice_get (entrances p at place (g ∷ gs)) j ≡ Some e → (f : Function) × (slice_get (g ∷ gs) j ≡ Some f) × Stands c (n + j) f e (slice_get (entrances p at place (g ∷ gs)) (suc j))
    by again zero d = (
      g,
      refl,
      subst (λ (q : Entrance). Stands c (n + 0) g q (slice_get (entrances p next later gs) 0)) (same_element here e d) (record {
        code = lies_first c.code at (function_code p at place g) more code_here;
        places = subst (λ m. Lies (places p) place (entry m ∷ (body_places g.body ++ out m ∷ []))) (omega arith) (lies_first (places p) place (entry n ∷ (body_places g.body ++ out n ∷ [])) (places_from (suc n) gs) places_here);
        sites = lies_first c.sites (suc place) (body_sites p xs at g.body) (site g.line None ∷ functions_sites p next gs) sites.1;
        behind = next_start p (length c.code) next later gs whole_more;
        inside = omega (arith, whole_more);
      }),
    )
    by again (suc j) d =
        let more_of : (f : Function) × (slice_get gs j ≡ Some f) × Stands c (suc n + j) f e (slice_get (entrances p next later gs) (suc j)) = again code_more places_more sites_more whole_more j e d in
        (more_of.0, more_of.1, subst (λ m. Stands c m more_of.0 e (slice_get (entrances p next later gs) (suc j))) (omega arith) more_of.2)

pub stands : (p : Source) (n : ℕ) (e : Entrance) → slice_get (entrances p 0 1 p.funcs) n ≡ Some e
    → (g : Function) × (slice_get p.funcs n ≡ Some g) × Stands (lowered p) n g e (slice_get (entrances p 0 1 p.funcs) (suc n))
stands p n e h =
    let f : (g : Function) × (slice_get p.funcs n ≡ Some g) × Stands (lowered p) (0 + n) g e (slice_get (entrances p 0 1 p.funcs) (suc n)) =
    stands_from (lowered p) p.funcs 0 0 1 (lies_whole (functions_code p 0 1 p.funcs))
    (lies_whole (places p)).1
    (lies_behind (site 0 None) (functions_sites p 0 p.funcs) 0 (functions_sites p 0 p.funcs) (lies_whole (functions_sites p 0 p.funcs))) (omega arith) n e h in
    (f.0, f.1, subst (λ m. Stands (lowered p) m f.0 e (slice_get (entrances p 0 1 p.funcs) (suc n))) (omega arith) f.2)

-- Each instruction is one of a function.
covered_from : (p : Source) (fs : List Function) (l at place : ℕ) → at + length (functions_code p at place fs) ≡ l → (x : ℕ) → at ≤ x → x < l
    → (k : ℕ) × (e : Entrance) × (slice_get (entrances p at place fs) k ≡ Some e) × (e.start ≤ x) × (x < start_or l (slice_get (entrances p at place fs) (suc k)))
covered_from p [] l at place whole x from before = absurd (omega (arith, whole, from, before))
covered_from p (g ∷ gs) l at place whole x from before =
    let next : ℕ = suc (at + size p (locals_of g) g.body) in
    let later : ℕ = suc (suc (place + place_count g.body)) in
    let f : length (functions_code p at place (g ∷ gs)) ≡ suc (size p (locals_of g) g.body) + length (functions_code p next later gs) = functions_length p at place g gs in
    let whole_more : next + length (functions_code p next later gs) ≡ l = omega (arith, f, whole) in
    ⊎_elim (λ (here : x < next). (0, record { start = at; place = place; params = length g.params }, refl, from, subst (λ m. x < m) (sym (next_start p l next later gs whole_more)) here))
    (λ (there : next ≤ x).
    let again : (k : ℕ) × (e : Entrance) × (slice_get (entrances p next later gs) k ≡ Some e) × (e.start ≤ x) × (x < start_or l (slice_get (entrances p next later gs) (suc k))) =
    covered_from p gs l next later whole_more x there before in
    (suc again.0, again.1, again.2, again.3, again.4))
    (cases_lt x next)

pub covered : (p : Source) (x : ℕ) → x < length (functions_code p 0 1 p.funcs) → (n : ℕ) × IsInFunction (lowered p) n x
covered p x h =
    let f : (k : ℕ) × (e : Entrance) × (slice_get (entrances p 0 1 p.funcs) k ≡ Some e) × (e.start ≤ x) × (x < start_or (length (functions_code p 0 1 p.funcs)) (slice_get (entrances p 0 1 p.funcs) (suc k))) =
    covered_from p p.funcs (length (functions_code p 0 1 p.funcs)) 0 1 (omega arith) x (omega arith) h in
    (f.0, record { entrance = f.1; there = f.2; from = f.3; before = f.4 })
