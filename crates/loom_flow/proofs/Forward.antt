-- Where each instruction leads.
use Rattle.std.proofs.Common.{ℕ, suc, zero, ◌+◌, ◌≡◌, ◌≤◌, ◌<◌, List, [], ◌∷◌, ◌++◌, Bool, true, false, Option, Some, None, option_map, refl, sym, ap, subst, ◌∙◌, map, slice_get, length, length-append, append_assoc, le_refl, if◌then◌else◌, ◌==◌, arith}
use Rattle.std.specs.Cmp.Lexicographic.{pointwise}
use Rattle.std.proofs.lemmas.Option.{slice_get_within}
use Rattle.loom_tree.specs.Tree.{Expression, Right, Simple, let_, set, Body, end, simple, if_, while_, Function, Source}
use Rattle.loom_lang.specs.Rules.{locals_of, KeepsRules, FunctionKeepsRules, FunctionsKeepRules}
use Rattle.loom_lang.specs.Numbers.{index_of, function_number}
use Rattle.loom_flow.specs.declared.code.CodeStep.{CodeStep}
use Rattle.loom_flow.specs.declared.code.CodeStep.TheVariants as s
use Rattle.loom_flow.specs.declared.code.Compute.TheVariants.{Discard}
use Rattle.loom_flow.specs.declared.code.Ask.TheVariants.{Spawn}
use Rattle.loom_flow.specs.declared.code.Control.TheVariants.{Begin, Done, Edge, Jump, JumpIfZero, Call, Return, Out}
use Rattle.loom_flow.specs.declared.code.Instr.{Instr}
use Rattle.loom_flow.specs.declared.code.Entrance.{Entrance}
use Rattle.loom_flow.specs.Flow.{Flow, resume}
use Rattle.loom_flow.specs.FlatCode.{or_zero, operand_of, operand_steps, argument_steps, call_steps, store_step, set_steps, simple_steps, resume_of, instr, instrs, size, place_count, flat_body, body_sites, entrances, lowered}
use Rattle.loom_flow.specs.Laws.{IsInFunction, HasStart, LeadsInto, JumpsForward, KeepsFunctions}
use Rattle.loom_flow.proofs.Sublist.{Lies, lies_first, lies_second}
use Rattle.loom_flow.proofs.Each.{all_append, Each, each_append, each_at, each_instrs, each_steps, same_element}
use Rattle.loom_flow.proofs.Plain.{is_plain, CallsSimple, operand_all, arguments_all, simple_all}
use Rattle.loom_flow.proofs.Sizes.{instrs_length, code_length, sites_length}
use Rattle.loom_flow.proofs.BodyTraces.{condition_length}
use Rattle.loom_flow.proofs.Simple.{IsFunction}
use Rattle.loom_flow.proofs.EachSimple.{IsKnownSimple}
use Rattle.loom_flow.proofs.BodyTraces.{IsKnownBody}
use Rattle.loom_flow.proofs.Roles.{body_known}
use Rattle.loom_flow.proofs.FunctionBounds.{function_code, function_length, Stands, stands, covered}

-- All numbers from one to another are in `Q`.
abbrev Inside : (ℕ → Type 0) → ℕ → ℕ → Type 0
Inside Q lo hi = (m : ℕ) → lo ≤ m → m ≤ hi → Q m

-- The functions that a program names have their starts.
abbrev Starts : Flow → Type 0
Starts c = (f : List ℕ) → IsFunction c.program f → HasStart c (or_zero (function_number c.program f))

abbrev LeadsAt : (ℕ → Type 0) → Flow → ℕ → Instr → Type 0
LeadsAt Q c m i = LeadsInto Q c m i i.step

-- a step of a statement on line `l`, at place `k`, whatever its number
abbrev LeadsWithin : (ℕ → Type 0) → Flow → ℕ → ℕ → ℕ → ℕ → CodeStep → Type 0
LeadsWithin Q c lo hi l k x = (m : ℕ) → lo ≤ m → m < hi → LeadsInto Q c m (instr l k x) x

-- Statements

plain_leads : (Q : ℕ → Type 0) (c : Flow) (lo hi l k : ℕ) → Inside Q lo hi → (x : CodeStep) → is_plain x ≡ true → LeadsWithin Q c lo hi l k x
plain_leads Q c lo hi l k q (s.Control (Call f n)) e m from to = cc
plain_leads Q c lo hi l k q (s.Ask (Spawn f n d)) e m from to = cc
plain_leads Q c lo hi l k q (s.Control (Edge at)) e m from to = cc
plain_leads Q c lo hi l k q (s.Control (Jump at)) e m from to = cc
plain_leads Q c lo hi l k q (s.Control (JumpIfZero a at)) e m from to = cc
plain_leads Q c lo hi l k q (s.Control Out) e m from to = cc
plain_leads Q c lo hi l k q (s.Control (Return a)) e m from to = tt
plain_leads Q c lo hi l k q _ e m from to = q (suc m) (omega (arith, from)) to

-- a call, with what stands before and behind it
call_leads : (Q : ℕ → Type 0) (c : Flow) (lo hi l k at : ℕ) (xs : List (List ℕ)) (f : List ℕ) (es : List Expression) (x : CodeStep) (ys : List CodeStep) → Inside Q lo hi → Starts c → IsFunction c.program f → is_plain x ≡ true
    → ys ≡ argument_steps c.program xs es ++ s.Control (Call (or_zero (function_number c.program f)) (length es)) ∷ x ∷ s.Control Done ∷ []
    → resume (slice_get c.sites k) ≡ Some (at + (1 + length (call_steps c.program xs f es))) → lo ≤ at → at + suc (length ys) ≤ hi → Each (LeadsAt Q c) at (instrs l k (s.Control Begin ∷ ys))
call_leads Q c lo hi l k at xs f es x ys q starts known plain same site from to =
    let before : List CodeStep = argument_steps c.program xs es in
    let call : CodeStep = s.Control (Call (or_zero (function_number c.program f)) (length es)) in
    let m : ℕ = at + suc (length before) in
    let n : length ys ≡ length before + 3 = ap length same ∙ length-append before (call ∷ x ∷ s.Control Done ∷ []) in
    let d : length (call_steps c.program xs f es) ≡ length before + 1 = length-append before (call ∷ []) in
    let next : at + (1 + length (call_steps c.program xs f es)) ≡ suc m = omega (arith, d) in
    let resumes : resume (slice_get c.sites k) ≡ Some (suc m) = site ∙ ap Some next in
    subst (λ zs. Each (LeadsAt Q c) at (instrs l k (s.Control Begin ∷ zs))) (sym same)
    (each_steps (LeadsAt Q c) at l k (s.Control Begin ∷ before) (call ∷ x ∷ s.Control Done ∷ [])
    (each_instrs (LeadsAt Q c) lo hi at l k (s.Control Begin ∷ before) from (omega (arith, n, to))
    (plain_leads Q c lo hi l k q (s.Control Begin) refl, arguments_all (LeadsWithin Q c lo hi l k) (plain_leads Q c lo hi l k q) c.program xs es)) (
      (q (suc m) (omega (arith, from)) (omega (arith, n, to)), starts f known, resumes),
      (
        plain_leads Q c lo hi l k q x plain (suc m) (omega (arith, from)) (omega (arith, n, to)),
        (plain_leads Q c lo hi l k q (s.Control Done) refl (suc (suc m)) (omega (arith, from)) (omega (arith, n, to)), tt),
      ),
    ))

store_plain : (p : Source) (x : List ℕ) (a : Option ℕ) → is_plain (store_step p x a) ≡ true
store_plain p x None = refl
store_plain p x (Some j) = refl

set_call_leads : (Q : ℕ → Type 0) (c : Flow) (lo hi l k at : ℕ) (xs : List (List ℕ)) (x f : List ℕ) (es : List Expression) → Inside Q lo hi → Starts c → IsFunction c.program f
    → resume (slice_get c.sites k) ≡ Some (at + (1 + length (call_steps c.program xs f es))) → lo ≤ at → at + length (simple_steps c.program xs (set x (Right.call f es))) ≤ hi
    → Each (LeadsAt Q c) at (instrs l k (simple_steps c.program xs (set x (Right.call f es))))
set_call_leads Q c lo hi l k at xs x f es q starts known site from to =
    let before : List CodeStep = argument_steps c.program xs es in
    let call : CodeStep = s.Control (Call (or_zero (function_number c.program f)) (length es)) in
    let store : CodeStep = store_step c.program x (index_of x xs) in
    call_leads Q c lo hi l k at xs f es store (set_steps c.program xs x (Right.call f es) ++ s.Control Done ∷ []) q starts known (store_plain c.program x (index_of x xs))
    (append_assoc (before ++ call ∷ []) (store ∷ []) (s.Control Done ∷ []) ∙ append_assoc before (call ∷ []) (store ∷ s.Control Done ∷ [])) site from to

-- a statement without a call
other_leads : (Q : ℕ → Type 0) (c : Flow) (lo hi l k at : ℕ) (xs : List (List ℕ)) (x : Simple Expression) → Inside Q lo hi → CallsSimple (LeadsWithin Q c lo hi l k) c.program x
    → lo ≤ at → at + length (simple_steps c.program xs x) ≤ hi → Each (LeadsAt Q c) at (instrs l k (simple_steps c.program xs x))
other_leads Q c lo hi l k at xs x q calls from to =
    each_instrs (LeadsAt Q c) lo hi at l k (simple_steps c.program xs x) from to (simple_all (LeadsWithin Q c lo hi l k) (plain_leads Q c lo hi l k q) c.program xs x calls)

simple_leads : (Q : ℕ → Type 0) (c : Flow) (lo hi l k at : ℕ) (xs : List (List ℕ)) → Inside Q lo hi → Starts c → (x : Simple Expression) → IsKnownSimple c.program xs x
    → resume (slice_get c.sites k) ≡ resume_of c.program xs at x → lo ≤ at → at + length (simple_steps c.program xs x) ≤ hi → Each (LeadsAt Q c) at (instrs l k (simple_steps c.program xs x))
simple_leads Q c lo hi l k at xs q starts (let_ x (Right.call f es)) known site from to = set_call_leads Q c lo hi l k at xs x f es q starts known.1.0 site from to
simple_leads Q c lo hi l k at xs q starts (let_ x (Right.value e)) known site from to = other_leads Q c lo hi l k at xs (let_ x (Right.value e)) q tt from to
simple_leads Q c lo hi l k at xs q starts (let_ x (Right.spawn f es)) known site from to =
    other_leads Q c lo hi l k at xs (let_ x (Right.spawn f es)) q (λ m above below. (q (suc m) (omega (arith, above)) below, starts f known.1.0)) from to
simple_leads Q c lo hi l k at xs q starts (set x (Right.call f es)) known site from to = set_call_leads Q c lo hi l k at xs x f es q starts known.1.0 site from to
simple_leads Q c lo hi l k at xs q starts (set x (Right.value e)) known site from to = other_leads Q c lo hi l k at xs (set x (Right.value e)) q tt from to
simple_leads Q c lo hi l k at xs q starts (set x (Right.spawn f es)) known site from to =
    other_leads Q c lo hi l k at xs (set x (Right.spawn f es)) q (λ m above below. (q (suc m) (omega (arith, above)) below, starts f known.1.0)) from to
simple_leads Q c lo hi l k at xs q starts (Simple.call f es) known site from to =
    call_leads Q c lo hi l k at xs f es (s.Compute Discard) (call_steps c.program xs f es ++ s.Compute Discard ∷ s.Control Done ∷ []) q starts known.0 refl
    (append_assoc (argument_steps c.program xs es) (s.Control (Call (or_zero (function_number c.program f)) (length es)) ∷ []) (s.Compute Discard ∷ s.Control Done ∷ [])) site from to
simple_leads Q c lo hi l k at xs q starts x known site from to = other_leads Q c lo hi l k at xs x q tt from to

-- a statement's beginning and its condition
condition_leads : (Q : ℕ → Type 0) (c : Flow) (lo hi at l k to : ℕ) (xs : List (List ℕ)) (e : Expression) → Inside Q lo hi → lo ≤ at → at + (2 + length (operand_steps c.program xs e)) ≤ to → to ≤ hi
    → Each (LeadsAt Q c) at (instrs l k (s.Control Begin ∷ (operand_steps c.program xs e ++ s.Control (JumpIfZero (operand_of xs e) to) ∷ [])))
condition_leads Q c lo hi at l k to xs e q from ahead below =
    let before : List CodeStep = operand_steps c.program xs e in
    let jump : CodeStep = s.Control (JumpIfZero (operand_of xs e) to) in
    let within : Inside Q lo to = λ m above under. q m above (omega (arith, under, below)) in
    let n : length (s.Control Begin ∷ (before ++ jump ∷ [])) ≡ 2 + length before = let d : length (before ++ jump ∷ []) ≡ length before + 1 = length-append before (jump ∷ []) in omega arith in
    each_instrs (LeadsAt Q c) lo to at l k (s.Control Begin ∷ (before ++ jump ∷ [])) from (omega (arith, n, ahead)) (
      plain_leads Q c lo to l k within (s.Control Begin) refl,
      all_append (LeadsWithin Q c lo to l k) before (jump ∷ []) (operand_all (LeadsWithin Q c lo to l k) (plain_leads Q c lo to l k within) c.program xs e)
          ((λ m above under. (within (suc m) (omega (arith, above)) under, under, within to (omega (arith, from, ahead)) (le_refl to))), tt),
    )

body_leads : (Q : ℕ → Type 0) (c : Flow) (lo hi : ℕ) (xs : List (List ℕ)) → Inside Q lo hi → Starts c → (at k : ℕ) (a : Body) → lo ≤ at → at + size c.program xs a ≤ hi
    → Lies c.sites k (body_sites c.program xs at a) → IsKnownBody c.program xs a → Each (LeadsAt Q c) at (flat_body c.program xs at k a)
body_leads Q c lo hi xs q starts at k end from to sites known = tt
body_leads Q c lo hi xs q starts at k (simple l x rest) from to sites known =
    let steps : List CodeStep = simple_steps c.program xs x in
    let next : ℕ = at + length steps in
    let within : at + length steps ≤ hi = omega (arith, to) in
    each_append (LeadsAt Q c) at next (instrs l k steps) _ (ap (λ m. at + m) (instrs_length l k steps))
    (simple_leads Q c lo hi l k at xs q starts x known.0 (ap resume sites.0) from within)
    (body_leads Q c lo hi xs q starts next (suc k) rest (omega (arith, from)) (omega (arith, to)) sites.1 known.1)
body_leads Q c lo hi xs q starts at k (if_ l e a b rest) from to sites known =
    let p : Source = c.program in
    let before : List CodeStep = operand_steps p xs e in
    let first : ℕ = at + (2 + length before) in
    let second : ℕ = first + (1 + size p xs a) in
    let last : ℕ = second + size p xs b in
    let jump : CodeStep = s.Control (JumpIfZero (operand_of xs e) second) in
    let sites_a : Lies c.sites (suc k) (body_sites p xs first a) = lies_first c.sites (suc k) (body_sites p xs first a) (body_sites p xs second b ++ body_sites p xs (suc last) rest) sites.1 in
    let sites_from_b : Lies c.sites (suc k + place_count a) (body_sites p xs second b ++ body_sites p xs (suc last) rest) =
    subst (λ i. Lies c.sites i (body_sites p xs second b ++ body_sites p xs (suc last) rest)) (ap (λ i. suc k + i) (sites_length p xs a first))
    (lies_second c.sites (suc k) (body_sites p xs first a) (body_sites p xs second b ++ body_sites p xs (suc last) rest) sites.1) in
    let sites_b : Lies c.sites (suc k + place_count a) (body_sites p xs second b) = lies_first c.sites (suc k + place_count a) (body_sites p xs second b) (body_sites p xs (suc last) rest) sites_from_b in
    let sites_rest : Lies c.sites (suc k + place_count a + place_count b) (body_sites p xs (suc last) rest) =
    subst (λ i. Lies c.sites i (body_sites p xs (suc last) rest)) (ap (λ i. suc k + place_count a + i) (sites_length p xs b second))
    (lies_second c.sites (suc k + place_count a) (body_sites p xs second b) (body_sites p xs (suc last) rest) sites_from_b) in
    each_append (LeadsAt Q c) at first (instrs l k (s.Control Begin ∷ (before ++ jump ∷ []))) _ (ap (λ m. at + m) (condition_length l k before (s.Control Begin) jump))
    (condition_leads Q c lo hi at l k second xs e q from (omega arith) (omega (arith, to)))
    (each_append (LeadsAt Q c) first (first + size p xs a) (flat_body p xs first (suc k) a) _ (ap (λ m. first + m) (code_length p xs a first (suc k)))
    (body_leads Q c lo hi xs q starts first (suc k) a (omega (arith, from)) (omega (arith, to)) sites_a known.1) (
      (q (suc (first + size p xs a)) (omega (arith, from)) (omega (arith, to)), omega arith, q last (omega (arith, from)) (omega (arith, to))),
      subst (λ m. Each (LeadsAt Q c) m (flat_body p xs second (suc k + place_count a) b ++ instr l k (s.Control Done) ∷ flat_body p xs (suc last) (suc k + place_count a + place_count b) rest)) (omega arith)
          (each_append (LeadsAt Q c) second last (flat_body p xs second (suc k + place_count a) b) _ (ap (λ m. second + m) (code_length p xs b second (suc k + place_count a)))
          (body_leads Q c lo hi xs q starts second (suc k + place_count a) b (omega (arith, from)) (omega (arith, to)) sites_b known.2) (
            q (suc last) (omega (arith, from)) (omega (arith, to)),
            body_leads Q c lo hi xs q starts (suc last) (suc k + place_count a + place_count b) rest (omega (arith, from)) (omega (arith, to)) sites_rest known.3,
          )),
    ))
body_leads Q c lo hi xs q starts at k (while_ l e a rest) from to sites known =
    let p : Source = c.program in
    let before : List CodeStep = operand_steps p xs e in
    let head : ℕ = at + 1 in
    let first : ℕ = head + (1 + length before) in
    let last : ℕ = first + (1 + size p xs a) in
    let place : ℕ = at + (2 + length before) in
    let same : place ≡ first = omega arith in
    let jump : CodeStep = s.Control (JumpIfZero (operand_of xs e) last) in
    let sites_a : Lies c.sites (suc (suc k)) (body_sites p xs first a) =
    subst (λ i. Lies c.sites (suc (suc k)) (body_sites p xs i a)) same
    (lies_first c.sites (suc (suc k)) (body_sites p xs place a) (body_sites p xs (suc (place + (1 + size p xs a))) rest) sites.1.1) in
    let sites_rest : Lies c.sites (suc (suc k) + place_count a) (body_sites p xs (suc last) rest) =
    subst (λ i. Lies c.sites (suc (suc k) + place_count a) (body_sites p xs (suc (i + (1 + size p xs a))) rest)) same
    (subst (λ i. Lies c.sites i (body_sites p xs (suc (place + (1 + size p xs a))) rest)) (ap (λ i. suc (suc k) + i) (sites_length p xs a place))
    (lies_second c.sites (suc (suc k)) (body_sites p xs place a) (body_sites p xs (suc (place + (1 + size p xs a))) rest) sites.1.1)) in
    each_append (LeadsAt Q c) at first (instrs l k (s.Control Begin ∷ (before ++ jump ∷ []))) _ (ap (λ m. at + m) (condition_length l k before (s.Control Begin) jump) ∙ same)
    (condition_leads Q c lo hi at l k last xs e q from (omega arith) (omega (arith, to)))
    (each_append (LeadsAt Q c) first (first + size p xs a) (flat_body p xs first (suc (suc k)) a) _ (ap (λ m. first + m) (code_length p xs a first (suc (suc k))))
    (body_leads Q c lo hi xs q starts first (suc (suc k)) a (omega (arith, from)) (omega (arith, to)) sites_a known.1) (
      (q (suc (first + size p xs a)) (omega (arith, from)) (omega (arith, to)), q head (omega (arith, from)) (omega (arith, to))),
      (
        q (suc (suc (first + size p xs a))) (omega (arith, from)) (omega (arith, to)),
        subst (λ m. Each (LeadsAt Q c) m (flat_body p xs (suc last) (suc (suc k) + place_count a) rest)) (omega arith)
            (body_leads Q c lo hi xs q starts (suc last) (suc (suc k) + place_count a) rest (omega (arith, from)) (omega (arith, to)) sites_rest known.2),
      ),
    ))

-- Functions

-- a name's function has an entrance
entrance_of : (p : Source) (fs : List Function) (x : List ℕ) (n at place : ℕ) → index_of x (map (λ (f : Function). f.name) fs) ≡ Some n → (e : Entrance) × (slice_get (entrances p at place fs) n ≡ Some e)
entrance_of p [] x n at place h = cc
entrance_of p (g ∷ gs) x n at place h =
    by (λ j. entrance_of p gs x j next later) (pointwise ◌==◌ g.name x) (index_of x (map (λ (f : Function). f.name) gs)) refl h
  where
    next : ℕ
    next = suc (at + size p (locals_of g) g.body)

    later : ℕ
    later = suc (suc (place + place_count g.body))

    by : ((j : ℕ) → index_of x (map (λ (f : Function). f.name) gs) ≡ Some j → (e : Entrance) × (slice_get (entrances p next later gs) j ≡ Some e))
        → (b : Bool) (o : Option ℕ) → index_of x (map (λ (f : Function). f.name) gs) ≡ o → (if b then Some 0 else option_map suc o) ≡ Some n
        → (e : Entrance) × (slice_get (entrances p at place (g ∷ gs)) n ≡ Some e)
    by again true o d f = subst (λ m. (e : Entrance) × (slice_get (entrances p at place (g ∷ gs)) m ≡ Some e)) (same_element 0 n f) (record { start = at; place = place; params = length g.params }, refl)
    by again false None d f = cc
    by again false (Some j) d f = subst (λ m. (e : Entrance) × (slice_get (entrances p at place (g ∷ gs)) m ≡ Some e)) (same_element (suc j) n f) (again j d)

starts_of : (p : Source) → Starts (lowered p)
starts_of p f h =
    let e : (e : Entrance) × (slice_get (entrances p 0 1 p.funcs) h.0 ≡ Some e) = entrance_of p p.funcs f h.0 0 1 h.1 in
    subst (HasStart (lowered p)) (sym (ap or_zero h.1)) (e.0, e.1, omega (arith, (stands p h.0 e.0 e.1).2.inside))

-- a function that a program that keeps the rules has keeps them
pub lawful_at : (p : Source) (fs : List Function) (n : ℕ) (g : Function) → FunctionsKeepRules p fs → slice_get fs n ≡ Some g → FunctionKeepsRules p g
lawful_at p [] n g l h = cc
lawful_at p (f ∷ fs) zero g l h = subst (FunctionKeepsRules p) (same_element f g h) l.0
lawful_at p (f ∷ fs) (suc n) g l h = lawful_at p fs n g l.1 h

function_leads : (p : Source) (n : ℕ) (g : Function) (e : Entrance) → KeepsRules p → slice_get p.funcs n ≡ Some g → slice_get (entrances p 0 1 p.funcs) n ≡ Some e
    → Stands (lowered p) n g e (slice_get (entrances p 0 1 p.funcs) (suc n)) → Each (LeadsAt (IsInFunction (lowered p) n) (lowered p)) e.start (function_code p e.start e.place g)
function_leads p n g e l there has h =
    let c : Flow = lowered p in
    let hi : ℕ = e.start + size p (locals_of g) g.body in
    let inside : Inside (IsInFunction c n) e.start hi = λ m above under. record { entrance = e; there = has; from = above; before = omega (arith, h.behind, under) } in
    each_append (LeadsAt (IsInFunction c n) c) e.start hi (flat_body p (locals_of g) e.start (suc e.place) g.body) _
    (ap (λ m. e.start + m) (code_length p (locals_of g) g.body e.start (suc e.place)))
    (body_leads (IsInFunction c n) c e.start hi (locals_of g) inside (starts_of p) e.start (suc e.place) g.body (le_refl e.start) (le_refl hi) h.sites
    (body_known p (locals_of g) g.body l (lawful_at p p.funcs n g l.functions there).known))
    (tt, tt)

instruction_leads : (p : Source) → KeepsRules p → (n at : ℕ) (i : Instr) → IsInFunction (lowered p) n at → slice_get (lowered p).code at ≡ Some i → LeadsAt (IsInFunction (lowered p) n) (lowered p) at i
instruction_leads p l n at i h g =
    let e : Entrance = h.entrance in
    let there : (f : Function) × (slice_get p.funcs n ≡ Some f) × Stands (lowered p) n f e (slice_get (entrances p 0 1 p.funcs) (suc n)) = stands p n e h.there in
    let f : Function = there.0 in
    let whole : length (function_code p e.start e.place f) ≡ suc (size p (locals_of f) f.body) = function_length p e.start e.place f in
    each_at (LeadsAt (IsInFunction (lowered p) n) (lowered p)) (lowered p).code e.start (function_code p e.start e.place f) there.2.code (function_leads p n f e l there.1 h.there there.2) at i h.from
    (omega (arith, h.before, there.2.behind, whole)) g

in_code : (p : Source) (n at : ℕ) → IsInFunction (lowered p) n at → at < length (lowered p).code
in_code p n at h = let there : (f : Function) × (slice_get p.funcs n ≡ Some f) × Stands (lowered p) n f h.entrance (slice_get (entrances p 0 1 p.funcs) (suc n)) = stands p n h.entrance h.there in omega (arith, h.before, there.2.behind, there.2.inside)

pub lowered_keeps : (p : Source) → KeepsRules p → KeepsFunctions (lowered p)
lowered_keeps p l = record {
  inside = in_code p;
  starts = λ n e h. record { entrance = e; there = h; from = le_refl e.start; before = omega (arith, (stands p n e h).2.behind) };
  instructions = instruction_leads p l;
}

-- into more
leads_into : (Q R : ℕ → Type 0) (c : Flow) (at : ℕ) (i : Instr) → ((m : ℕ) → Q m → R m) → (x : CodeStep) → LeadsInto Q c at i x → LeadsInto R c at i x
leads_into Q R c at i f (s.Control (Jump to)) h = (f (suc at) h.0, h.1, f to h.2)
leads_into Q R c at i f (s.Control (JumpIfZero a to)) h = (f (suc at) h.0, h.1, f to h.2)
leads_into Q R c at i f (s.Control (Edge to)) h = (f (suc at) h.0, f to h.1)
leads_into Q R c at i f (s.Control (Call g n)) h = (f (suc at) h.0, h.1, h.2)
leads_into Q R c at i f (s.Ask (Spawn g n d)) h = (f (suc at) h.0, h.1)
leads_into Q R c at i f (s.Control (Return a)) h = tt
leads_into Q R c at i f (s.Control Out) h = tt
leads_into Q R c at i f _ h = f (suc at) h

pub lowered_forward : (p : Source) → KeepsRules p → JumpsForward (lowered p)
lowered_forward p l at i h =
    let c : Flow = lowered p in
    let n : (n : ℕ) × IsInFunction c n at = covered p at (slice_get_within c.code at i h) in
    leads_into (IsInFunction c n.0) (λ to. to < length c.code) c at i (in_code p n.0) i.step (instruction_leads p l n.0 at i n.1 h)
