-- Statements give in their code what they give in the tree.
use Rattle.std.proofs.Common.{ℕ, suc, zero, ◌+◌, ◌≡◌, ◌≤◌, List, [], ◌∷◌, ◌++◌, Bool, true, false, ℤ, Some, refl, sym, ap, subst, ◌∙◌, slice_get, length, length-append, inl, arith}
use mathlib.Core.Path.{fun_ext}
use Rattle.loom_tree.specs.Tree.{Expression, Body, end, simple, if_, while_, Source}
use Rattle.loom_lang.specs.Values.{is_zero}
use Rattle.loom_lang.specs.Trace.{Open, Lists, Thread, Locals, Calls, begins, done, edge, emit, choice, chosen, expression, turns, body}
use Rattle.loom_flow.specs.declared.code.Operand.{Operand}
use Rattle.loom_flow.specs.declared.code.Operand.TheVariants as operand
use Rattle.loom_flow.specs.declared.code.Target.TheVariants as target
use Rattle.loom_flow.specs.declared.code.CodeStep.{CodeStep}
use Rattle.loom_flow.specs.declared.code.CodeStep.TheVariants as s
use Rattle.loom_flow.specs.declared.code.Control.TheVariants.{Begin, Done, Edge, Jump, JumpIfZero}
use Rattle.loom_flow.specs.declared.code.Instr.{Instr}
use Rattle.loom_flow.specs.Flow.{Flow, resume}
use Rattle.loom_flow.specs.Position as position
use Rattle.loom_flow.specs.State.{State, jumped, named, names, locals_now}
use Rattle.loom_flow.specs.FlatCode.{operand_of, operand_steps, simple_steps, instr, instrs, size, place_count, flat_body, body_sites}
use Rattle.loom_flow.proofs.Relations.{Within, Meets, meets_same, meets_on, meets_emit, meets_choice, breaks, choice_open}
use Rattle.loom_flow.proofs.Steps.{performed, fetched, jump_gives, meets_performed}
use Rattle.loom_flow.proofs.Runs.{runs_from, ever_from, runs_next, runs_fetched, ever_fetched, ever_open}
use Rattle.loom_flow.proofs.Sublist.{Lies, lies_first, lies_second}
use Rattle.loom_flow.proofs.Straight.{straight, skip, skip_length, AllStraight, Fetches, meets_instr}
use Rattle.loom_flow.proofs.Expressions.{IsKnown, left, settled, settled_is, operand_are, steps_are}
use Rattle.loom_flow.proofs.Trees.{Turn, meets_expression, expression_open, body_open, turns_open}
use Rattle.loom_flow.proofs.Statements.{operand_straight}
use Rattle.loom_flow.proofs.Simple.{CallsMeet}
use Rattle.loom_flow.proofs.EachSimple.{IsKnownSimple, Ends, Returns, simple_meets}
use Rattle.loom_flow.proofs.Sizes.{instrs_length, code_length, sites_length}

-- Runs by at most so many steps, or by any number of them: they fetch their instructions, and go round loops.
pub record Runner (b : Bool) (c : Flow) (t : Thread) (m : ℕ → State → Lists) : Type 1 where
  pub fetches : (j : ℕ) → Fetches b c t (m j)
  pub loops : (n j : ℕ) → n ≤ j → (head : List ℤ → State) (turn : Turn) (leave : Locals → Lists) (xs : List (List ℕ)) (count : ℕ)
      → ((env : Locals) (again : Locals → Lists) → turn env again leave [] Open)
      → ((i : ℕ) → i ≤ n → (again : Locals → Lists) → ((h : ℕ) → h ≤ i → (vs : List ℤ) → length vs ≡ count → Meets b (m h (head vs)) (again (named xs vs)))
      → (vs : List ℤ) → length vs ≡ count → Meets b (fetched c t (m i) (head vs) (slice_get c.code (head vs).at)) (turn (named xs vs) again leave))
      → (vs : List ℤ) → length vs ≡ count → Meets b (m n (head vs)) (turns j turn leave (named xs vs))

runs_loop : (c : Flow) (t : Thread) → t.stopped [] Open → (n j : ℕ) → n ≤ j → (head : List ℤ → State) (turn : Turn) (leave : Locals → Lists) (xs : List (List ℕ)) (count : ℕ)
    → ((env : Locals) (again : Locals → Lists) → turn env again leave [] Open)
    → ((i : ℕ) → i ≤ n → (again : Locals → Lists) → ((h : ℕ) → h ≤ i → (vs : List ℤ) → length vs ≡ count → Within (runs_from c t h (head vs)) (again (named xs vs)))
    → (vs : List ℤ) → length vs ≡ count → Within (fetched c t (runs_from c t i) (head vs) (slice_get c.code (head vs).at)) (turn (named xs vs) again leave))
    → (vs : List ℤ) → length vs ≡ count → Within (runs_from c t n (head vs)) (turns j turn leave (named xs vs))
runs_loop c t stops zero j le head turn leave xs count opens step vs h = breaks (turns j turn leave (named xs vs)) (turns_open j turn leave (named xs vs) opens)
runs_loop c t stops (suc n) zero le head turn leave xs count opens step vs h = absurd (omega (arith, le))
runs_loop c t stops (suc n) (suc j) le head turn leave xs count opens step vs h = λ es r f.
    step n (omega arith) (λ env. turns j turn leave env)
    (λ i below ws g. runs_loop c t stops i j (omega (arith, below, le)) head turn leave xs count opens (λ i' le'. step i' (omega (arith, le', below))) ws g) vs h es r
    (runs_next c t stops n (head vs) es r f)

pub runs_runner : (c : Flow) (t : Thread) → t.stopped [] Open → Runner true c t (runs_from c t)
runs_runner c t stops = record { fetches = runs_fetched c t stops; loops = runs_loop c t stops }

ever_loop : (c : Flow) (t : Thread) (n j : ℕ) (head : List ℤ → State) (turn : Turn) (leave : Locals → Lists) (xs : List (List ℕ)) (count : ℕ)
    → ((i : ℕ) → i ≤ n → (again : Locals → Lists) → ((h : ℕ) → h ≤ i → (vs : List ℤ) → length vs ≡ count → Within (again (named xs vs)) (ever_from c t (head vs)))
    → (vs : List ℤ) → length vs ≡ count → Within (turn (named xs vs) again leave) (fetched c t (ever_from c t) (head vs) (slice_get c.code (head vs).at)))
    → (vs : List ℤ) → length vs ≡ count → Within (turns j turn leave (named xs vs)) (ever_from c t (head vs))
ever_loop c t n zero head turn leave xs count step vs h = breaks (ever_from c t (head vs)) (ever_open c t (position.before (head vs)))
ever_loop c t n (suc j) head turn leave xs count step vs h = λ es r g.
    ever_fetched c t (head vs) es r (step n (omega arith) (λ env. turns j turn leave env) (λ i below ws e. ever_loop c t n j head turn leave xs count step ws e) vs h es r g)

pub ever_runner : (c : Flow) (t : Thread) → Runner false c t (λ j. ever_from c t)
ever_runner c t = record {
  fetches = λ j z. ever_fetched c t z;
  loops = λ n j le head turn leave xs count opens step. ever_loop c t n j head turn leave xs count step;
}

-- Conditions

-- with what begins it and jumps behind it
pub condition_length : (l k : ℕ) (xs : List CodeStep) (x y : CodeStep) → length (instrs l k (x ∷ (xs ++ y ∷ []))) ≡ 2 + length xs
condition_length l k xs x y = instrs_length l k (x ∷ (xs ++ y ∷ [])) ∙ (let e : length (xs ++ y ∷ []) ≡ length xs + 1 = length-append xs (y ∷ []) in omega arith)

-- steps one behind another, and then any step
meets_then : (b : Bool) (c : Flow) (t : Thread) (l k : ℕ) (m : State → Lists) (xs : List CodeStep) (x : CodeStep) (at : ℕ) (z : State)
    → Fetches b c t m → AllStraight xs → Lies c.code at (instrs l k (xs ++ x ∷ [])) → z.at ≡ at
    → Meets b (m z) (straight c t l k xs (λ z'. performed c t m z' (instr l k x) x) z)
meets_then b c t l k m [] x at z f a h e = meets_instr b c t m z (instr l k x) f (ap (slice_get c.code) e ∙ h.0)
meets_then b c t l k m (y ∷ ys) x at z f a h e =
    meets_on b (m z) (performed c t m z (instr l k y) y) _
    (meets_instr b c t m z (instr l k y) f (ap (slice_get c.code) e ∙ h.0))
    (meets_performed b c t m (straight c t l k ys (λ z'. performed c t m z' (instr l k x) x)) z (instr l k y) y a.0 (λ z' g. meets_then b c t l k m ys x (suc at) z' f a.1 h.1 (g ∙ ap suc e)))

fetched_then : (b : Bool) (c : Flow) (t : Thread) (l k : ℕ) (m : State → Lists) (xs : List CodeStep) (x : CodeStep) (at : ℕ) (z : State)
    → Fetches b c t m → AllStraight xs → Lies c.code at (instrs l k (xs ++ x ∷ [])) → z.at ≡ at
    → Meets b (fetched c t m z (slice_get c.code z.at)) (straight c t l k xs (λ z'. performed c t m z' (instr l k x) x) z)
fetched_then b c t l k m [] x at z f a h e = meets_same b _ _ (ap (fetched c t m z) (ap (slice_get c.code) e ∙ h.0))
fetched_then b c t l k m (y ∷ ys) x at z f a h e =
    meets_on b (fetched c t m z (slice_get c.code z.at)) (performed c t m z (instr l k y) y) _
    (meets_same b _ _ (ap (fetched c t m z) (ap (slice_get c.code) e ∙ h.0)))
    (meets_performed b c t m (straight c t l k ys (λ z'. performed c t m z' (instr l k x) x)) z (instr l k y) y a.0 (λ z' g. meets_then b c t l k m ys x (suc at) z' f a.1 h.1 (g ∙ ap suc e)))

jump_is : (c : Flow) (t : Thread) (l k to n : ℕ) (a : Operand) (m : State → Lists) (z : State) (v : ℤ)
    → performed c t m (jumped (left a v z) n) (instr l k (s.Control (JumpIfZero a to))) (s.Control (JumpIfZero a to)) ≡ choice (is_zero (settled a z.locals v)) (m (jumped z to)) (m (jumped z (suc n)))
jump_is c t l k to n operand.Top m z v = jump_gives c t m (jumped (left operand.Top v z) n) (instr l k (s.Control (JumpIfZero operand.Top to))) operand.Top to
jump_is c t l k to n (operand.Local j) m z v = jump_gives c t m (jumped (left (operand.Local j) v z) n) (instr l k (s.Control (JumpIfZero (operand.Local j) to))) (operand.Local j) to
jump_is c t l k to n (operand.Number i) m z v = jump_gives c t m (jumped (left (operand.Number i) v z) n) (instr l k (s.Control (JumpIfZero (operand.Number i) to))) (operand.Number i) to

condition_are : (c : Flow) (t : Thread) (l k to at : ℕ) (xs : List (List ℕ)) (m : State → Lists) (z : State) (e : Expression) → length xs ≤ length z.locals → IsKnown t.program xs e
    → straight c t l k (operand_steps t.program xs e) (λ z'. performed c t m z' (instr l k (s.Control (JumpIfZero (operand_of xs e) to))) (s.Control (JumpIfZero (operand_of xs e) to))) (jumped z at)
    ≡ expression t l (named xs z.locals) e (λ v. choice (is_zero v) (m (jumped z to)) (m (jumped z (suc (skip at (operand_steps t.program xs e))))))
condition_are c t l k to at xs m z e h known =
    let a : Operand = operand_of xs e in
    let last : State → Lists = λ z'. performed c t m z' (instr l k (s.Control (JumpIfZero a to))) (s.Control (JumpIfZero a to)) in
    let n : ℕ = skip at (operand_steps t.program xs e) in
    operand_are c t l k xs e last z at h (steps_are c t l k xs target.Push e last z at h known)
    ∙ ap {B = Lists} (λ (f : ℤ → Lists). expression t l (named xs z.locals) e f) (fun_ext (λ v. jump_is c t l k to n a m z v))
    ∙ sym (settled_is t l xs z.locals e (λ v. choice (is_zero v) (m (jumped z to)) (m (jumped z (suc n)))) h)

condition_meets : (b : Bool) (t : Thread) (l : ℕ) (env : Locals) (e : Expression) (p q r u : Lists) → Meets b p q → Meets b r u
    → Meets b (expression t l env e (λ v. choice (is_zero v) p r)) (expression t l env e (λ v. chosen v u q))
condition_meets b t l env e p q r u f g = meets_expression b t l env e (λ v. choice (is_zero v) p r) (λ v. chosen v u q) (λ v. meets_choice b (is_zero v) p q r u f g)

-- Statements

abbrev pub IsKnownBody : Source → List (List ℕ) → Body → Type 0
IsKnownBody p xs end = Unit {0}
IsKnownBody p xs (simple l x rest) = IsKnownSimple p xs x × IsKnownBody p xs rest
IsKnownBody p xs (if_ l e a b rest) = IsKnown p xs e × IsKnownBody p xs a × IsKnownBody p xs b × IsKnownBody p xs rest
IsKnownBody p xs (while_ l e a rest) = IsKnown p xs e × IsKnownBody p xs a × IsKnownBody p xs rest

-- as many locals as before
at_most : {k m n : ℕ} → k ≤ n → m ≡ n → k ≤ m
at_most {k = k} {m = m} {n = n} h g = subst (λ j. k ≤ j) (sym g) h

-- at an instruction that completes a statement
meets_done : (b : Bool) (c : Flow) (t : Thread) (m : State → Lists) (l k at : ℕ) (z : State) (q : Lists) → Fetches b c t m → slice_get c.code at ≡ Some (instr l k (s.Control Done))
    → Meets b (m (jumped z (suc at))) q → Meets b (m (jumped z at)) (emit (done l) q)
meets_done b c t m l k at z q f e g = meets_on b (m (jumped z at)) (emit (done l) (m (jumped z (suc at)))) _ (meets_instr b c t m (jumped z at) (instr l k (s.Control Done)) f e) (meets_emit b (done l) _ q g)

-- at one that begins it
begins_at : (b : Bool) (c : Flow) (t : Thread) (m : State → Lists) (l k at : ℕ) (xs : List (List ℕ)) (z : State) (q : Lists)
    → Fetches b c t m → names (slice_get c.program.funcs z.func) ≡ xs → slice_get c.code at ≡ Some (instr l k (s.Control Begin))
    → Meets b (m (jumped z (suc at))) q → Meets b (m (jumped z at)) (emit (begins l (named xs z.locals)) q)
begins_at b c t m l k at xs z q f e g h =
    meets_on b (m (jumped z at)) (emit (begins l (locals_now c z)) (m (jumped z (suc at)))) _
    (meets_instr b c t m (jumped z at) (instr l k (s.Control Begin)) f g)
    (meets_on b _ (emit (begins l (locals_now c z)) q) _
    (meets_emit b (begins l (locals_now c z)) (m (jumped z (suc at))) q h)
    (meets_same b _ _ (ap {B = Lists} (λ ys. emit (begins l (named ys z.locals)) q) e)))

first_is : (at : ℕ) (steps : List CodeStep) → at + (2 + length steps) ≡ suc (skip (suc at) steps)
first_is at steps = let e : skip (suc at) steps ≡ suc at + length steps = skip_length (suc at) steps in omega arith

first_again : (at n : ℕ) → at + (2 + n) ≡ at + 1 + (1 + n)
first_again at n = omega arith

second_is : (head : ℕ) (steps : List CodeStep) → head + (1 + length steps) ≡ suc (skip head steps)
second_is head steps = let e : skip head steps ≡ head + length steps = skip_length head steps in omega arith

pub body_meets : (b : Bool) (c : Flow) (t : Thread) (m : ℕ → State → Lists) → Runner b c t m → (most n : ℕ) → n ≤ most → (calls : Calls) (xs : List (List ℕ)) (z : State) (a : Body) (k at : ℕ) (ret : ℤ → Lists) (more : Locals → Lists)
    → ((j : ℕ) → j ≤ n → CallsMeet b c t m j (length z.below) calls) → names (slice_get c.program.funcs z.func) ≡ xs → length xs ≤ length z.locals
    → IsKnownBody t.program xs a → Lies c.code at (flat_body t.program xs at k a) → Lies c.sites k (body_sites t.program xs at a)
    → Returns b c t m n z ret → Ends b m n xs z (at + size t.program xs a) more
    → Meets b (m n (jumped z at)) (body t calls most (named xs z.locals) a ret more)
body_meets b c t m runner most n le calls xs z end k at ret more meets names_are h known lies sites returns ends =
    subst (λ i. Meets b (m n (jumped z i)) (more (named xs z.locals))) (omega arith) (ends n (omega arith) z.locals refl)
body_meets b c t m runner most n le calls xs z (simple l x rest) k at ret more meets names_are h known lies sites returns ends =
    let steps : List CodeStep = simple_steps t.program xs x in
    let next : ℕ = at + length steps in
    let first : Lies c.code at (instrs l k steps) = lies_first c.code at (instrs l k steps) (flat_body t.program xs next (suc k) rest) lies in
    let second : Lies c.code next (flat_body t.program xs next (suc k) rest) =
    subst (λ i. Lies c.code i (flat_body t.program xs next (suc k) rest)) (ap (λ i. at + i) (instrs_length l k steps)) (lies_second c.code at (instrs l k steps) (flat_body t.program xs next (suc k) rest) lies) in
    simple_meets b c t m n l k at xs z calls x ret (λ env. body t calls most env rest ret more) runner.fetches (meets n (omega arith)) names_are h known.0 first (ap resume sites.0) returns
    (λ j below vs g. subst (λ i. Meets b (m j (jumped (record z { locals = vs }) i)) (body t calls most (named xs vs) rest ret more)) (sym (skip_length at steps))
    (body_meets b c t m runner most j (omega (arith, below, le)) calls xs (record z { locals = vs }) rest (suc k) next ret more
    (λ i under. meets i (omega (arith, under, below))) names_are (at_most h g) known.1 second sites.1 (λ i under. returns i (omega (arith, under, below)))
    (λ i under ws e. subst (λ i'. Meets b (m i (jumped (record z { locals = ws }) i')) (more (named xs ws))) (omega arith) (ends i (omega (arith, under, below)) ws (e ∙ g)))))
body_meets b c t m runner most n le calls xs z (if_ l e x y rest) k at ret more meets names_are h known lies sites returns ends =
    let p : Source = t.program in
    let before : List CodeStep = operand_steps p xs e in
    let first : ℕ = at + (2 + length before) in
    let second : ℕ = first + (1 + size p xs x) in
    let last : ℕ = second + size p xs y in
    let jump : CodeStep = s.Control (JumpIfZero (operand_of xs e) second) in
    let head : List CodeStep = s.Control Begin ∷ (before ++ jump ∷ []) in
    let code_x : List Instr = flat_body p xs first (suc k) x in
    let code_y : List Instr = flat_body p xs second (suc k + place_count x) y in
    let code_rest : List Instr = flat_body p xs (suc last) (suc k + place_count x + place_count y) rest in
    let lies_head : Lies c.code at (instrs l k head) = lies_first c.code at (instrs l k head) (code_x ++ instr l k (s.Control (Jump last)) ∷ (code_y ++ instr l k (s.Control Done) ∷ code_rest)) lies in
    let lies_from_x : Lies c.code first (code_x ++ instr l k (s.Control (Jump last)) ∷ (code_y ++ instr l k (s.Control Done) ∷ code_rest)) =
    subst (λ i. Lies c.code i (code_x ++ instr l k (s.Control (Jump last)) ∷ (code_y ++ instr l k (s.Control Done) ∷ code_rest))) (ap (λ i. at + i) (condition_length l k before (s.Control Begin) jump))
    (lies_second c.code at (instrs l k head) (code_x ++ instr l k (s.Control (Jump last)) ∷ (code_y ++ instr l k (s.Control Done) ∷ code_rest)) lies) in
    let lies_x : Lies c.code first code_x = lies_first c.code first code_x (instr l k (s.Control (Jump last)) ∷ (code_y ++ instr l k (s.Control Done) ∷ code_rest)) lies_from_x in
    let lies_jump : Lies c.code (first + size p xs x) (instr l k (s.Control (Jump last)) ∷ (code_y ++ instr l k (s.Control Done) ∷ code_rest)) =
    subst (λ i. Lies c.code i (instr l k (s.Control (Jump last)) ∷ (code_y ++ instr l k (s.Control Done) ∷ code_rest))) (ap (λ i. first + i) (code_length p xs x first (suc k)))
    (lies_second c.code first code_x (instr l k (s.Control (Jump last)) ∷ (code_y ++ instr l k (s.Control Done) ∷ code_rest)) lies_from_x) in
    let lies_from_y : Lies c.code second (code_y ++ instr l k (s.Control Done) ∷ code_rest) = subst (λ i. Lies c.code i (code_y ++ instr l k (s.Control Done) ∷ code_rest)) (omega arith) lies_jump.1 in
    let lies_y : Lies c.code second code_y = lies_first c.code second code_y (instr l k (s.Control Done) ∷ code_rest) lies_from_y in
    let lies_done : Lies c.code last (instr l k (s.Control Done) ∷ code_rest) =
    subst (λ i. Lies c.code i (instr l k (s.Control Done) ∷ code_rest)) (ap (λ i. second + i) (code_length p xs y second (suc k + place_count x)))
    (lies_second c.code second code_y (instr l k (s.Control Done) ∷ code_rest) lies_from_y) in
    let sites_x : Lies c.sites (suc k) (body_sites p xs first x) = lies_first c.sites (suc k) (body_sites p xs first x) (body_sites p xs second y ++ body_sites p xs (suc last) rest) sites.1 in
    let sites_from_y : Lies c.sites (suc k + place_count x) (body_sites p xs second y ++ body_sites p xs (suc last) rest) =
    subst (λ i. Lies c.sites i (body_sites p xs second y ++ body_sites p xs (suc last) rest)) (ap (λ i. suc k + i) (sites_length p xs x first))
    (lies_second c.sites (suc k) (body_sites p xs first x) (body_sites p xs second y ++ body_sites p xs (suc last) rest) sites.1) in
    let sites_y : Lies c.sites (suc k + place_count x) (body_sites p xs second y) = lies_first c.sites (suc k + place_count x) (body_sites p xs second y) (body_sites p xs (suc last) rest) sites_from_y in
    let sites_rest : Lies c.sites (suc k + place_count x + place_count y) (body_sites p xs (suc last) rest) =
    subst (λ i. Lies c.sites i (body_sites p xs (suc last) rest)) (ap (λ i. suc k + place_count x + i) (sites_length p xs y second))
    (lies_second c.sites (suc k + place_count x) (body_sites p xs second y) (body_sites p xs (suc last) rest) sites_from_y) in
    let behind : (j : ℕ) → j ≤ n → (vs : List ℤ) → length vs ≡ length z.locals → Meets b (m j (jumped (record z { locals = vs }) last)) (emit (done l) (body t calls most (named xs vs) rest ret more)) = λ j below vs g.
    meets_done b c t (m j) l k last (record z { locals = vs }) (body t calls most (named xs vs) rest ret more) (runner.fetches j) lies_done.0
    (body_meets b c t m runner most j (omega (arith, below, le)) calls xs (record z { locals = vs }) rest (suc k + place_count x + place_count y) (suc last) ret more
    (λ i under. meets i (omega (arith, under, below))) names_are (at_most h g) known.3 lies_done.1 sites_rest (λ i under. returns i (omega (arith, under, below)))
    (λ i under ws f. subst (λ i'. Meets b (m i (jumped (record z { locals = ws }) i')) (more (named xs ws))) (omega arith) (ends i (omega (arith, under, below)) ws (f ∙ g)))) in
    let in_x : Meets b (m n (jumped z first)) (body t calls most (named xs z.locals) x ret (λ env. emit (done l) (body t calls most env rest ret more))) =
    body_meets b c t m runner most n le calls xs z x (suc k) first ret (λ env. emit (done l) (body t calls most env rest ret more)) meets names_are h known.1 lies_x sites_x returns
    (λ j below vs g. meets_on b (m j (jumped (record z { locals = vs }) (first + size p xs x))) (m j (jumped (record z { locals = vs }) last)) _
    (meets_instr b c t (m j) (jumped (record z { locals = vs }) (first + size p xs x)) (instr l k (s.Control (Jump last))) (runner.fetches j) lies_jump.0) (behind j below vs g)) in
    let in_y : Meets b (m n (jumped z second)) (body t calls most (named xs z.locals) y ret (λ env. emit (done l) (body t calls most env rest ret more))) =
    body_meets b c t m runner most n le calls xs z y (suc k + place_count x) second ret (λ env. emit (done l) (body t calls most env rest ret more)) meets names_are h known.2 lies_y sites_y returns behind in
    begins_at b c t (m n) l k at xs z _ (runner.fetches n) names_are lies_head.0
    (meets_on b _ (straight c t l k before (λ z'. performed c t (m n) z' (instr l k jump) jump) (jumped z (suc at))) _
    (meets_then b c t l k (m n) before jump (suc at) (jumped z (suc at)) (runner.fetches n) (operand_straight p xs e) lies_head.1 refl)
    (meets_on b _ _ _ (meets_same b _ _ (condition_are c t l k second (suc at) xs (m n) z e h known.0))
    (condition_meets b t l (named xs z.locals) e (m n (jumped z second)) _ (m n (jumped z (suc (skip (suc at) before)))) _ in_y
    (subst (λ i. Meets b (m n (jumped z i)) (body t calls most (named xs z.locals) x ret (λ env. emit (done l) (body t calls most env rest ret more)))) (first_is at before) in_x))))
body_meets b c t m runner most n le calls xs z (while_ l e x rest) k at ret more meets names_are h known lies sites returns ends =
    let p : Source = t.program in
    let before : List CodeStep = operand_steps p xs e in
    let head : ℕ = at + 1 in
    let first : ℕ = head + (1 + length before) in
    let last : ℕ = first + (1 + size p xs x) in
    let jump : CodeStep = s.Control (JumpIfZero (operand_of xs e) last) in
    let begin : List CodeStep = s.Control Begin ∷ (before ++ jump ∷ []) in
    let code_x : List Instr = flat_body p xs first (suc (suc k)) x in
    let code_rest : List Instr = flat_body p xs (suc last) (suc (suc k) + place_count x) rest in
    let lies_begin : Lies c.code at (instrs l k begin) = lies_first c.code at (instrs l k begin) (code_x ++ instr l (suc k) (s.Control (Edge head)) ∷ instr l k (s.Control Done) ∷ code_rest) lies in
    let lies_from_x : Lies c.code first (code_x ++ instr l (suc k) (s.Control (Edge head)) ∷ instr l k (s.Control Done) ∷ code_rest) =
    subst (λ i. Lies c.code i (code_x ++ instr l (suc k) (s.Control (Edge head)) ∷ instr l k (s.Control Done) ∷ code_rest)) (ap (λ i. at + i) (condition_length l k before (s.Control Begin) jump) ∙ first_again at (length before))
    (lies_second c.code at (instrs l k begin) (code_x ++ instr l (suc k) (s.Control (Edge head)) ∷ instr l k (s.Control Done) ∷ code_rest) lies) in
    let lies_x : Lies c.code first code_x = lies_first c.code first code_x (instr l (suc k) (s.Control (Edge head)) ∷ instr l k (s.Control Done) ∷ code_rest) lies_from_x in
    let lies_edge : Lies c.code (first + size p xs x) (instr l (suc k) (s.Control (Edge head)) ∷ instr l k (s.Control Done) ∷ code_rest) =
    subst (λ i. Lies c.code i (instr l (suc k) (s.Control (Edge head)) ∷ instr l k (s.Control Done) ∷ code_rest)) (ap (λ i. first + i) (code_length p xs x first (suc (suc k))))
    (lies_second c.code first code_x (instr l (suc k) (s.Control (Edge head)) ∷ instr l k (s.Control Done) ∷ code_rest) lies_from_x) in
    let lies_done : Lies c.code last (instr l k (s.Control Done) ∷ code_rest) = subst (λ i. Lies c.code i (instr l k (s.Control Done) ∷ code_rest)) (omega arith) lies_edge.1 in
    let place : ℕ = at + (2 + length before) in
    let sites_x : Lies c.sites (suc (suc k)) (body_sites p xs first x) =
    subst (λ i. Lies c.sites (suc (suc k)) (body_sites p xs i x)) (first_again at (length before))
    (lies_first c.sites (suc (suc k)) (body_sites p xs place x) (body_sites p xs (suc (place + (1 + size p xs x))) rest) sites.1.1) in
    let sites_rest : Lies c.sites (suc (suc k) + place_count x) (body_sites p xs (suc last) rest) =
    subst (λ i. Lies c.sites (suc (suc k) + place_count x) (body_sites p xs (suc (i + (1 + size p xs x))) rest)) (first_again at (length before))
    (subst (λ i. Lies c.sites i (body_sites p xs (suc (place + (1 + size p xs x))) rest)) (ap (λ i. suc (suc k) + i) (sites_length p xs x place))
    (lies_second c.sites (suc (suc k)) (body_sites p xs place x) (body_sites p xs (suc (place + (1 + size p xs x))) rest) sites.1.1)) in
    let behind : (j : ℕ) → j ≤ n → (vs : List ℤ) → length vs ≡ length z.locals → Meets b (m j (jumped (record z { locals = vs }) last)) (emit (done l) (body t calls most (named xs vs) rest ret more)) = λ j below vs g.
    meets_done b c t (m j) l k last (record z { locals = vs }) (body t calls most (named xs vs) rest ret more) (runner.fetches j) lies_done.0
    (body_meets b c t m runner most j (omega (arith, below, le)) calls xs (record z { locals = vs }) rest (suc (suc k) + place_count x) (suc last) ret more
    (λ i under. meets i (omega (arith, under, below))) names_are (at_most h g) known.2 lies_done.1 sites_rest (λ i under. returns i (omega (arith, under, below)))
    (λ i under ws f. subst (λ i'. Meets b (m i (jumped (record z { locals = ws }) i')) (more (named xs ws))) (omega arith) (ends i (omega (arith, under, below)) ws (f ∙ g)))) in
    let turn : Turn = λ env again leave. expression t l env e (λ v. chosen v (body t calls most env x ret (λ env'. emit (edge l) (again env'))) (leave env)) in
    let leave : Locals → Lists = λ env. emit (done l) (body t calls most env rest ret more) in
    let round : (i : ℕ) → i ≤ n → (again : Locals → Lists) → ((j : ℕ) → j ≤ i → (vs : List ℤ) → length vs ≡ length z.locals → Meets b (m j (jumped (record z { locals = vs }) head)) (again (named xs vs)))
    → (vs : List ℤ) → length vs ≡ length z.locals → Meets b (fetched c t (m i) (jumped (record z { locals = vs }) head) (slice_get c.code head)) (turn (named xs vs) again leave) = λ i below again hyp vs g.
    let y : State = record z { locals = vs } in
    let in_x : Meets b (m i (jumped y first)) (body t calls most (named xs vs) x ret (λ env. emit (edge l) (again env))) =
    body_meets b c t m runner most i (omega (arith, below, le)) calls xs y x (suc (suc k)) first ret (λ env. emit (edge l) (again env))
    (λ j under. meets j (omega (arith, under, below))) names_are (at_most h g) known.1 lies_x sites_x (λ j under. returns j (omega (arith, under, below)))
    (λ j under ws f. meets_on b (m j (jumped (record z { locals = ws }) (first + size p xs x))) (emit (edge l) (m j (jumped (record z { locals = ws }) head))) _
    (meets_instr b c t (m j) (jumped (record z { locals = ws }) (first + size p xs x)) (instr l (suc k) (s.Control (Edge head))) (runner.fetches j) lies_edge.0)
    (meets_emit b (edge l) _ _ (hyp j under ws (f ∙ g)))) in
    meets_on b _ (straight c t l k before (λ z'. performed c t (m i) z' (instr l k jump) jump) (jumped y head)) _
    (fetched_then b c t l k (m i) before jump head (jumped y head) (runner.fetches i) (operand_straight p xs e) (subst (λ q. Lies c.code q (instrs l k (before ++ jump ∷ []))) (omega arith) lies_begin.1) refl)
    (meets_on b _ _ _ (meets_same b _ _ (condition_are c t l k last head xs (m i) y e (at_most h g) known.0))
    (condition_meets b t l (named xs vs) e (m i (jumped y last)) (leave (named xs vs)) (m i (jumped y (suc (skip head before)))) _ (behind i below vs g)
    (subst (λ q. Meets b (m i (jumped y q)) (body t calls most (named xs vs) x ret (λ env. emit (edge l) (again env)))) (ap (λ q. q) (second_is head before)) in_x))) in
    begins_at b c t (m n) l k at xs z _ (runner.fetches n) names_are lies_begin.0
    (subst (λ q. Meets b (m n (jumped z q)) (turns most turn leave (named xs z.locals))) (omega arith)
    (runner.loops n most le (λ vs. jumped (record z { locals = vs }) head) turn leave xs (length z.locals)
    (λ env again. expression_open t l env e (λ v. chosen v (body t calls most env x ret (λ env'. emit (edge l) (again env'))) (leave env)) (λ v.
    choice_open (is_zero v) (leave env) (body t calls most env x ret (λ env'. emit (edge l) (again env'))) (inl (refl, refl))
    (body_open t calls most env x ret (λ env'. emit (edge l) (again env')) (λ env'. inl (refl, refl)))))
    round z.locals refl))
