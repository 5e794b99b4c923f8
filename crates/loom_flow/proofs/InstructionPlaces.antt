-- Each instruction has its place.
use Rattle.std.proofs.Common.{ℕ, suc, ◌+◌, ◌≡◌, List, [], ◌∷◌, ◌++◌, true, Option, Some, refl, ap, subst, ◌∙◌, slice_get, length, arith}
use Rattle.loom_tree.specs.Tree.{Expression, Right, Simple, let_, set, Body, end, simple, if_, while_, Function, Source}
use Rattle.loom_lang.specs.Rules.{locals_of}
use Rattle.loom_lang.specs.Places.{inside, out, body_places, places, place_at, line_of_function, line_of_place}
use Rattle.loom_flow.specs.declared.code.CodeStep.{CodeStep}
use Rattle.loom_flow.specs.declared.code.CodeStep.TheVariants as s
use Rattle.loom_flow.specs.declared.code.Control.TheVariants.{Begin, Done, Edge, JumpIfZero, Out}
use Rattle.loom_flow.specs.declared.code.Instr.{Instr}
use Rattle.loom_flow.specs.declared.code.Entrance.{Entrance}
use Rattle.loom_flow.specs.FlatCode.{operand_of, operand_steps, simple_steps, instr, instrs, size, place_count, flat_body, entrances, lowered}
use Rattle.loom_flow.specs.Laws.{IsInFunction, place_of, HasInstructionPlaces}
use Rattle.loom_flow.proofs.Sublist.{Lies, lies_first, lies_second}
use Rattle.loom_flow.proofs.Each.{AllOf, all_append, Each, each_append, each_at}
use Rattle.loom_flow.proofs.Plain.{is_plain, CallsRight, CallsSimple, operand_all, simple_all}
use Rattle.loom_flow.proofs.Sizes.{instrs_length, code_length}
use Rattle.loom_flow.proofs.BodyTraces.{condition_length}
use Rattle.loom_flow.proofs.FunctionBounds.{function_code, function_length, Stands, stands, covered}

-- a step of function `n` on line `l`, at place `k`
abbrev IsAt : Source → ℕ → ℕ → ℕ → CodeStep → Type 0
IsAt p n l k x = (place_at p k ≡ Some (place_of n l x)) × (line_of_place p (place_of n l x) ≡ l)

abbrev Located : Source → ℕ → ℕ → Instr → Type 0
Located p n at i = IsAt p n i.line i.place i.step

plain_located : (p : Source) (n l k : ℕ) → place_at p k ≡ Some (inside l) → (x : CodeStep) → is_plain x ≡ true → IsAt p n l k x
plain_located p n l k h (s.Control (Edge to)) e = cc
plain_located p n l k h (s.Control Out) e = cc
plain_located p n l k h _ e = (h, refl)

right_located : (p : Source) (n l k : ℕ) → place_at p k ≡ Some (inside l) → (r : Right Expression) → CallsRight (IsAt p n l k) p r
right_located p n l k h (Right.value e) = tt
right_located p n l k h (Right.call f es) = (h, refl)
right_located p n l k h (Right.spawn f es) = (h, refl)

calls_located : (p : Source) (n l k : ℕ) → place_at p k ≡ Some (inside l) → (x : Simple Expression) → CallsSimple (IsAt p n l k) p x
calls_located p n l k h (let_ x r) = right_located p n l k h r
calls_located p n l k h (set x r) = right_located p n l k h r
calls_located p n l k h (Simple.call f es) = (h, refl)
calls_located p n l k h _ = tt

steps_located : (p : Source) (n at l k : ℕ) (xs : List CodeStep) → AllOf (IsAt p n l k) xs → Each (Located p n) at (instrs l k xs)
steps_located p n at l k [] h = tt
steps_located p n at l k (x ∷ xs) h = (h.0, steps_located p n (suc at) l k xs h.1)

-- a statement's beginning and its condition
condition_located : (p : Source) (n at l k to : ℕ) (xs : List (List ℕ)) (e : Expression) → place_at p k ≡ Some (inside l)
    → Each (Located p n) at (instrs l k (s.Control Begin ∷ (operand_steps p xs e ++ s.Control (JumpIfZero (operand_of xs e) to) ∷ [])))
condition_located p n at l k to xs e h =
    steps_located p n at l k (s.Control Begin ∷ (operand_steps p xs e ++ s.Control (JumpIfZero (operand_of xs e) to) ∷ []))
    ((h, refl), all_append (IsAt p n l k) (operand_steps p xs e) (s.Control (JumpIfZero (operand_of xs e) to) ∷ []) (operand_all (IsAt p n l k) (plain_located p n l k h) p xs e) ((h, refl), tt))

body_located : (p : Source) (n : ℕ) (xs : List (List ℕ)) (at k : ℕ) (a : Body) → Lies (places p) k (body_places a) → Each (Located p n) at (flat_body p xs at k a)
body_located p n xs at k end h = tt
body_located p n xs at k (simple l x rest) h =
    each_append (Located p n) at (at + length (simple_steps p xs x)) (instrs l k (simple_steps p xs x)) _ (ap (λ m. at + m) (instrs_length l k (simple_steps p xs x)))
    (steps_located p n at l k (simple_steps p xs x) (simple_all (IsAt p n l k) (plain_located p n l k h.0) p xs x (calls_located p n l k h.0 x)))
    (body_located p n xs (at + length (simple_steps p xs x)) (suc k) rest h.1)
body_located p n xs at k (if_ l e a b rest) h =
    let before : List CodeStep = operand_steps p xs e in
    let first : ℕ = at + (2 + length before) in
    let second : ℕ = first + (1 + size p xs a) in
    let last : ℕ = second + size p xs b in
    let head : List Instr = instrs l k (s.Control Begin ∷ (before ++ s.Control (JumpIfZero (operand_of xs e) second) ∷ [])) in
    let places_a : Lies (places p) (suc k) (body_places a) = lies_first (places p) (suc k) (body_places a) (body_places b ++ body_places rest) h.1 in
    let places_from_b : Lies (places p) (suc k + place_count a) (body_places b ++ body_places rest) = lies_second (places p) (suc k) (body_places a) (body_places b ++ body_places rest) h.1 in
    let places_b : Lies (places p) (suc k + place_count a) (body_places b) = lies_first (places p) (suc k + place_count a) (body_places b) (body_places rest) places_from_b in
    let places_rest : Lies (places p) (suc k + place_count a + place_count b) (body_places rest) = lies_second (places p) (suc k + place_count a) (body_places b) (body_places rest) places_from_b in
    each_append (Located p n) at first head _ (ap (λ m. at + m) (condition_length l k before (s.Control Begin) (s.Control (JumpIfZero (operand_of xs e) second))))
    (condition_located p n at l k second xs e h.0)
    (each_append (Located p n) first (first + size p xs a) (flat_body p xs first (suc k) a) _ (ap (λ m. first + m) (code_length p xs a first (suc k)))
    (body_located p n xs first (suc k) a places_a) (
      (h.0, refl),
      subst (λ m. Each (Located p n) m (flat_body p xs second (suc k + place_count a) b ++ instr l k (s.Control Done) ∷ flat_body p xs (suc last) (suc k + place_count a + place_count b) rest)) (omega arith)
          (each_append (Located p n) second last (flat_body p xs second (suc k + place_count a) b) _ (ap (λ m. second + m) (code_length p xs b second (suc k + place_count a)))
          (body_located p n xs second (suc k + place_count a) b places_b)
          ((h.0, refl), body_located p n xs (suc last) (suc k + place_count a + place_count b) rest places_rest)),
    ))
body_located p n xs at k (while_ l e a rest) h =
    let before : List CodeStep = operand_steps p xs e in
    let first : ℕ = at + 1 + (1 + length before) in
    let last : ℕ = first + (1 + size p xs a) in
    let head : List Instr = instrs l k (s.Control Begin ∷ (before ++ s.Control (JumpIfZero (operand_of xs e) last) ∷ [])) in
    let places_a : Lies (places p) (suc (suc k)) (body_places a) = lies_first (places p) (suc (suc k)) (body_places a) (body_places rest) h.1.1 in
    let places_rest : Lies (places p) (suc (suc k) + place_count a) (body_places rest) = lies_second (places p) (suc (suc k)) (body_places a) (body_places rest) h.1.1 in
    each_append (Located p n) at first head _ (ap (λ m. at + m) (condition_length l k before (s.Control Begin) (s.Control (JumpIfZero (operand_of xs e) last))) ∙ omega arith)
    (condition_located p n at l k last xs e h.0)
    (each_append (Located p n) first (first + size p xs a) (flat_body p xs first (suc (suc k)) a) _ (ap (λ m. first + m) (code_length p xs a first (suc (suc k))))
    (body_located p n xs first (suc (suc k)) a places_a) (
      (h.1.0, refl),
      (
        (h.0, refl),
        subst (λ m. Each (Located p n) m (flat_body p xs (suc last) (suc (suc k) + place_count a) rest)) (omega arith)
            (body_located p n xs (suc last) (suc (suc k) + place_count a) rest places_rest),
      ),
    ))

-- Functions

function_located : (p : Source) (n : ℕ) (g : Function) (e : Entrance) (next : Option Entrance) → slice_get p.funcs n ≡ Some g → Stands (lowered p) n g e next → Each (Located p n) e.start (function_code p e.start e.place g)
function_located p n g e next there h =
    each_append (Located p n) e.start (e.start + size p (locals_of g) g.body) (flat_body p (locals_of g) e.start (suc e.place) g.body) _
    (ap (λ m. e.start + m) (code_length p (locals_of g) g.body e.start (suc e.place)))
    (body_located p n (locals_of g) e.start (suc e.place) g.body (lies_first (places p) (suc e.place) (body_places g.body) (out n ∷ []) h.places.1))
    (((lies_second (places p) (suc e.place) (body_places g.body) (out n ∷ []) h.places.1).0, ap line_of_function there), tt)

instruction_located : (p : Source) (n at : ℕ) (i : Instr) → IsInFunction (lowered p) n at → slice_get (lowered p).code at ≡ Some i → Located p n at i
instruction_located p n at i h g =
    let e : Entrance = h.entrance in
    let there : (f : Function) × (slice_get p.funcs n ≡ Some f) × Stands (lowered p) n f e (slice_get (entrances p 0 1 p.funcs) (suc n)) = stands p n e h.there in
    let f : Function = there.0 in
    let whole : length (function_code p e.start e.place f) ≡ suc (size p (locals_of f) f.body) = function_length p e.start e.place f in
    each_at (Located p n) (lowered p).code e.start (function_code p e.start e.place f) there.2.code (function_located p n f e _ there.1 there.2) at i h.from
    (omega (arith, h.before, there.2.behind, whole)) g

pub lowered_places : (p : Source) → HasInstructionPlaces (lowered p) p
lowered_places p = record {
  functions = covered p;
  instructions = instruction_located p;
  entrances = λ n e h. (stands p n e h).2.places.0;
}
