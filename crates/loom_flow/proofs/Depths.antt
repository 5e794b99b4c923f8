-- How many values there are before each instruction.
use Rattle.std.proofs.Common.{ℕ, suc, zero, ◌+◌, ◌-◌, ◌≡◌, ◌≤◌, ◌<◌, List, [], ◌∷◌, ◌++◌, true, false, ◌&&◌, Option, Some, None, refl, sym, ap, subst, ◌∙◌, map, take, slice_get, length, length-append, if◌then◌else◌, nat_le, le-leb, arith}
use Rattle.std.proofs.lemmas.Option.{slice_get_within}
use Rattle.loom_tree.specs.Tree.{Expression, Right, Simple, let_, set, Body, end, simple, if_, while_, Function, Source}
use Rattle.loom_lang.specs.WellFormed.{node_count}
use Rattle.loom_lang.specs.Limits.{param_limit}
use Rattle.loom_lang.specs.Rules.{locals_of, KeepsRules, FunctionsKeepRules}
use Rattle.loom_flow.specs.Arguments.{takes_simple, takes_body}
use Rattle.loom_flow.proofs.Counts.{body_takes}
use Rattle.loom_flow.specs.declared.code.CodeStep.{CodeStep}
use Rattle.loom_flow.specs.declared.code.CodeStep.TheVariants as s
use Rattle.loom_flow.specs.declared.code.Control.TheVariants.{Begin, Done, Edge, Jump, JumpIfZero, Call, Return, Out}
use Rattle.loom_flow.specs.declared.code.Instr.{Instr}
use Rattle.loom_flow.specs.declared.code.Entrance.{Entrance}
use Rattle.loom_flow.specs.Flow.{Flow}
use Rattle.loom_flow.specs.FlatCode.{operand_of, operand_steps, simple_steps, instr, instrs, size, place_count, flat_body, functions_code, entrances, lowered}
use Rattle.loom_flow.specs.Depth.{pops, takes_off, puts_on, depth_after, depth_before, IsSmallBody, AreSmallFunctions, HasSmallBodies}
use Rattle.loom_flow.specs.Laws.{KeepsDepth, HasOperands}
use Rattle.loom_flow.proofs.Sublist.{Lies, lies_first, lies_second, lies_whole}
use Rattle.loom_flow.proofs.Each.{AllOf, all_append, Each, each_append, each_at, same_element}
use Rattle.loom_flow.proofs.Plain.{is_plain, CallsRight, CallsSimple, operand_all, simple_all}
use Rattle.loom_flow.proofs.Sizes.{instrs_length, code_length}
use Rattle.loom_flow.proofs.BodyTraces.{condition_length}
use Rattle.loom_flow.proofs.Balance.{Fits, fits_takes, Balanced, condition_balanced, simple_balanced}
use Rattle.loom_flow.proofs.Truths.{both}

-- From an instruction to the next

depth_one : (d : ℕ) (x : CodeStep) → takes_off x ≤ d → depth_after d (x ∷ []) ≡ Some (d - takes_off x + puts_on x)
depth_one d x h = ap {B = Option ℕ} (λ b. if b then Some (d - takes_off x + puts_on x) else None) (le-leb (takes_off x) d h)

depth_through : (first : ℕ) (is : List Instr) (at : ℕ) (i : Instr) (d : ℕ) → slice_get is at ≡ Some i → depth_after first (map (λ (j : Instr). j.step) (take at is)) ≡ Some d → takes_off i.step ≤ d
    → depth_after first (map (λ (j : Instr). j.step) (take (suc at) is)) ≡ Some (d - takes_off i.step + puts_on i.step)
depth_through first [] at i d h e le = cc
depth_through first (j ∷ is) zero i d h e le =
    subst (λ (k : Instr). depth_after first (k.step ∷ []) ≡ Some (d - takes_off i.step + puts_on i.step)) (sym (same_element j i h))
    (subst (λ n. depth_after n (i.step ∷ []) ≡ Some (d - takes_off i.step + puts_on i.step)) (sym (same_element first d e)) (depth_one d i.step le))
depth_through first (j ∷ is) (suc at) i d h e le =
    elim (nat_le (takes_off j.step) first) as (λ b.
    (if b then depth_after (first - takes_off j.step + puts_on j.step) (map (λ (k : Instr). k.step) (take at is)) else None) ≡ Some d
    → (if b then depth_after (first - takes_off j.step + puts_on j.step) (map (λ (k : Instr). k.step) (take (suc at) is)) else None) ≡ Some (d - takes_off i.step + puts_on i.step)) [
      | true ↦ λ f. depth_through (first - takes_off j.step + puts_on j.step) is at i d h f le
      | false ↦ λ f. cc
    ] e

depth_next : (c : Flow) (at : ℕ) (i : Instr) (d : ℕ) → slice_get c.code at ≡ Some i → depth_before c at ≡ Some d → takes_off i.step ≤ d → depth_before c (suc at) ≡ Some (d - takes_off i.step + puts_on i.step)
depth_next c at i d h e le = depth_through 0 c.code at i d h e le

depth_at : (c : Flow) (at to d : ℕ) → at ≡ to → depth_before c at ≡ Some d → depth_before c to ≡ Some d
depth_at c at to d e h = subst (λ n. depth_before c n ≡ Some d) e h

-- Steps

depth_over : (c : Flow) (l k at m d e : ℕ) (xs : List CodeStep) → depth_before c at ≡ Some d → Balanced m d xs e → Lies c.code at (instrs l k xs) → depth_before c (at + length xs) ≡ Some e
depth_over c l k at m d e [] h b lies = depth_at c at (at + 0) e (omega arith) (h ∙ ap {B = Option ℕ} Some b)
depth_over c l k at m d e (x ∷ xs) h b lies =
    depth_at c (suc at + length xs) (at + suc (length xs)) e (omega arith)
    (depth_over c l k (suc at) m (d - takes_off x + puts_on x) e xs (depth_next c at (instr l k x) d lies.0 h (fits_takes d x b.0)) b.2 lies.1)

-- where a jump or a back edge leads
abbrev Elsewhere : Flow → CodeStep → Type 0
Elsewhere c (s.Control (Edge to)) = depth_before c to ≡ Some 0
Elsewhere c (s.Control (Jump to)) = depth_before c to ≡ Some 0
Elsewhere c (s.Control (JumpIfZero a to)) = depth_before c to ≡ Some 0
Elsewhere c _ = Unit {0}

plain_elsewhere : (c : Flow) (x : CodeStep) → is_plain x ≡ true → Elsewhere c x
plain_elsewhere c (s.Control (Edge to)) h = cc
plain_elsewhere c (s.Control (Jump to)) h = cc
plain_elsewhere c (s.Control (JumpIfZero a to)) h = cc
plain_elsewhere c _ h = tt

right_elsewhere : (c : Flow) (r : Right Expression) → CallsRight (Elsewhere c) c.program r
right_elsewhere c (Right.value e) = tt
right_elsewhere c (Right.call f es) = tt
right_elsewhere c (Right.spawn f es) = tt

calls_elsewhere : (c : Flow) (x : Simple Expression) → CallsSimple (Elsewhere c) c.program x
calls_elsewhere c (let_ x r) = right_elsewhere c r
calls_elsewhere c (set x r) = right_elsewhere c r
calls_elsewhere c _ = tt

abbrev Keeps : Flow → ℕ → ℕ → Instr → Type 0
Keeps c m at i = (d : ℕ) × (depth_before c at ≡ Some d) × (d ≤ m) × KeepsDepth c at d i.step

step_keeps : (c : Flow) (l k at d : ℕ) (x : CodeStep) → slice_get c.code at ≡ Some (instr l k x) → depth_before c at ≡ Some d → Fits d x → Elsewhere c x → KeepsDepth c at d x
step_keeps c l k at d (s.Control (Jump to)) h e fits other = (fits, other)
step_keeps c l k at d (s.Control (JumpIfZero a to)) h e fits other =
    (fits, depth_next c at (instr l k (s.Control (JumpIfZero a to))) d h e (omega (arith, fits)) ∙ ap {B = Option ℕ} Some (let f : d - pops a + 0 ≡ 0 = omega (arith, fits) in f), other)
step_keeps c l k at d (s.Control (Edge to)) h e fits other = (fits, other)
step_keeps c l k at d (s.Control (Call f n)) h e fits other =
    (fits, depth_next c at (instr l k (s.Control (Call f n))) d h e (omega (arith, fits)) ∙ ap {B = Option ℕ} Some (let g : d - n + 1 ≡ 1 = omega (arith, fits) in g))
step_keeps c l k at d (s.Control (Return a)) h e fits other = fits
step_keeps c l k at d (s.Control Out) h e fits other = fits
step_keeps c l k at d x h e fits other = (fits, depth_next c at (instr l k x) d h e fits)

steps_keep : (c : Flow) (l k at m d e : ℕ) (xs : List CodeStep) → depth_before c at ≡ Some d → Balanced m d xs e → Lies c.code at (instrs l k xs) → AllOf (Elsewhere c) xs → Each (Keeps c m) at (instrs l k xs)
steps_keep c l k at m d e [] h b lies other = tt
steps_keep c l k at m d e (x ∷ xs) h b lies other = (
  (d, h, b.1, step_keeps c l k at d x lies.0 h b.0 other.0),
  steps_keep c l k (suc at) m (d - takes_off x + puts_on x) e xs (depth_next c at (instr l k x) d lies.0 h (fits_takes d x b.0)) b.2 lies.1 other.1,
)

-- a statement's beginning and its condition
condition_keeps : (c : Flow) (l k at m to : ℕ) (xs : List (List ℕ)) (e : Expression) → node_count e ≤ m → depth_before c at ≡ Some 0 → depth_before c to ≡ Some 0
    → Lies c.code at (instrs l k (s.Control Begin ∷ (operand_steps c.program xs e ++ s.Control (JumpIfZero (operand_of xs e) to) ∷ [])))
    → Each (Keeps c m) at (instrs l k (s.Control Begin ∷ (operand_steps c.program xs e ++ s.Control (JumpIfZero (operand_of xs e) to) ∷ [])))
condition_keeps c l k at m to xs e small h there lies =
    steps_keep c l k at m 0 0 (s.Control Begin ∷ (operand_steps c.program xs e ++ s.Control (JumpIfZero (operand_of xs e) to) ∷ [])) h (condition_balanced c.program xs m to e small) lies
    (tt, all_append (Elsewhere c) (operand_steps c.program xs e) _ (operand_all (Elsewhere c) (plain_elsewhere c) c.program xs e) (there, tt))

condition_depth : (c : Flow) (l k at m to : ℕ) (xs : List (List ℕ)) (e : Expression) → node_count e ≤ m → depth_before c at ≡ Some 0
    → Lies c.code at (instrs l k (s.Control Begin ∷ (operand_steps c.program xs e ++ s.Control (JumpIfZero (operand_of xs e) to) ∷ [])))
    → depth_before c (at + (2 + length (operand_steps c.program xs e))) ≡ Some 0
condition_depth c l k at m to xs e small h lies =
    let steps : List CodeStep = s.Control Begin ∷ (operand_steps c.program xs e ++ s.Control (JumpIfZero (operand_of xs e) to) ∷ []) in
    depth_at c (at + length steps) (at + (2 + length (operand_steps c.program xs e))) 0
    (let n : length (operand_steps c.program xs e ++ s.Control (JumpIfZero (operand_of xs e) to) ∷ []) ≡ length (operand_steps c.program xs e) + 1 = length-append (operand_steps c.program xs e) (s.Control (JumpIfZero (operand_of xs e) to) ∷ []) in
    omega (arith, n))
    (depth_over c l k at m 0 0 steps h (condition_balanced c.program xs m to e small) lies)

-- Statements: each of their instructions, and the number behind them

body_keeps : (c : Flow) (m n : ℕ) (xs : List (List ℕ)) → KeepsRules c.program → n + param_limit ≤ m → (at k : ℕ) (a : Body) → takes_body c.program a ≡ true → IsSmallBody n a
    → Lies c.code at (flat_body c.program xs at k a) → depth_before c at ≡ Some 0
    → Each (Keeps c m) at (flat_body c.program xs at k a) × (depth_before c (at + size c.program xs a) ≡ Some 0)
body_keeps c m n xs law room at k end known small lies h = (tt, depth_at c at (at + 0) 0 (omega arith) h)
body_keeps c m n xs law room at k (simple l x rest) known small lies h =
    let p : Source = c.program in
    let steps : List CodeStep = simple_steps p xs x in
    let next : ℕ = at + length steps in
    let both_known : (takes_simple p x ≡ true) × (takes_body p rest ≡ true) = both _ _ known in
    let lies_first_is : Lies c.code at (instrs l k steps) = lies_first c.code at (instrs l k steps) (flat_body p xs next (suc k) rest) lies in
    let lies_rest : Lies c.code next (flat_body p xs next (suc k) rest) =
    subst (λ i. Lies c.code i (flat_body p xs next (suc k) rest)) (ap (λ i. at + i) (instrs_length l k steps)) (lies_second c.code at (instrs l k steps) (flat_body p xs next (suc k) rest) lies) in
    let balanced : Balanced m 0 steps 0 = simple_balanced p xs m n x law room both_known.0 small.0 in
    let others : Each (Keeps c m) next (flat_body p xs next (suc k) rest) × (depth_before c (next + size p xs rest) ≡ Some 0) =
    body_keeps c m n xs law room next (suc k) rest both_known.1 small.1 lies_rest (depth_over c l k at m 0 0 steps h balanced lies_first_is) in (
      each_append (Keeps c m) at next (instrs l k steps) _ (ap (λ i. at + i) (instrs_length l k steps))
          (steps_keep c l k at m 0 0 steps h balanced lies_first_is
          (simple_all (Elsewhere c) (plain_elsewhere c) p xs x (calls_elsewhere c x)))
          others.0,
      depth_at c (next + size p xs rest) (at + size p xs (simple l x rest)) 0 (omega arith) others.1,
    )
body_keeps c m n xs law room at k (if_ l e x y rest) known small lies h =
    let p : Source = c.program in
    let before : List CodeStep = operand_steps p xs e in
    let first : ℕ = at + (2 + length before) in
    let second : ℕ = first + (1 + size p xs x) in
    let last : ℕ = second + size p xs y in
    let jump : CodeStep = s.Control (JumpIfZero (operand_of xs e) second) in
    let head : List CodeStep = s.Control Begin ∷ (before ++ jump ∷ []) in
    let code_x : List Instr = flat_body p xs first (suc k) x in
    let code_y : List Instr = flat_body p xs second (suc k + place_count x) y in
    let code_rest : List Instr = flat_body p xs (suc last) (suc k + place_count x + place_count y) rest in
    let known_x : (takes_body p x ≡ true) × ((takes_body p y && takes_body p rest) ≡ true) = both _ _ known in
    let known_y : (takes_body p y ≡ true) × (takes_body p rest ≡ true) = both _ _ known_x.1 in
    let lies_head : Lies c.code at (instrs l k head) = lies_first c.code at (instrs l k head) (code_x ++ instr l k (s.Control (Jump last)) ∷ (code_y ++ instr l k (s.Control Done) ∷ code_rest)) lies in
    let lies_from_x : Lies c.code first (code_x ++ instr l k (s.Control (Jump last)) ∷ (code_y ++ instr l k (s.Control Done) ∷ code_rest)) =
    subst (λ i. Lies c.code i (code_x ++ instr l k (s.Control (Jump last)) ∷ (code_y ++ instr l k (s.Control Done) ∷ code_rest))) (ap (λ i. at + i) (condition_length l k before (s.Control Begin) jump))
    (lies_second c.code at (instrs l k head) (code_x ++ instr l k (s.Control (Jump last)) ∷ (code_y ++ instr l k (s.Control Done) ∷ code_rest)) lies) in
    let lies_x : Lies c.code first code_x = lies_first c.code first code_x (instr l k (s.Control (Jump last)) ∷ (code_y ++ instr l k (s.Control Done) ∷ code_rest)) lies_from_x in
    let lies_jump : Lies c.code (first + size p xs x) (instr l k (s.Control (Jump last)) ∷ (code_y ++ instr l k (s.Control Done) ∷ code_rest)) =
    subst (λ i. Lies c.code i (instr l k (s.Control (Jump last)) ∷ (code_y ++ instr l k (s.Control Done) ∷ code_rest))) (ap (λ i. first + i) (code_length p xs x first (suc k)))
    (lies_second c.code first code_x (instr l k (s.Control (Jump last)) ∷ (code_y ++ instr l k (s.Control Done) ∷ code_rest)) lies_from_x) in
    let lies_from_y : Lies c.code second (code_y ++ instr l k (s.Control Done) ∷ code_rest) = subst (λ i. Lies c.code i (code_y ++ instr l k (s.Control Done) ∷ code_rest)) (omega arith) lies_jump.1 in
    let lies_y : Lies c.code second code_y = lies_first c.code second code_y (instr l k (s.Control Done) ∷ code_rest) lies_from_y in
    let lies_done : Lies c.code last (instr l k (s.Control Done) ∷ code_rest) =
    subst (λ i. Lies c.code i (instr l k (s.Control Done) ∷ code_rest)) (ap (λ i. second + i) (code_length p xs y second (suc k + place_count x)))
    (lies_second c.code second code_y (instr l k (s.Control Done) ∷ code_rest) lies_from_y) in
    let small_e : node_count e ≤ m = omega (arith, small.0, room) in
    let in_x : Each (Keeps c m) first code_x × (depth_before c (first + size p xs x) ≡ Some 0) =
    body_keeps c m n xs law room first (suc k) x known_x.0 small.1 lies_x (condition_depth c l k at m second xs e small_e h lies_head) in
    let at_second : depth_before c second ≡ Some 0 = depth_at c (suc (first + size p xs x)) second 0 (omega arith) (depth_next c (first + size p xs x) (instr l k (s.Control (Jump last))) 0 lies_jump.0 in_x.1 (omega arith)) in
    let in_y : Each (Keeps c m) second code_y × (depth_before c last ≡ Some 0) = body_keeps c m n xs law room second (suc k + place_count x) y known_y.0 small.2 lies_y at_second in
    let in_rest : Each (Keeps c m) (suc last) code_rest × (depth_before c (suc last + size p xs rest) ≡ Some 0) =
    body_keeps c m n xs law room (suc last) (suc k + place_count x + place_count y) rest known_y.1 small.3 lies_done.1 (depth_next c last (instr l k (s.Control Done)) 0 lies_done.0 in_y.1 (omega arith)) in (
      each_append (Keeps c m) at first (instrs l k head) _ (ap (λ i. at + i) (condition_length l k before (s.Control Begin) jump))
          (condition_keeps c l k at m second xs e small_e h at_second lies_head)
          (each_append (Keeps c m) first (first + size p xs x) code_x _ (ap (λ i. first + i) (code_length p xs x first (suc k)))
          in_x.0 (
            (0, in_x.1, omega arith, (refl, in_y.1)),
            subst (λ i. Each (Keeps c m) i (code_y ++ instr l k (s.Control Done) ∷ code_rest)) (omega arith)
                (each_append (Keeps c m) second last code_y _ (ap (λ i. second + i) (code_length p xs y second (suc k + place_count x)))
                in_y.0
                ((0, in_y.1, omega arith, (omega arith, depth_next c last (instr l k (s.Control Done)) 0 lies_done.0 in_y.1 (omega arith))), in_rest.0)),
          )),
      depth_at c (suc last + size p xs rest) (at + size p xs (if_ l e x y rest)) 0 (omega arith) in_rest.1,
    )
body_keeps c m n xs law room at k (while_ l e x rest) known small lies h =
    let p : Source = c.program in
    let before : List CodeStep = operand_steps p xs e in
    let head : ℕ = at + 1 in
    let first : ℕ = head + (1 + length before) in
    let last : ℕ = first + (1 + size p xs x) in
    let jump : CodeStep = s.Control (JumpIfZero (operand_of xs e) last) in
    let begin : List CodeStep = s.Control Begin ∷ (before ++ jump ∷ []) in
    let place : ℕ = at + (2 + length before) in
    let same : place ≡ first = omega arith in
    let code_x : List Instr = flat_body p xs first (suc (suc k)) x in
    let code_rest : List Instr = flat_body p xs (suc last) (suc (suc k) + place_count x) rest in
    let known_x : (takes_body p x ≡ true) × (takes_body p rest ≡ true) = both _ _ known in
    let lies_begin : Lies c.code at (instrs l k begin) = lies_first c.code at (instrs l k begin) (code_x ++ instr l (suc k) (s.Control (Edge head)) ∷ instr l k (s.Control Done) ∷ code_rest) lies in
    let lies_from_x : Lies c.code first (code_x ++ instr l (suc k) (s.Control (Edge head)) ∷ instr l k (s.Control Done) ∷ code_rest) =
    subst (λ i. Lies c.code i (code_x ++ instr l (suc k) (s.Control (Edge head)) ∷ instr l k (s.Control Done) ∷ code_rest)) (ap (λ i. at + i) (condition_length l k before (s.Control Begin) jump) ∙ same)
    (lies_second c.code at (instrs l k begin) (code_x ++ instr l (suc k) (s.Control (Edge head)) ∷ instr l k (s.Control Done) ∷ code_rest) lies) in
    let lies_x : Lies c.code first code_x = lies_first c.code first code_x (instr l (suc k) (s.Control (Edge head)) ∷ instr l k (s.Control Done) ∷ code_rest) lies_from_x in
    let lies_edge : Lies c.code (first + size p xs x) (instr l (suc k) (s.Control (Edge head)) ∷ instr l k (s.Control Done) ∷ code_rest) =
    subst (λ i. Lies c.code i (instr l (suc k) (s.Control (Edge head)) ∷ instr l k (s.Control Done) ∷ code_rest)) (ap (λ i. first + i) (code_length p xs x first (suc (suc k))))
    (lies_second c.code first code_x (instr l (suc k) (s.Control (Edge head)) ∷ instr l k (s.Control Done) ∷ code_rest) lies_from_x) in
    let lies_done : Lies c.code last (instr l k (s.Control Done) ∷ code_rest) = subst (λ i. Lies c.code i (instr l k (s.Control Done) ∷ code_rest)) (omega arith) lies_edge.1 in
    let small_e : node_count e ≤ m = omega (arith, small.0, room) in
    let at_head : depth_before c head ≡ Some 0 = depth_at c (suc at) head 0 (omega arith) (depth_next c at (instr l k (s.Control Begin)) 0 lies_begin.0 h (omega arith)) in
    let in_x : Each (Keeps c m) first code_x × (depth_before c (first + size p xs x) ≡ Some 0) =
    body_keeps c m n xs law room first (suc (suc k)) x known_x.0 small.1 lies_x (depth_at c place first 0 same (condition_depth c l k at m last xs e small_e h lies_begin)) in
    let at_last : depth_before c last ≡ Some 0 = depth_at c (suc (first + size p xs x)) last 0 (omega arith) (depth_next c (first + size p xs x) (instr l (suc k) (s.Control (Edge head))) 0 lies_edge.0 in_x.1 (omega arith)) in
    let behind : depth_before c (suc last) ≡ Some 0 = depth_next c last (instr l k (s.Control Done)) 0 lies_done.0 at_last (omega arith) in
    let in_rest : Each (Keeps c m) (suc last) code_rest × (depth_before c (suc last + size p xs rest) ≡ Some 0) =
    body_keeps c m n xs law room (suc last) (suc (suc k) + place_count x) rest known_x.1 small.2 lies_done.1 behind in (
      each_append (Keeps c m) at first (instrs l k begin) _ (ap (λ i. at + i) (condition_length l k before (s.Control Begin) jump) ∙ same)
          (condition_keeps c l k at m last xs e small_e h at_last lies_begin)
          (each_append (Keeps c m) first (first + size p xs x) code_x _ (ap (λ i. first + i) (code_length p xs x first (suc (suc k))))
          in_x.0 (
            (0, in_x.1, omega arith, (refl, at_head)),
            subst (λ i. Each (Keeps c m) i (instr l k (s.Control Done) ∷ code_rest)) (let f : last ≡ suc (first + size p xs x) = omega arith in f)
                ((0, at_last, omega arith, (omega arith, behind)), in_rest.0),
          )),
      depth_at c (suc last + size p xs rest) (at + size p xs (while_ l e x rest)) 0 (omega arith) in_rest.1,
    )

-- Functions: each of their instructions, and their starts

abbrev AreStarts : Flow → List Entrance → Type 0
AreStarts c es = (n : ℕ) (e : Entrance) → slice_get es n ≡ Some e → depth_before c e.start ≡ Some 0

starts_more : (c : Flow) (e : Entrance) (es : List Entrance) → depth_before c e.start ≡ Some 0 → AreStarts c es → AreStarts c (e ∷ es)
starts_more c e es h f zero d g = subst (λ (q : Entrance). depth_before c q.start ≡ Some 0) (same_element e d g) h
starts_more c e es h f (suc n) d g = f n d g

functions_keep : (c : Flow) (m n : ℕ) → KeepsRules c.program → n + param_limit ≤ m → (fs : List Function) (at place : ℕ) → FunctionsKeepRules c.program fs → AreSmallFunctions n fs
    → Lies c.code at (functions_code c.program at place fs) → depth_before c at ≡ Some 0
    → Each (Keeps c m) at (functions_code c.program at place fs) × AreStarts c (entrances c.program at place fs)
functions_keep c m n law room [] at place l small code h = (tt, λ k e g. cc)
functions_keep c m n law room (g ∷ gs) at place l small code h =
    let p : Source = c.program in
    let xs : List (List ℕ) = locals_of g in
    let last : ℕ = at + size p xs g.body in
    let later : ℕ = suc (suc (place + place_count g.body)) in
    let body : List Instr = flat_body p xs at (suc place) g.body in
    let out : Instr = instr g.line (suc place + place_count g.body) (s.Control Out) in
    let more : List Instr = functions_code p (suc last) later gs in
    let length_is : at + length body ≡ last = ap (λ i. at + i) (code_length p xs g.body at (suc place)) in
    let lies_out : Lies c.code last (out ∷ more) = subst (λ i. Lies c.code i (out ∷ more)) length_is (lies_second c.code at body (out ∷ more) code) in
    let in_body : Each (Keeps c m) at body × (depth_before c last ≡ Some 0) =
    body_keeps c m n xs law room at (suc place) g.body (body_takes p xs g.body l.0.known l.0.counted) small.0 (lies_first c.code at body (out ∷ more) code) h in
    let again : Each (Keeps c m) (suc last) more × AreStarts c (entrances p (suc last) later gs) =
    functions_keep c m n law room gs (suc last) later l.1 small.1 lies_out.1
    (depth_next c last out 0 lies_out.0 in_body.1 (omega arith)) in (
      each_append (Keeps c m) at last body (out ∷ more) length_is in_body.0 ((0, in_body.1, omega arith, refl), again.0),
      starts_more c (record { start = at; place = place; params = length g.params }) (entrances p (suc last) later gs) h again.1,
    )

-- where each expression of the program has at most `n` nodes
pub lowered_operands : (p : Source) → KeepsRules p → (n : ℕ) → HasSmallBodies n p → HasOperands (lowered p) (n + param_limit)
lowered_operands p l n small =
    let c : Flow = lowered p in
    let code : List Instr = functions_code p 0 1 p.funcs in
    let all : Each (Keeps c (n + param_limit)) 0 code × AreStarts c (entrances p 0 1 p.funcs) =
    functions_keep c (n + param_limit) n l (omega arith) p.funcs 0 1 l.functions small (lies_whole code) refl in
    record {
      starts = all.1;
      instructions = λ at i h. each_at (Keeps c (n + param_limit)) code 0 code (lies_whole code) all.0 at i (omega arith) (let f : at < length code = slice_get_within code at i h in omega (arith, f)) h;
    }
