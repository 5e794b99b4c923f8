-- What lowered flat code keeps of its program.
use Rattle.std.proofs.Common.{ℕ, suc, ◌*◌, ◌+◌, ◌<◌, ◌≤◌, ◌≡◌, ◌↔◌, List, [], ◌∷◌, ◌++◌, true, length, length-append, get_or, Some, ap, sym, ◌∙◌, subst, arith}
use Rattle.loom_lang.specs.Limits.{function_limit, statement_limit}
use Rattle.std.specs.Prelude.{slice_get, option_map, Contains, IsBitSet}
use Rattle.std.proofs.lemmas.List.{length-map}
use Rattle.std.proofs.lemmas.Option.{slice_get-map, slice_get-get_or}
use Rattle.loom_tree.specs.Tree.{Function, Source}
use Rattle.loom_expression.specs.Text.{node_limit}
use Rattle.loom_lang.specs.Limits.{param_limit}
use Rattle.loom_lang.specs.Rules.{takes, locals_of}
use Rattle.loom_lang.specs.Places.{places, place_at, line_of_place}
use Rattle.loom_flow.specs.declared.code.Control.TheVariants.{Out}
use Rattle.loom_flow.specs.declared.code.Instr.{Instr}
use Rattle.loom_flow.specs.declared.code.Site.{Site}
use Rattle.loom_flow.specs.declared.code.CodeStep.TheVariants as s
use Rattle.loom_flow.specs.Flow.{Flow}
use Rattle.loom_flow.specs.Depth.{depth_before, most_values}
use Rattle.loom_flow.specs.Laws.{HasTraces, HasPlaces, HasInstructionPlaces, HasCalls, HasOperands, KeepsDepth}
use Rattle.loom_flow.specs.FlatCode.{or_zero, calls_body, set_of, instr, place_count, size, flat_body, functions_code}
use Rattle.loom_flow.specs.Code.{IsLowered}
use Rattle.loom_flow.proofs.Places.{lowered_places, few_places}
use Rattle.loom_flow.proofs.CallSets.{lowered_calls}
use Rattle.loom_flow.proofs.InstructionPlaces as located
use Rattle.loom_flow.proofs.Traces.{lowered_traces}
use Rattle.loom_flow.proofs.Each.{same_element}
use Rattle.loom_flow.proofs.Depths.{lowered_operands}
use Rattle.loom_flow.proofs.SmallExpressions.{small_program}
use Rattle.loom_flow.proofs.Deepest.{found}

pub has_places : (c : Flow) → IsLowered c → HasPlaces c c.program
has_places c h = let P : Flow → Type 0 = λ z. HasPlaces z c.program in subst P (sym h.is) (lowered_places c.program)

pub has_calls : (c : Flow) → IsLowered c → HasCalls c c.program
has_calls c h = let P : Flow → Type 0 = λ z. HasCalls z c.program in subst P (sym h.is) (lowered_calls c.program)

-- the same, at a program that is that of the flat code

pub places_of : (c : Flow) (p : Source) → IsLowered c → c.program ≡ p → HasPlaces c p
places_of c p h e = let P : Source → Type 0 = λ q. HasPlaces c q in subst P e (has_places c h)

pub calls_of : (c : Flow) (p : Source) → IsLowered c → c.program ≡ p → HasCalls c p
calls_of c p h e = let P : Source → Type 0 = λ q. HasCalls c q in subst P e (has_calls c h)

pub traces_of : (c : Flow) (p : Source) → IsLowered c → c.program ≡ p → HasTraces c p
traces_of c p h e =
    let P : Flow → Type 0 = λ z. HasTraces z c.program in
    let Q : Source → Type 0 = λ q. HasTraces c q in
    subst Q e (subst P (sym h.is) (lowered_traces c.program h.lawful))

pub instructions_of : (c : Flow) (p : Source) → IsLowered c → c.program ≡ p → HasInstructionPlaces c p
instructions_of c p h e =
    let P : Flow → Type 0 = λ z. HasInstructionPlaces z c.program in
    let Q : Source → Type 0 = λ q. HasInstructionPlaces c q in
    subst Q e (subst P (sym h.is) (located.lowered_places c.program))

-- the accessors of `Flow`

pub as_many_sites : (c : Flow) → IsLowered c → length c.sites ≡ length (places c.program)
as_many_sites c h = sym (length-map c.sites (λ (s : Site). s.line)) ∙ ap length (has_places c h) ∙ length-map (places c.program) (line_of_place c.program)

pub few_sites : (c : Flow) → IsLowered c → length c.sites ≤ 1 + 2 * (function_limit + statement_limit)
few_sites c h = let is = as_many_sites c h in let few = few_places c.program h.lawful in omega arith

pub site_line : (c : Flow) (k : ℕ) (d : Site) → IsLowered c → k < length c.sites → option_map (line_of_place c.program) (place_at c.program k) ≡ Some (get_or c.sites k d).line
site_line c k d h l =
    sym (slice_get-map (line_of_place c.program) (places c.program) k)
    ∙ ap (λ z. slice_get z k) (sym (has_places c h))
    ∙ slice_get-map (λ (s : Site). s.line) c.sites k
    ∙ ap (option_map (λ (s : Site). s.line)) (slice_get-get_or c.sites k d l)

pub as_many_calls : (c : Flow) → IsLowered c → length c.calls ≡ length c.program.funcs
as_many_calls c h = ap (λ (z : Flow). length z.calls) h.is ∙ length-map c.program.funcs (λ (f : Function). set_of 0 (calls_body c.program f.body))

pub calls_kept : (c : Flow) (f d : ℕ) (h : Function) (g : ℕ) → IsLowered c → f < length c.program.funcs → slice_get c.program.funcs f ≡ Some h → IsBitSet (get_or c.calls f d) g ↔ Contains (calls_body c.program h.body) g
calls_kept c f d h g k l e =
    let P : ℕ → Type 0 = λ z. IsBitSet z g ↔ Contains (calls_body c.program h.body) g in
    let many = as_many_calls c k in
    subst P (ap or_zero (slice_get-get_or c.calls f d (omega arith))) (has_calls c k f h g e)

-- values

pub has_operands : (c : Flow) → IsLowered c → HasOperands c (node_limit + param_limit)
has_operands c h =
    let P : Flow → Type 0 = λ z. HasOperands z (node_limit + param_limit) in
    subst P (sym h.is) (lowered_operands c.program h.lawful node_limit (small_program c.program h.lawful))

-- where there is a function there is its end
some_functions : (p : Source) (fs : List Function) (x : List ℕ) (n at place : ℕ) → takes fs x n ≡ true → 0 < length (functions_code p at place fs)
some_functions p [] x n at place h = cc
some_functions p (f ∷ fs) x n at place h =
    let body : List Instr = flat_body p (locals_of f) at (suc place) f.body in
    let rest : List Instr =
    instr f.line (suc place + place_count f.body) (s.Control Out) ∷ functions_code p (suc (at + size p (locals_of f) f.body)) (suc (suc (place + place_count f.body))) fs in
    let more : length (body ++ rest) ≡ length body + length rest = length-append body rest in
    omega (arith, more)

some_code : (c : Flow) → IsLowered c → 0 < length c.code
some_code c h = let P : Flow → Type 0 = λ z. 0 < length z.code in subst P (sym h.is) (some_functions c.program c.program.funcs _ 0 0 1 h.lawful.main)

pub values_reached : (c : Flow) → IsLowered c → (at : ℕ) × (at < length c.code) × (depth_before c at ≡ Some (most_values c))
values_reached c h =
    found 0 c.code (some_code c h) (λ at i e. (let here : (d : ℕ) × (depth_before c at ≡ Some d) × (d ≤ node_limit + param_limit) × KeepsDepth c at d i.step = (has_operands c h).instructions at i e in (here.0, here.1)))

pub few_values : (c : Flow) → IsLowered c → most_values c ≤ node_limit + param_limit
few_values c h =
    let reached : (at : ℕ) × (at < length c.code) × (depth_before c at ≡ Some (most_values c)) = values_reached c h in
    let i : Instr = get_or c.code reached.0 (instr 0 0 (s.Control Out)) in
    let here : (d : ℕ) × (depth_before c reached.0 ≡ Some d) × (d ≤ node_limit + param_limit) × KeepsDepth c reached.0 d i.step =
    (has_operands c h).instructions reached.0 i (slice_get-get_or c.code reached.0 (instr 0 0 (s.Control Out)) reached.1) in
    let same : most_values c ≡ here.0 = same_element (most_values c) here.0 (sym reached.2 ∙ here.1) in
    let few : here.0 ≤ node_limit + param_limit = here.2 in
    omega (arith, same, few)
