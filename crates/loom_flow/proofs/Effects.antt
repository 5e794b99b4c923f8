-- Each statement without a block gives in its code what it gives in the tree.
use Rattle.std.proofs.Common.{◌≤◌, ℕ, suc, ◌≡◌, List, [], ◌∷◌, ◌++◌, Bool, ℤ, pos, Option, Some, sym, ap, subst, ◌∙◌, slice_get, length, reverse, take}
use mathlib.Core.Path.{fun_ext}
use Rattle.loom_tree.specs.Tree.{Expression}
use Rattle.loom_lang.specs.Numbers.{Cells, cells_named, function_number}
use Rattle.loom_lang.specs.Trace as trace
use Rattle.loom_lang.specs.Trace.{Item, Lists, Thread, Locals, Calls, made, begins, done, out, broken, emit, any, either, trap_lists, value_in, updated, expression, each_argument, at_index, writing_word, stored, effect, right, join_of, numbered}
use Rattle.loom_flow.specs.declared.code.Operand.{Operand}
use Rattle.loom_flow.specs.declared.code.Operand.TheVariants as operand
use Rattle.loom_flow.specs.declared.code.Target.TheVariants as target
use Rattle.loom_flow.specs.declared.code.CodeStep.{CodeStep}
use Rattle.loom_flow.specs.declared.code.CodeStep.TheVariants as s
use Rattle.loom_flow.specs.declared.code.Ask.TheVariants.{WriteCell, Spawn}
use Rattle.loom_flow.specs.declared.code.Control.TheVariants.{Begin, Done, Return}
use Rattle.loom_flow.specs.Flow.{Flow}
use Rattle.loom_flow.specs.State.{State, jumped, named, names}
use Rattle.loom_flow.specs.FlatCode.{or_zero, array_of, array_named, operand_of, operand_steps, argument_steps, instr, instrs}
use Rattle.loom_flow.proofs.Relations.{Meets, meets_itself, meets_same, meets_on, meets_emit, meets_any, meets_either}
use Rattle.loom_flow.proofs.Steps.{returned, performed, write_cell_gives}
use Rattle.loom_flow.proofs.Sublist.{Lies}
use Rattle.loom_flow.proofs.Straight.{straight, straight_append, skip, skip_append, Fetches, meets_instr, lies_front, lies_rest}
use Rattle.loom_flow.proofs.Expressions.{IsArray, IsKnown, left, settled, settled_is, operand_are, steps_are}
use Rattle.loom_flow.proofs.Trees.{meets_expression, meets_arguments, meets_indexed}
use Rattle.loom_flow.proofs.Arguments.{AllKnown, topped, arguments_are, taken_arguments, left_arguments}
use Rattle.loom_flow.proofs.Statements.{operand_straight, meets_begin}
use Rattle.loom_flow.proofs.Simple.{IsFunction}

-- Spawns

pub spawn_is : (b : Bool) (c : Flow) (t : Thread) (m : State → Lists) (l k at : ℕ) (xs : List (List ℕ)) (z : State) (f : List ℕ) (es : List Expression) (rest : List CodeStep) (more : ℤ → Lists)
    → length xs ≤ length z.locals → IsFunction t.program f → AllKnown t.program xs es
    → ((v : ℤ) → Meets b (straight c t l k rest m (jumped (record z { values = v ∷ z.values }) (suc (skip at (argument_steps t.program xs es))))) (more v))
    → Meets b (straight c t l k (argument_steps t.program xs es ++ s.Ask (Spawn (or_zero (function_number t.program f)) (length es) target.Push) ∷ rest) m (jumped z at))
    (each_argument t l (named xs z.locals) es (λ vs. numbered (function_number t.program f) (λ g. either (trap_lists t l trace.threads) (any (λ n. emit (made l (trace.spawn n g vs)) (more (pos n)))))))
spawn_is b c t m l k at xs z f es rest more h function known goes_on =
    let env : Locals = named xs z.locals in
    let before : List CodeStep = argument_steps t.program xs es in
    let g : ℕ = or_zero (function_number t.program f) in
    let x : CodeStep = s.Ask (Spawn g (length es) target.Push) in
    let a : ℕ = skip at before in
    let found : g ≡ function.0 = ap or_zero function.1 in
    let behind : ℤ → Lists = λ v. straight c t l k rest m (jumped (record z { values = v ∷ z.values }) (suc a)) in
    let spawned : ℕ → List ℤ → (ℤ → Lists) → Lists = λ g' vs k'. either (trap_lists t l trace.threads) (any (λ n. emit (made l (trace.spawn n g' vs)) (k' (pos n)))) in
    let at_spawn : (vs : List ℤ) → length vs ≡ length es → Meets b (straight c t l k (x ∷ rest) m (jumped (topped vs z) a)) (numbered (function_number t.program f) (λ g'. spawned g' vs more)) = λ vs e.
    meets_on b _ (spawned function.0 vs behind) _
    (meets_same b _ _ (
    ap {B = Lists} (λ (ws : List ℤ). spawned g (reverse (take (length es) (reverse vs ++ z.values))) (λ v. straight c t l k rest m (jumped (record z { values = v ∷ ws }) (suc a)))) (left_arguments (length es) vs z.values e)
    ∙ ap {B = Lists} (λ us. spawned g us behind) (taken_arguments (length es) vs z.values e)
    ∙ ap {B = Lists} (λ (g' : ℕ). spawned g' vs behind) found))
    (meets_on b _ (spawned function.0 vs more) _
    (meets_either b _ _ _ _ (meets_itself b (trap_lists t l trace.threads))
    (meets_any b (λ (n : ℕ). emit (made l (trace.spawn n function.0 vs)) (behind (pos n))) (λ n. emit (made l (trace.spawn n function.0 vs)) (more (pos n))) (λ n.
    meets_emit b _ (behind (pos n)) (more (pos n)) (goes_on (pos n)))))
    (meets_same b _ _ (ap {B = Lists} (λ o. numbered o (λ g'. spawned g' vs more)) (sym function.1)))) in
    meets_on b _ (each_argument t l env es (λ vs. straight c t l k (x ∷ rest) m (jumped (topped vs z) a))) _
    (meets_same b _ _ (
    ap {B = Lists} (λ (k' : State → Lists). k' (jumped z at)) (straight_append c t l k before (x ∷ rest) m)
    ∙ arguments_are c t l k xs es (straight c t l k (x ∷ rest) m) z at h known))
    (meets_arguments b t l env es (λ vs. straight c t l k (x ∷ rest) m (jumped (topped vs z) a)) (λ vs. numbered (function_number t.program f) (λ g'. spawned g' vs more)) at_spawn)

-- Cells

write_cell_is : (c : Flow) (t : Thread) (l k : ℕ) (x : List ℕ) (a b : Operand) (next : State → Lists) (z : State) (n : ℕ) (v w : ℤ) → IsArray t.program x
    → straight c t l k (s.Ask (WriteCell (array_named t.program x) a b) ∷ []) next (jumped (left b w (left a v z)) n)
    ≡ at_index t l (cells_named t.program x) (settled a z.locals v) (λ i. emit (made l (trace.write i (settled b z.locals w))) (next (jumped z (suc n))))
write_cell_is c t l k x a b next z n v w h =
    ap {B = Lists} (λ cells. straight c t l k (s.Ask (WriteCell (array_of cells) a b) ∷ []) next (jumped (left b w (left a v z)) n)) h.2
    ∙ by a b
    ∙ ap {B = Lists} (λ cells. at_index t l cells (settled a z.locals v) (λ i. emit (made l (trace.write i (settled b z.locals w))) (next (jumped z (suc n))))) (sym h.2)
  where
    here : Option Cells
    here = Some (record { first = h.0; count = Some h.1 })

    by : (a' b' : Operand) → straight c t l k (s.Ask (WriteCell (array_of here) a' b') ∷ []) next (jumped (left b' w (left a' v z)) n)
        ≡ at_index t l here (settled a' z.locals v) (λ i. emit (made l (trace.write i (settled b' z.locals w))) (next (jumped z (suc n))))
    by operand.Top operand.Top = write_cell_gives c t next (jumped (left operand.Top w (left operand.Top v z)) n) (instr l k (s.Ask (WriteCell (array_of here) operand.Top operand.Top))) (array_of here) operand.Top operand.Top
    by operand.Top (operand.Local j) = write_cell_gives c t next (jumped (left (operand.Local j) w (left operand.Top v z)) n) (instr l k (s.Ask (WriteCell (array_of here) operand.Top (operand.Local j)))) (array_of here) operand.Top (operand.Local j)
    by operand.Top (operand.Number j) = write_cell_gives c t next (jumped (left (operand.Number j) w (left operand.Top v z)) n) (instr l k (s.Ask (WriteCell (array_of here) operand.Top (operand.Number j)))) (array_of here) operand.Top (operand.Number j)
    by (operand.Local i) operand.Top = write_cell_gives c t next (jumped (left operand.Top w (left (operand.Local i) v z)) n) (instr l k (s.Ask (WriteCell (array_of here) (operand.Local i) operand.Top))) (array_of here) (operand.Local i) operand.Top
    by (operand.Local i) (operand.Local j) = write_cell_gives c t next (jumped (left (operand.Local j) w (left (operand.Local i) v z)) n) (instr l k (s.Ask (WriteCell (array_of here) (operand.Local i) (operand.Local j)))) (array_of here) (operand.Local i) (operand.Local j)
    by (operand.Local i) (operand.Number j) = write_cell_gives c t next (jumped (left (operand.Number j) w (left (operand.Local i) v z)) n) (instr l k (s.Ask (WriteCell (array_of here) (operand.Local i) (operand.Number j)))) (array_of here) (operand.Local i) (operand.Number j)
    by (operand.Number i) operand.Top = write_cell_gives c t next (jumped (left operand.Top w (left (operand.Number i) v z)) n) (instr l k (s.Ask (WriteCell (array_of here) (operand.Number i) operand.Top))) (array_of here) (operand.Number i) operand.Top
    by (operand.Number i) (operand.Local j) = write_cell_gives c t next (jumped (left (operand.Local j) w (left (operand.Number i) v z)) n) (instr l k (s.Ask (WriteCell (array_of here) (operand.Number i) (operand.Local j)))) (array_of here) (operand.Number i) (operand.Local j)
    by (operand.Number i) (operand.Number j) = write_cell_gives c t next (jumped (left (operand.Number j) w (left (operand.Number i) v z)) n) (instr l k (s.Ask (WriteCell (array_of here) (operand.Number i) (operand.Number j)))) (array_of here) (operand.Number i) (operand.Number j)

pub meets_cell : (b : Bool) (c : Flow) (t : Thread) (m : State → Lists) (l k at : ℕ) (x : List ℕ) (xs : List (List ℕ)) (z : State) (e f : Expression) (q : Lists)
    → length xs ≤ length z.locals → IsArray t.program x → IsKnown t.program xs e → IsKnown t.program xs f
    → Meets b (m (jumped z (skip at (operand_steps t.program xs e ++ (operand_steps t.program xs f ++ s.Ask (WriteCell (array_named t.program x) (operand_of xs e) (operand_of xs f)) ∷ s.Control Done ∷ []))))) q
    → Meets b (straight c t l k (operand_steps t.program xs e ++ (operand_steps t.program xs f ++ s.Ask (WriteCell (array_named t.program x) (operand_of xs e) (operand_of xs f)) ∷ s.Control Done ∷ [])) m (jumped z at))
    (expression t l (named xs z.locals) e (λ v. expression t l (named xs z.locals) f (λ w. at_index t l (cells_named t.program x) v (λ i. emit (made l (trace.write i w)) (emit (done l) q)))))
meets_cell way c t m l k at x xs z e f q h array known_e known_f ends =
    let env : Locals = named xs z.locals in
    let a : Operand = operand_of xs e in
    let b : Operand = operand_of xs f in
    let first : List CodeStep = operand_steps t.program xs e in
    let second : List CodeStep = operand_steps t.program xs f in
    let last : List CodeStep = s.Ask (WriteCell (array_named t.program x) a b) ∷ s.Control Done ∷ [] in
    let behind : State → Lists = straight c t l k (s.Control Done ∷ []) m in
    let one : ℕ = skip at first in
    let two : ℕ = skip one second in
    let cell : ℤ → ℤ → Lists → Lists = λ v w r. at_index t l (cells_named t.program x) v (λ i. emit (made l (trace.write i w)) r) in
    let end : Meets way (m (jumped z (suc (suc two)))) q = subst (λ n. Meets way (m (jumped z n)) q) (skip_append at first (second ++ last) ∙ skip_append one second last) ends in
    meets_on way _ (expression t l env e (λ v. expression t l env f (λ w. cell v w (behind (jumped z (suc two)))))) _
    (meets_same way _ _ (
    ap {B = Lists} (λ (k' : State → Lists). k' (jumped z at)) (straight_append c t l k first (second ++ last) m)
    ∙ operand_are c t l k xs e (straight c t l k (second ++ last) m) z at h (steps_are c t l k xs target.Push e (straight c t l k (second ++ last) m) z at h known_e)
    ∙ ap {B = Lists} (λ (g : ℤ → Lists). expression t l env e g) (fun_ext (λ v.
    ap {B = Lists} (λ (k' : State → Lists). k' (jumped (left a v z) one)) (straight_append c t l k second last m)
    ∙ operand_are c t l k xs f (straight c t l k last m) (left a v z) one h (steps_are c t l k xs target.Push f (straight c t l k last m) (left a v z) one h known_f)
    ∙ ap {B = Lists} (λ (g : ℤ → Lists). expression t l env f g) (fun_ext (λ w. write_cell_is c t l k x a b behind z two v w array))
    ∙ sym (settled_is t l xs z.locals f (λ w. cell (settled a z.locals v) w (behind (jumped z (suc two)))) h)))
    ∙ sym (settled_is t l xs z.locals e (λ v. expression t l env f (λ w. cell v w (behind (jumped z (suc two))))) h)))
    (meets_expression way t l env e (λ v. expression t l env f (λ w. cell v w (behind (jumped z (suc two))))) (λ v. expression t l env f (λ w. cell v w (emit (done l) q))) (λ v.
    meets_expression way t l env f (λ w. cell v w (behind (jumped z (suc two)))) (λ w. cell v w (emit (done l) q)) (λ w.
    meets_indexed way t l (cells_named t.program x) v (λ i. emit (made l (trace.write i w)) (behind (jumped z (suc two)))) (λ i. emit (made l (trace.write i w)) (emit (done l) q)) (λ i.
    meets_emit way _ _ _ (meets_emit way (done l) (m (jumped z (suc (suc two)))) q end)))))

-- Returns

-- The frame ends with an operand.
pub return_is : (b : Bool) (c : Flow) (t : Thread) (m : State → Lists) (l k n : ℕ) (a : Operand) (z : State) (v : ℤ) (ret : ℤ → Lists)
    → ((w : ℤ) → Meets b (emit (out z.func) (returned c t m z.values w z.below)) (ret w))
    → Meets b (performed c t m (jumped (left a v z) n) (instr l k (s.Control (Return a))) (s.Control (Return a))) (emit (done l) (ret (settled a z.locals v)))
return_is b c t m l k n operand.Top z v ret f = meets_emit b (done l) _ _ (f v)
return_is b c t m l k n (operand.Local j) z v ret f = meets_emit b (done l) _ _ (f _)
return_is b c t m l k n (operand.Number i) z v ret f = meets_emit b (done l) _ _ (f i)

pub meets_return : (b : Bool) (c : Flow) (t : Thread) (m : State → Lists) (l k at : ℕ) (xs : List (List ℕ)) (z : State) (e : Expression) (ret : ℤ → Lists)
    → Fetches b c t m → names (slice_get c.program.funcs z.func) ≡ xs → length xs ≤ length z.locals → IsKnown t.program xs e
    → Lies c.code at (instrs l k (s.Control Begin ∷ (operand_steps t.program xs e ++ s.Control (Return (operand_of xs e)) ∷ [])))
    → ((w : ℤ) → Meets b (emit (out z.func) (returned c t m z.values w z.below)) (ret w))
    → Meets b (m (jumped z at)) (emit (begins l (named xs z.locals)) (expression t l (named xs z.locals) e (λ v. emit (done l) (ret v))))
meets_return b c t m l k at xs z e ret fetches names_are h known lies returns =
    let env : Locals = named xs z.locals in
    let a : Operand = operand_of xs e in
    let before : List CodeStep = operand_steps t.program xs e in
    let n : ℕ = skip (suc at) before in
    let behind : Lies c.code n (instrs l k (s.Control (Return a) ∷ [])) = lies_rest c l k at (s.Control Begin ∷ before) (s.Control (Return a) ∷ []) lies in
    meets_begin b c t m l k at xs z before (expression t l env e (λ v. emit (done l) (ret v))) fetches names_are (operand_straight t.program xs e) (lies_front c l k at (s.Control Begin ∷ before) (s.Control (Return a) ∷ []) lies)
    (meets_on b _ (expression t l env e (λ v. m (jumped (left a v z) n))) _
    (meets_same b _ _ (operand_are c t l k xs e m z (suc at) h (steps_are c t l k xs target.Push e m z (suc at) h known)))
    (meets_on b _ (expression t l env e (λ v. emit (done l) (ret (settled a z.locals v)))) _
    (meets_expression b t l env e (λ v. m (jumped (left a v z) n)) (λ v. emit (done l) (ret (settled a z.locals v))) (λ v.
    meets_on b _ (performed c t m (jumped (left a v z) n) (instr l k (s.Control (Return a))) (s.Control (Return a))) _
    (meets_instr b c t m (jumped (left a v z) n) (instr l k (s.Control (Return a))) fetches behind.0)
    (return_is b c t m l k n a z v ret returns)))
    (meets_same b _ _ (sym (settled_is t l xs z.locals e (λ v. emit (done l) (ret v)) h)))))
