-- A statement without a block: what its code gives, and what it gives in the tree.
use Rattle.std.proofs.Common.{ℕ, suc, ◌≡◌, ◌≤◌, List, [], ◌∷◌, ◌++◌, Bool, ℤ, Option, Some, None, refl, sym, ap, subst, ◌∙◌, slice_get, length, reverse, take, append_assoc}
use Rattle.loom_tree.specs.Tree.{Expression, Source}
use Rattle.loom_lang.specs.Numbers.{index_of, Cells, cells_named, function_number}
use Rattle.loom_lang.specs.Trace as trace
use Rattle.loom_lang.specs.Trace.{Item, Lists, Thread, Locals, Calls, made, begins, done, out, broken, emit, any, either, trap_lists, value_in, updated, expression, each_argument, at_index, writing_word, stored, effect, right, join_of, numbered}
use Rattle.loom_flow.specs.declared.code.Operand.{Operand}
use Rattle.loom_flow.specs.declared.code.Operand.TheVariants as operand
use Rattle.loom_flow.specs.declared.code.Target.TheVariants as target
use Rattle.loom_flow.specs.declared.code.CodeStep.{CodeStep}
use Rattle.loom_flow.specs.declared.code.CodeStep.TheVariants as s
use Rattle.loom_flow.specs.declared.code.Ask.TheVariants.{Write}
use Rattle.loom_flow.specs.declared.code.Control.TheVariants.{Begin, Done, Call}
use Rattle.loom_flow.specs.declared.code.Instr.{Instr}
use Rattle.loom_flow.specs.Flow.{Flow, resume, return_point}
use Rattle.loom_flow.specs.State.{State, put_at, given, jumped, named, names}
use Rattle.loom_flow.specs.FlatCode.{or_zero, first_cell, word_named, operand_of, steps_to, operand_steps, argument_steps, store_step, value_steps, instr, instrs}
use Rattle.loom_flow.proofs.Relations.{Meets, meets_itself, meets_same, meets_on, meets_emit}
use Rattle.loom_flow.proofs.Steps.{performed, called, call_gives}
use Rattle.loom_flow.proofs.Sublist.{Lies}
use Rattle.loom_flow.proofs.Locals.{local_value, value_named, put_by, updated_named, put_length}
use Rattle.loom_flow.proofs.Straight.{straight, straight_append, skip, skip_append, AllStraight, Fetches, meets_straight, meets_instr, lies_front, lies_rest}
use Rattle.loom_flow.proofs.Expressions.{IsNumbered, IsKnown, left, settled, steps_are}
use Rattle.loom_flow.proofs.Trees.{meets_expression, meets_arguments}
use Rattle.loom_flow.proofs.Arguments.{AllKnown, topped, arguments_are, taken_arguments, left_arguments}
use Rattle.loom_flow.proofs.Statements.{arguments_straight, meets_begin, one_operand}

-- Calls

-- behind the result of a call
abbrev pub resumed : Flow → State → Instr → ℤ → State
resumed c z i v = record { at = return_point c (resume (slice_get c.sites i.place)); values = v ∷ z.values; func = z.func; locals = z.locals; below = z.below }

-- Calls of the code and calls of the tree meet, in frames with so many below them.
abbrev pub CallsMeet : Bool → Flow → Thread → (ℕ → State → Lists) → ℕ → ℕ → Calls → Type 1
CallsMeet b c t m n depth calls = (z : State) (i : Instr) (f : ℕ) (vs : List ℤ) (more : ℤ → Lists) → length z.below ≡ depth
    → ((j : ℕ) → j ≤ n → (v : ℤ) → Meets b (m j (resumed c z i v)) (more v)) → Meets b (called c t (m n) z i f vs) (calls i.line f vs more)

-- a function's number
abbrev pub IsFunction : Source → List ℕ → Type 0
IsFunction p f = (n : ℕ) × (function_number p f ≡ Some n)

-- a call's steps, and others behind it
pub meets_call : (b : Bool) (c : Flow) (t : Thread) (m : ℕ → State → Lists) (n l k at : ℕ) (xs : List (List ℕ)) (z : State) (calls : Calls) (f : List ℕ) (es : List Expression) (rest : List CodeStep) (more : ℤ → Lists)
    → ((j : ℕ) → Fetches b c t (m j)) → CallsMeet b c t m n (length z.below) calls → names (slice_get c.program.funcs z.func) ≡ xs
    → length xs ≤ length z.locals → IsFunction t.program f → AllKnown t.program xs es → AllStraight rest
    → Lies c.code at (instrs l k (s.Control Begin ∷ (argument_steps t.program xs es ++ s.Control (Call (or_zero (function_number t.program f)) (length es)) ∷ rest)))
    → resume (slice_get c.sites k) ≡ Some (suc (skip (suc at) (argument_steps t.program xs es)))
    → ((j : ℕ) → j ≤ n → (v : ℤ) → Meets b (straight c t l k rest (m j) (jumped (record z { values = v ∷ z.values }) (suc (skip (suc at) (argument_steps t.program xs es))))) (more v))
    → Meets b (m n (jumped z at))
    (emit (begins l (named xs z.locals)) (each_argument t l (named xs z.locals) es (λ vs. numbered (function_number t.program f) (λ g. calls l g vs more))))
meets_call b c t m n l k at xs z calls f es rest more fetches meets names_are h function known all lies site goes_on =
    let env : Locals = named xs z.locals in
    let before : List CodeStep = argument_steps t.program xs es in
    let g : ℕ = or_zero (function_number t.program f) in
    let x : CodeStep = s.Control (Call g (length es)) in
    let a : ℕ = skip (suc at) before in
    let behind : Lies c.code a (instrs l k (x ∷ rest)) = lies_rest c l k at (s.Control Begin ∷ before) (x ∷ rest) lies in
    let is_called : ℤ → Lists = more in
    let found : g ≡ function.0 = ap or_zero function.1 in
    let at_call : (vs : List ℤ) → length vs ≡ length es → Meets b (m n (jumped (topped vs z) a)) (numbered (function_number t.program f) (λ g'. calls l g' vs more)) = λ vs e.
    meets_on b (m n (jumped (topped vs z) a)) (performed c t (m n) (jumped (topped vs z) a) (instr l k x) x) _
    (meets_instr b c t (m n) (jumped (topped vs z) a) (instr l k x) (fetches n) behind.0)
    (meets_on b (performed c t (m n) (jumped (topped vs z) a) (instr l k x) x) (called c t (m n) (jumped z a) (instr l k x) function.0 vs) _
    (meets_same b _ _ (
    call_gives c t (m n) (jumped (topped vs z) a) (instr l k x) g (length es)
    ∙ ap {B = Lists} (λ ws. called c t (m n) (record (jumped z a) { values = ws }) (instr l k x) g (reverse (take (length es) (reverse vs ++ z.values)))) (left_arguments (length es) vs z.values e)
    ∙ ap {B = Lists} (λ us. called c t (m n) (jumped z a) (instr l k x) g us) (taken_arguments (length es) vs z.values e)
    ∙ ap {B = Lists} (λ (g' : ℕ). called c t (m n) (jumped z a) (instr l k x) g' vs) found))
    (meets_on b (called c t (m n) (jumped z a) (instr l k x) function.0 vs) (calls l function.0 vs more) _
    (meets (jumped z a) (instr l k x) function.0 vs more refl (λ j le v.
    subst (λ d. Meets b (m j (record { at = d; values = v ∷ z.values; func = z.func; locals = z.locals; below = z.below })) (more v)) (sym (ap (return_point c) site))
    (meets_on b (m j (jumped (record z { values = v ∷ z.values }) (suc a))) (straight c t l k rest (m j) (jumped (record z { values = v ∷ z.values }) (suc a))) (more v)
    (meets_straight b c t l k (m j) rest (suc a) (jumped (record z { values = v ∷ z.values }) (suc a)) (fetches j) all behind.1 refl)
    (goes_on j le v))))
    (meets_same b _ _ (ap {B = Lists} (λ o. numbered o (λ g'. calls l g' vs more)) (sym function.1))))) in
    meets_begin b c t (m n) l k at xs z before (each_argument t l env es (λ vs. numbered (function_number t.program f) (λ g'. calls l g' vs more)))
    (fetches n) names_are (arguments_straight t.program xs es) (lies_front c l k at (s.Control Begin ∷ before) (x ∷ rest) lies)
    (meets_on b _ (each_argument t l env es (λ vs. m n (jumped (topped vs z) a))) _
    (meets_same b _ _ (arguments_are c t l k xs es (m n) z (suc at) h known))
    (meets_arguments b t l env es (λ vs. m n (jumped (topped vs z) a)) (λ vs. numbered (function_number t.program f) (λ g'. calls l g' vs more)) at_call))

-- What is on top is written

meets_writing : (b : Bool) (l : ℕ) (d : Option Cells) (v : ℤ) (m n : Lists) → Meets b m n → Meets b (writing_word l d v m) (writing_word l d v n)
meets_writing b l None v m n f = meets_itself b broken
meets_writing b l (Some d) v m n f = meets_emit b _ m n f

store_is : (b : Bool) (c : Flow) (t : Thread) (m : State → Lists) (l k n : ℕ) (x : List ℕ) (xs : List (List ℕ)) (z : State) (v : ℤ) (more : Locals → Lists) (a : Option ℕ)
    → index_of x xs ≡ a → IsNumbered t.program x a
    → ((vs : List ℤ) → length vs ≡ length z.locals → Meets b (m (jumped (record z { locals = vs }) (suc (suc n)))) (more (named xs vs)))
    → Meets b (straight c t l k (store_step t.program x a ∷ s.Control Done ∷ []) m (jumped (record z { values = v ∷ z.values }) n))
    (stored t l (named xs z.locals) (local_value z.locals a) x v (λ env. emit (done l) (more env)))
store_is b c t m l k n x xs z v more None e known ends =
    meets_on b _ (writing_word l (cells_named t.program x) v (emit (done l) (m (jumped z (suc (suc n)))))) _
    (meets_same b _ _ (
    ap {B = Lists} (λ cells. emit (made l (trace.write (first_cell cells) v)) (emit (done l) (m (jumped z (suc (suc n)))))) known.1
    ∙ ap {B = Lists} (λ cells. writing_word l cells v (emit (done l) (m (jumped z (suc (suc n)))))) (sym known.1)))
    (meets_writing b l (cells_named t.program x) v _ _ (meets_emit b (done l) _ _ (ends z.locals refl)))
store_is b c t m l k n x xs z v more (Some j) e known ends =
    meets_on b _ (emit (done l) (more (named xs (put_at j v z.locals)))) _
    (meets_emit b (done l) _ _ (ends (put_at j v z.locals) (put_length j v z.locals)))
    (meets_same b _ _ (ap {B = Lists} (λ env. emit (done l) (more env)) (sym (updated_named xs z.locals x v ∙ ap (λ o. named xs (put_by o v z.locals)) e))))

-- with the value found by its name
pub meets_store : (b : Bool) (c : Flow) (t : Thread) (m : State → Lists) (l k n : ℕ) (x : List ℕ) (xs : List (List ℕ)) (z : State) (v : ℤ) (more : Locals → Lists)
    → length xs ≤ length z.locals → IsNumbered t.program x (index_of x xs)
    → ((vs : List ℤ) → length vs ≡ length z.locals → Meets b (m (jumped (record z { locals = vs }) (suc (suc n)))) (more (named xs vs)))
    → Meets b (straight c t l k (store_step t.program x (index_of x xs) ∷ s.Control Done ∷ []) m (jumped (record z { values = v ∷ z.values }) n))
    (stored t l (named xs z.locals) (value_in (named xs z.locals) x) x v (λ env. emit (done l) (more env)))
meets_store b c t m l k n x xs z v more h known ends =
    meets_on b _ (stored t l (named xs z.locals) (local_value z.locals (index_of x xs)) x v (λ env. emit (done l) (more env))) _
    (store_is b c t m l k n x xs z v more (index_of x xs) refl known ends)
    (meets_same b _ _ (ap {B = Lists} (λ o. stored t l (named xs z.locals) o x v (λ env. emit (done l) (more env))) (sym (value_named xs z.locals x h))))

-- Values

write_is : (c : Flow) (t : Thread) (l k : ℕ) (x : List ℕ) (d : Cells) (a : Operand) (next : State → Lists) (z : State) (n : ℕ) (v : ℤ) → cells_named t.program x ≡ Some d
    → straight c t l k (s.Ask (Write (word_named t.program x) a) ∷ []) next (jumped (left a v z) n) ≡ writing_word l (cells_named t.program x) (settled a z.locals v) (next (jumped z (suc n)))
write_is c t l k x d a next z n v e =
    ap {B = Lists} (λ cells. straight c t l k (s.Ask (Write (first_cell cells) a) ∷ []) next (jumped (left a v z) n)) e
    ∙ by a
    ∙ ap {B = Lists} (λ cells. writing_word l cells (settled a z.locals v) (next (jumped z (suc n)))) (sym e)
  where
    by : (a' : Operand) → straight c t l k (s.Ask (Write d.first a') ∷ []) next (jumped (left a' v z) n) ≡ writing_word l (Some d) (settled a' z.locals v) (next (jumped z (suc n)))
    by operand.Top = refl
    by (operand.Local j) = refl
    by (operand.Number i) = refl

-- where a local, or a word, is set to an expression's value
value_is : (b : Bool) (c : Flow) (t : Thread) (m : State → Lists) (l k at : ℕ) (x : List ℕ) (xs : List (List ℕ)) (z : State) (e : Expression) (more : Locals → Lists) (a : Option ℕ)
    → index_of x xs ≡ a → length xs ≤ length z.locals → IsNumbered t.program x a → IsKnown t.program xs e
    → ((vs : List ℤ) → length vs ≡ length z.locals → Meets b (m (jumped (record z { locals = vs }) (skip at (value_steps t.program xs x e a ++ s.Control Done ∷ [])))) (more (named xs vs)))
    → Meets b (straight c t l k (value_steps t.program xs x e a ++ s.Control Done ∷ []) m (jumped z at))
    (expression t l (named xs z.locals) e (λ v. stored t l (named xs z.locals) (local_value z.locals a) x v (λ env. emit (done l) (more env))))
value_is b c t m l k at x xs z e more None f h known g ends =
    let before : List CodeStep = operand_steps t.program xs e in
    let x' : Operand → CodeStep = λ a. s.Ask (Write (word_named t.program x) a) in
    let last : List CodeStep = x' (operand_of xs e) ∷ [] in
    let env : Locals = named xs z.locals in
    let same : (before ++ last) ++ s.Control Done ∷ [] ≡ before ++ (last ++ s.Control Done ∷ []) = append_assoc before last (s.Control Done ∷ []) in
    let end : Meets b (m (jumped z (skip at (before ++ (last ++ s.Control Done ∷ []))))) (more env) = subst (λ steps. Meets b (m (jumped z (skip at steps))) (more env)) same (ends z.locals refl) in
    let all : Meets b (straight c t l k (before ++ (last ++ s.Control Done ∷ [])) m (jumped z at)) (expression t l env e (λ v. writing_word l (cells_named t.program x) v (emit (done l) (more env)))) =
    one_operand b c t m l k at xs z e x' (λ v q. writing_word l (cells_named t.program x) v q) (more env)
    (λ a next n v. write_is c t l k x known.0 a next z n v known.1) (λ v p r q. meets_writing b l (cells_named t.program x) v p r q) h g end in
    subst (λ steps. Meets b (straight c t l k steps m (jumped z at)) (expression t l env e (λ v. writing_word l (cells_named t.program x) v (emit (done l) (more env))))) (sym same) all
value_is b c t m l k at x xs z e more (Some j) f h known g ends =
    let before : List CodeStep = steps_to t.program xs (target.Local j) e in
    let env : Locals = named xs z.locals in
    let n : ℕ = skip at before in
    meets_on b _ (expression t l env e (λ v. emit (done l) (m (jumped (given z (target.Local j) v) (suc n))))) _
    (meets_same b _ _ (
    ap {B = Lists} (λ (k' : State → Lists). k' (jumped z at)) (straight_append c t l k before (s.Control Done ∷ []) m)
    ∙ steps_are c t l k xs (target.Local j) e (straight c t l k (s.Control Done ∷ []) m) z at h g))
    (meets_expression b t l env e (λ v. emit (done l) (m (jumped (given z (target.Local j) v) (suc n)))) (λ v. emit (done l) (more (updated env x v))) (λ v.
    meets_emit b (done l) _ _
    (meets_on b _ (more (named xs (put_at j v z.locals))) _
    (subst (λ i. Meets b (m (jumped (given z (target.Local j) v) i)) (more (named xs (put_at j v z.locals)))) (skip_append at before (s.Control Done ∷ [])) (ends (put_at j v z.locals) (put_length j v z.locals)))
    (meets_same b _ _ (ap {B = Lists} more (sym (updated_named xs z.locals x v ∙ ap (λ o. named xs (put_by o v z.locals)) f)))))))

pub meets_value : (b : Bool) (c : Flow) (t : Thread) (m : State → Lists) (l k at : ℕ) (x : List ℕ) (xs : List (List ℕ)) (z : State) (e : Expression) (more : Locals → Lists)
    → length xs ≤ length z.locals → IsNumbered t.program x (index_of x xs) → IsKnown t.program xs e
    → ((vs : List ℤ) → length vs ≡ length z.locals → Meets b (m (jumped (record z { locals = vs }) (skip at (value_steps t.program xs x e (index_of x xs) ++ s.Control Done ∷ [])))) (more (named xs vs)))
    → Meets b (straight c t l k (value_steps t.program xs x e (index_of x xs) ++ s.Control Done ∷ []) m (jumped z at))
    (expression t l (named xs z.locals) e (λ v. stored t l (named xs z.locals) (value_in (named xs z.locals) x) x v (λ env. emit (done l) (more env))))
meets_value b c t m l k at x xs z e more h known g ends =
    meets_on b _ (expression t l (named xs z.locals) e (λ v. stored t l (named xs z.locals) (local_value z.locals (index_of x xs)) x v (λ env. emit (done l) (more env)))) _
    (value_is b c t m l k at x xs z e more (index_of x xs) refl h known g ends)
    (meets_same b _ _ (ap {B = Lists} (λ o. expression t l (named xs z.locals) e (λ v. stored t l (named xs z.locals) o x v (λ env. emit (done l) (more env)))) (sym (value_named xs z.locals x h))))
