-- A statement without a block gives in its code what it gives in the tree.
use Rattle.std.proofs.Common.{ℕ, suc, ◌+◌, ◌≡◌, ◌≤◌, List, [], ◌∷◌, ◌++◌, Bool, ℤ, pos, Option, Some, None, refl, sym, ap, subst, ◌∙◌, slice_get, length, append_assoc, length-append, arith}
use Rattle.loom_tree.specs.Tree.{Expression, Right, Simple, let_, set, set_cell, return, Source}
use Rattle.loom_tree.specs.Tree as tree
use Rattle.loom_lang.specs.Numbers.{index_of, mutex_number, sema_number, function_number}
use Rattle.loom_lang.specs.Trace as trace
use Rattle.loom_lang.specs.Trace.{Item, Lists, Thread, Locals, Calls, made, begins, done, out, broken, emit, any, either, trap_lists, value_in, updated, expression, each_argument, at_index, writing_word, stored, effect, right, join_of, numbered}
use Rattle.loom_flow.specs.declared.code.Operand.{Operand}
use Rattle.loom_flow.specs.declared.code.Operand.TheVariants as operand
use Rattle.loom_flow.specs.declared.code.Target.TheVariants as target
use Rattle.loom_flow.specs.declared.code.CodeStep.{CodeStep}
use Rattle.loom_flow.specs.declared.code.CodeStep.TheVariants as s
use Rattle.loom_flow.specs.declared.code.Compute.TheVariants.{Discard}
use Rattle.loom_flow.specs.declared.code.Ask.TheVariants.{WriteCell, Lock, Unlock, Down, Up, Join, Print, Spawn}
use Rattle.loom_flow.specs.declared.code.Control.TheVariants.{Begin, Done, Call, Return}
use Rattle.loom_flow.specs.Flow.{Flow, resume}
use Rattle.loom_flow.specs.State.{State, jumped, named, names}
use Rattle.loom_flow.specs.FlatCode.{or_zero, array_named, operand_of, steps_to, operand_steps, argument_steps, call_steps, store_step, value_steps, set_steps, simple_steps, resume_of, instr, instrs}
use Rattle.loom_flow.proofs.Relations.{Meets, meets_itself, meets_same, meets_on, meets_emit, meets_either}
use Rattle.loom_flow.proofs.Steps.{returned, performed, meets_joined}
use Rattle.loom_flow.proofs.Sublist.{Lies}
use Rattle.loom_flow.proofs.Straight.{straight, skip, skip_append, skip_length, AllStraight, all_straight_append, Fetches, meets_instr}
use Rattle.loom_flow.proofs.Expressions.{IsNumbered, IsArray, IsKnown, left, settled}
use Rattle.loom_flow.proofs.Arguments.{AllKnown}
use Rattle.loom_flow.proofs.Statements.{steps_straight, operand_straight, arguments_straight, meets_begin, one_operand}
use Rattle.loom_flow.proofs.Simple.{CallsMeet, IsFunction, meets_call, meets_store, meets_value}
use Rattle.loom_flow.proofs.Effects.{spawn_is, meets_cell, return_is, meets_return}

-- Each name of a statement has its number.

abbrev pub IsMutex : Source → List ℕ → Type 0
IsMutex p x = (n : ℕ) × (mutex_number p x ≡ Some n)

abbrev pub IsSemaphore : Source → List ℕ → Type 0
IsSemaphore p x = (n : ℕ) × (sema_number p x ≡ Some n)

abbrev pub IsKnownRight : Source → List (List ℕ) → Right Expression → Type 0
IsKnownRight p xs (Right.value e) = IsKnown p xs e
IsKnownRight p xs (Right.call f es) = IsFunction p f × AllKnown p xs es
IsKnownRight p xs (Right.spawn f es) = IsFunction p f × AllKnown p xs es

abbrev pub IsKnownSimple : Source → List (List ℕ) → Simple Expression → Type 0
IsKnownSimple p xs (let_ x r) = IsNumbered p x (index_of x xs) × IsKnownRight p xs r
IsKnownSimple p xs (set x r) = IsNumbered p x (index_of x xs) × IsKnownRight p xs r
IsKnownSimple p xs (set_cell x i e) = IsArray p x × IsKnown p xs i × IsKnown p xs e
IsKnownSimple p xs (Simple.call f es) = IsFunction p f × AllKnown p xs es
IsKnownSimple p xs (return None) = Unit {0}
IsKnownSimple p xs (return (Some e)) = IsKnown p xs e
IsKnownSimple p xs (tree.lock x) = IsMutex p x
IsKnownSimple p xs (tree.unlock x) = IsMutex p x
IsKnownSimple p xs (tree.down x) = IsSemaphore p x
IsKnownSimple p xs (tree.up x) = IsSemaphore p x
IsKnownSimple p xs (tree.join e) = IsKnown p xs e
IsKnownSimple p xs (tree.print e) = IsKnown p xs e
IsKnownSimple p xs tree.skip = Unit {0}

-- What comes behind a statement: the next one, or the frame below.

abbrev pub Ends : Bool → (ℕ → State → Lists) → ℕ → List (List ℕ) → State → ℕ → (Locals → Lists) → Type 0
Ends b m n xs z at more = (j : ℕ) → j ≤ n → (vs : List ℤ) → length vs ≡ length z.locals → Meets b (m j (jumped (record z { locals = vs }) at)) (more (named xs vs))

abbrev pub Returns : Bool → Flow → Thread → (ℕ → State → Lists) → ℕ → State → (ℤ → Lists) → Type 0
Returns b c t m n z ret = (j : ℕ) → j ≤ n → (v : ℤ) → Meets b (emit (out z.func) (returned c t (m j) z.values v z.below)) (ret v)

-- Names are set

three_behind : {A : Type 0} (xs : List A) (x y z : A) → ((xs ++ x ∷ []) ++ y ∷ []) ++ z ∷ [] ≡ xs ++ x ∷ y ∷ z ∷ []
three_behind xs x y z = append_assoc (xs ++ x ∷ []) (y ∷ []) (z ∷ []) ∙ append_assoc xs (x ∷ []) (y ∷ z ∷ [])

three_steps : (at : ℕ) (xs : List CodeStep) (x y z : CodeStep) → skip at (((xs ++ x ∷ []) ++ y ∷ []) ++ z ∷ []) ≡ suc (suc (suc (skip at xs)))
three_steps at xs x y z = ap (skip at) (three_behind xs x y z) ∙ skip_append at xs (x ∷ y ∷ z ∷ [])

call_resumes : (at : ℕ) (xs : List CodeStep) (x : CodeStep) → at + (1 + length (xs ++ x ∷ [])) ≡ suc (skip (suc at) xs)
call_resumes at xs x = let e : skip (suc at) xs ≡ suc at + length xs = skip_length (suc at) xs in let f : length (xs ++ x ∷ []) ≡ length xs + 1 = length-append xs (x ∷ []) in omega arith

value_straight : (p : Source) (x : List ℕ) (xs : List (List ℕ)) (e : Expression) (a : Option ℕ) → AllStraight (value_steps p xs x e a ++ s.Control Done ∷ [])
value_straight p x xs e None = all_straight_append (operand_steps p xs e ++ _ ∷ []) (s.Control Done ∷ []) (all_straight_append (operand_steps p xs e) _ (operand_straight p xs e) (refl, tt)) (refl, tt)
value_straight p x xs e (Some j) = all_straight_append (steps_to p xs (target.Local j) e) (s.Control Done ∷ []) (steps_straight p xs (target.Local j) e) (refl, tt)

store_straight : (p : Source) (x : List ℕ) (a : Option ℕ) → AllStraight (store_step p x a ∷ s.Control Done ∷ [])
store_straight p x None = (refl, (refl, tt))
store_straight p x (Some j) = (refl, (refl, tt))

set_meets : (b : Bool) (c : Flow) (t : Thread) (m : ℕ → State → Lists) (n l k at : ℕ) (xs : List (List ℕ)) (z : State) (calls : Calls) (x : List ℕ) (r : Right Expression) (more : Locals → Lists)
    → ((j : ℕ) → Fetches b c t (m j)) → CallsMeet b c t m n (length z.below) calls → names (slice_get c.program.funcs z.func) ≡ xs → length xs ≤ length z.locals
    → IsNumbered t.program x (index_of x xs) → IsKnownRight t.program xs r
    → Lies c.code at (instrs l k (s.Control Begin ∷ (set_steps t.program xs x r ++ s.Control Done ∷ [])))
    → ((f : List ℕ) (es : List Expression) → r ≡ Right.call f es → resume (slice_get c.sites k) ≡ Some (at + (1 + length (call_steps t.program xs f es))))
    → Ends b m n xs z (skip at (s.Control Begin ∷ (set_steps t.program xs x r ++ s.Control Done ∷ []))) more
    → Meets b (m n (jumped z at)) (emit (begins l (named xs z.locals)) (right t calls l (named xs z.locals) r (λ v. stored t l (named xs z.locals) (value_in (named xs z.locals) x) x v (λ env. emit (done l) (more env)))))
set_meets b c t m n l k at xs z calls x (Right.value e) more fetches meets names_are h numbered_x known lies site ends =
    meets_begin b c t (m n) l k at xs z (value_steps t.program xs x e (index_of x xs) ++ s.Control Done ∷ []) _ (fetches n) names_are (value_straight t.program x xs e (index_of x xs)) lies
    (meets_value b c t (m n) l k (suc at) x xs z e more h numbered_x known (ends n (omega arith)))
set_meets b c t m n l k at xs z calls x (Right.call f es) more fetches meets names_are h numbered_x known lies site ends =
    let before : List CodeStep = argument_steps t.program xs es in
    let call : CodeStep = s.Control (Call (or_zero (function_number t.program f)) (length es)) in
    let store : CodeStep = store_step t.program x (index_of x xs) in
    meets_call b c t m n l k at xs z calls f es (store ∷ s.Control Done ∷ []) (λ v. stored t l (named xs z.locals) (value_in (named xs z.locals) x) x v (λ env. emit (done l) (more env)))
    fetches meets names_are h known.0 known.1 (store_straight t.program x (index_of x xs))
    (subst (λ steps. Lies c.code at (instrs l k (s.Control Begin ∷ steps))) (three_behind before call store (s.Control Done)) lies)
    (site f es refl ∙ ap Some (call_resumes at before call))
    (λ j le v. meets_store b c t (m j) l k (suc (skip (suc at) before)) x xs z v more h numbered_x (λ vs g.
    subst (λ i. Meets b (m j (jumped (record z { locals = vs }) i)) (more (named xs vs))) (three_steps (suc at) before call store (s.Control Done)) (ends j le vs g)))
set_meets b c t m n l k at xs z calls x (Right.spawn f es) more fetches meets names_are h numbered_x known lies site ends =
    let before : List CodeStep = argument_steps t.program xs es in
    let spawn : CodeStep = s.Ask (Spawn (or_zero (function_number t.program f)) (length es) target.Push) in
    let store : CodeStep = store_step t.program x (index_of x xs) in
    let rest : List CodeStep = before ++ spawn ∷ store ∷ s.Control Done ∷ [] in
    meets_begin b c t (m n) l k at xs z rest _ (fetches n) names_are
    (all_straight_append before (spawn ∷ store ∷ s.Control Done ∷ []) (arguments_straight t.program xs es) (refl, store_straight t.program x (index_of x xs)))
    (subst (λ steps. Lies c.code at (instrs l k (s.Control Begin ∷ steps))) (three_behind before spawn store (s.Control Done)) lies)
    (spawn_is b c t (m n) l k (suc at) xs z f es (store ∷ s.Control Done ∷ []) (λ v. stored t l (named xs z.locals) (value_in (named xs z.locals) x) x v (λ env. emit (done l) (more env)))
    h known.0 known.1
    (λ v. meets_store b c t (m n) l k (suc (skip (suc at) before)) x xs z v more h numbered_x (λ vs g.
    subst (λ i. Meets b (m n (jumped (record z { locals = vs }) i)) (more (named xs vs))) (three_steps (suc at) before spawn store (s.Control Done)) (ends n (omega arith) vs g))))

-- A step with a number, without an operand

numbered_step : (b : Bool) (c : Flow) (t : Thread) (m : State → Lists) (l k at : ℕ) (xs : List (List ℕ)) (z : State) (number : Option ℕ) (n : ℕ)
    (x : ℕ → CodeStep) (y : ℕ → Lists → Lists) (q : Lists)
    → ((i : ℕ) (next : State → Lists) (z' : State) → straight c t l k (x i ∷ []) next z' ≡ y i (next (jumped z' (suc z'.at))))
    → ((i : ℕ) (p r : Lists) → Meets b p r → Meets b (y i p) (y i r))
    → number ≡ Some n → Meets b (m (jumped z (suc (suc at)))) q
    → Meets b (straight c t l k (x (or_zero number) ∷ s.Control Done ∷ []) m (jumped z at)) (numbered number (λ i. y i (emit (done l) q)))
numbered_step b c t m l k at xs z number n x y q taken grows e ends =
    meets_on b _ (y n (emit (done l) q)) _
    (meets_on b _ (y n (emit (done l) (m (jumped z (suc (suc at)))))) _
    (meets_same b _ _ (ap {B = Lists} (λ (o : Option ℕ). straight c t l k (x (or_zero o) ∷ s.Control Done ∷ []) m (jumped z at)) e ∙ taken n (straight c t l k (s.Control Done ∷ []) m) (jumped z at)))
    (grows n _ _ (meets_emit b (done l) _ _ ends)))
    (meets_same b _ _ (ap {B = Lists} (λ o. numbered o (λ i. y i (emit (done l) q))) (sym e)))

join_is : (c : Flow) (t : Thread) (l k : ℕ) (z : State) (a : Operand) (next : State → Lists) (n : ℕ) (v : ℤ)
    → straight c t l k (s.Ask (Join a) ∷ []) next (jumped (left a v z) n) ≡ join_of t l (settled a z.locals v) (next (jumped z (suc n)))
join_is c t l k z operand.Top next n v = refl
join_is c t l k z (operand.Local j) next n v = refl
join_is c t l k z (operand.Number i) next n v = refl

print_is : (c : Flow) (t : Thread) (l k : ℕ) (z : State) (a : Operand) (next : State → Lists) (n : ℕ) (v : ℤ)
    → straight c t l k (s.Ask (Print a) ∷ []) next (jumped (left a v z) n) ≡ emit (made l (trace.print (settled a z.locals v))) (next (jumped z (suc n)))
print_is c t l k z operand.Top next n v = refl
print_is c t l k z (operand.Local j) next n v = refl
print_is c t l k z (operand.Number i) next n v = refl

-- Every statement without a block

pub simple_meets : (b : Bool) (c : Flow) (t : Thread) (m : ℕ → State → Lists) (n l k at : ℕ) (xs : List (List ℕ)) (z : State) (calls : Calls) (x : Simple Expression) (ret : ℤ → Lists) (more : Locals → Lists)
    → ((j : ℕ) → Fetches b c t (m j)) → CallsMeet b c t m n (length z.below) calls → names (slice_get c.program.funcs z.func) ≡ xs → length xs ≤ length z.locals
    → IsKnownSimple t.program xs x → Lies c.code at (instrs l k (simple_steps t.program xs x)) → resume (slice_get c.sites k) ≡ resume_of t.program xs at x
    → Returns b c t m n z ret → Ends b m n xs z (skip at (simple_steps t.program xs x)) more
    → Meets b (m n (jumped z at)) (emit (begins l (named xs z.locals)) (effect t calls l (named xs z.locals) x ret (λ env. emit (done l) (more env))))
simple_meets b c t m n l k at xs z calls (let_ x r) ret more fetches meets names_are h known lies site returns ends =
    set_meets b c t m n l k at xs z calls x r more fetches meets names_are h known.0 known.1 lies
    (λ f es e. site ∙ ap (λ r'. resume_of t.program xs at (let_ x r')) e) ends
simple_meets b c t m n l k at xs z calls (set x r) ret more fetches meets names_are h known lies site returns ends =
    set_meets b c t m n l k at xs z calls x r more fetches meets names_are h known.0 known.1 lies
    (λ f es e. site ∙ ap (λ r'. resume_of t.program xs at (set x r')) e) ends
simple_meets b c t m n l k at xs z calls (set_cell x i e) ret more fetches meets names_are h known lies site returns ends =
    let first : List CodeStep = operand_steps t.program xs i in
    let second : List CodeStep = operand_steps t.program xs e in
    let last : List CodeStep = s.Ask (WriteCell (array_named t.program x) (operand_of xs i) (operand_of xs e)) ∷ s.Control Done ∷ [] in
    meets_begin b c t (m n) l k at xs z (first ++ (second ++ last)) _ (fetches n) names_are
    (all_straight_append first (second ++ last) (operand_straight t.program xs i) (all_straight_append second last (operand_straight t.program xs e) (refl, (refl, tt)))) lies
    (meets_cell b c t (m n) l k (suc at) x xs z i e (more (named xs z.locals)) h known.0 known.1 known.2 (ends n (omega arith) z.locals refl))
simple_meets b c t m n l k at xs z calls (Simple.call f es) ret more fetches meets names_are h known lies site returns ends =
    let before : List CodeStep = argument_steps t.program xs es in
    let call : CodeStep = s.Control (Call (or_zero (function_number t.program f)) (length es)) in
    let same : (before ++ call ∷ []) ++ s.Compute Discard ∷ s.Control Done ∷ [] ≡ before ++ call ∷ s.Compute Discard ∷ s.Control Done ∷ [] = append_assoc before (call ∷ []) (s.Compute Discard ∷ s.Control Done ∷ []) in
    meets_call b c t m n l k at xs z calls f es (s.Compute Discard ∷ s.Control Done ∷ []) (λ v. emit (done l) (more (named xs z.locals)))
    fetches meets names_are h known.0 known.1 (refl, (refl, tt))
    (subst (λ steps. Lies c.code at (instrs l k (s.Control Begin ∷ steps))) same lies)
    (site ∙ ap Some (call_resumes at before call))
    (λ j le v. meets_emit b (done l) _ _
    (subst (λ i. Meets b (m j (jumped z i)) (more (named xs z.locals))) (ap (skip (suc at)) same ∙ skip_append (suc at) before (call ∷ s.Compute Discard ∷ s.Control Done ∷ [])) (ends j le z.locals refl)))
simple_meets b c t m n l k at xs z calls (return None) ret more fetches meets names_are h known lies site returns ends =
    meets_begin b c t (m n) l k at xs z [] (emit (done l) (ret (pos 0))) (fetches n) names_are tt (lies.0, tt)
    (meets_on b (m n (jumped z (suc at))) (performed c t (m n) (jumped z (suc at)) (instr l k (s.Control (Return (operand.Number (pos 0))))) (s.Control (Return (operand.Number (pos 0))))) _
    (meets_instr b c t (m n) (jumped z (suc at)) (instr l k (s.Control (Return (operand.Number (pos 0))))) (fetches n) lies.1.0)
    (return_is b c t (m n) l k (suc at) (operand.Number (pos 0)) z (pos 0) ret (returns n (omega arith))))
simple_meets b c t m n l k at xs z calls (return (Some e)) ret more fetches meets names_are h known lies site returns ends =
    meets_return b c t (m n) l k at xs z e ret (fetches n) names_are h known lies (returns n (omega arith))
simple_meets b c t m n l k at xs z calls (tree.lock x) ret more fetches meets names_are h known lies site returns ends =
    meets_begin b c t (m n) l k at xs z (s.Ask (Lock (or_zero (mutex_number t.program x))) ∷ s.Control Done ∷ []) _ (fetches n) names_are (refl, (refl, tt)) lies
    (numbered_step b c t (m n) l k (suc at) xs z (mutex_number t.program x) known.0 (λ i. s.Ask (Lock i)) (λ i q. emit (made l (trace.lock i)) q) (more (named xs z.locals))
    (λ i next z'. refl) (λ i p r q. meets_emit b _ p r q) known.1 (ends n (omega arith) z.locals refl))
simple_meets b c t m n l k at xs z calls (tree.unlock x) ret more fetches meets names_are h known lies site returns ends =
    meets_begin b c t (m n) l k at xs z (s.Ask (Unlock (or_zero (mutex_number t.program x))) ∷ s.Control Done ∷ []) _ (fetches n) names_are (refl, (refl, tt)) lies
    (numbered_step b c t (m n) l k (suc at) xs z (mutex_number t.program x) known.0 (λ i. s.Ask (Unlock i)) (λ i q. either (trap_lists t l (trace.not_held i)) (emit (made l (trace.unlock i)) q)) (more (named xs z.locals))
    (λ i next z'. refl) (λ i p r q. meets_either b _ _ _ _ (meets_itself b (trap_lists t l (trace.not_held i))) (meets_emit b _ p r q)) known.1 (ends n (omega arith) z.locals refl))
simple_meets b c t m n l k at xs z calls (tree.down x) ret more fetches meets names_are h known lies site returns ends =
    meets_begin b c t (m n) l k at xs z (s.Ask (Down (or_zero (sema_number t.program x))) ∷ s.Control Done ∷ []) _ (fetches n) names_are (refl, (refl, tt)) lies
    (numbered_step b c t (m n) l k (suc at) xs z (sema_number t.program x) known.0 (λ i. s.Ask (Down i)) (λ i q. emit (made l (trace.down i)) q) (more (named xs z.locals))
    (λ i next z'. refl) (λ i p r q. meets_emit b _ p r q) known.1 (ends n (omega arith) z.locals refl))
simple_meets b c t m n l k at xs z calls (tree.up x) ret more fetches meets names_are h known lies site returns ends =
    meets_begin b c t (m n) l k at xs z (s.Ask (Up (or_zero (sema_number t.program x))) ∷ s.Control Done ∷ []) _ (fetches n) names_are (refl, (refl, tt)) lies
    (numbered_step b c t (m n) l k (suc at) xs z (sema_number t.program x) known.0 (λ i. s.Ask (Up i)) (λ i q. either (trap_lists t l (trace.overflow i)) (emit (made l (trace.up i)) q)) (more (named xs z.locals))
    (λ i next z'. refl) (λ i p r q. meets_either b _ _ _ _ (meets_itself b (trap_lists t l (trace.overflow i))) (meets_emit b _ p r q)) known.1 (ends n (omega arith) z.locals refl))
simple_meets b c t m n l k at xs z calls (tree.join e) ret more fetches meets names_are h known lies site returns ends =
    meets_begin b c t (m n) l k at xs z (operand_steps t.program xs e ++ s.Ask (Join (operand_of xs e)) ∷ s.Control Done ∷ []) _ (fetches n) names_are
    (all_straight_append (operand_steps t.program xs e) _ (operand_straight t.program xs e) (refl, (refl, tt))) lies
    (one_operand b c t (m n) l k (suc at) xs z e (λ i. s.Ask (Join i)) (join_of t l) (more (named xs z.locals)) (join_is c t l k z) (λ v p r q. meets_joined b t l v p r q) h known (ends n (omega arith) z.locals refl))
simple_meets b c t m n l k at xs z calls (tree.print e) ret more fetches meets names_are h known lies site returns ends =
    meets_begin b c t (m n) l k at xs z (operand_steps t.program xs e ++ s.Ask (Print (operand_of xs e)) ∷ s.Control Done ∷ []) _ (fetches n) names_are
    (all_straight_append (operand_steps t.program xs e) _ (operand_straight t.program xs e) (refl, (refl, tt))) lies
    (one_operand b c t (m n) l k (suc at) xs z e (λ i. s.Ask (Print i)) (λ v q. emit (made l (trace.print v)) q) (more (named xs z.locals)) (print_is c t l k z) (λ v p r q. meets_emit b _ p r q) h known (ends n (omega arith) z.locals refl))
simple_meets b c t m n l k at xs z calls tree.skip ret more fetches meets names_are h known lies site returns ends =
    meets_begin b c t (m n) l k at xs z (s.Control Done ∷ []) _ (fetches n) names_are (refl, tt) lies (meets_emit b (done l) _ _ (ends n (omega arith) z.locals refl))
