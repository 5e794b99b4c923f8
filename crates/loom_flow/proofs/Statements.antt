-- The steps of a statement without a block give what the statement gives.
use Rattle.std.proofs.Common.{◌≤◌, ℕ, suc, ◌≡◌, List, [], ◌∷◌, ◌++◌, Bool, true, ℤ, Option, Some, None, refl, sym, ap, subst, ◌∙◌, slice_get, length}
use mathlib.Core.Path.{fun_ext}
use Rattle.loom_tree.specs.Tree.{Expression, num, var, cell, neg, inverse, bin, Source}
use Rattle.loom_lang.specs.Numbers.{index_of}
use Rattle.loom_lang.specs.Trace.{Lists, Thread, Locals, begins, done, emit, expression}
use Rattle.loom_flow.specs.declared.code.Operand.{Operand}
use Rattle.loom_flow.specs.declared.code.Operand.TheVariants as operand
use Rattle.loom_flow.specs.declared.code.Target.{Target}
use Rattle.loom_flow.specs.declared.code.Target.TheVariants as target
use Rattle.loom_flow.specs.declared.code.CodeStep.{CodeStep}
use Rattle.loom_flow.specs.declared.code.CodeStep.TheVariants as s
use Rattle.loom_flow.specs.declared.code.Control.TheVariants.{Begin, Done}
use Rattle.loom_flow.specs.Flow.{Flow}
use Rattle.loom_flow.specs.State.{State, jumped, named, names, locals_now}
use Rattle.loom_flow.specs.FlatCode.{operand_of, unless_there, variable_step, steps_to, operand_steps, argument_steps, instrs}
use Rattle.loom_flow.proofs.Relations.{Meets, meets_same, meets_on, meets_emit}
use Rattle.loom_flow.proofs.Steps.{is_straight}
use Rattle.loom_flow.proofs.Sublist.{Lies}
use Rattle.loom_flow.proofs.Straight.{straight, straight_append, skip, skip_append, AllStraight, all_straight_append, Fetches, meets_straight}
use Rattle.loom_flow.proofs.Expressions.{IsKnown, left, settled, settled_is, operand_are, steps_are}
use Rattle.loom_flow.proofs.Trees.{meets_expression}

-- Steps of expressions go on at the next instruction.

variable_straight : (p : Source) (d : Target) (x : List ℕ) (a : Option ℕ) → is_straight (variable_step p d x a) ≡ true
variable_straight p d x None = refl
variable_straight p d x (Some j) = refl

unless_straight : (a : Operand) (steps : List CodeStep) → AllStraight steps → AllStraight (unless_there a steps)
unless_straight operand.Top steps h = h
unless_straight (operand.Local j) steps h = tt
unless_straight (operand.Number n) steps h = tt

pub steps_straight : (p : Source) (xs : List (List ℕ)) (d : Target) (e : Expression) → AllStraight (steps_to p xs d e)
steps_straight p xs d (num n) = (refl, tt)
steps_straight p xs d (var x) = (variable_straight p d x (index_of x xs), tt)
steps_straight p xs d (cell x i) = all_straight_append (operand_steps p xs i) _ (unless_straight (operand_of xs i) _ (steps_straight p xs target.Push i)) (refl, tt)
steps_straight p xs d (neg a) = all_straight_append (operand_steps p xs a) _ (unless_straight (operand_of xs a) _ (steps_straight p xs target.Push a)) (refl, tt)
steps_straight p xs d (inverse a) = all_straight_append (operand_steps p xs a) _ (unless_straight (operand_of xs a) _ (steps_straight p xs target.Push a)) (refl, tt)
steps_straight p xs d (bin o a b) =
    all_straight_append (operand_steps p xs a) _ (unless_straight (operand_of xs a) _ (steps_straight p xs target.Push a))
    (all_straight_append (operand_steps p xs b) _ (unless_straight (operand_of xs b) _ (steps_straight p xs target.Push b)) (refl, tt))

pub operand_straight : (p : Source) (xs : List (List ℕ)) (e : Expression) → AllStraight (operand_steps p xs e)
operand_straight p xs e = unless_straight (operand_of xs e) _ (steps_straight p xs target.Push e)

pub arguments_straight : (p : Source) (xs : List (List ℕ)) (es : List Expression) → AllStraight (argument_steps p xs es)
arguments_straight p xs [] = tt
arguments_straight p xs (e ∷ es) = all_straight_append (steps_to p xs target.Push e) _ (steps_straight p xs target.Push e) (arguments_straight p xs es)

-- From the beginning of a statement on

pub meets_begin : (b : Bool) (c : Flow) (t : Thread) (m : State → Lists) (l k at : ℕ) (xs : List (List ℕ)) (z : State) (rest : List CodeStep) (q : Lists)
    → Fetches b c t m → names (slice_get c.program.funcs z.func) ≡ xs → AllStraight rest → Lies c.code at (instrs l k (s.Control Begin ∷ rest))
    → Meets b (straight c t l k rest m (jumped z (suc at))) q → Meets b (m (jumped z at)) (emit (begins l (named xs z.locals)) q)
meets_begin b c t m l k at xs z rest q f e a h g =
    meets_on b (m (jumped z at)) (emit (begins l (locals_now c z)) (straight c t l k rest m (jumped z (suc at)))) (emit (begins l (named xs z.locals)) q)
    (meets_straight b c t l k m (s.Control Begin ∷ rest) at (jumped z at) f (refl, a) h refl)
    (meets_on b (emit (begins l (locals_now c z)) (straight c t l k rest m (jumped z (suc at)))) (emit (begins l (locals_now c z)) q) (emit (begins l (named xs z.locals)) q)
    (meets_emit b (begins l (locals_now c z)) _ q g)
    (meets_same b _ _ (ap {B = Lists} (λ ys. emit (begins l (named ys z.locals)) q) e)))

-- One operand, a step that takes it, and the completion

pub one_operand : (b : Bool) (c : Flow) (t : Thread) (m : State → Lists) (l k at : ℕ) (xs : List (List ℕ)) (z : State) (e : Expression)
    (x : Operand → CodeStep) (y : ℤ → Lists → Lists) (q : Lists)
    → ((a : Operand) (next : State → Lists) (n : ℕ) (v : ℤ) → straight c t l k (x a ∷ []) next (jumped (left a v z) n) ≡ y (settled a z.locals v) (next (jumped z (suc n))))
    → ((v : ℤ) (p r : Lists) → Meets b p r → Meets b (y v p) (y v r))
    → length xs ≤ length z.locals → IsKnown t.program xs e
    → Meets b (m (jumped z (skip at (operand_steps t.program xs e ++ x (operand_of xs e) ∷ s.Control Done ∷ [])))) q
    → Meets b (straight c t l k (operand_steps t.program xs e ++ x (operand_of xs e) ∷ s.Control Done ∷ []) m (jumped z at))
    (expression t l (named xs z.locals) e (λ v. y v (emit (done l) q)))
one_operand b c t m l k at xs z e x y q taken grows h g ends =
    let a : Operand = operand_of xs e in
    let before : List CodeStep = operand_steps t.program xs e in
    let last : List CodeStep = x a ∷ s.Control Done ∷ [] in
    let behind : State → Lists = straight c t l k (s.Control Done ∷ []) m in
    let n : ℕ = skip at before in
    let env : Locals = named xs z.locals in
    let one : straight c t l k (before ++ last) m (jumped z at) ≡ straight c t l k before (straight c t l k last m) (jumped z at) =
    ap {B = Lists} (λ (k' : State → Lists). k' (jumped z at)) (straight_append c t l k before last m) in
    let two : straight c t l k before (straight c t l k last m) (jumped z at) ≡ expression t l env e (λ v. straight c t l k last m (jumped (left a v z) n)) =
    operand_are c t l k xs e (straight c t l k last m) z at h (steps_are c t l k xs target.Push e (straight c t l k last m) z at h g) in
    let three : expression t l env e (λ v. straight c t l k last m (jumped (left a v z) n)) ≡ expression t l env e (λ v. y (settled a z.locals v) (behind (jumped z (suc n)))) =
    ap {B = Lists} (λ (f : ℤ → Lists). expression t l env e f) (fun_ext (λ v. taken a behind n v)) in
    let four : expression t l env e (λ v. y (settled a z.locals v) (behind (jumped z (suc n)))) ≡ expression t l env e (λ v. y v (behind (jumped z (suc n)))) =
    sym (settled_is t l xs z.locals e (λ v. y v (behind (jumped z (suc n)))) h) in
    let at_end : Meets b (m (jumped z (suc (suc n)))) q = subst (λ j. Meets b (m (jumped z j)) q) (skip_append at before last) ends in
    meets_on b _ (expression t l env e (λ v. y v (behind (jumped z (suc n))))) _ (meets_same b _ _ (one ∙ two ∙ three ∙ four))
    (meets_expression b t l env e (λ v. y v (behind (jumped z (suc n)))) (λ v. y v (emit (done l) q)) (λ v.
    grows v (behind (jumped z (suc n))) (emit (done l) q) (meets_emit b (done l) (m (jumped z (suc (suc n)))) q at_end)))
