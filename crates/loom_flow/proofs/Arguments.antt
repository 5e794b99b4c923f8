-- The steps of arguments put their values on top, the last one first.
use Rattle.std.proofs.Common.{◌≤◌, ℕ, ◌≡◌, List, [], ◌∷◌, ◌++◌, ℤ, refl, sym, ap, ◌∙◌, length, reverse, take, drop, append_assoc}
use Rattle.std.proofs.lemmas.List.{length-reverse, reverse-append, reverse-reverse}
use Rattle.std.proofs.Math.Seq.{take-append_seam, drop-append_seam}
use mathlib.Core.Path.{fun_ext}
use Rattle.loom_tree.specs.Tree.{Expression, Source}
use Rattle.loom_lang.specs.Trace.{Lists, Thread, Locals, expression, each_argument}
use Rattle.loom_flow.specs.declared.code.Target.TheVariants as target
use Rattle.loom_flow.specs.declared.code.CodeStep.{CodeStep}
use Rattle.loom_flow.specs.Flow.{Flow}
use Rattle.loom_flow.specs.State.{State, given, jumped, named}
use Rattle.loom_flow.specs.FlatCode.{steps_to, argument_steps}
use Rattle.loom_flow.proofs.Straight.{straight, straight_append, skip, skip_append}
use Rattle.loom_flow.proofs.Expressions.{IsKnown, steps_are}

abbrev pub AllKnown : Source → List (List ℕ) → List Expression → Type 0
AllKnown p xs [] = Unit {0}
AllKnown p xs (e ∷ es) = IsKnown p xs e × AllKnown p xs es

-- with values put on top
abbrev pub topped : List ℤ → State → State
topped vs z = record z { values = reverse vs ++ z.values }

twice : (v : ℤ) (vs ws : List ℤ) → reverse vs ++ (v ∷ ws) ≡ reverse (v ∷ vs) ++ ws
twice v vs ws = sym (ap (λ us. us ++ ws) (reverse-append (v ∷ []) vs) ∙ append_assoc (reverse vs) (v ∷ []) ws)

pub arguments_are : (c : Flow) (t : Thread) (l k : ℕ) (xs : List (List ℕ)) (es : List Expression) (next : State → Lists) (z : State) (at : ℕ)
    → length xs ≤ length z.locals → AllKnown t.program xs es
    → straight c t l k (argument_steps t.program xs es) next (jumped z at)
    ≡ each_argument t l (named xs z.locals) es (λ vs. next (jumped (topped vs z) (skip at (argument_steps t.program xs es))))
arguments_are c t l k xs [] next z at h g = refl
arguments_are c t l k xs (e ∷ es) next z at h g =
    let env : Locals = named xs z.locals in
    let first : List CodeStep = steps_to t.program xs target.Push e in
    let rest : List CodeStep = argument_steps t.program xs es in
    let one : ℕ = skip at first in
    ap {B = Lists} (λ (m : State → Lists). m (jumped z at)) (straight_append c t l k first rest next)
    ∙ steps_are c t l k xs target.Push e (straight c t l k rest next) z at h g.0
    ∙ ap {B = Lists} (λ (m : ℤ → Lists). expression t l env e m) (fun_ext (λ v.
    arguments_are c t l k xs es next (given z target.Push v) one h g.1
    ∙ ap {B = Lists} (λ (m : List ℤ → Lists). each_argument t l env es m) (fun_ext (λ vs. ap {B = Lists} (λ ws. next (jumped (record z { values = ws }) (skip one rest))) (twice v vs z.values)))))
    ∙ ap {B = Lists} (λ n. expression t l env e (λ v. each_argument t l env es (λ vs. next (jumped (topped (v ∷ vs) z) n)))) (sym (skip_append at first rest))

-- a call takes them off

pub taken_arguments : (n : ℕ) (vs ws : List ℤ) → length vs ≡ n → reverse (take n (reverse vs ++ ws)) ≡ vs
taken_arguments n vs ws h =
    ap (λ k. reverse (take k (reverse vs ++ ws))) (sym (length-reverse vs ∙ h)) ∙ ap reverse (take-append_seam (reverse vs) ws) ∙ reverse-reverse vs

pub left_arguments : (n : ℕ) (vs ws : List ℤ) → length vs ≡ n → drop n (reverse vs ++ ws) ≡ ws
left_arguments n vs ws h = ap (λ k. drop k (reverse vs ++ ws)) (sym (length-reverse vs ∙ h)) ∙ drop-append_seam (reverse vs) ws
