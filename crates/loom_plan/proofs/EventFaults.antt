-- What is told of events, and of orders.
use Rattle.std.proofs.Common.{ℕ, ◌≡◌, ◌⊎◌, ◌≤◌, Bool, true, false, not, List, [], ◌∷◌, map, slice_get, Option, Some, None, if◌then◌else◌, inl, inr, refl, ap, sym, subst, ◌∙◌, arith}
use Rattle.std.specs.Prelude.{◌==◌}
use Rattle.std.specs.Cmp.Lexicographic.{pointwise, same_text, other_text}
use Rattle.loom_tree.specs.Tree.{Expression, Source}
use Rattle.loom_lang.specs.Rules.{KeepsRules}
use Rattle.loom_command.specs.Filter.{LineEvent, OrderStep}
use Rattle.loom_law.specs.FilterRefusal.{names_only, HasStatement, AreLocalsAt, IsForeign, HasEventFault, HasEventFaults}
use Rattle.loom_law.proofs.Holdings.{pick}
use Rattle.loom_plan.specs.Statements.{function_on}
use Rattle.loom_plan.specs.Fault.{is_foreign, locals_if, lesser, test_fault, event_fault, behind_steps}
use Rattle.loom_plan.proofs.Least.{TellsLeast, same_numbers, in_either, that_number, no_number}
use Rattle.loom_plan.proofs.Lines.{TellsFunction, function_told}

-- Tests

pub foreign_told : (xs : List (List ℕ)) (t : Option Expression) → IsForeign xs t → is_foreign xs t ≡ true
foreign_told xs None h = absurd h
foreign_told xs (Some e) h = ap not h

pub foreign_found : (xs : List (List ℕ)) (t : Option Expression) → is_foreign xs t ≡ true → IsForeign xs t
foreign_found xs None h = cc
foreign_found xs (Some e) h = no (names_only xs e) h
  where
    no : (b : Bool) → not b ≡ true → b ≡ false
    no true h = cc
    no false h = refl

pub foreign_tells : (xs : List (List ℕ)) (t : Option Expression) → TellsLeast (λ n. (n ≡ 4) × IsForeign xs t) (if is_foreign xs t then Some 4 else None)
foreign_tells xs t =
    pick (TellsLeast (λ n. (n ≡ 4) × IsForeign xs t)) (is_foreign xs t) (Some 4) None
    (λ e. that_number 4 (IsForeign xs t) (foreign_found xs t e))
    (λ e. no_number 4 (IsForeign xs t) (λ h. let k = foreign_told xs t h in cc))

-- Events

abbrev IsForeignAt : Source → LineEvent → Type 0
IsForeignAt p x = (xs : List (List ℕ)) × (AreLocalsAt p x.line xs × IsForeign xs x.test)

-- the locals of the one function in which a statement begins on the line
one_locals : (p : Source) (l g : ℕ) → TellsFunction p l (Some g) → (xs : List (List ℕ)) → AreLocalsAt p l xs → xs ≡ locals_if (slice_get p.funcs g)
one_locals p l g h xs (inl k) =
    let e : k.0 ≡ g = h.1 k.0 k.1.1.1.0 in
    let is : slice_get p.funcs g ≡ Some k.1.0 = subst (λ z. slice_get p.funcs z ≡ Some k.1.0) e k.1.1.0 in
    k.1.1.1.1 ∙ ap locals_if (sym is)
one_locals p l g h xs (inr k) = absurd (k.0 g h.0)

locals_there : (p : Source) (l g : ℕ) → HasStatement p l g → AreLocalsAt p l (locals_if (slice_get p.funcs g))
locals_there p l g h =
    let f = h.1.function in
    inl (g, (f, (h.1.is, (h, ap locals_if h.1.is))))

test_tells : (p : Source) (x : LineEvent) (g : ℕ) → TellsFunction p x.line (Some g)
    → TellsLeast (λ n. (n ≡ 4) × IsForeignAt p x) (if is_foreign (locals_if (slice_get p.funcs g)) x.test then Some 4 else None)
test_tells p x g h =
    let locals : List (List ℕ) = locals_if (slice_get p.funcs g) in
    same_numbers (λ n. (n ≡ 4) × IsForeign locals x.test) (λ n. (n ≡ 4) × IsForeignAt p x)
    (λ n k. (k.0, (locals, (locals_there p x.line g h.0, k.1))))
    (λ n k. (k.0, subst (λ z. IsForeign z x.test) (one_locals p x.line g h k.1.0 k.1.1.0) k.1.1.1))
    (if is_foreign locals x.test then Some 4 else None) (foreign_tells locals x.test)

pub event_tells : (p : Source) (file : List ℕ) (x : LineEvent) (o : Option ℕ) → TellsFunction p x.line o → TellsLeast (HasEventFault p file x) (event_fault p file x o)
event_tells p file x o h =
    pick (TellsLeast (HasEventFault p file x)) (pointwise ◌==◌ x.file file) (test_fault p o x.test) (Some 2)
    (λ e. here (same_text x.file file (sym e)) o h)
    (λ e. (inl (refl, other_text x.file file (sym e)), λ m k. least m k))
  where
    least : (m : ℕ) → HasEventFault p file x m → 2 ≤ m
    least m (inl k) = let e = k.0 in omega (arith, e)
    least m (inr (inl k)) = let e = k.0 in omega (arith, e)
    least m (inr (inr k)) = let e = k.0 in omega (arith, e)

    here : x.file ≡ file → (o : Option ℕ) → TellsFunction p x.line o → TellsLeast (HasEventFault p file x) (test_fault p o x.test)
    here s None h = (inr (inl (refl, (s, h))), λ m k. later m k)
      where
        later : (m : ℕ) → HasEventFault p file x m → 3 ≤ m
        later m (inl k) = absurd (k.1 s)
        later m (inr (inl k)) = let e = k.0 in omega (arith, e)
        later m (inr (inr k)) = let e = k.0 in omega (arith, e)
    here s (Some g) h =
        same_numbers (λ n. (n ≡ 4) × IsForeignAt p x) (HasEventFault p file x) (λ n k. inr (inr k)) (λ n k. only n k)
        (if is_foreign (locals_if (slice_get p.funcs g)) x.test then Some 4 else None) (test_tells p x g h)
      where
        only : (n : ℕ) → HasEventFault p file x n → (n ≡ 4) × IsForeignAt p x
        only n (inl k) = absurd (k.1 s)
        only n (inr (inl k)) = absurd (k.1.1 g h.0)
        only n (inr (inr k)) = k

-- one thing more at the front of a list
pub put_left : {A B C : Type 0} → (A ⊎ B) ⊎ C → A ⊎ (B ⊎ C)
put_left (inl (inl a)) = inl a
put_left (inl (inr b)) = inr (inl b)
put_left (inr c) = inr (inr c)

pub put_right : {A B C : Type 0} → A ⊎ (B ⊎ C) → (A ⊎ B) ⊎ C
put_right (inl a) = inl (inl a)
put_right (inr (inl b)) = inl (inr b)
put_right (inr (inr c)) = inr c

pub left_alone : {A : Type 0} → A ⊎ ⊥ → A
left_alone (inl a) = a
left_alone (inr b) = absurd b

pub right_alone : {A : Type 0} → ⊥ ⊎ A → A
right_alone (inl b) = absurd b
right_alone (inr a) = a

steps_tell : (p : Source) (file : List ℕ) → KeepsRules p → (ss : List OrderStep) (Q : ℕ → Type 0) (least : Option ℕ) → TellsLeast Q least
    → TellsLeast (λ n. Q n ⊎ HasEventFaults p file (map (λ (s : OrderStep). s.event) ss) n) (behind_steps p file least ss)
steps_tell p file rules [] Q least h = same_numbers Q (λ n. Q n ⊎ ⊥) (λ n k. inl k) (λ n k. left_alone k) least h
steps_tell p file rules (s ∷ ss) Q least h =
    let own : ℕ → Type 0 = HasEventFault p file s.event in
    let others : ℕ → Type 0 = HasEventFaults p file (map (λ (t : OrderStep). t.event) ss) in
    let fault : Option ℕ = event_fault p file s.event (function_on p s.event.line) in
    let told = in_either Q own least fault h (event_tells p file s.event _ (function_told p s.event.line rules)) in
    same_numbers (λ n. (Q n ⊎ own n) ⊎ others n) (λ n. Q n ⊎ (own n ⊎ others n)) (λ n k. put_left k) (λ n k. put_right k)
    (behind_steps p file (lesser least fault) ss) (steps_tell p file rules ss (λ n. Q n ⊎ own n) (lesser least fault) told)

pub order_tells : (p : Source) (file : List ℕ) → KeepsRules p → (ss : List OrderStep)
    → TellsLeast (HasEventFaults p file (map (λ (s : OrderStep). s.event) ss)) (behind_steps p file None ss)
order_tells p file rules ss =
    let all : ℕ → Type 0 = HasEventFaults p file (map (λ (t : OrderStep). t.event) ss) in
    same_numbers (λ n. ⊥ ⊎ all n) all (λ n k. right_alone k) (λ n k. inr k) (behind_steps p file None ss)
    (steps_tell p file rules ss (λ n. ⊥) None (λ n k. k))
