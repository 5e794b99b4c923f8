-- Instructions one behind another.
use Rattle.std.proofs.Common.{ℕ, suc, ◌+◌, ◌≡◌, List, [], ◌∷◌, ◌++◌, Bool, true, Some, refl, ap, ◌∙◌, slice_get, length, arith}
use Rattle.loom_lang.specs.Trace.{Lists, Thread}
use Rattle.loom_flow.specs.declared.code.CodeStep.{CodeStep}
use Rattle.loom_flow.specs.declared.code.Instr.{Instr}
use Rattle.loom_flow.specs.Flow.{Flow}
use Rattle.loom_flow.specs.State.{State}
use Rattle.loom_flow.specs.FlatCode.{instr, instrs}
use Rattle.loom_flow.proofs.Relations.{Meets, meets_itself, meets_on, meets_same}
use Rattle.loom_flow.proofs.Steps.{performed, fetched, is_straight, meets_performed}
use Rattle.loom_flow.proofs.Sublist.{Lies}

-- what the steps give, where the last one's next state gives that
abbrev pub straight : Flow → Thread → ℕ → ℕ → List CodeStep → (State → Lists) → State → Lists
straight c t l k [] next = next
straight c t l k (x ∷ xs) next = λ z. performed c t (straight c t l k xs next) z (instr l k x) x

pub straight_append : (c : Flow) (t : Thread) (l k : ℕ) (xs ys : List CodeStep) (next : State → Lists) → straight c t l k (xs ++ ys) next ≡ straight c t l k xs (straight c t l k ys next)
straight_append c t l k [] ys next = refl
straight_append c t l k (x ∷ xs) ys next = ap {B = State → Lists} (λ (m : State → Lists) (z : State). performed c t m z (instr l k x) x) (straight_append c t l k xs ys next)

-- the number behind so many instructions
abbrev pub skip : ℕ → List CodeStep → ℕ
skip at [] = at
skip at (x ∷ xs) = skip (suc at) xs

pub skip_append : (at : ℕ) (xs ys : List CodeStep) → skip at (xs ++ ys) ≡ skip (skip at xs) ys
skip_append at [] ys = refl
skip_append at (x ∷ xs) ys = skip_append (suc at) xs ys

pub skip_length : (at : ℕ) (xs : List CodeStep) → skip at xs ≡ at + length xs
skip_length at [] = omega arith
skip_length at (x ∷ xs) = skip_length (suc at) xs ∙ omega arith

abbrev pub AllStraight : List CodeStep → Type 0
AllStraight [] = Unit {0}
AllStraight (x ∷ xs) = (is_straight x ≡ true) × AllStraight xs

pub all_straight_append : (xs ys : List CodeStep) → AllStraight xs → AllStraight ys → AllStraight (xs ++ ys)
all_straight_append [] ys h g = g
all_straight_append (x ∷ xs) ys h g = (h.0, all_straight_append xs ys h.1 g)

-- What a state gives meets what its next instruction gives.
abbrev pub Fetches : Bool → Flow → Thread → (State → Lists) → Type 0
Fetches b c t m = (z : State) → Meets b (m z) (fetched c t m z (slice_get c.code z.at))

-- at an instruction
pub meets_instr : (b : Bool) (c : Flow) (t : Thread) (m : State → Lists) (z : State) (i : Instr) → Fetches b c t m → slice_get c.code z.at ≡ Some i → Meets b (m z) (performed c t m z i i.step)
meets_instr b c t m z i f e = meets_on b (m z) (fetched c t m z (slice_get c.code z.at)) (performed c t m z i i.step) (f z) (meets_same b _ _ (ap (fetched c t m z) e))

pub meets_straight : (b : Bool) (c : Flow) (t : Thread) (l k : ℕ) (m : State → Lists) (xs : List CodeStep) (at : ℕ) (z : State)
    → Fetches b c t m → AllStraight xs → Lies c.code at (instrs l k xs) → z.at ≡ at → Meets b (m z) (straight c t l k xs m z)
meets_straight b c t l k m [] at z f s h e = meets_itself b (m z)
meets_straight b c t l k m (x ∷ xs) at z f s h e =
    meets_on b (m z) (performed c t m z (instr l k x) x) (performed c t (straight c t l k xs m) z (instr l k x) x)
    (meets_instr b c t m z (instr l k x) f (ap (slice_get c.code) e ∙ h.0))
    (meets_performed b c t m (straight c t l k xs m) z (instr l k x) x s.0 (λ y g. meets_straight b c t l k m xs (suc at) y f s.1 h.1 (g ∙ ap suc e)))

-- the same of what one step gives in place of the state
pub meets_steps : (b : Bool) (c : Flow) (t : Thread) (l k : ℕ) (m : State → Lists) (x : CodeStep) (xs : List CodeStep) (at : ℕ) (z : State)
    → Fetches b c t m → AllStraight xs → is_straight x ≡ true → Lies c.code at (instrs l k (x ∷ xs)) → z.at ≡ at → Meets b (fetched c t m z (slice_get c.code z.at)) (straight c t l k (x ∷ xs) m z)
meets_steps b c t l k m x xs at z f s g h e =
    meets_on b (fetched c t m z (slice_get c.code z.at)) (performed c t m z (instr l k x) x) (performed c t (straight c t l k xs m) z (instr l k x) x)
    (meets_same b _ _ (ap (fetched c t m z) (ap (slice_get c.code) e ∙ h.0)))
    (meets_performed b c t m (straight c t l k xs m) z (instr l k x) x g (λ y j. meets_straight b c t l k m xs (suc at) y f s h.1 (j ∙ ap suc e)))

-- steps that lie behind others

pub lies_front : (c : Flow) (l k at : ℕ) (xs ys : List CodeStep) → Lies c.code at (instrs l k (xs ++ ys)) → Lies c.code at (instrs l k xs)
lies_front c l k at [] ys h = tt
lies_front c l k at (x ∷ xs) ys h = (h.0, lies_front c l k (suc at) xs ys h.1)

pub lies_rest : (c : Flow) (l k at : ℕ) (xs ys : List CodeStep) → Lies c.code at (instrs l k (xs ++ ys)) → Lies c.code (skip at xs) (instrs l k ys)
lies_rest c l k at [] ys h = h
lies_rest c l k at (x ∷ xs) ys h = lies_rest c l k (suc at) xs ys h.1
