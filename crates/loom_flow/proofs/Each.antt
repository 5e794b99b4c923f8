-- What holds of each element of a list, and of its number.
use Rattle.std.proofs.Common.{ℕ, suc, zero, ◌+◌, ◌-◌, ◌≡◌, ◌≤◌, ◌<◌, List, [], ◌∷◌, ◌++◌, Option, Some, sym, ap, subst, ◌∙◌, slice_get, length, arith}
use Rattle.loom_flow.specs.declared.code.CodeStep.{CodeStep}
use Rattle.loom_flow.specs.declared.code.Instr.{Instr}
use Rattle.loom_flow.specs.FlatCode.{instr, instrs}
use Rattle.loom_flow.proofs.Sublist.{Lies}

abbrev pub AllOf : {A : Type 0} → (A → Type 0) → List A → Type 0
AllOf P [] = Unit {0}
AllOf P (x ∷ xs) = P x × AllOf P xs

pub all_append : {A : Type 0} (P : A → Type 0) (xs ys : List A) → AllOf P xs → AllOf P ys → AllOf P (xs ++ ys)
all_append P [] ys f g = g
all_append P (x ∷ xs) ys f g = (f.0, all_append P xs ys f.1 g)

-- the first element has the number `at`
abbrev pub Each : {A : Type 0} → (ℕ → A → Type 0) → ℕ → List A → Type 0
Each P at [] = Unit {0}
Each P at (x ∷ xs) = P at x × Each P (suc at) xs

pub each_append : {A : Type 0} (P : ℕ → A → Type 0) (at n : ℕ) (xs ys : List A) → at + length xs ≡ n → Each P at xs → Each P n ys → Each P at (xs ++ ys)
each_append P at n [] ys e f g = subst (λ m. Each P m ys) (let h : n ≡ at = omega (arith, e) in h) g
each_append P at n (x ∷ xs) ys e f g = (f.0, each_append P (suc at) n xs ys (let h : suc at + length xs ≡ n = omega (arith, e) in h) f.1 g)

pub same_element : {A : Type 0} (x y : A) → ◌≡◌ {A = Option A} (Some x) (Some y) → x ≡ y
same_element x y e = cc

each_there : {A : Type 0} (P : ℕ → A → Type 0) (all : List A) (at : ℕ) (xs : List A) → Lies all at xs → Each P at xs → (k n : ℕ) (x : A) → n ≡ at + k → k < length xs → slice_get all n ≡ Some x → P n x
each_there P all at [] h f k n x e le g = absurd (omega (arith, le))
each_there P all at (y ∷ ys) h f zero n x e le g =
    let here : at ≡ n = omega (arith, e) in
    subst (λ m. P m x) here (subst (P at) (same_element y x (sym h.0 ∙ ap (slice_get all) here ∙ g)) f.0)
each_there P all at (y ∷ ys) h f (suc k) n x e le g =
    each_there P all (suc at) ys h.1 f.1 k n x (let d : n ≡ suc at + k = omega (arith, e) in d) (let d : k < length ys = omega (arith, le) in d) g

-- an element of a list that lies in another
pub each_at : {A : Type 0} (P : ℕ → A → Type 0) (all : List A) (at : ℕ) (xs : List A) → Lies all at xs → Each P at xs → (n : ℕ) (x : A) → at ≤ n → n < at + length xs → slice_get all n ≡ Some x → P n x
each_at P all at xs h f n x from before g =
    each_there P all at xs h f (n - at) n x (let d : n ≡ at + (n - at) = omega (arith, from) in d) (let d : n - at < length xs = omega (arith, from, before) in d) g

-- the instructions of steps, between two numbers
pub each_instrs : (P : ℕ → Instr → Type 0) (lo hi at l k : ℕ) (xs : List CodeStep) → lo ≤ at → at + length xs ≤ hi → AllOf (λ x. (n : ℕ) → lo ≤ n → n < hi → P n (instr l k x)) xs → Each P at (instrs l k xs)
each_instrs P lo hi at l k [] from to f = tt
each_instrs P lo hi at l k (x ∷ xs) from to f =
    (f.0 at from (omega (arith, to)), each_instrs P lo hi (suc at) l k xs (omega (arith, from)) (let d : suc at + length xs ≤ hi = omega (arith, to) in d) f.1)

-- and of steps behind others
pub each_steps : (P : ℕ → Instr → Type 0) (at l k : ℕ) (xs ys : List CodeStep) → Each P at (instrs l k xs) → Each P (at + length xs) (instrs l k ys) → Each P at (instrs l k (xs ++ ys))
each_steps P at l k [] ys f g = subst (λ n. Each P n (instrs l k ys)) (let e : at + 0 ≡ at = omega arith in e) g
each_steps P at l k (x ∷ xs) ys f g = (f.0, each_steps P (suc at) l k xs ys f.1 (subst (λ n. Each P n (instrs l k ys)) (let e : at + suc (length xs) ≡ suc at + length xs = omega arith in e) g))
