-- The most values that there are before an instruction.
use Rattle.std.proofs.Common.{ℕ, suc, zero, ◌+◌, ◌-◌, ◌≡◌, ◌≤◌, ◌<◌, ◌⊎◌, inl, inr, max, List, [], ◌∷◌, true, false, Option, Some, None, refl, sym, ap, subst, ◌∙◌, map, take, drop, slice_get, length, get_or, if◌then◌else◌, nat_le, arith}
use Rattle.std.proofs.Math.Nat.{le-max_left, le-max_right, max-le, max-eq_left, max-zero}
use Rattle.std.proofs.lemmas.Bool.{cases_lt}
use Rattle.std.proofs.lemmas.List.{drop_all, drop_more}
use Rattle.loom_flow.specs.declared.code.Instr.{Instr}
use Rattle.loom_flow.specs.Depth.{takes_off, puts_on, depth_after, most_before}
use Rattle.loom_flow.proofs.Each.{same_element}

abbrev pub depth_from : ℕ → List Instr → ℕ → Option ℕ
depth_from first is at = depth_after first (map (λ (i : Instr). i.step) (take at is))

-- None of them finds more.
pub at_most : (first : ℕ) (is : List Instr) (at d : ℕ) → at < length is → depth_from first is at ≡ Some d → d ≤ most_before first is
at_most first [] at d l e = absurd (omega (arith, l))
at_most first (j ∷ is) zero d l e =
    let next : ℕ = first - takes_off j.step + puts_on j.step in
    let same : first ≡ d = same_element first d e in
    let above : first ≤ max first (most_before next is) = le-max_left first (most_before next is) in
    omega (arith, same, above)
at_most first (j ∷ is) (suc at) d l e =
    let next : ℕ = first - takes_off j.step + puts_on j.step in
    let above : most_before next is ≤ max first (most_before next is) = le-max_right first (most_before next is) in
    elim (nat_le (takes_off j.step) first) as (λ b. (if b then depth_from next is at else None) ≡ Some d → d ≤ max first (most_before next is))
    [ true ↦ λ f. (let later : d ≤ most_before next is = at_most next is at d (omega (arith, l)) f in omega (arith, later, above)) | false ↦ λ f. cc ] e

-- There is a number of values before each of them.
abbrev pub HasDepths : ℕ → List Instr → Type 0
HasDepths first is = (at : ℕ) (i : Instr) → slice_get is at ≡ Some i → (d : ℕ) × (depth_from first is at ≡ Some d)

-- One of them finds so many.
abbrev pub IsFound : ℕ → List Instr → ℕ → Type 0
IsFound first is n = (at : ℕ) × (at < length is) × (depth_from first is at ≡ Some n)

found_first : (first : ℕ) (j : Instr) (is : List Instr) (n : ℕ) → n ≡ first → IsFound first (j ∷ is) n
found_first first j is n e = (0, omega arith, ap {B = Option ℕ} Some (sym e))

-- behind the first one, which finds enough where the second one finds any
found_later : (first n : ℕ) (j k : Instr) (is : List Instr) → HasDepths first (j ∷ k ∷ is) → IsFound (first - takes_off j.step + puts_on j.step) (k ∷ is) n → IsFound first (j ∷ k ∷ is) n
found_later first n j k is all later =
    let next : ℕ = first - takes_off j.step + puts_on j.step in
    let second : (d : ℕ) × (depth_from first (j ∷ k ∷ is) 1 ≡ Some d) = all 1 k refl in (
      suc later.0,
      omega (arith, later.1),
      elim (nat_le (takes_off j.step) first) as (λ b. (if b then Some next else None) ≡ Some second.0 → (if b then depth_from next (k ∷ is) later.0 else None) ≡ Some n)
          [ true ↦ λ f. later.2 | false ↦ λ f. cc ] second.1,
    )

depths_later : (first : ℕ) (j : Instr) (is : List Instr) → HasDepths first (j ∷ is) → HasDepths (first - takes_off j.step + puts_on j.step) is
depths_later first j is all at i e =
    let next : ℕ = first - takes_off j.step + puts_on j.step in
    let here : (d : ℕ) × (depth_from first (j ∷ is) (suc at) ≡ Some d) = all (suc at) i e in (
      here.0,
      elim (nat_le (takes_off j.step) first) as (λ b. (if b then depth_from next is at else None) ≡ Some here.0 → depth_from next is at ≡ Some here.0)
          [ true ↦ λ f. f | false ↦ λ f. cc ] here.1,
    )

pub found : (first : ℕ) (is : List Instr) → 0 < length is → HasDepths first is → IsFound first is (most_before first is)
found first [] some all = absurd (omega (arith, some))
found first (j ∷ []) some all = found_first first j [] (max first 0) (max-zero first)
found first (j ∷ k ∷ is) some all = by_cases (found next (k ∷ is) (omega arith) (depths_later first j (k ∷ is) all)) (cases_lt first later)
  where
    next : ℕ
    next = first - takes_off j.step + puts_on j.step

    later : ℕ
    later = most_before next (k ∷ is)

    by_cases : IsFound next (k ∷ is) later → (first < later) ⊎ (later ≤ first) → IsFound first (j ∷ k ∷ is) (max first later)
    by_cases g (inl l) =
        let above : later ≤ max first later = le-max_right first later in
        let below : max first later ≤ later = max-le (let h : first ≤ later = omega (arith, l) in h) (let h : later ≤ later = omega arith in h) in
        subst (IsFound first (j ∷ k ∷ is)) (let same : later ≡ max first later = omega (arith, above, below) in same)
        (found_later first later j k is all g)
    by_cases g (inr l) = found_first first j (k ∷ is) (max first later) (max-eq_left l)

-- One instruction after another

same_most : (a b c : ℕ) → max (max a b) c ≡ max a (max b c)
same_most a b c = omega arith

-- with one instruction more gone through
pub most_more : (is : List Instr) (n most depth rest on more : ℕ) (i : Instr) → n < length is → more ≡ max most depth → rest ≡ depth - takes_off (get_or is n i).step → on ≡ puts_on (get_or is n i).step
    → max more (most_before (rest + on) (drop (n + 1) is)) ≡ max most (most_before depth (drop n is))
most_more is n most depth rest on more i l is_more is_rest is_on =
    let j : Instr = get_or is n i in
    let next : ℕ = depth - takes_off j.step + puts_on j.step in
    let same : rest + on ≡ next = ap (λ m. m + on) is_rest ∙ ap (λ m. depth - takes_off j.step + m) is_on in
    ap (λ m. max m (most_before (rest + on) (drop (n + 1) is))) is_more
    ∙ ap (λ m. max (max most depth) (most_before m (drop (n + 1) is))) same
    ∙ same_most most depth (most_before next (drop (n + 1) is))
    ∙ ap (λ js. max most (most_before depth js)) (sym (drop_more is n i l))

-- with all of them
pub most_all : (is : List Instr) (n most depth : ℕ) → length is ≤ n → max most (most_before depth (drop n is)) ≡ most
most_all is n most depth h = ap (λ js. max most (most_before depth js)) (drop_all n is h) ∙ max-zero most
