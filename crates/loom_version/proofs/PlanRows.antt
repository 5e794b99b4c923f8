-- Rows of filters.
use Rattle.std.proofs.Common.{ℕ, zero, suc, ◌-◌, ◌<◌, ◌≤◌, ◌≡◌, ◌==◌, true, false, if◌then◌else◌, List, [], ◌∷◌, ◌++◌, length, slice_get, slice_set, get_or, Option, Some, None, refl, ap, sym, subst, ◌∙◌, arith}
use Rattle.std.specs.Option.{option_flatten}
use Rattle.loom_plan.specs.Compiled.{Compiled}
use Rattle.loom_law.proofs.Holdings.{pick, same_number}
use Rattle.loom_version.specs.Plans.{compiled_at}

-- no row has a filter
abbrev pub HaveNoFilter : List (Option Compiled) → Type 0
HaveNoFilter cs = (n : ℕ) → option_flatten (slice_get cs n) ≡ None

pub none_more : (cs : List (Option Compiled)) → HaveNoFilter cs → HaveNoFilter (cs ++ None ∷ [])
none_more [] h zero = refl
none_more [] h (suc n) = refl
none_more (c ∷ cs) h zero = h zero
none_more (c ∷ cs) h (suc n) = none_more cs (λ m. h (suc m)) n

pub none_at : (cs : List (Option Compiled)) → HaveNoFilter cs → (k : ℕ) → compiled_at cs k ≡ None
none_at cs h zero = refl
none_at cs h (suc n) = h n

-- the row of a number that has one
row_from : (cs : List (Option Compiled)) (n : ℕ) (c : Option Compiled) → n < length cs → c ≡ get_or cs n c → c ≡ compiled_at cs (suc n)
row_from [] n c h e = absurd (omega arith)
row_from (x ∷ cs) zero c h e = e
row_from (x ∷ cs) (suc n) c h e = row_from cs n c (omega arith) e

pub row_at : (cs : List (Option Compiled)) (k : ℕ) (c : Option Compiled) → 0 < k → k - 1 < length cs → c ≡ get_or cs (k - 1) c → c ≡ compiled_at cs k
row_at cs zero c low h e = absurd (omega arith)
row_at cs (suc n) c low h e =
    let before : suc n - 1 ≡ n = omega arith in
    row_from cs n c (omega arith) (e ∙ ap (λ (i : ℕ). get_or cs i c) before)

none_from : (cs : List (Option Compiled)) (n : ℕ) → length cs ≤ n → None ≡ compiled_at cs (suc n)
none_from [] n h = refl
none_from (x ∷ cs) zero h = absurd (omega arith)
none_from (x ∷ cs) (suc n) h = none_from cs n (omega arith)

pub none_past : (cs : List (Option Compiled)) (k : ℕ) → 0 < k → length cs ≤ k - 1 → None ≡ compiled_at cs k
none_past cs zero low h = absurd (omega arith)
none_past cs (suc n) low h = none_from cs n (omega arith)

-- a row that is put
put_same : (cs : List (Option Compiled)) (n : ℕ) (c : Compiled) → n < length cs → option_flatten (slice_get (slice_set cs n (Some c)) n) ≡ Some c
put_same [] n c h = absurd (omega arith)
put_same (x ∷ cs) zero c h = refl
put_same (x ∷ cs) (suc n) c h = put_same cs n c (omega arith)

put_other : (cs : List (Option Compiled)) (n i : ℕ) (c : Compiled) → (i ≡ n → ⊥) → option_flatten (slice_get (slice_set cs n (Some c)) i) ≡ option_flatten (slice_get cs i)
put_other [] n i c h = refl
put_other (x ∷ cs) zero zero c h = absurd (h refl)
put_other (x ∷ cs) zero (suc i) c h = refl
put_other (x ∷ cs) (suc n) zero c h = refl
put_other (x ∷ cs) (suc n) (suc i) c h = put_other cs n i c (λ e. h (ap suc e))

same_row : (n : ℕ) → (n == n) ≡ true
same_row n = grind arith

other_row : (m n : ℕ) → (m == n) ≡ false → m ≡ n → ⊥
other_row m n h same = let no : true ≡ false = sym (same_row n) ∙ subst (λ (z : ℕ). (z == n) ≡ false) same h in cc

put_later : (cs : List (Option Compiled)) (n j : ℕ) (c : Compiled) → n < length cs
    → compiled_at (slice_set cs n (Some c)) j ≡ (if j == suc n then Some c else compiled_at cs j)
put_later cs n zero c h =
    pick (λ (o : Option Compiled). None ≡ o) (zero == suc n) (Some c) None (λ e. absurd (omega (arith, same_number zero (suc n) e))) (λ e. refl)
put_later cs n (suc j) c h =
    pick (λ (o : Option Compiled). compiled_at (slice_set cs n (Some c)) (suc j) ≡ o) (suc j == suc n) (Some c) (compiled_at cs (suc j)) found missed
  where
    found : (suc j == suc n) ≡ true → option_flatten (slice_get (slice_set cs n (Some c)) j) ≡ Some c
    found e =
        let same : j ≡ n = omega (arith, same_number (suc j) (suc n) e) in
        ap (λ (i : ℕ). option_flatten (slice_get (slice_set cs n (Some c)) i)) same ∙ put_same cs n c h

    missed : (suc j == suc n) ≡ false → option_flatten (slice_get (slice_set cs n (Some c)) j) ≡ option_flatten (slice_get cs j)
    missed e = put_other cs n j c (λ same. other_row (suc j) (suc n) e (ap suc same))

pub put_at : (cs : List (Option Compiled)) (k j : ℕ) (c : Compiled) → 0 < k → k - 1 < length cs
    → compiled_at (slice_set cs (k - 1) (Some c)) j ≡ (if j == k then Some c else compiled_at cs j)
put_at cs zero j c low h = absurd (omega arith)
put_at cs (suc n) j c low h =
    let before : suc n - 1 ≡ n = omega arith in
    ap (λ (i : ℕ). compiled_at (slice_set cs i (Some c)) j) before ∙ put_later cs n j c (omega arith)
