-- The locals of a frame.
use Rattle.std.proofs.Common.{pos, min, ◌+◌, get_or, take, ℕ, zero, suc, ◌≡◌, ◌<◌, List, [], ◌∷◌, ℤ, slice_get, slice_set, length, refl, sym, ap, ◌∙◌, arith}
use Rattle.std.proofs.lemmas.List.{take_min}
use Rattle.loom_flow.specs.State.{value_of, put_at, filled}

pub put_set : (x : ℕ) (v : ℤ) (ws : List ℤ) → put_at x v ws ≡ slice_set ws x v
put_set x v [] = refl
put_set zero v (w ∷ ws) = refl
put_set (suc x) v (w ∷ ws) = ap (λ us. w ∷ us) (put_set x v ws)

pub local_read : (vs : List ℤ) (x : ℕ) → get_or vs x (pos 0) ≡ value_of (slice_get vs x)
local_read [] x = refl
local_read (v ∷ vs) zero = refl
local_read (v ∷ vs) (suc x) = local_read vs x

-- A new frame

filled_none : (n p : ℕ) → filled n (filled p []) ≡ filled n []
filled_none zero p = refl
filled_none (suc n) zero = refl
filled_none (suc n) (suc p) = ap (λ us. pos 0 ∷ us) (filled_none n p)

-- no more than there are parameters
filled_params : (n p : ℕ) (vs : List ℤ) → filled n (filled p vs) ≡ filled n (take p vs)
filled_params n zero vs = refl
filled_params n (suc p) [] = filled_none n (suc p)
filled_params zero (suc p) (v ∷ vs) = refl
filled_params (suc n) (suc p) (v ∷ vs) = ap (λ us. v ∷ us) (filled_params n p vs)

filled_length : (n : ℕ) (vs : List ℤ) → length (filled n vs) ≡ n
filled_length zero vs = refl
filled_length (suc n) [] = ap suc (filled_length n [])
filled_length (suc n) (v ∷ vs) = ap suc (filled_length n vs)

-- one more argument
filled_more : (n i : ℕ) (vs : List ℤ) (d : ℤ) → i < n → i < length vs → slice_set (filled n (take i vs)) i (get_or vs i d) ≡ filled n (take (suc i) vs)
filled_more zero i vs d h k = absurd (omega arith)
filled_more (suc n) i [] d h k = absurd (omega arith)
filled_more (suc n) zero (v ∷ vs) d h k = refl
filled_more (suc n) (suc i) (v ∷ vs) d h k = ap (λ us. v ∷ us) (filled_more n i vs d (omega arith) (omega arith))

pub filled_next : (n i : ℕ) (vs : List ℤ) (d : ℤ) → i < n → i < length vs → slice_set (filled n (take i vs)) i (get_or vs i d) ≡ filled n (take (i + 1) vs)
filled_next n i vs d h k =
    let one : suc i ≡ i + 1 = omega arith in
    filled_more n i vs d h k ∙ ap (λ j. filled n (take j vs)) one

pub filled_all : (n p i : ℕ) (vs : List ℤ) → i ≡ min (length vs) p → filled n (take i vs) ≡ filled n (filled p vs)
filled_all n p i vs e =
    let least : i ≡ min p (length vs) = omega (arith, e) in
    ap (λ j. filled n (take j vs)) least ∙ ap (filled n) (take_min p vs) ∙ sym (filled_params n p vs)
