-- Locals by name and by number.
use Rattle.std.proofs.Common.{◌≤◌, ℕ, suc, zero, ◌≡◌, ◌==◌, List, [], ◌∷◌, true, false, ℤ, Option, Some, None, option_map, refl, sym, ap, ◌∙◌, slice_get, length, arith, if◌then◌else◌}
use Rattle.std.specs.Cmp.Lexicographic.{pointwise}
use Rattle.loom_lang.specs.Numbers.{index_of}
use Rattle.loom_lang.specs.Trace.{Locals, value_in, updated}
use Rattle.loom_flow.specs.State.{value_of, put_at, named}

-- the value of the local of this number
abbrev pub local_value : List ℤ → Option ℕ → Option ℤ
local_value vs o = option_map (λ k. value_of (slice_get vs k)) o

local_behind : (v : ℤ) (vs : List ℤ) (o : Option ℕ) → local_value vs o ≡ local_value (v ∷ vs) (option_map suc o)
local_behind v vs None = refl
local_behind v vs (Some k) = refl

pub value_named : (xs : List (List ℕ)) (vs : List ℤ) (x : List ℕ) → length xs ≤ length vs → value_in (named xs vs) x ≡ local_value vs (index_of x xs)
value_named [] [] x h = refl
value_named [] (v ∷ vs) x h = refl
value_named (y ∷ ys) [] x h = absurd (omega (arith, h))
value_named (y ∷ ys) (v ∷ vs) x h =
    let again : value_in (named ys vs) x ≡ local_value vs (index_of x ys) = value_named ys vs x (omega (arith, h)) in
    elim (pointwise ◌==◌ y x) as (λ b. (if b then Some v else value_in (named ys vs) x) ≡ local_value (v ∷ vs) (if b then Some 0 else option_map suc (index_of x ys))) [
      | true ↦ refl
      | false ↦ again ∙ local_behind v vs (index_of x ys)
    ]

abbrev pub put_by : Option ℕ → ℤ → List ℤ → List ℤ
put_by None v vs = vs
put_by (Some k) v vs = put_at k v vs

put_behind : (y : List ℕ) (ys : List (List ℕ)) (w v : ℤ) (vs : List ℤ) (o : Option ℕ) → (y, w) ∷ named ys (put_by o v vs) ≡ named (y ∷ ys) (put_by (option_map suc o) v (w ∷ vs))
put_behind y ys w v vs None = refl
put_behind y ys w v vs (Some k) = refl

put_nowhere : (v : ℤ) (o : Option ℕ) → put_by o v [] ≡ []
put_nowhere v None = refl
put_nowhere v (Some zero) = refl
put_nowhere v (Some (suc k)) = refl

pub updated_named : (xs : List (List ℕ)) (vs : List ℤ) (x : List ℕ) (v : ℤ) → updated (named xs vs) x v ≡ named xs (put_by (index_of x xs) v vs)
updated_named [] vs x v = refl
updated_named (y ∷ ys) [] x v = ap (named (y ∷ ys)) (sym (put_nowhere v (index_of x (y ∷ ys))))
updated_named (y ∷ ys) (w ∷ vs) x v =
    let again : updated (named ys vs) x v ≡ named ys (put_by (index_of x ys) v vs) = updated_named ys vs x v in
    elim (pointwise ◌==◌ y x) as (λ b. (if b then (y, v) ∷ named ys vs else (y, w) ∷ updated (named ys vs) x v) ≡ named (y ∷ ys) (put_by (if b then Some 0 else option_map suc (index_of x ys)) v (w ∷ vs))) [
      | true ↦ refl
      | false ↦ ap (λ (env : Locals). (y, w) ∷ env) again ∙ put_behind y ys w v vs (index_of x ys)
    ]

pub put_length : (k : ℕ) (v : ℤ) (vs : List ℤ) → length (put_at k v vs) ≡ length vs
put_length zero v [] = refl
put_length (suc k) v [] = refl
put_length zero v (w ∷ vs) = refl
put_length (suc k) v (w ∷ vs) = ap suc (put_length k v vs)
