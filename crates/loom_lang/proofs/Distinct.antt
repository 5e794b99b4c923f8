-- Lists of names.
use Rattle.std.proofs.Common.{ℕ, ◌≡◌, Bool, true, false, not, ◌&&◌, ◌||◌, List, [], ◌∷◌, ◌++◌, refl, ap, sym, ◌∙◌, arith}
use Rattle.std.specs.Prelude.{◌==◌}
use Rattle.std.specs.Cmp.Lexicographic.{pointwise}
use Rattle.std.proofs.lemmas.Cmp.{nat_list_eq_equiv}
use Rattle.loom_lang.specs.Rules.{is_in, is_distinct, is_apart}

pub in_append : (x : List ℕ) (xs ys : List (List ℕ)) → is_in x (xs ++ ys) ≡ (is_in x xs || is_in x ys)
in_append x [] ys = refl
in_append x (y ∷ xs) ys = let h : is_in x (xs ++ ys) ≡ (is_in x xs || is_in x ys) = in_append x xs ys in grind arith

-- the same names, in any order
abbrev pub AreSame : List (List ℕ) → List (List ℕ) → Type 0
AreSame xs ys = (x : List ℕ) → is_in x xs ≡ is_in x ys

pub same_swapped : (xs ys : List (List ℕ)) → AreSame (xs ++ ys) (ys ++ xs)
same_swapped xs ys x = grind (arith, in_append x xs ys, in_append x ys xs)

pub same_append : (xs ys ls ms : List (List ℕ)) → AreSame xs ys → AreSame ls ms → AreSame (xs ++ ls) (ys ++ ms)
same_append xs ys ls ms h g x = in_append x xs ls ∙ ap (λ z. z || is_in x ls) (h x) ∙ ap (λ z. is_in x ys || z) (g x) ∙ sym (in_append x ys ms)

pub same_more : (y : List ℕ) (xs ys : List (List ℕ)) → AreSame xs ys → AreSame (y ∷ xs) (y ∷ ys)
same_more y xs ys h x = ap (λ z. pointwise ◌==◌ y x || z) (h x)

-- a name that stands anywhere
pub same_inserted : (xs ys : List (List ℕ)) (y : List ℕ) → AreSame (xs ++ y ∷ ys) (y ∷ (xs ++ ys))
same_inserted xs ys y x = grind (arith, in_append x xs (y ∷ ys), in_append x xs ys)

pub apart_nil : (xs : List (List ℕ)) → is_apart xs [] ≡ true
apart_nil [] = refl
apart_nil (x ∷ xs) = apart_nil xs

pub apart_same : (xs ys zs : List (List ℕ)) → AreSame ys zs → is_apart xs ys ≡ is_apart xs zs
apart_same [] ys zs h = refl
apart_same (x ∷ xs) ys zs h = ap (λ z. not z && is_apart xs ys) (h x) ∙ ap (λ z. not (is_in x zs) && z) (apart_same xs ys zs h)

pub apart_more : (xs : List (List ℕ)) (y : List ℕ) (ys : List (List ℕ)) → is_apart xs (y ∷ ys) ≡ (not (is_in y xs) && is_apart xs ys)
apart_more [] y ys = refl
apart_more (x ∷ xs) y ys =
    let h : is_apart xs (y ∷ ys) ≡ (not (is_in y xs) && is_apart xs ys) = apart_more xs y ys in
    let s : pointwise ◌==◌ x y ≡ pointwise ◌==◌ y x = nat_list_eq_equiv.symm x y in
    grind arith

pub apart_append : (xs ys zs : List (List ℕ)) → is_apart xs (ys ++ zs) ≡ (is_apart xs ys && is_apart xs zs)
apart_append [] ys zs = refl
apart_append (x ∷ xs) ys zs =
    let h : is_apart xs (ys ++ zs) ≡ (is_apart xs ys && is_apart xs zs) = apart_append xs ys zs in
    let g : is_in x (ys ++ zs) ≡ (is_in x ys || is_in x zs) = in_append x ys zs in
    grind arith

pub apart_swapped : (xs ys : List (List ℕ)) → is_apart xs ys ≡ is_apart ys xs
apart_swapped [] ys = sym (apart_nil ys)
apart_swapped (x ∷ xs) ys = ap (λ z. not (is_in x ys) && z) (apart_swapped xs ys) ∙ sym (apart_more ys x xs)

pub distinct_inserted : (xs ys : List (List ℕ)) (y : List ℕ) → is_distinct (xs ++ y ∷ ys) ≡ (not (is_in y (xs ++ ys)) && is_distinct (xs ++ ys))
distinct_inserted [] ys y = refl
distinct_inserted (x ∷ xs) ys y =
    let h : is_distinct (xs ++ y ∷ ys) ≡ (not (is_in y (xs ++ ys)) && is_distinct (xs ++ ys)) = distinct_inserted xs ys y in
    let i : is_in x (xs ++ y ∷ ys) ≡ (pointwise ◌==◌ y x || is_in x (xs ++ ys)) = same_inserted xs ys y x in
    let s : pointwise ◌==◌ x y ≡ pointwise ◌==◌ y x = nat_list_eq_equiv.symm x y in
    grind arith

pub distinct_behind : (xs ys : List (List ℕ)) → is_distinct (xs ++ ys) ≡ true → is_distinct ys ≡ true
distinct_behind [] ys h = h
distinct_behind (x ∷ xs) ys h = distinct_behind xs ys (go (not (is_in x (xs ++ ys))) (is_distinct (xs ++ ys)) h)
  where
    go : (a b : Bool) → (a && b) ≡ true → b ≡ true
    go true b k = k
    go false b k = cc
