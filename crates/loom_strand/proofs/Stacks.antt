-- A stack whose list has the top last.
use Rattle.std.proofs.Common.{ℕ, pos, ◌<◌, get_or, ◌-◌, ◌≡◌, ◌≤◌, ◌⊎◌, inl, inr, List, [], ◌∷◌, ◌++◌, ℤ, Some, slice_get, length, take, drop, reverse, refl, sym, ap, subst, ◌∙◌, arith}
use Rattle.std.proofs.lemmas.List.{get_or-reverse, get_or_default, reverse-append, reverse-reverse, length-reverse, length-drop, length-append, take_at}
use Rattle.std.proofs.lemmas.List.{take_all, take-append-drop, drop_at, drop_all}
use Rattle.std.proofs.lemmas.Bool.{cases_lt}
use Rattle.loom_flow.specs.State.{top}
use Rattle.loom_strand.specs.Stack.{first}

pub put_last : {A : Type 0} (xs : List A) (x : A) → reverse (xs ++ x ∷ []) ≡ x ∷ reverse xs
put_last xs x = reverse-append xs (x ∷ [])

pub put_first : {A : Type 0} (x : A) (xs : List A) → reverse (x ∷ xs) ≡ reverse xs ++ x ∷ []
put_first x xs = reverse-append (x ∷ []) xs

cut : {A : Type 0} (m : ℕ) (xs : List A) → reverse xs ≡ reverse (drop m xs) ++ reverse (take m xs)
cut m xs = ap reverse (sym (take-append-drop m xs)) ∙ reverse-append (take m xs) (drop m xs)

-- what is behind the last so many
drop_some : {A : Type 0} (k : ℕ) (xs : List A) → k ≤ length xs → drop k (reverse xs) ≡ reverse (take (length xs - k) xs)
drop_some k xs h =
    ap (drop k) (cut (length xs - k) xs)
    ∙ drop_at (reverse (drop (length xs - k) xs)) (reverse (take (length xs - k) xs)) k (length-reverse (drop (length xs - k) xs) ∙ length-drop (length xs - k) xs ∙ omega (arith, h))

at_end : {A : Type 0} (xs : List A) (x : A) → slice_get (xs ++ x ∷ []) (length xs) ≡ Some x
at_end [] x = refl
at_end (y ∷ xs) x = at_end xs x

-- a value at the end is on top
last_of : {A : Type 0} (x : A) (xs : List A) → slice_get (reverse (x ∷ xs)) (length (reverse (x ∷ xs)) - 1) ≡ Some x
last_of x xs =
    subst (λ ys. slice_get ys (length ys - 1) ≡ Some x) (sym (put_first x xs))
    (subst (λ n. slice_get (reverse xs ++ x ∷ []) n ≡ Some x) (omega (arith, length-append (reverse xs) (x ∷ []))) (at_end (reverse xs) x))

first_of : {A : Type 0} (fs : List A) → first fs ≡ slice_get (reverse fs) (length (reverse fs) - 1)
first_of [] = refl
first_of (f ∷ fs) = sym (last_of f fs)

pub first_last : {A : Type 0} (xs : List A) → first (reverse xs) ≡ slice_get xs (length xs - 1)
first_last xs = subst (λ ys. first (reverse xs) ≡ slice_get ys (length ys - 1)) (reverse-reverse xs) (first_of (reverse xs))

take_some : {A : Type 0} (k : ℕ) (xs : List A) → k ≤ length xs → take k (reverse xs) ≡ reverse (drop (length xs - k) xs)
take_some k xs h =
    ap (take k) (cut (length xs - k) xs)
    ∙ take_at (reverse (drop (length xs - k) xs)) (reverse (take (length xs - k) xs)) k (length-reverse (drop (length xs - k) xs) ∙ length-drop (length xs - k) xs ∙ omega (arith, h))

rest_by : {A : Type 0} (k : ℕ) (xs : List A) → (length xs < k) ⊎ (k ≤ length xs) → reverse (take (length xs - k) xs) ≡ drop k (reverse xs)
rest_by k xs (inl h) =
    let none : length xs - k ≡ 0 = omega (arith, h) in
    ap (λ n. reverse (take n xs)) none ∙ sym (drop_all k (reverse xs) (omega (arith, length-reverse xs, h)))
rest_by k xs (inr h) = sym (drop_some k xs h)

taken_by : {A : Type 0} (k : ℕ) (xs : List A) → (length xs < k) ⊎ (k ≤ length xs) → drop (length xs - k) xs ≡ reverse (take k (reverse xs))
taken_by k xs (inl h) =
    let none : length xs - k ≡ 0 = omega (arith, h) in
    ap (λ n. drop n xs) none ∙ sym (ap reverse (take_all k (reverse xs) (omega (arith, length-reverse xs, h))) ∙ reverse-reverse xs)
taken_by k xs (inr h) = sym (ap reverse (take_some k xs h) ∙ reverse-reverse (drop (length xs - k) xs))

-- what is left where the last so many are taken off, and these in their order
pub rest_last : {A : Type 0} (k : ℕ) (xs : List A) (n : ℕ) → n ≡ length xs - k → reverse (take n xs) ≡ drop k (reverse xs)
rest_last k xs n e = ap (λ m. reverse (take m xs)) e ∙ rest_by k xs (cases_lt (length xs) k)

pub taken_last : {A : Type 0} (k : ℕ) (xs : List A) (n : ℕ) → n ≡ length xs - k → drop n xs ≡ reverse (take k (reverse xs))
taken_last k xs n e = ap (λ m. drop m xs) e ∙ taken_by k xs (cases_lt (length xs) k)

-- the part of a list from there on
pub part_last : {A : Type 0} (k : ℕ) (xs : List A) (n m : ℕ) → n ≡ length xs - k → m ≡ length xs - n → take m (drop n xs) ≡ reverse (take k (reverse xs))
part_last k xs n m e f = take_all m (drop n xs) (omega (arith, length-drop n xs)) ∙ taken_last k xs n e

pub length_last : {A : Type 0} (xs : List A) → length (reverse xs) ≡ length xs
length_last xs = length-reverse xs

one_last : {A : Type 0} (xs : List A) → drop 1 (reverse xs) ≡ reverse (take (length xs - 1) xs)
one_last [] = refl
one_last (x ∷ xs) = drop_some 1 (x ∷ xs) (omega arith)

pub drop_last : {A : Type 0} (xs : List A) (n : ℕ) → n ≡ length xs → reverse (take (n - 1) xs) ≡ drop 1 (reverse xs)
drop_last xs n e = ap (λ k. reverse (take (k - 1) xs)) e ∙ sym (one_last xs)

second_of : (ys : List ℤ) → top (drop 1 ys) ≡ get_or ys 1 (pos 0)
second_of [] = refl
second_of (y ∷ []) = refl
second_of (y ∷ z ∷ ys) = refl

second_at : (xs : List ℤ) → 2 ≤ length xs → top (drop 1 (reverse xs)) ≡ get_or xs (length xs - 1 - 1) (pos 0)
second_at xs h =
    second_of (reverse xs) ∙ get_or-reverse xs 1 (pos 0) (omega (arith, h))

pub second_read : (xs : List ℤ) (n : ℕ) (v : ℤ) → n ≡ length xs → 2 ≤ n → v ≡ get_or xs (n - 2) v → v ≡ top (drop 1 (reverse xs))
second_read xs n v e h is =
    is ∙ get_or_default xs (n - 2) v (pos 0) (omega arith) ∙ ap (λ i. get_or xs i (pos 0)) (omega arith) ∙ sym (second_at xs (omega arith))
