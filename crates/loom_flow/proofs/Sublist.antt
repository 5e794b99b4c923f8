-- A list that lies in another from a number on.
use Rattle.std.proofs.Common.{ℕ, suc, ◌+◌, ◌≡◌, List, [], ◌∷◌, ◌++◌, Some, refl, subst, slice_get, length, arith}

abbrev pub Lies : {A : Type 0} → List A → ℕ → List A → Type 0
Lies all at [] = Unit {0}
Lies all at (x ∷ xs) = (slice_get all at ≡ Some x) × Lies all (suc at) xs

pub lies_first : {A : Type 0} (all : List A) (at : ℕ) (xs ys : List A) → Lies all at (xs ++ ys) → Lies all at xs
lies_first all at [] ys h = tt
lies_first all at (x ∷ xs) ys h = (h.0, lies_first all (suc at) xs ys h.1)

pub lies_second : {A : Type 0} (all : List A) (at : ℕ) (xs ys : List A) → Lies all at (xs ++ ys) → Lies all (at + length xs) ys
lies_second all at [] ys h = subst (λ n. Lies all n ys) (omega arith) h
lies_second all at (x ∷ xs) ys h = subst (λ n. Lies all n ys) (omega arith) (lies_second all (suc at) xs ys h.1)

pub lies_behind : {A : Type 0} (x : A) (all : List A) (at : ℕ) (ys : List A) → Lies all at ys → Lies (x ∷ all) (suc at) ys
lies_behind x all at [] h = tt
lies_behind x all at (y ∷ ys) h = (h.0, lies_behind x all (suc at) ys h.1)

lies_here : {A : Type 0} (ys zs : List A) → Lies (ys ++ zs) 0 ys
lies_here [] zs = tt
lies_here (y ∷ ys) zs = (refl, lies_behind y (ys ++ zs) 0 ys (lies_here ys zs))

pub lies_between : {A : Type 0} (xs ys zs : List A) → Lies (xs ++ (ys ++ zs)) (length xs) ys
lies_between [] ys zs = lies_here ys zs
lies_between (x ∷ xs) ys zs = lies_behind x (xs ++ (ys ++ zs)) (length xs) ys (lies_between xs ys zs)

pub lies_whole : {A : Type 0} (ys : List A) → Lies ys 0 ys
lies_whole [] = tt
lies_whole (y ∷ ys) = (refl, lies_behind y ys 0 ys (lies_whole ys))
