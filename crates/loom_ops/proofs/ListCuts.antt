-- Lists that are tested and cut.
use Rattle.std.proofs.Common.{ℕ, suc, ◌≤◌, ◌≡◌, Bool, true, false, ◌||◌, cond, List, [], ◌∷◌, ◌++◌, length, map, refl, ap, arith}
use Rattle.std.specs.List.{AllByRecursion, IsDistinct, filter, list_any}
use Rattle.loom_law.proofs.Holdings.{or_cases, or_left, or_right, either_of}

-- What is said of each

pub all_weaker : {A : Type 0} (P Q : A → Type 0) (xs : List A) → ((x : A) → P x → Q x) → AllByRecursion P xs → AllByRecursion Q xs
all_weaker P Q [] f h = tt
all_weaker P Q (x ∷ xs) f h = (f x h.0, all_weaker P Q xs f h.1)

pub all_more : {A : Type 0} (P : A → Type 0) (xs : List A) (y : A) → AllByRecursion P xs → P y → AllByRecursion P (xs ++ y ∷ [])
all_more P [] y h g = (g, tt)
all_more P (x ∷ xs) y h g = (h.0, all_more P xs y h.1 g)

-- What one of them has

pub any_within : {A : Type 0} (P : A → Type 0) (p q : A → Bool) (xs : List A) → AllByRecursion P xs → ((x : A) → P x → p x ≡ true → q x ≡ true)
    → list_any p xs ≡ true → list_any q xs ≡ true
any_within P p q [] s f h = h
any_within P p q (x ∷ xs) s f h =
    either_of (or_cases (p x) (list_any p xs) h) (λ m. or_left (q x) (list_any q xs) (f x s.0 m))
    (λ m. or_right (q x) (list_any q xs) (any_within P p q xs s.1 f m))

pub any_weaker : {A : Type 0} (p q : A → Bool) (xs : List A) → ((x : A) → p x ≡ true → q x ≡ true) → list_any p xs ≡ true → list_any q xs ≡ true
any_weaker p q [] f h = h
any_weaker p q (x ∷ xs) f h =
    either_of (or_cases (p x) (list_any p xs) h) (λ m. or_left (q x) (list_any q xs) (f x m)) (λ m. or_right (q x) (list_any q xs) (any_weaker p q xs f m))

-- Cut lists

any_cut : {A : Type 0} (p : A → Bool) (x : A) (b : Bool) (ys xs : List A) → (list_any p ys ≡ true → list_any p xs ≡ true)
    → list_any p (cond b (x ∷ ys) ys) ≡ true → (p x || list_any p xs) ≡ true
any_cut p x true ys xs ih h = either_of (or_cases (p x) (list_any p ys) h) (λ m. or_left (p x) (list_any p xs) m) (λ m. or_right (p x) (list_any p xs) (ih m))
any_cut p x false ys xs ih h = or_right (p x) (list_any p xs) (ih h)

-- what one of a cut list has, one of the whole has
pub any_whole : {A : Type 0} (p test : A → Bool) (xs : List A) → list_any p (filter test xs) ≡ true → list_any p xs ≡ true
any_whole p test [] h = h
any_whole p test (x ∷ xs) h = any_cut p x (test x) (filter test xs) xs (λ m. any_whole p test xs m) h

head_cut : {A : Type 0} (Q : A → Type 0) (x : A) (b : Bool) (ys : List A) → (b ≡ true → Q x) → AllByRecursion Q ys → AllByRecursion Q (cond b (x ∷ ys) ys)
head_cut Q x true ys f h = (f refl, h)
head_cut Q x false ys f h = h

pub all_cut : {A : Type 0} (P Q : A → Type 0) (test : A → Bool) (xs : List A) → ((x : A) → test x ≡ true → P x → Q x) → AllByRecursion P xs
    → AllByRecursion Q (filter test xs)
all_cut P Q test [] f h = tt
all_cut P Q test (x ∷ xs) f h = head_cut Q x (test x) (filter test xs) (λ m. f x m h.0) (all_cut P Q test xs f h.1)

head_distinct : {A : Type 0} (e : A → A → Bool) (x : A) (b : Bool) (ys : List A) → AllByRecursion (λ y. e x y ≡ false) ys → IsDistinct e ys
    → IsDistinct e (cond b (x ∷ ys) ys)
unfolding IsDistinct
head_distinct e x true ys h g = (h, g)
head_distinct e x false ys h g = g

pub distinct_cut : {A : Type 0} (e : A → A → Bool) (test : A → Bool) (xs : List A) → IsDistinct e xs → IsDistinct e (filter test xs)
unfolding IsDistinct
distinct_cut e test [] h = tt
distinct_cut e test (x ∷ xs) h =
    head_distinct e x (test x) (filter test xs) (all_cut (λ y. e x y ≡ false) (λ y. e x y ≡ false) test xs (λ y m g. g) h.0) (distinct_cut e test xs h.1)

head_length : {A : Type 0} (x : A) (b : Bool) (ys : List A) (n : ℕ) → length ys ≤ n → length (cond b (x ∷ ys) ys) ≤ suc n
head_length x true ys n h = omega arith
head_length x false ys n h = omega arith

pub length_cut : {A : Type 0} (test : A → Bool) (xs : List A) → length (filter test xs) ≤ length xs
length_cut test [] = omega arith
length_cut test (x ∷ xs) = head_length x (test x) (filter test xs) (length xs) (length_cut test xs)

head_map : {A B : Type 0} (f : A → B) (x : A) (b : Bool) (ys : List A) (zs : List B) → map f ys ≡ zs → map f (cond b (x ∷ ys) ys) ≡ cond b (f x ∷ zs) zs
head_map f x true ys zs h = ap (λ z. f x ∷ z) h
head_map f x false ys zs h = h

pub map_cut : {A B : Type 0} (f : A → B) (test : B → Bool) (xs : List A) → map f (filter (λ x. test (f x)) xs) ≡ filter test (map f xs)
map_cut f test [] = refl
map_cut f test (x ∷ xs) = head_map f x (test (f x)) (filter (λ y. test (f y)) xs) (filter test (map f xs)) (map_cut f test xs)
