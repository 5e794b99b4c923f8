-- The numbers of elements that meet a test.
use Rattle.std.proofs.Common.{ℕ, zero, suc, ◌≡◌, ◌<◌, ◌≤◌, ◌==◌, Bool, true, false, if◌then◌else◌, List, [], ◌∷◌, length, map, drop, get_or, refl, sym, ap, ◌∙◌, arith, ne_eqb}
use Rattle.loom_law.specs.Filter.{has}
use Rattle.loom_plan.specs.ElementNumbers.{numbers_where}

pub chosen_alike : {A : Type 0} (P Q : ℕ → A → Bool) (n : ℕ) (xs : List A) → ((m : ℕ) (x : A) → P m x ≡ Q m x) → numbers_where P n xs ≡ numbers_where Q n xs
chosen_alike P Q n [] h = refl
chosen_alike P Q n (x ∷ xs) h =
    ap (λ (b : Bool). if b then n ∷ numbers_where P (suc n) xs else numbers_where P (suc n) xs) (h n x)
    ∙ ap (λ (ys : List ℕ). if Q n x then n ∷ ys else ys) (chosen_alike P Q (suc n) xs h)

has_if : (b : Bool) (x m : ℕ) (xs : List ℕ) → (x == m) ≡ false → has xs m ≡ false → has (if b then x ∷ xs else xs) m ≡ false
has_if true x m xs e h = cc
has_if false x m xs e h = h

pub chosen_low : {A : Type 0} (P : ℕ → A → Bool) (n : ℕ) (xs : List A) (m : ℕ) → m < n → has (numbers_where P n xs) m ≡ false
chosen_low P n [] m low = refl
chosen_low P n (x ∷ xs) m low =
    has_if (P n x) n m (numbers_where P (suc n) xs) (ne_eqb n m (λ e. omega arith)) (chosen_low P (suc n) xs m (omega arith))

pub drop_map : {A B : Type 0} (f : A → B) (xs : List A) (k : ℕ) (d : A) → k < length xs → drop k (map f xs) ≡ f (get_or xs k d) ∷ drop (suc k) (map f xs)
drop_map f [] k d low = absurd (omega arith)
drop_map f (x ∷ xs) zero d low = refl
drop_map f (x ∷ xs) (suc k) d low = drop_map f xs k d (omega arith)

-- A loop that goes down a list has one number more, or none.
pub down_more : {A B : Type 0} (f : A → B) (P : ℕ → B → Bool) (xs : List A) (n k : ℕ) (d : A) (b : Bool) (old new : List ℕ)
    → n ≡ suc k → k < length xs → old ≡ numbers_where P (suc n) (drop n (map f xs)) → b ≡ P n (f (get_or xs k d))
    → (((m : ℕ) → m ≤ n → has old m ≡ false) → new ≡ (if b then n ∷ old else old))
    → new ≡ numbers_where P (suc k) (drop k (map f xs))
down_more {A} {B} f P xs n k d b old new e low is test put =
    let none : (m : ℕ) → m ≤ n → has old m ≡ false = λ m h. ap (λ (ys : List ℕ). has ys m) is ∙ chosen_low P (suc n) (drop n (map f xs)) m (omega arith) in
    put none
    ∙ (ap (λ (c : Bool). if c then n ∷ old else old) test
    ∙ (ap (λ (ys : List ℕ). if P n (f (get_or xs k d)) then n ∷ ys else ys) is
    ∙ (ap (λ (m : ℕ). if P m (f (get_or xs k d)) then m ∷ numbers_where P (suc m) (drop m (map f xs)) else numbers_where P (suc m) (drop m (map f xs))) e
    ∙ ap (λ (ys : List B). numbers_where P (suc k) ys) (sym (drop_map f xs k d low)))))

pub drop_all : {A : Type 0} (xs : List A) → drop (length xs) xs ≡ []
drop_all [] = refl
drop_all (x ∷ xs) = drop_all xs

pub length_map : {A B : Type 0} (f : A → B) (xs : List A) → length (map f xs) ≡ length xs
length_map f [] = refl
length_map f (x ∷ xs) = ap suc (length_map f xs)

-- its beginning
pub down_none : {A B : Type 0} (f : A → B) (P : ℕ → B → Bool) (xs : List A) (n : ℕ) → n ≡ length xs → numbers_where P (suc n) (drop n (map f xs)) ≡ []
down_none f P xs n e = ap (numbers_where P (suc n)) (ap (λ m. drop m (map f xs)) (e ∙ sym (length_map f xs)) ∙ drop_all (map f xs))

drop_some : {B : Type 0} (ys : List B) (k : ℕ) → k < length ys → (y : B) × (drop k ys ≡ y ∷ drop (suc k) ys)
drop_some [] k low = absurd (omega arith)
drop_some (y ∷ ys) zero low = (y, refl)
drop_some (y ∷ ys) (suc k) low = drop_some ys k (omega arith)

-- where the test asks for the number alone
pub down_any : {B : Type 0} (P : ℕ → B → Bool) (ys : List B) (n k : ℕ) (b : Bool) (old new : List ℕ)
    → n ≡ suc k → k < length ys → old ≡ numbers_where P (suc n) (drop n ys) → ((y : B) → b ≡ P n y)
    → (((m : ℕ) → m ≤ n → has old m ≡ false) → new ≡ (if b then n ∷ old else old))
    → new ≡ numbers_where P (suc k) (drop k ys)
down_any {B} P ys n k b old new e low is test put =
    let none : (m : ℕ) → m ≤ n → has old m ≡ false = λ m h. ap (λ (zs : List ℕ). has zs m) is ∙ chosen_low P (suc n) (drop n ys) m (omega arith) in
    let y : B = (drop_some ys k low).0 in
    put none
    ∙ (ap (λ (c : Bool). if c then n ∷ old else old) (test y)
    ∙ (ap (λ (zs : List ℕ). if P n y then n ∷ zs else zs) is
    ∙ (ap (λ (m : ℕ). if P m y then m ∷ numbers_where P (suc m) (drop m ys) else numbers_where P (suc m) (drop m ys)) e
    ∙ ap (λ (zs : List B). numbers_where P (suc k) zs) (sym (drop_some ys k low).1))))
