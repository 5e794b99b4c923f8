-- Lists of filters that have no more of each kind than others.
use Rattle.std.proofs.Common.{ℕ, ◌≤◌, ◌≡◌, inl, inr, Bool, true, false, not, ◌&&◌, ◌||◌, List, [], ◌∷◌, ◌++◌, length, length-append, refl, sym, ap, subst, ◌∙◌, arith, if◌then◌else◌}
use Rattle.std.specs.Prelude.{◌==◌}
use Rattle.std.specs.List.{AllByRecursion, filter}
use Rattle.std.proofs.lemmas.Bool.{eq-eqb}
use Rattle.std.proofs.lemmas.List.Elements.{filter-append}
use Rattle.loom_law.specs.Filter.{has}
use Rattle.loom_walk.specs.Owed.{IsOrHasMore}
use Rattle.loom_walk.specs.Growth.{HaveNoMore}

pub none_more : (ks : List ℕ) → HaveNoMore [] ks
none_more ks test = omega arith

step_more : (b : Bool) (k : ℕ) (ks : List ℕ) → length ks ≤ length (if b then k ∷ ks else ks)
step_more true k ks = omega arith
step_more false k ks = omega arith

step_end : (b : Bool) (k : ℕ) (xs ks : List ℕ) → length xs ≤ length ks → length (xs ++ (if b then k ∷ [] else [])) ≤ length (if b then k ∷ ks else ks)
step_end true k xs ks h = omega (arith, h, length-append xs (k ∷ []))
step_end false k xs ks h = omega (arith, h, length-append {A = ℕ} xs [])

-- a filter is put behind those of the first list, or not, and before those of the second one
pub one_more : (xs ys : List ℕ) (k : ℕ) (ks : List ℕ) → IsOrHasMore xs k ys → HaveNoMore xs ks → HaveNoMore ys (k ∷ ks)
one_more xs ys k ks (inl e) h test =
    let more = step_more (test k) k (filter test ks) in
    let low : length (filter test xs) ≤ length (filter test (k ∷ ks)) = omega (arith, h test, more) in
    subst (λ (zs : List ℕ). length (filter test zs) ≤ length (filter test (k ∷ ks))) (sym e) low
one_more xs ys k ks (inr e) h test =
    let low = step_end (test k) k (filter test xs) (filter test ks) (h test) in
    let at_end : length (filter test (xs ++ k ∷ [])) ≤ length (filter test (k ∷ ks))
    = subst (λ (zs : List ℕ). length zs ≤ length (filter test (k ∷ ks))) (sym (filter-append test xs (k ∷ []))) low in
    subst (λ (zs : List ℕ). length (filter test zs) ≤ length (filter test (k ∷ ks))) (sym e) at_end

-- the first list has one less, or is the same
pub one_less : (xs ys : List ℕ) (k : ℕ) (ks : List ℕ) → IsOrHasMore xs k ys → HaveNoMore ys ks → HaveNoMore xs ks
one_less xs ys k ks (inl e) h test = subst (λ (zs : List ℕ). length (filter test zs) ≤ length (filter test ks)) e (h test)
one_less xs ys k ks (inr e) h test =
    let low : length (filter test (xs ++ k ∷ [])) ≤ length (filter test ks) = subst (λ (zs : List ℕ). length (filter test zs) ≤ length (filter test ks)) e (h test) in
    let parts = ap length (filter-append test xs (k ∷ [])) in
    omega (arith, low, parts, length-append (filter test xs) (filter test (k ∷ [])))

-- those of both that pass a test

filter_twice : (p q : ℕ → Bool) (xs : List ℕ) → filter p (filter q xs) ≡ filter (λ (x : ℕ). q x && p x) xs
filter_twice p q [] = refl
filter_twice p q (x ∷ xs) = by (q x) (p x) (filter_twice p q xs) refl
  where
    by : (b d : Bool) → filter p (filter q xs) ≡ filter (λ (y : ℕ). q y && p y) xs
        → p x ≡ d → filter p (if b then x ∷ filter q xs else filter q xs) ≡ (if b && d then x ∷ filter (λ (y : ℕ). q y && p y) xs else filter (λ (y : ℕ). q y && p y) xs)
    by true true ih e = ap (λ (c : Bool). if c then x ∷ filter p (filter q xs) else filter p (filter q xs)) e ∙ ap (λ (zs : List ℕ). x ∷ zs) ih
    by true false ih e = ap (λ (c : Bool). if c then x ∷ filter p (filter q xs) else filter p (filter q xs)) e ∙ ih
    by false d ih e = ih

pub both_less : (q : ℕ → Bool) (xs ks : List ℕ) → HaveNoMore xs ks → HaveNoMore (filter q xs) (filter q ks)
both_less q xs ks h test =
    subst (λ (zs : List ℕ). length (filter test (filter q xs)) ≤ length zs) (sym (filter_twice test q ks))
    (subst (λ (zs : List ℕ). length zs ≤ length (filter (λ (x : ℕ). q x && test x) ks)) (sym (filter_twice test q xs)) (h (λ (x : ℕ). q x && test x)))

-- two lists and two others

pub both_more : (xs ys ks js : List ℕ) → HaveNoMore xs ks → HaveNoMore ys js → HaveNoMore (ys ++ xs) (ks ++ js)
both_more xs ys ks js g h test =
    let left = ap length (filter-append test ys xs) in
    let right = ap length (filter-append test ks js) in
    omega (arith, g test, h test, left, right, length-append (filter test ys) (filter test xs), length-append (filter test ks) (filter test js))

-- how many there are

filter_all : (xs : List ℕ) → filter (λ (x : ℕ). true) xs ≡ xs
filter_all [] = refl
filter_all (x ∷ xs) = ap (λ (zs : List ℕ). x ∷ zs) (filter_all xs)

pub no_longer : (xs ks : List ℕ) → HaveNoMore xs ks → length xs ≤ length ks
no_longer xs ks h = omega (arith, h (λ (x : ℕ). true), ap length (filter_all xs), ap length (filter_all ks))

-- which they are

none_left : (ls ks : List ℕ) → ((j : ℕ) → has ks j ≡ true → has ls j ≡ true) → filter (λ (j : ℕ). not (has ls j)) ks ≡ []
none_left ls [] h = refl
none_left ls (k ∷ ks) h =
    let own : has ls k ≡ true = h k (here (k == k) (has ks k) (eq-eqb k k refl)) in
    ap (λ (b : Bool). if not b then k ∷ filter (λ (j : ℕ). not (has ls j)) ks else filter (λ (j : ℕ). not (has ls j)) ks) own
    ∙ none_left ls ks (λ j g. h j (there (k == j) (has ks j) g))
  where
    here : (a b : Bool) → a ≡ true → (a || b) ≡ true
    here true b e = refl
    here false b e = cc

    there : (a b : Bool) → b ≡ true → (a || b) ≡ true
    there true b e = refl
    there false b e = e

none_passes : (test : ℕ → Bool) (xs : List ℕ) → length (filter test xs) ≤ 0 → AllByRecursion (λ (x : ℕ). test x ≡ false) xs
none_passes test [] h = tt
none_passes test (x ∷ xs) h = let both = by (test x) h in (both.0, none_passes test xs both.1)
  where
    by : (b : Bool) → length (if b then x ∷ filter test xs else filter test xs) ≤ 0 → (b ≡ false) × (length (filter test xs) ≤ 0)
    by true h = absurd (omega arith)
    by false h = (refl, h)

abbrev AllHas : List ℕ → List ℕ → Type 0
AllHas ks xs = AllByRecursion (λ (x : ℕ). has ks x ≡ true) xs

all_has : (ks xs : List ℕ) → AllByRecursion (λ (x : ℕ). not (has ks x) ≡ false) xs → AllHas ks xs
all_has ks [] h = tt
all_has ks (x ∷ xs) h = (by (has ks x) h.0, all_has ks xs h.1)
  where
    by : (b : Bool) → not b ≡ false → b ≡ true
    by true e = refl
    by false e = cc

pub are_among : (xs ks : List ℕ) → HaveNoMore xs ks → AllByRecursion (λ (x : ℕ). has ks x ≡ true) xs
are_among xs ks h =
    all_has ks xs (none_passes (λ (j : ℕ). not (has ks j)) xs (omega (arith, h (λ (j : ℕ). not (has ks j)), ap length (none_left ks ks (λ j g. g)))))
