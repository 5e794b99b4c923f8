-- Lists of filters, where one comes or some go: what stays keeps its order, and stands before what is new.
use Rattle.std.proofs.Common.{ℕ, ◌≡◌, ◌==◌, Bool, true, false, not, ◌&&◌, ◌||◌, List, [], ◌∷◌, ◌++◌, refl, sym, ap, ◌∙◌, if◌then◌else◌, arith}
use Rattle.std.specs.List.{filter}
use Rattle.std.proofs.lemmas.Bool.{eq-eqb}
use Rattle.std.proofs.lemmas.List.Elements.{filter-append}
use Rattle.std.proofs.lemmas.List.Folds.{list_any-append}
use Rattle.loom_law.specs.Filter.{has}
use Rattle.loom_law.specs.Walk.{new_filters}
use Rattle.loom_law.proofs.Holdings.{or_left, or_right, same_number}

-- tests that agree on the numbers of a list
agreed : (p q : ℕ → Bool) (ks : List ℕ) → ((i : ℕ) → has ks i ≡ true → p i ≡ q i) → filter p ks ≡ filter q ks
agreed p q [] h = refl
agreed p q (k ∷ ks) h =
    let here : p k ≡ q k = h k (or_left (k == k) (has ks k) (eq-eqb k k refl)) in
    let later : filter p ks ≡ filter q ks = agreed p q ks (λ i m. h i (or_right (k == i) (has ks i) m)) in
    ap (λ (b : Bool). if b then k ∷ filter p ks else filter p ks) here ∙ ap (λ (z : List ℕ). if q k then k ∷ z else z) later

all_stay : (ks : List ℕ) → filter (λ (k : ℕ). true) ks ≡ ks
all_stay [] = refl
all_stay (k ∷ ks) = ap (◌∷◌ k) (all_stay ks)

none_stay : (ks : List ℕ) → filter (λ (k : ℕ). false) ks ≡ []
none_stay [] = refl
none_stay (k ∷ ks) = none_stay ks

append_nothing : (ks : List ℕ) → ks ++ [] ≡ ks
append_nothing [] = refl
append_nothing (k ∷ ks) = ap (◌∷◌ k) (append_nothing ks)

pub filter_all : (P : ℕ → Bool) (ks : List ℕ) → ((j : ℕ) → has ks j ≡ true → P j ≡ true) → filter P ks ≡ ks
filter_all P ks h = agreed P (λ k. true) ks h ∙ all_stay ks

-- nothing is new in the same list
pub order_same : (ks : List ℕ) → ks ≡ filter (has ks) ks ++ new_filters ks ks
order_same ks =
    let none : new_filters ks ks ≡ [] = agreed (λ k. not (has ks k)) (λ k. false) ks (λ i m. ap not m) ∙ none_stay ks in
    sym (ap (λ (z : List ℕ). filter (has ks) ks ++ z) none ∙ (append_nothing (filter (has ks) ks) ∙ filter_all (has ks) ks (λ j m. m)))

-- two tests one behind the other, in either order

both : (a b : Bool) (k : ℕ) (p q : ℕ → Bool) (ks : List ℕ) → p k ≡ a → q k ≡ b → filter p (filter q ks) ≡ filter (λ j. p j && q j) ks
    → filter p (if b then k ∷ filter q ks else filter q ks) ≡ (if a && b then k ∷ filter (λ j. p j && q j) ks else filter (λ j. p j && q j) ks)
both true true k p q ks pk qk ih = ap (λ (b : Bool). if b then k ∷ filter p (filter q ks) else filter p (filter q ks)) pk ∙ ap (◌∷◌ k) ih
both false true k p q ks pk qk ih = ap (λ (b : Bool). if b then k ∷ filter p (filter q ks) else filter p (filter q ks)) pk ∙ ih
both true false k p q ks pk qk ih = ih
both false false k p q ks pk qk ih = ih

filter_both : (p q : ℕ → Bool) (ks : List ℕ) → filter p (filter q ks) ≡ filter (λ j. p j && q j) ks
filter_both p q [] = refl
filter_both p q (k ∷ ks) = both (p k) (q k) k p q ks refl refl (filter_both p q ks)

turned : (a b : Bool) → (a && b) ≡ (b && a)
turned a b = grind arith

swapped : (p q : ℕ → Bool) (ks : List ℕ) → filter p (filter q ks) ≡ filter q (filter p ks)
swapped p q ks = filter_both p q ks ∙ (agreed (λ j. p j && q j) (λ j. q j && p j) ks (λ i m. turned (p i) (q i)) ∙ sym (filter_both q p ks))

-- what is among those that stay

one_among : (P : ℕ → Bool) (k j : ℕ) (a e : Bool) → P k ≡ a → (k == j) ≡ e → (ks : List ℕ) → has (filter P ks) j ≡ (P j && has ks j)
    → has (if a then k ∷ filter P ks else filter P ks) j ≡ (P j && (e || has ks j))
one_among P k j true true pk e ks ih =
    let there : P j ≡ true = sym (ap P (same_number k j e)) ∙ pk in
    ap (λ (b : Bool). b || has (filter P ks) j) e ∙ sym (ap (λ (b : Bool). b && (true || has ks j)) there)
one_among P k j false true pk e ks ih =
    let gone : P j ≡ false = sym (ap P (same_number k j e)) ∙ pk in
    ih ∙ (ap (λ (b : Bool). b && has ks j) gone ∙ sym (ap (λ (b : Bool). b && (true || has ks j)) gone))
one_among P k j true false pk e ks ih = ap (λ (b : Bool). b || has (filter P ks) j) e ∙ ih
one_among P k j false false pk e ks ih = ih

none_and : (b : Bool) → false ≡ (b && false)
none_and b = grind arith

among : (P : ℕ → Bool) (ks : List ℕ) (j : ℕ) → has (filter P ks) j ≡ (P j && has ks j)
among P [] j = none_and (P j)
among P (k ∷ ks) j = one_among P k j (P k) (k == j) refl refl ks (among P ks j)

-- with an install: nothing of the old version goes, and the new filter comes last

not_one : (old : List ℕ) (k i : ℕ) → has old k ≡ false → has old i ≡ true → (b : Bool) → (k == i) ≡ b → b ≡ false
not_one old k i fresh m true e = let no : true ≡ false = sym m ∙ (ap (has old) (sym (same_number k i e)) ∙ fresh) in cc
not_one old k i fresh m false e = refl

with_false : (a b : Bool) → b ≡ false → a ≡ (a || (b || false))
with_false a b h = grind arith

more : (old vs : List ℕ) (k : ℕ) → has old k ≡ false → filter (has vs) old ≡ filter (has (vs ++ k ∷ [])) old
more old vs k fresh =
    agreed (has vs) (has (vs ++ k ∷ [])) old
    (λ i m. with_false (has vs i) (k == i) (not_one old k i fresh m (k == i) refl) ∙ sym (list_any-append (λ (n : ℕ). n == i) vs (k ∷ [])))

grouped : (xs ys zs : List ℕ) → (xs ++ ys) ++ zs ≡ xs ++ (ys ++ zs)
grouped [] ys zs = refl
grouped (x ∷ xs) ys zs = ap (◌∷◌ x) (grouped xs ys zs)

pub order_with : (old vs : List ℕ) (k : ℕ) → vs ≡ filter (has vs) old ++ new_filters old vs → has old k ≡ false
    → vs ++ k ∷ [] ≡ filter (has (vs ++ k ∷ [])) old ++ new_filters old (vs ++ k ∷ [])
order_with old vs k h fresh =
    let one : new_filters old (k ∷ []) ≡ k ∷ [] = ap (λ (b : Bool). if not b then k ∷ [] else []) fresh in
    let last : new_filters old vs ++ k ∷ [] ≡ new_filters old (vs ++ k ∷ []) =
    ap (λ (z : List ℕ). new_filters old vs ++ z) (sym one) ∙ sym (filter-append (λ (j : ℕ). not (has old j)) vs (k ∷ [])) in
    ap (λ (z : List ℕ). z ++ k ∷ []) h
    ∙ (grouped (filter (has vs) old) (new_filters old vs) (k ∷ [])
    ∙ (ap (λ (z : List ℕ). filter (has vs) old ++ z) last ∙ ap (λ (z : List ℕ). z ++ new_filters old (vs ++ k ∷ [])) (more old vs k fresh)))

-- with a removal: what is left keeps its order
pub order_without : (old vs : List ℕ) (P : ℕ → Bool) → vs ≡ filter (has vs) old ++ new_filters old vs
    → filter P vs ≡ filter (has (filter P vs)) old ++ new_filters old (filter P vs)
order_without old vs P h =
    let stay : filter P (filter (has vs) old) ≡ filter (has (filter P vs)) old =
    filter_both P (has vs) old ∙ sym (agreed (has (filter P vs)) (λ j. P j && has vs j) old (λ i m. among P vs i)) in
    let come : filter P (new_filters old vs) ≡ new_filters old (filter P vs) = swapped P (λ j. not (has old j)) vs in
    ap (filter P) h
    ∙ (filter-append P (filter (has vs) old) (new_filters old vs)
    ∙ (ap (λ (z : List ℕ). z ++ filter P (new_filters old vs)) stay ∙ ap (λ (z : List ℕ). filter (has (filter P vs)) old ++ z) come))
