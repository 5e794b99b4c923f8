-- Loops over the events of orders, and over regions.
use Rattle.std.proofs.Common.{ℕ, zero, suc, ◌≡◌, ◌<◌, ◌≤◌, ◌==◌, Bool, true, false, ◌&&◌, ◌||◌, if◌then◌else◌, List, [], ◌∷◌, length, drop, get_or, Some, None, refl, sym, ap, subst, ◌∙◌, arith, eq-eqb, ne_eqb}
use Rattle.std.proofs.lemmas.Bool.Decides.{nat_tests}
use Rattle.loom_command.specs.FilterFault.{most_clauses}
use Rattle.loom_law.specs.Filter.{Range, has, event_before, all_but_last}
use Rattle.loom_plan.specs.declared.plan.OrderEvent.{OrderEvent}
use Rattle.loom_plan.specs.declared.plan.RegionRow.{RegionRow}
use Rattle.loom_plan.specs.PlanView.{order_of, region_of, regions_in}
use Rattle.loom_plan.specs.Operations.{is_region_among}
use Rattle.loom_plan.specs.PlanParts.{AreOfClauses}
use Rattle.loom_plan.proofs.ElementNumbers.{drop_map}

-- the next event of an order isn't that one

otherwise : {A : Type 0} (b : Bool) (x y : A) → b ≡ false → (if b then x else y) ≡ y
otherwise b x y e = ap (λ c. if c then x else y) e

pub before_more : (n : ℕ) (xs : List OrderEvent) (k i : ℕ) (d : OrderEvent) → i ≡ suc k → i < length xs → ((get_or xs i d).event ≡ n → ⊥)
    → event_before n (order_of (drop k xs)) ≡ event_before n (order_of (drop i xs))
before_more n [] k i d e low ne = absurd (omega arith)
before_more n (a ∷ []) k i d e low ne = absurd (omega arith)
before_more n (a ∷ b ∷ xs) k zero d e low ne = absurd (omega arith)
before_more n (a ∷ b ∷ xs) zero (suc zero) d e low ne = otherwise (b.event == n) (Some (a.event, a.count)) (event_before n (order_of (b ∷ xs))) (ne_eqb b.event n ne)
before_more n (a ∷ b ∷ xs) zero (suc (suc i)) d e low ne = absurd (omega arith)
before_more n (a ∷ b ∷ xs) (suc k) (suc i) d e low ne = before_more n (b ∷ xs) k i d (omega arith) (omega arith) ne

pub before_end : (n : ℕ) (xs : List OrderEvent) (k : ℕ) → length xs ≤ suc k → event_before n (order_of (drop k xs)) ≡ None
before_end n [] zero h = refl
before_end n [] (suc k) h = refl
before_end n (a ∷ []) zero h = refl
before_end n (a ∷ b ∷ xs) zero h = absurd (omega arith)
before_end n (a ∷ xs) (suc k) h = before_end n xs k (omega arith)

or_left : (a b : Bool) → a ≡ true → (a || b) ≡ true
or_left true b e = refl
or_left false b e = cc

or_right : (a b : Bool) → a ≡ false → (a || b) ≡ b
or_right true b e = cc
or_right false b e = refl

pub posted_more : (n : ℕ) (xs : List OrderEvent) (k i : ℕ) (d : OrderEvent) → i ≡ suc k → i < length xs → ((get_or xs k d).event ≡ n → ⊥)
    → has (all_but_last (order_of (drop k xs))) n ≡ has (all_but_last (order_of (drop i xs))) n
posted_more n [] k i d e low ne = absurd (omega arith)
posted_more n (a ∷ []) k i d e low ne = absurd (omega arith)
posted_more n (a ∷ b ∷ xs) k zero d e low ne = absurd (omega arith)
posted_more n (a ∷ b ∷ xs) zero (suc zero) d e low ne = or_right (a.event == n) _ (ne_eqb a.event n ne)
posted_more n (a ∷ b ∷ xs) zero (suc (suc i)) d e low ne = absurd (omega arith)
posted_more n (a ∷ b ∷ xs) (suc k) (suc i) d e low ne = posted_more n (b ∷ xs) k i d (omega arith) (omega arith) ne

pub posted_here : (n : ℕ) (xs : List OrderEvent) (k : ℕ) (d : OrderEvent) → suc k < length xs → (get_or xs k d).event ≡ n
    → has (all_but_last (order_of (drop k xs))) n ≡ true
posted_here n [] k d low e = absurd (omega arith)
posted_here n (a ∷ []) k d low e = absurd (omega arith)
posted_here n (a ∷ b ∷ xs) zero d low e = or_left (a.event == n) _ (eq-eqb a.event n e)
posted_here n (a ∷ b ∷ xs) (suc k) d low e = posted_here n (b ∷ xs) k d (omega arith) e

pub posted_end : (n : ℕ) (xs : List OrderEvent) (k : ℕ) → length xs ≤ suc k → has (all_but_last (order_of (drop k xs))) n ≡ false
posted_end n [] zero h = refl
posted_end n [] (suc k) h = refl
posted_end n (a ∷ []) zero h = refl
posted_end n (a ∷ b ∷ xs) zero h = absurd (omega arith)
posted_end n (a ∷ xs) (suc k) h = posted_end n xs k (omega arith)

-- the clauses of regions

pub clause_here : (xs : List RegionRow) (i : ℕ) (d : RegionRow) → i < length xs → AreOfClauses (drop i (regions_in xs))
    → ((0 < (get_or xs i d).clause) × ((get_or xs i d).clause ≤ most_clauses)) × AreOfClauses (drop (suc i) (regions_in xs))
clause_here xs i d low h = subst AreOfClauses (drop_map region_of xs i d low) h

same_test : (a b : ℕ) → (a == b) ≡ (b == a)
same_test a b = grind (arith, nat_tests)

sums : (o h e rest : Bool) → ((if h && e then true else o) || rest) ≡ (o || ((h && e) || rest))
sums o h e rest = grind arith

pub among_more : (among : ℕ → Bool) (c : ℕ) (xs : List RegionRow) (i j : ℕ) (d : RegionRow) (o new h : Bool) (all : Bool)
    → j ≡ suc i → i < length xs → h ≡ among j → new ≡ (if h && (c == (get_or xs i d).clause) then true else o)
    → (o || is_region_among among c (suc i) (drop i (regions_in xs))) ≡ all
    → (new || is_region_among among c (suc j) (drop j (regions_in xs))) ≡ all
among_more among c xs i j d o new h all e low is put old =
    let x : RegionRow = get_or xs i d in
    let rest : Bool = is_region_among among c (suc (suc i)) (drop (suc i) (regions_in xs)) in
    ap (λ (b : Bool). b || is_region_among among c (suc j) (drop j (regions_in xs))) put
    ∙ (ap (λ (m : ℕ). (if h && (c == x.clause) then true else o) || is_region_among among c (suc m) (drop m (regions_in xs))) e
    ∙ (sums o h (c == x.clause) rest
    ∙ (ap (λ (b : Bool). o || ((h && b) || rest)) (same_test c x.clause)
    ∙ (ap (λ (b : Bool). o || ((b && (x.clause == c)) || rest)) (is ∙ ap among e)
    ∙ (ap (λ (ys : List (ℕ × Range)). o || is_region_among among c (suc i) ys) (sym (drop_map region_of xs i d low))
    ∙ old)))))
