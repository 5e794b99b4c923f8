-- In a clause of a filter that no path refuses, no region begins inside another one, nor in another frame inside itself.
use Rattle.std.proofs.Common.{ℕ, suc, ◌≤◌, ◌≡◌, ◌⊎◌, inl, inr, List, [], ◌∷◌, ◌++◌, flat_map, refl, sym, ap, subst, ◌∙◌, arith}
use Rattle.std.specs.List.{Contains}
use Rattle.std.proofs.lemmas.List.Elements.{Contains-append_left, Contains-append_right}
use Rattle.loom_tree.specs.Tree.{Source}
use Rattle.loom_law.specs.Filter.{Range, Ruling, Plan, ranges_of, numbered_from, clauses}
use Rattle.loom_law.specs.FilterView.{all_ranges}
use Rattle.loom_law.specs.FilterRefusal.{IsReentered, Nests, NestsAmong, AreNested, HasReentered, HasPathFault, IsPathFaultFrom, IsPathFault}
use Rattle.loom_law.specs.Judgement.{HasNone}
use Rattle.loom_law.proofs.Course.{no_member, contains_cases}

-- Two regions of a clause

nests_among : (p : Source) (f : Plan) (q : Range) (ss : List Range) (s : Range) → Contains ss s → Nests p f q s ⊎ Nests p f s q → NestsAmong p f q ss
nests_among p f q [] s c h = absurd (no_member s c)
nests_among p f q (r ∷ rs) s c h = by_cases (nests_among p f q rs s) (contains_cases r s rs c)
  where
    by_cases : (Contains rs s → Nests p f q s ⊎ Nests p f s q → NestsAmong p f q rs) → (r ≡ s) ⊎ Contains rs s → NestsAmong p f q (r ∷ rs)
    by_cases ih (inl e) =
        let P : Range → Type 0 = λ z. Nests p f q z ⊎ Nests p f z q in
        inl (subst P (sym e) h)
    by_cases ih (inr k) = inr (ih k h)

-- of two that stand in a list one begins inside the other only if they are one
not_nested : (p : Source) (f : Plan) (rs : List Range) (r s : Range) → (AreNested p f rs → ⊥) → Contains rs r → Contains rs s → Nests p f r s → r ≡ s
not_nested p f [] r s n a b h = absurd (no_member r a)
not_nested p f (q ∷ qs) r s n a b h =
    by_cases (not_nested p f qs r s (λ m. n (inr m))) (contains_cases q r qs a) (contains_cases q s qs b)
  where
    by_cases : (Contains qs r → Contains qs s → Nests p f r s → r ≡ s) → (q ≡ r) ⊎ Contains qs r → (q ≡ s) ⊎ Contains qs s → r ≡ s
    by_cases ih (inl e) (inl g) = sym e ∙ g
    by_cases ih (inl e) (inr k) =
        let P : Range → Type 0 = λ z. Nests p f z s in
        absurd (n (inl (nests_among p f q qs s k (inl (subst P (sym e) h)))))
    by_cases ih (inr k) (inl g) =
        let P : Range → Type 0 = λ z. Nests p f r z in
        absurd (n (inl (nests_among p f q qs r k (inr (subst P (sym g) h)))))
    by_cases ih (inr k) (inr m) = ih k m h

reentered_among : (p : Source) (f : Plan) (rs : List Range) (r : Range) → Contains rs r → IsReentered p f r → HasReentered p f rs
reentered_among p f [] r c h = absurd (no_member r c)
reentered_among p f (q ∷ qs) r c h = by_cases (reentered_among p f qs r) (contains_cases q r qs c)
  where
    by_cases : (Contains qs r → IsReentered p f r → HasReentered p f qs) → (q ≡ r) ⊎ Contains qs r → HasReentered p f (q ∷ qs)
    by_cases ih (inl e) =
        let P : Range → Type 0 = λ z. IsReentered p f z in
        inl (subst P (sym e) h)
    by_cases ih (inr k) = inr (ih k h)

-- The faults of a clause are those of the filter

fault_among : (p : Source) (f : Plan) (n : ℕ) (rs : List Ruling) (c : ℕ) (r : Ruling) (m : ℕ) → Contains (numbered_from n rs) (c, r) → HasPathFault p f r m
    → IsPathFaultFrom p f n rs (record { clause = c; number = m })
fault_among p f n [] c r m k h = absurd (no_member (c, r) k)
fault_among p f n (q ∷ qs) c r m k h = by_cases (fault_among p f (suc n) qs c r m) (contains_cases (n, q) (c, r) (numbered_from (suc n) qs) k)
  where
    by_cases : (Contains (numbered_from (suc n) qs) (c, r) → HasPathFault p f r m → IsPathFaultFrom p f (suc n) qs (record { clause = c; number = m }))
        → (◌≡◌ {A = ℕ × Ruling} (n, q) (c, r)) ⊎ Contains (numbered_from (suc n) qs) (c, r) → IsPathFaultFrom p f n (q ∷ qs) (record { clause = c; number = m })
    by_cases ih (inl e) =
        let P : Ruling → Type 0 = λ z. HasPathFault p f z m in
        inl (sym (ap (λ (z : ℕ × Ruling). z.0) e), subst P (sym (ap (λ (z : ℕ × Ruling). z.1) e)) h)
    by_cases ih (inr g) = inr (ih g h)

number_least : (n : ℕ) (rs : List Ruling) (c : ℕ) (r : Ruling) → Contains (numbered_from n rs) (c, r) → n ≤ c
number_least n [] c r k = absurd (no_member (c, r) k)
number_least n (q ∷ qs) c r k = by_cases (number_least (suc n) qs c r) (contains_cases (n, q) (c, r) (numbered_from (suc n) qs) k)
  where
    by_cases : (Contains (numbered_from (suc n) qs) (c, r) → suc n ≤ c) → (◌≡◌ {A = ℕ × Ruling} (n, q) (c, r)) ⊎ Contains (numbered_from (suc n) qs) (c, r) → n ≤ c
    by_cases ih (inl e) = let same : n ≡ c = ap (λ (z : ℕ × Ruling). z.0) e in omega arith
    by_cases ih (inr g) = let le : suc n ≤ c = ih g in omega arith

-- a number has one clause
one_ruling : (n : ℕ) (rs : List Ruling) (c : ℕ) (q r : Ruling) → Contains (numbered_from n rs) (c, q) → Contains (numbered_from n rs) (c, r) → q ≡ r
one_ruling n [] c q r a b = absurd (no_member (c, q) a)
one_ruling n (u ∷ us) c q r a b =
    by_cases (one_ruling (suc n) us c q r) (contains_cases (n, u) (c, q) (numbered_from (suc n) us) a) (contains_cases (n, u) (c, r) (numbered_from (suc n) us) b)
  where
    clash : (v : Ruling) → n ≡ c → Contains (numbered_from (suc n) us) (c, v) → ⊥
    clash v e k = let le : suc n ≤ c = number_least (suc n) us c v k in omega arith

    by_cases : (Contains (numbered_from (suc n) us) (c, q) → Contains (numbered_from (suc n) us) (c, r) → q ≡ r) → (◌≡◌ {A = ℕ × Ruling} (n, u) (c, q)) ⊎ Contains (numbered_from (suc n) us) (c, q)
        → (◌≡◌ {A = ℕ × Ruling} (n, u) (c, r)) ⊎ Contains (numbered_from (suc n) us) (c, r) → q ≡ r
    by_cases ih (inl e) (inl g) = sym (ap (λ (z : ℕ × Ruling). z.1) e) ∙ ap (λ (z : ℕ × Ruling). z.1) g
    by_cases ih (inl e) (inr k) = absurd (clash r (ap (λ (z : ℕ × Ruling). z.0) e) k)
    by_cases ih (inr k) (inl g) = absurd (clash q (ap (λ (z : ℕ × Ruling). z.0) g) k)
    by_cases ih (inr k) (inr m) = ih k m

-- the region is one of this clause
pub record IsRegionOf (f : Plan) (c : ℕ) (r : Range) : Type 0 where
  pub ruling : Ruling
  pub clause : Contains (clauses f) (c, ruling)
  pub there : Contains (ranges_of ruling) r

-- so it is a region of the filter
pub region_there : (f : Plan) (c : ℕ) (r : Range) → IsRegionOf f c r → Contains (all_ranges f) r
region_there f c r h = among 1 f.rulings h.clause
  where
    among : (n : ℕ) (rs : List Ruling) → Contains (numbered_from n rs) (c, h.ruling) → Contains (flat_map ranges_of rs) r
    among n [] k = absurd (no_member (c, h.ruling) k)
    among n (q ∷ qs) k = by_cases (among (suc n) qs) (contains_cases (n, q) (c, h.ruling) (numbered_from (suc n) qs) k)
      where
        by_cases : (Contains (numbered_from (suc n) qs) (c, h.ruling) → Contains (flat_map ranges_of qs) r)
            → (◌≡◌ {A = ℕ × Ruling} (n, q) (c, h.ruling)) ⊎ Contains (numbered_from (suc n) qs) (c, h.ruling) → Contains (ranges_of q ++ flat_map ranges_of qs) r
        by_cases ih (inl e) =
            let P : Ruling → Type 0 = λ z. Contains (ranges_of z) r in
            Contains-append_left (ranges_of q) (flat_map ranges_of qs) r (subst P (sym (ap (λ (z : ℕ × Ruling). z.1) e)) h.there)
        by_cases ih (inr g) = Contains-append_right (ranges_of q) (flat_map ranges_of qs) r (ih g)

-- Of two regions of a clause one begins inside the other only if they are one.
pub same_region : (p : Source) (f : Plan) (c : ℕ) (r s : Range) → HasNone (IsPathFault p f) → IsRegionOf f c r → IsRegionOf f c s → Nests p f r s → r ≡ s
same_region p f c r s none a b h =
    let P : Ruling → Type 0 = λ z. Contains (ranges_of z) s in
    let one : b.ruling ≡ a.ruling = one_ruling 1 f.rulings c b.ruling a.ruling b.clause a.clause in
    not_nested p f (ranges_of a.ruling) r s (λ n. none (record { clause = c; number = 8 }) (fault_among p f 1 f.rulings c a.ruling 8 a.clause (inr (refl, n))))
    a.there (subst P one b.there) h

-- No region is reached again by calls inside it.
pub never_again : (p : Source) (f : Plan) (c : ℕ) (r : Range) → HasNone (IsPathFault p f) → IsRegionOf f c r → IsReentered p f r → ⊥
never_again p f c r none a h =
    none (record { clause = c; number = 7 })
    (fault_among p f 1 f.rulings c a.ruling 7 a.clause (inl (refl, reentered_among p f (ranges_of a.ruling) r a.there h)))
