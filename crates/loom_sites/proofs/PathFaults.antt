-- The first fault of a filter's paths, from its areas.
use Rattle.std.proofs.Common.{ℕ, zero, suc, ◌+◌, ◌<◌, ◌≤◌, ◌≡◌, ◌==◌, ◌⊎◌, ◌↔◌, inl, inr, Bool, true, false, not, ◌&&◌, ◌||◌, List, [], ◌∷◌, ◌++◌, length, flat_map, slice_get, Option, Some, None, if◌then◌else◌, refl, sym, ap, subst, ◌∙◌, arith, eqb-true, eq-eqb, ne_eqb}
use Rattle.std.specs.Prelude.{bit_and}
use Rattle.std.proofs.lemmas.Option.{slice_get_within}
use Rattle.std.proofs.Math.Decide.{ℕ_discrete}
use Rattle.loom_tree.specs.Tree.{Body, Source}
use Rattle.loom_command.specs.FilterFault.{FilterFault}
use Rattle.loom_law.specs.Filter.{Watch, Range, between, whole, Ruling, Plan, share, ranges_of, numbered_from}
use Rattle.loom_law.specs.Paths.{Reaches, calls, through, watch_at}
use Rattle.loom_law.specs.FilterRefusal.{CallsFrom, IsReentered, BeginsInside, Nests, NestsAmong, AreNested, HasReentered, HasPathFault, IsPathFaultFrom, IsPathFault}
use Rattle.loom_law.proofs.Matches.{has_member, member_has, shared_one, one_shared}
use Rattle.loom_law.proofs.Holdings.{either_of, or_cases, or_left, or_right}
use Rattle.loom_plan.specs.Sets.{event_numbers}
use Rattle.loom_plan.specs.PlanParts.{of_clause, clause_regions, plan_regions, IsSmallPlan}
use Rattle.loom_plan.specs.Fault.{TellsFirst, fault_at}
use Rattle.loom_plan.proofs.Walks.{function_within}
use Rattle.loom_plan.proofs.Least.{TellsLeast}
use Rattle.loom_sites.specs.declared.area.Area.{Area}
use Rattle.loom_sites.specs.Functions.{has_function}
use Rattle.loom_sites.specs.Areas.{IsEventNumber, TellsArea, AreAreas}
use Rattle.loom_sites.specs.Faults.{is_reentered, has_reentered, are_nested, nests_among, has_nested, area_fault, first_among}
use Rattle.loom_sites.proofs.Bits.{has_both, none_of_zero, empty}

-- The regions of one clause among those of all

abbrev pub ranges_in : ℕ → List (ℕ × Range) → List Range
ranges_in c [] = []
ranges_in c (x ∷ xs) = if x.0 == c then x.1 ∷ ranges_in c xs else ranges_in c xs

in_both : (c : ℕ) (xs ys : List (ℕ × Range)) → ranges_in c (xs ++ ys) ≡ ranges_in c xs ++ ranges_in c ys
in_both c [] ys = refl
in_both c (x ∷ xs) ys =
    elim (x.0 == c) as (λ b. (if b then x.1 ∷ ranges_in c (xs ++ ys) else ranges_in c (xs ++ ys)) ≡ (if b then x.1 ∷ ranges_in c xs else ranges_in c xs) ++ ranges_in c ys)
    [ true ↦ ap (λ zs. x.1 ∷ zs) (in_both c xs ys) | false ↦ in_both c xs ys ]

in_own : (c : ℕ) (rs : List Range) → ranges_in c (of_clause c rs) ≡ rs
in_own c [] = refl
in_own c (r ∷ rs) = ap (λ (b : Bool). if b then r ∷ ranges_in c (of_clause c rs) else ranges_in c (of_clause c rs)) (eq-eqb c c refl) ∙ ap (λ zs. r ∷ zs) (in_own c rs)

in_other : (c d : ℕ) (rs : List Range) → (d ≡ c → ⊥) → ranges_in c (of_clause d rs) ≡ []
in_other c d [] h = refl
in_other c d (r ∷ rs) h = ap (λ (b : Bool). if b then r ∷ ranges_in c (of_clause d rs) else ranges_in c (of_clause d rs)) (ne_eqb d c h) ∙ in_other c d rs h

in_later : (c n : ℕ) (rs : List Ruling) → c < n → ranges_in c (flat_map clause_regions (numbered_from n rs)) ≡ []
in_later c n [] h = refl
in_later c n (r ∷ rs) h =
    in_both c (of_clause n (ranges_of r)) (flat_map clause_regions (numbered_from (suc n) rs))
    ∙ (ap (λ zs. zs ++ ranges_in c (flat_map clause_regions (numbered_from (suc n) rs))) (in_other c n (ranges_of r) (λ e. omega (arith, e, h))) ∙ in_later c (suc n) rs (omega (arith, h)))

append_none : {A : Type 0} (xs ys : List A) → ys ≡ [] → xs ++ ys ≡ xs
append_none [] ys e = e
append_none (x ∷ xs) ys e = ap (λ zs. x ∷ zs) (append_none xs ys e)

-- those of the clause of number n + i
in_clause : (n i c : ℕ) (rs : List Ruling) (r : Ruling) → c ≡ n + i → slice_get rs i ≡ Some r → ranges_in c (flat_map clause_regions (numbered_from n rs)) ≡ ranges_of r
in_clause n i c [] r e h = cc
in_clause n zero c (x ∷ rs) r e h =
    let same : x ≡ r = cc in
    let at : n ≡ c = omega (arith, e) in
    let P : ℕ → Type 0 = λ z. ranges_in z (of_clause n (ranges_of x)) ≡ ranges_of x in
    in_both c (of_clause n (ranges_of x)) (flat_map clause_regions (numbered_from (suc n) rs))
    ∙ (append_none _ _ (in_later c (suc n) rs (omega (arith, e))) ∙ (subst P at (in_own n (ranges_of x)) ∙ ap ranges_of same))
in_clause n (suc i) c (x ∷ rs) r e h =
    in_both c (of_clause n (ranges_of x)) (flat_map clause_regions (numbered_from (suc n) rs))
    ∙ (ap (λ zs. zs ++ ranges_in c (flat_map clause_regions (numbered_from (suc n) rs))) (in_other c n (ranges_of x) (λ s. omega (arith, s, e))) ∙ in_clause (suc n) i c rs r (omega (arith, e)) h)

-- A region is entered again.

reaches_within : (p : Source) (xs : List Body) (g : ℕ) → Reaches p xs g → g < length p.funcs
reaches_within p xs g (calls c) = function_within p c.name g c.number
reaches_within p xs g (through r c) = function_within p c.name g c.number

called_function : (p : Source) (f : Plan) (r : Range) (g : ℕ) → CallsFrom p f r g → g < length p.funcs
called_function p f (between es xs) g h = reaches_within p _ g h.1.1.1.1.1
called_function p f (whole n) g h = reaches_within p _ g h.1.1

and_parts : (a b : Bool) → (a && b) ≡ true → (a ≡ true) × (b ≡ true)
and_parts true b h = (refl, h)
and_parts false b h = cc

not_true : (b : Bool) → not b ≡ true → b ≡ false
not_true true h = cc
not_true false h = refl

-- a number below one that meets a test, or none does
search_below : (test : ℕ → Bool) (count : ℕ) → ((i : ℕ) × ((i < count) × (test i ≡ true))) ⊎ ((i : ℕ) → i < count → test i ≡ false)
search_below test zero = inr (λ i low. absurd (omega arith))
search_below test (suc k) = by_last (test k) refl (search_below test k)
  where
    by_last : (b : Bool) → test k ≡ b → ((i : ℕ) × ((i < k) × (test i ≡ true))) ⊎ ((i : ℕ) → i < k → test i ≡ false) → ((i : ℕ) × ((i < suc k) × (test i ≡ true))) ⊎ ((i : ℕ) → i < suc k → test i ≡ false)
    by_last true e ih = inl (k, (omega arith, e))
    by_last false e (inl h) = let low = h.1.0 in inl (h.0, (omega (arith, low), h.1.1))
    by_last false e (inr h) = inr (λ i low. elim (ℕ_discrete i k) [ yes same ↦ ap test same ∙ e | no d ↦ h i (omega arith) ])

pub reentered_found : (p : Source) (f : Plan) (c : ℕ) (r : Range) (x : Area) → TellsArea p f c r x → IsReentered p f r → is_reentered x ≡ true
reentered_found p f c r x t h =
    let low = called_function p f r h.0 h.1.1 in
    let one : has_function x.contents.functions h.0 ≡ true = (t.contents.functions h.0 low).1 h.1.0 in
    let other : has_function x.contents.calls h.0 ≡ true = (t.contents.calls h.0).1 h.1.1 in
    let both : has_function (bit_and x.contents.functions x.contents.calls) h.0 ≡ true = has_both x.contents.functions x.contents.calls h.0 ∙ (ap (λ (b : Bool). b && has_function x.contents.calls h.0) one ∙ other) in
    by_test (bit_and x.contents.functions x.contents.calls == 0) refl both
  where
    by_test : (b : Bool) → (bit_and x.contents.functions x.contents.calls == 0) ≡ b → has_function (bit_and x.contents.functions x.contents.calls) h.0 ≡ true → not b ≡ true
    by_test false e k = refl
    by_test true e k = let clash : true ≡ false = sym k ∙ (ap (λ (z : ℕ). has_function z h.0) (eqb-true (bit_and x.contents.functions x.contents.calls) 0 e) ∙ none_of_zero h.0) in cc

pub reentered_told : (p : Source) (f : Plan) (c : ℕ) (r : Range) (x : Area) → TellsArea p f c r x → is_reentered x ≡ true → IsReentered p f r
reentered_told p f c r x t e = by_search (search_below (has_function both) (length p.funcs))
  where
    both : ℕ
    both = bit_and x.contents.functions x.contents.calls

    parts : (g : ℕ) → has_function both g ≡ true → (has_function x.contents.functions g ≡ true) × (has_function x.contents.calls g ≡ true)
    parts g h = and_parts (has_function x.contents.functions g) (has_function x.contents.calls g) (sym (has_both x.contents.functions x.contents.calls g) ∙ h)

    none : ((i : ℕ) → i < length p.funcs → has_function both i ≡ false) → (g : ℕ) → (b : Bool) → has_function both g ≡ b → has_function both g ≡ false
    none h g false k = k
    none h g true k = h g (t.contents.within g (parts g k).0)

    by_search : ((i : ℕ) × ((i < length p.funcs) × (has_function both i ≡ true))) ⊎ ((i : ℕ) → i < length p.funcs → has_function both i ≡ false) → IsReentered p f r
    by_search (inl h) = let k = parts h.0 h.1.1 in (h.0, ((t.contents.functions h.0 h.1.0).0 k.0, (t.contents.calls h.0).0 k.1))
    by_search (inr h) =
        let zero_set : both ≡ 0 = empty both (λ g. none h g (has_function both g) refl) in
        let clash : false ≡ true = sym (ap not (eq-eqb both 0 zero_set)) ∙ e in
        cc

-- An entry event of one region can begin inside another.

event_number : (f : Plan) (n : ℕ) (w : Watch) → IsSmallPlan f → watch_at f n ≡ Some w → IsEventNumber n
event_number f zero w small h = cc
event_number f (suc i) w small h = let low = slice_get_within f.watches i w h in let few = small.events in (omega arith, omega (arith, low, few))

-- such an event is watched
begins_watched : (p : Source) (f : Plan) (r : Range) (n : ℕ) → BeginsInside p f r n → (w : Watch) × (watch_at f n ≡ Some w)
begins_watched p f r n (inl h) = (h.0, h.1.1.1.0)
begins_watched p f r n (inr h) = (h.1.0.0, h.1.0.1.0)

nests_found : (p : Source) (f : Plan) (c d : ℕ) (r s : Range) (x y : Area) → IsSmallPlan f → TellsArea p f c r x → TellsArea p f d s y → Nests p f r s → share (event_numbers y.entries) (event_numbers x.contents.events) ≡ true
nests_found p f c d r s x y small t u h =
    let n : ℕ = h.0 in
    let watched = begins_watched p f r n h.1.1 in
    let number = event_number f n watched.0 small watched.1 in
    one_shared (event_numbers y.entries) (event_numbers x.contents.events) n (has_member (event_numbers y.entries) n ((u.entries n number).1 h.1.0)) (has_member (event_numbers x.contents.events) n ((t.contents.events n).1 h.1.1))

nests_told : (p : Source) (f : Plan) (c d : ℕ) (r s : Range) (x y : Area) → IsSmallPlan f → TellsArea p f c r x → TellsArea p f d s y → share (event_numbers y.entries) (event_numbers x.contents.events) ≡ true → Nests p f r s
nests_told p f c d r s x y small t u h =
    let found = shared_one (event_numbers y.entries) (event_numbers x.contents.events) h in
    let n : ℕ = found.0 in
    let inside = (t.contents.events n).0 (member_has (event_numbers x.contents.events) n found.1.1) in
    let watched = begins_watched p f r n inside in
    let number = event_number f n watched.0 small watched.1 in
    (n, ((u.entries n number).0 (member_has (event_numbers y.entries) n found.1.0), inside))

pub nested_told : (p : Source) (f : Plan) (c d : ℕ) (r s : Range) (x y : Area) → IsSmallPlan f → TellsArea p f c r x → TellsArea p f d s y → are_nested x y ≡ true → Nests p f r s ⊎ Nests p f s r
nested_told p f c d r s x y small t u h =
    either_of (or_cases _ _ h) (λ e. inl (nests_told p f c d r s x y small t u e)) (λ e. inr (nests_told p f d c s r y x small u t e))

pub nested_found : (p : Source) (f : Plan) (c d : ℕ) (r s : Range) (x y : Area) → IsSmallPlan f → TellsArea p f c r x → TellsArea p f d s y → Nests p f r s ⊎ Nests p f s r → are_nested x y ≡ true
nested_found p f c d r s x y small t u (inl h) = or_left _ _ (nests_found p f c d r s x y small t u h)
nested_found p f c d r s x y small t u (inr h) = or_right _ _ (nests_found p f d c s r y x small u t h)

-- The same of the regions of a clause

abbrev Tells : Type 0 → Bool → Type 0
Tells P b = (b ≡ true) ↔ P

tells_or : (P Q : Type 0) (a b : Bool) → Tells P a → Tells Q b → Tells (P ⊎ Q) (a || b)
tells_or P Q a b h g = (λ e. either_of (or_cases a b e) (λ i. inl (h.0 i)) (λ i. inr (g.0 i)), λ k. either_of k (λ i. or_left a b (h.1 i)) (λ i. or_right a b (g.1 i)))

-- one region more
reentered_step : (p : Source) (f : Plan) (r : Range) (rs : List Range) (t a b : Bool) → Tells (IsReentered p f r) a → Tells (HasReentered p f rs) b → Tells (HasReentered p f (if t then r ∷ rs else rs)) ((t && a) || b)
reentered_step p f r rs true a b h g = tells_or (IsReentered p f r) (HasReentered p f rs) a b h g
reentered_step p f r rs false a b h g = g

none_told : (P : Type 0) → (P → ⊥) → Tells P false
none_told P h = (λ e. cc, λ k. absurd (h k))

reentered_among : (p : Source) (f : Plan) (c : ℕ) (rs : List (ℕ × Range)) (xs : List Area) → AreAreas p f rs xs → Tells (HasReentered p f (ranges_in c rs)) (has_reentered xs c)
reentered_among p f c [] [] h = none_told ⊥ (λ k. k)
reentered_among p f c (r ∷ rs) (x ∷ xs) h =
    let P : ℕ → Type 0 = λ z. Tells (HasReentered p f (ranges_in c (r ∷ rs))) (((z == c) && is_reentered x) || has_reentered xs c) in
    subst P (sym h.0.clause)
    (reentered_step p f r.1 (ranges_in c rs) (r.0 == c) (is_reentered x) (has_reentered xs c) (reentered_told p f r.0 r.1 x h.0, reentered_found p f r.0 r.1 x h.0) (reentered_among p f c rs xs h.1))
reentered_among p f c [] (x ∷ xs) h = absurd h
reentered_among p f c (r ∷ rs) [] h = absurd h

among_step : (p : Source) (f : Plan) (r s : Range) (ss : List Range) (t a b : Bool) → Tells (Nests p f r s ⊎ Nests p f s r) a → Tells (NestsAmong p f r ss) b
    → Tells (NestsAmong p f r (if t then s ∷ ss else ss)) ((t && a) || b)
among_step p f r s ss true a b h g = tells_or (Nests p f r s ⊎ Nests p f s r) (NestsAmong p f r ss) a b h g
among_step p f r s ss false a b h g = g

nests_others : (p : Source) (f : Plan) (c : ℕ) (r : Range) (x : Area) (rs : List (ℕ × Range)) (xs : List Area) → IsSmallPlan f → TellsArea p f c r x → AreAreas p f rs xs → Tells (NestsAmong p f r (ranges_in c rs)) (nests_among x xs)
nests_others p f c r x [] [] small t h = none_told ⊥ (λ k. k)
nests_others p f c r x (s ∷ rs) (y ∷ xs) small t h =
    let P : ℕ → Type 0 = λ z. Tells (NestsAmong p f r (ranges_in c (s ∷ rs))) (((z == x.clause) && are_nested x y) || nests_among x xs) in
    let Q : ℕ → Type 0 = λ z. Tells (NestsAmong p f r (ranges_in c (s ∷ rs))) (((s.0 == z) && are_nested x y) || nests_among x xs) in
    subst P (sym h.0.clause)
    (subst Q (sym t.clause)
    (among_step p f r s.1 (ranges_in c rs) (s.0 == c) (are_nested x y) (nests_among x xs) (nested_told p f c s.0 r s.1 x y small t h.0, nested_found p f c s.0 r s.1 x y small t h.0) (nests_others p f c r x rs xs small t h.1)))
nests_others p f c r x [] (y ∷ xs) small t h = absurd h
nests_others p f c r x (s ∷ rs) [] small t h = absurd h

nested_step : (p : Source) (f : Plan) (r : Range) (rs : List Range) (t a b : Bool) → (t ≡ true → Tells (NestsAmong p f r rs) a) → Tells (AreNested p f rs) b → Tells (AreNested p f (if t then r ∷ rs else rs)) ((t && a) || b)
nested_step p f r rs true a b h g = tells_or (NestsAmong p f r rs) (AreNested p f rs) a b (h refl) g
nested_step p f r rs false a b h g = g

nested_among : (p : Source) (f : Plan) (c : ℕ) (rs : List (ℕ × Range)) (xs : List Area) → IsSmallPlan f → AreAreas p f rs xs → Tells (AreNested p f (ranges_in c rs)) (has_nested xs c)
nested_among p f c [] [] small h = none_told ⊥ (λ k. k)
nested_among p f c (r ∷ rs) (x ∷ xs) small h =
    let P : ℕ → Type 0 = λ z. Tells (AreNested p f (ranges_in c (r ∷ rs))) (((z == c) && nests_among x xs) || has_nested xs c) in
    let Q : ℕ → Type 0 = λ z. Tells (NestsAmong p f r.1 (ranges_in z rs)) (nests_among x xs) in
    subst P (sym h.0.clause)
    (nested_step p f r.1 (ranges_in c rs) (r.0 == c) (nests_among x xs) (has_nested xs c) (λ e. subst Q (eqb-true r.0 c e) (nests_others p f r.0 r.1 x rs xs small h.0 h.1)) (nested_among p f c rs xs small h.1))
nested_among p f c [] (x ∷ xs) small h = absurd h
nested_among p f c (r ∷ rs) [] small h = absurd h

-- The least number of a clause

least_of : (p : Source) (f : Plan) (r : Ruling) (a b : Bool) → (a ≡ true) ↔ HasReentered p f (ranges_of r) → (b ≡ true) ↔ AreNested p f (ranges_of r)
    → TellsLeast (HasPathFault p f r) (if a then Some 7 else if b then Some 8 else None)
least_of p f r true b h g = (inl (refl, h.0 refl), λ m k. either_of k (λ i. let e = i.0 in omega (arith, e)) (λ i. let e = i.0 in omega (arith, e)))
least_of p f r false true h g = (inr (refl, g.0 refl), λ m k. either_of k (λ i. let clash : false ≡ true = h.1 i.1 in cc) (λ i. let e = i.0 in omega (arith, e)))
least_of p f r false false h g = λ m k. either_of k (λ i. let clash : false ≡ true = h.1 i.1 in cc) (λ i. let clash : false ≡ true = g.1 i.1 in cc)

area_tells : (p : Source) (f : Plan) (xs : List Area) (c i : ℕ) (r : Ruling) → IsSmallPlan f → AreAreas p f (plan_regions f) xs → c ≡ 1 + i → slice_get f.rulings i ≡ Some r → TellsLeast (HasPathFault p f r) (area_fault xs c)
area_tells p f xs c i r small h e is =
    let same : ranges_in c (plan_regions f) ≡ ranges_of r = in_clause 1 i c f.rulings r e is in
    let P : List Range → Type 0 = λ z. (has_reentered xs c ≡ true) ↔ HasReentered p f z in
    let Q : List Range → Type 0 = λ z. (has_nested xs c ≡ true) ↔ AreNested p f z in
    least_of p f r (has_reentered xs c) (has_nested xs c) (subst P same (reentered_among p f c (plan_regions f) xs h)) (subst Q same (nested_among p f c (plan_regions f) xs small h))

-- The first of all clauses

no_sooner : (p : Source) (f : Plan) (n : ℕ) (rs : List Ruling) (x : FilterFault) → IsPathFaultFrom p f n rs x → n ≤ x.clause
no_sooner p f n [] x h = absurd h
no_sooner p f n (r ∷ rs) x (inl h) = let e = h.0 in omega (arith, e)
no_sooner p f n (r ∷ rs) x (inr h) = let k = no_sooner p f (suc n) rs x h in omega (arith, k)

with_later : (p : Source) (f : Plan) (n : ℕ) (r : Ruling) (rs : List Ruling) → ((m : ℕ) → HasPathFault p f r m → ⊥) → (o : Option FilterFault)
    → TellsFirst (IsPathFaultFrom p f (suc n) rs) o → TellsFirst (IsPathFaultFrom p f n (r ∷ rs)) o
with_later p f n r rs none None h = λ x k. either_of k (λ i. none x.number i.1) (λ i. h x i)
with_later p f n r rs none (Some x) h = record { is = inr h.is; least = λ y k. either_of k (λ i. absurd (none y.number i.1)) (λ i. h.least y i) }

first_here : (p : Source) (f : Plan) (n : ℕ) (r : Ruling) (rs : List Ruling) (o : Option ℕ) (behind : Option FilterFault) → TellsLeast (HasPathFault p f r) o
    → TellsFirst (IsPathFaultFrom p f (suc n) rs) behind → TellsFirst (IsPathFaultFrom p f n (r ∷ rs)) (fault_at n o behind)
first_here p f n r rs None behind h k = with_later p f n r rs h behind k
first_here p f n r rs (Some m) behind h k = record {
  is = inl (refl, h.0);
  least = λ y i. either_of i (λ j. let s = h.1 y.number j.1 in inr (sym j.0, s)) (λ j. let s = no_sooner p f (suc n) rs y j in inl (omega (arith, s)));
}

first_tells : (p : Source) (f : Plan) (xs : List Area) (n : ℕ) (rs : List Ruling) → ((i : ℕ) (r : Ruling) → slice_get rs i ≡ Some r → TellsLeast (HasPathFault p f r) (area_fault xs (n + i)))
    → TellsFirst (IsPathFaultFrom p f n rs) (first_among xs n (length rs))
first_tells p f xs n [] h = λ x k. k
first_tells p f xs n (r ∷ rs) h =
    let at : n + 0 ≡ n = omega arith in
    let P : ℕ → Type 0 = λ z. TellsLeast (HasPathFault p f r) (area_fault xs z) in
    first_here p f n r rs (area_fault xs n) (first_among xs (suc n) (length rs)) (subst P at (h 0 r refl))
    (first_tells p f xs (suc n) rs (λ i s e. (let next : n + suc i ≡ suc n + i = omega arith in let Q : ℕ → Type 0 = λ z. TellsLeast (HasPathFault p f s) (area_fault xs z) in subst Q next (h (suc i) s e))))

pub path_fault_told : (p : Source) (f : Plan) (xs : List Area) (o : Option FilterFault) → IsSmallPlan f → AreAreas p f (plan_regions f) xs → o ≡ first_among xs 1 (length f.rulings) → TellsFirst (IsPathFault p f) o
path_fault_told p f xs o small h e =
    let P : Option FilterFault → Type 0 = λ z. TellsFirst (IsPathFault p f) z in
    subst P (sym e) (first_tells p f xs 1 f.rulings (λ i r is. area_tells p f xs (1 + i) i r small h refl is))
