-- Forms have the faults that their trees have; the first fault of clauses, one clause after another.
use Rattle.std.proofs.Common.{ℕ, suc, ◌+◌, ◌-◌, ◌≤◌, ◌<◌, ◌≡◌, ◌⊎◌, inl, inr, nat_le, true, false, List, [], ◌∷◌, map, Option, Some, None, refl, sym, ap, subst, ◌∙◌, arith}
use Rattle.std.proofs.lemmas.List.{length-map}
use Rattle.std.proofs.lemmas.Bool.Decides.{leb_tells}
use Rattle.loom_command.specs.Filter as tree
use Rattle.loom_command.specs.FilterForm.{EventForm, StepForm, RegionForm, between, whole, ClauseForm, order, exclusive, unilateral, event_tree, step_tree, region_tree, clause_tree}
use Rattle.loom_command.specs.FilterFault as form
use Rattle.loom_command.specs.FilterFault.{FilterFault, IsNoLater, IsSameEvent}
use Rattle.loom_filter.specs.Builders.{CountedClause, counted_clause, counted_clauses}
use Rattle.loom_filter.specs.Fault.{IsStepAmong, HaveTwins, Repeats, region_events, regions_events, clause_events, is_too_much, HasFault, IsFaultOf, IsFirstOf, TellsForm, TellsFault, TellsRoom}

-- Twins

same_tree : (a b : EventForm) → IsSameEvent a b → event_tree a ≡ event_tree b
same_tree a b h = rw (h.file, h.line, h.test) refl

tree_same : (a b : EventForm) → event_tree a ≡ event_tree b → IsSameEvent a b
tree_same a b h = record { file = ap (λ (z : tree.LineEvent). z.file) h; line = ap (λ (z : tree.LineEvent). z.line) h; test = ap (λ (z : tree.LineEvent). z.test) h }

among_tree : (a : EventForm) (ss : List StepForm) → form.IsEventAmong a ss → IsStepAmong (event_tree a) (map step_tree ss)
among_tree a [] h = absurd h
among_tree a (s ∷ ss) (inl h) = inl (same_tree a s.event h)
among_tree a (s ∷ ss) (inr h) = inr (among_tree a ss h)

tree_among : (a : EventForm) (ss : List StepForm) → IsStepAmong (event_tree a) (map step_tree ss) → form.IsEventAmong a ss
tree_among a [] h = absurd h
tree_among a (s ∷ ss) (inl h) = inl (tree_same a s.event h)
tree_among a (s ∷ ss) (inr h) = inr (tree_among a ss h)

twins_tree : (ss : List StepForm) → form.HasTwins ss → HaveTwins (map step_tree ss)
twins_tree [] h = absurd h
twins_tree (s ∷ ss) (inl h) = inl (among_tree s.event ss h)
twins_tree (s ∷ ss) (inr h) = inr (twins_tree ss h)

tree_twins : (ss : List StepForm) → HaveTwins (map step_tree ss) → form.HasTwins ss
tree_twins [] h = absurd h
tree_twins (s ∷ ss) (inl h) = inl (tree_among s.event ss h)
tree_twins (s ∷ ss) (inr h) = inr (tree_twins ss h)

repeats_tree : (c : ClauseForm) → form.Repeats c → Repeats (clause_tree c)
repeats_tree (order a b ss) h = twins_tree (a ∷ b ∷ ss) h
repeats_tree (exclusive r rs) h = absurd h
repeats_tree (unilateral r) h = absurd h

tree_repeats : (c : ClauseForm) → Repeats (clause_tree c) → form.Repeats c
tree_repeats (order a b ss) h = tree_twins (a ∷ b ∷ ss) h
tree_repeats (exclusive r rs) h = absurd h
tree_repeats (unilateral r) h = absurd h

-- Events

region_counts : (r : RegionForm) → region_events (region_tree r) ≡ form.region_events r
region_counts (between e es x xs) =
    let l = length-map es (λ (s : StepForm). event_tree s.event) in
    let m = length-map xs (λ (s : StepForm). event_tree s.event) in
    omega (arith, l, m)
region_counts (whole f test) = refl

regions_count : (rs : List RegionForm) → regions_events (map region_tree rs) ≡ form.regions_events rs
regions_count [] = refl
regions_count (r ∷ rs) = rw (region_counts r, regions_count rs) refl

pub clause_counts : (c : ClauseForm) → clause_events (clause_tree c) ≡ form.clause_events c
clause_counts (order a b ss) = let l = length-map ss step_tree in omega (arith, l)
clause_counts (exclusive r rs) = rw (region_counts r, regions_count rs) refl
clause_counts (unilateral r) = region_counts r

much_is : (n before : ℕ) (c : ClauseForm) → is_too_much n before (clause_tree c) ≡ form.is_too_much n before c
much_is n before c = rw (clause_counts c) refl

-- Faults

has_tree : (n before : ℕ) (c : ClauseForm) (k : ℕ) → form.HasFault n before c k → HasFault n before (counted_clause c) k
has_tree n before c k (inl h) = inl h
has_tree n before c k (inr (inl h)) = inr (inl (h.0, repeats_tree c h.1))
has_tree n before c k (inr (inr h)) = inr (inr (h.0, much_is n before c ∙ h.1))

tree_has : (n before : ℕ) (c : ClauseForm) (k : ℕ) → HasFault n before (counted_clause c) k → form.HasFault n before c k
tree_has n before c k (inl h) = inl h
tree_has n before c k (inr (inl h)) = inr (inl (h.0, tree_repeats c h.1))
tree_has n before c k (inr (inr h)) = inr (inr (h.0, sym (much_is n before c) ∙ h.1))

pub fault_tree : (n before : ℕ) (cs : List ClauseForm) (x : FilterFault) → form.IsFaultOf n before cs x → IsFaultOf n before (counted_clauses cs) x
fault_tree n before [] x h = absurd h
fault_tree n before (c ∷ cs) x (inl h) = inl (h.0, has_tree n before c x.number h.1)
fault_tree n before (c ∷ cs) x (inr h) =
    let P : ℕ → Type 0 = λ z. IsFaultOf (suc n) (before + z) (counted_clauses cs) x in
    inr (subst P (sym (clause_counts c)) (fault_tree (suc n) (before + form.clause_events c) cs x h))

pub tree_fault : (n before : ℕ) (cs : List ClauseForm) (x : FilterFault) → IsFaultOf n before (counted_clauses cs) x → form.IsFaultOf n before cs x
tree_fault n before [] x h = absurd h
tree_fault n before (c ∷ cs) x (inl h) = inl (h.0, tree_has n before c x.number h.1)
tree_fault n before (c ∷ cs) x (inr h) =
    let P : ℕ → Type 0 = λ z. IsFaultOf (suc n) (before + z) (counted_clauses cs) x in
    inr (tree_fault (suc n) (before + form.clause_events c) cs x (subst P (clause_counts c) h))

-- The first fault

-- no fault stands before the first clause
pub not_before : (n before : ℕ) (cs : List CountedClause) (x : FilterFault) → IsFaultOf n before cs x → n ≤ x.clause
not_before n before [] x h = absurd h
not_before n before (c ∷ cs) x (inl h) = let e = h.0 in omega (arith, e)
not_before n before (c ∷ cs) x (inr h) = let l : suc n ≤ x.clause = not_before (suc n) (before + clause_events c.clause) cs x h in omega (arith, l)

-- the first clause has a fault, and none with a less number
pub first_here : (n before : ℕ) (c : CountedClause) (cs : List CountedClause) (k : ℕ) → HasFault n before c k → ((m : ℕ) → HasFault n before c m → k ≤ m) → IsFirstOf n before (c ∷ cs) (record { clause = n; number = k })
first_here n before c cs k h least = record { is = inl (refl, h); least = λ y i. go y i }
  where
    go : (y : FilterFault) → IsFaultOf n before (c ∷ cs) y → IsNoLater (record { clause = n; number = k }) y
    go y (inl i) = inr (sym i.0, least y.number i.1)
    go y (inr i) = let l : suc n ≤ y.clause = not_before (suc n) (before + clause_events c.clause) cs y i in inl (omega (arith, l))

-- it has none
pub first_behind : (n before : ℕ) (c : CountedClause) (cs : List CountedClause) (x : FilterFault) → ((m : ℕ) → HasFault n before c m → ⊥) → IsFirstOf (suc n) (before + clause_events c.clause) cs x → IsFirstOf n before (c ∷ cs) x
first_behind n before c cs x none h = record { is = inr h.is; least = λ y i. go y i }
  where
    go : (y : FilterFault) → IsFaultOf n before (c ∷ cs) y → IsNoLater x y
    go y (inl i) = absurd (none y.number i.1)
    go y (inr i) = h.least y i

pub told_on : (n before : ℕ) (c : CountedClause) (cs : List CountedClause) (x : Option FilterFault) → ((m : ℕ) → HasFault n before c m → ⊥) → TellsFault (suc n) (before + clause_events c.clause) cs x → TellsFault n before (c ∷ cs) x
told_on n before c cs None none h = λ x i. go x i
  where
    go : (x : FilterFault) → IsFaultOf n before (c ∷ cs) x → ⊥
    go x (inl i) = none x.number i.1
    go x (inr i) = h x i
told_on n before c cs (Some x) none h = first_behind n before c cs x none h

-- what the form of a clause tells, and whether it is too much, tell its least number

pub form_first : (n before : ℕ) (c : CountedClause) (k : ℕ) → TellsForm c (Some k) → HasFault n before c k × ((m : ℕ) → HasFault n before c m → k ≤ m)
form_first n before c k (inl h) = (inl h, λ m i. five m i)
  where
    five : (m : ℕ) → HasFault n before c m → k ≤ m
    five m (inl i) = let e = h.0 in let f = i.0 in omega (arith, e, f)
    five m (inr (inl i)) = let e = h.0 in let f = i.0 in omega (arith, e, f)
    five m (inr (inr i)) = let e = h.0 in let f = i.0 in omega (arith, e, f)
form_first n before c k (inr h) = (inr (inl (h.0, h.2)), λ m i. nine m i)
  where
    nine : (m : ℕ) → HasFault n before c m → k ≤ m
    nine m (inl i) = let e = h.1 in let f = i.1 in cc
    nine m (inr (inl i)) = let e = h.0 in let f = i.0 in omega (arith, e, f)
    nine m (inr (inr i)) = let e = h.0 in let f = i.0 in omega (arith, e, f)

pub much_first : (n before : ℕ) (c : CountedClause) → TellsForm c None → is_too_much n before c.clause ≡ true → HasFault n before c 13 × ((m : ℕ) → HasFault n before c m → 13 ≤ m)
much_first n before c h e = (inr (inr (refl, e)), λ m i. go m i)
  where
    go : (m : ℕ) → HasFault n before c m → 13 ≤ m
    go m (inl i) = let f = h.0 in let g = i.1 in cc
    go m (inr (inl i)) = absurd (h.1 i.1)
    go m (inr (inr i)) = let f = i.0 in omega (arith, f)

pub none_here : (n before : ℕ) (c : CountedClause) → TellsForm c None → is_too_much n before c.clause ≡ false → (m : ℕ) → HasFault n before c m → ⊥
none_here n before c h e m (inl i) = let f = h.0 in let g = i.1 in cc
none_here n before c h e m (inr (inl i)) = h.1 i.1
none_here n before c h e m (inr (inr i)) = let f = i.1 in cc

-- What the walk over the clauses tells: all are those of the list, the first of which is looked at with so much room before it.

pub form_told : (n room k : ℕ) (c : CountedClause) (cs all : List CountedClause) → all ≡ c ∷ cs → TellsForm c (Some k) → TellsFault n (32 - room) all (Some (record { clause = n; number = k }))
form_told n room k c cs all e h =
    let f = form_first n (32 - room) c k h in
    subst (λ z. TellsFault n (32 - room) z (Some (record { clause = n; number = k }))) (sym e) (first_here n (32 - room) c cs k f.0 f.1)

pub much_told : (n room : ℕ) (c : CountedClause) (cs all : List CountedClause) → all ≡ c ∷ cs → TellsForm c None → TellsRoom n room c.clause None → TellsFault n (32 - room) all (Some (record { clause = n; number = 13 }))
much_told n room c cs all e h m =
    let f = much_first n (32 - room) c h m in
    subst (λ z. TellsFault n (32 - room) z (Some (record { clause = n; number = 13 }))) (sym e) (first_here n (32 - room) c cs 13 f.0 f.1)

pub told_behind : (n room left : ℕ) (c : CountedClause) (cs all : List CountedClause) (x : Option FilterFault) → room ≤ 32 → all ≡ c ∷ cs → TellsForm c None → TellsRoom n room c.clause (Some left) → TellsFault (n + 1) (32 - left) cs x → TellsFault n (32 - room) all x
told_behind n room left c cs all x r e h m t =
    let b : 32 - left ≡ 32 - room + clause_events c.clause = let p = m.1 in omega (arith, p) in
    let u : TellsFault (n + 1) (32 - room + clause_events c.clause) cs x = subst (λ z. TellsFault (n + 1) z cs x) b t in
    let s : n + 1 ≡ suc n = omega arith in
    let v : TellsFault (suc n) (32 - room + clause_events c.clause) cs x = subst (λ z. TellsFault z (32 - room + clause_events c.clause) cs x) s u in
    subst (λ z. TellsFault n (32 - room) z x) (sym e) (told_on n (32 - room) c cs x (none_here n (32 - room) c h m.0) v)

pub not_last : (n before : ℕ) (c : tree.Clause) → n ≤ 9 → is_too_much n before c ≡ false → n + 1 ≤ 9
not_last n before c l e = go (leb_tells 9 n)
  where
    go : ((nat_le 9 n ≡ true) × (9 ≤ n)) ⊎ ((nat_le 9 n ≡ false) × (n < 9)) → n + 1 ≤ 9
    go (inl h) =
        let i : n ≡ 9 = let m = h.1 in omega arith in
        let f : is_too_much 9 before c ≡ false = subst (λ z. is_too_much z before c ≡ false) i e in
        let g : true ≡ false = f in
        cc
    go (inr h) = let m = h.1 in omega arith
