-- The queues of what is owed, by sets.
use Rattle.std.proofs.Common.{ℕ, suc, ◌≡◌, ◌<◌, ◌≤◌, ◌+◌, Bool, true, false, ◌&&◌, not, if◌then◌else◌, List, [], ◌∷◌, refl, sym, ap, ◌∙◌, arith}
use Rattle.std.specs.List.{filter}
use Rattle.loom_law.specs.Filter.{Ruling, Plan, has, waits, posts, clauses, numbered_from}
use Rattle.loom_law.specs.Walk.{Operation, wait, enters, at, past, post, leave, OpenFrame, Inside, Queue, holds, is_inside_clause, begins_in, owed_waits, owed_enters, owed_by, owed_posts, owed_leaves, owed_past, completed, in_frame, all_inside}
use Rattle.loom_plan.specs.Numbers.{select, is_bit, numbers_of}
use Rattle.loom_plan.specs.declared.sets.EventSet.{EventSet}
use Rattle.loom_plan.specs.declared.sets.ClauseSet.{ClauseSet}
use Rattle.loom_plan.specs.declared.operations.Before.{Before}
use Rattle.loom_plan.specs.declared.operations.Behind.{Behind}
use Rattle.loom_plan.specs.Sets.{event_numbers, clause_numbers}
use Rattle.loom_plan.specs.ElementNumbers.{numbers_where}
use Rattle.loom_plan.specs.Operations.{with_each, with_all, queue_before, queue_behind, queue_leaves, HoldsThese, IsInsideThese, is_to_enter, is_to_leave}
use Rattle.loom_plan.specs.PlanParts.{IsSetOf}
use Rattle.loom_plan.proofs.Select.{select_alike, filter_select}
use Rattle.loom_plan.proofs.ElementNumbers.{chosen_alike}

waits_if : (l : ℕ) (o : ℕ → Operation) (b : Bool) (n : ℕ) (ns : List ℕ) (more rest : Queue) → rest ≡ with_each l o ns more
    → (if b then (l, o n) ∷ rest else rest) ≡ with_each l o (if b then n ∷ ns else ns) more
waits_if l o true n ns more rest e = ap (λ (q : Queue). (l, o n) ∷ q) e
waits_if l o false n ns more rest e = e

waits_are : (f : Plan) (k l : ℕ) (ns : List ℕ) (more : Queue) → owed_waits f k l ns more ≡ with_each l (wait k) (filter (waits f) ns) more
waits_are f k l [] more = refl
waits_are f k l (n ∷ ns) more = waits_if l (wait k) (waits f n) n (filter (waits f) ns) more _ (waits_are f k l ns more)

posts_are : (f : Plan) (k l : ℕ) (ns : List ℕ) (more : Queue) → owed_posts f k l ns more ≡ with_each l (post k) (filter (posts f) ns) more
posts_are f k l [] more = refl
posts_are f k l (n ∷ ns) more = waits_if l (post k) (posts f n) n (filter (posts f) ns) more _ (posts_are f k l ns more)

enters_are : (hs : List (ℕ × ℕ)) (k l : ℕ) (ns : List ℕ) (n : ℕ) (rs : List Ruling) (more : Queue)
    → owed_enters hs k l ns (numbered_from n rs) more ≡ with_each l (enters k) (numbers_where (is_to_enter ns (holds hs k)) n rs) more
enters_are hs k l ns n [] more = refl
enters_are hs k l ns n (r ∷ rs) more =
    waits_if l (enters k) (is_to_enter ns (holds hs k) n r) n (numbers_where (is_to_enter ns (holds hs k)) (suc n) rs) more _ (enters_are hs k l ns (suc n) rs more)

leaves_are : (hs : List (ℕ × ℕ)) (is : List Inside) (k l n : ℕ) (rs : List Ruling) (more : Queue)
    → owed_leaves hs is k l (numbered_from n rs) more ≡ with_each l (leave k) (numbers_where (is_to_leave (holds hs k) (is_inside_clause is k)) n rs) more
leaves_are hs is k l n [] more = refl
leaves_are hs is k l n (r ∷ rs) more =
    waits_if l (leave k) (is_to_leave (holds hs k) (is_inside_clause is k) n r) n (numbers_where (is_to_leave (holds hs k) (is_inside_clause is k)) (suc n) rs) more _
    (leaves_are hs is k l (suc n) rs more)

-- of the events in a set, those in another one

filter_alike : (f P Q : ℕ → Bool) (k i : ℕ) → ((n : ℕ) → i < n → n ≤ i + k → P n ≡ Q n) → filter P (select f k i) ≡ filter Q (select f k i)
filter_alike f P Q k i h =
    filter_select f P k i
    ∙ (select_alike (λ j. f j && P (suc j)) (λ j. f j && Q (suc j)) k i (λ j low high. ap (λ (b : Bool). f j && b) (h (suc j) (omega arith) (omega arith)))
    ∙ sym (filter_select f Q k i))

pub masked : (events mask result : EventSet) (test : ℕ → Bool) → IsSetOf mask test → event_numbers result ≡ filter (has (event_numbers mask)) (event_numbers events)
    → event_numbers result ≡ filter test (event_numbers events)
unfolding numbers_of
masked events mask result test set is = is ∙ filter_alike (is_bit events.numbers.bits) (has (event_numbers mask)) test 32 0 (λ n low high. set n low (omega arith))

-- before and behind

pub enters_kept : (f : Plan) (hs : List (ℕ × ℕ)) (k l : ℕ) (ns : List ℕ) (held found : ClauseSet) (more : Queue) → HoldsThese hs k held
    → clause_numbers found ≡ numbers_where (is_to_enter ns (has (clause_numbers held))) 1 f.rulings
    → owed_enters hs k l ns (clauses f) more ≡ with_each l (enters k) (clause_numbers found) more
enters_kept f hs k l ns held found more h e =
    enters_are hs k l ns 1 f.rulings more
    ∙ ap (λ (cs : List ℕ). with_each l (enters k) cs more)
    (chosen_alike (is_to_enter ns (holds hs k)) (is_to_enter ns (has (clause_numbers held))) 1 f.rulings (λ c r. ap (λ (b : Bool). begins_in r ns && not b) (h c)) ∙ sym e)

pub leaves_kept : (f : Plan) (hs : List (ℕ × ℕ)) (is : List Inside) (k l : ℕ) (held inside found : ClauseSet) (more : Queue) → HoldsThese hs k held → IsInsideThese is k inside
    → clause_numbers found ≡ numbers_where (is_to_leave (has (clause_numbers held)) (has (clause_numbers inside))) 1 f.rulings
    → owed_leaves hs is k l (clauses f) more ≡ queue_leaves k l found more
leaves_kept f hs is k l held inside found more h i e =
    leaves_are hs is k l 1 f.rulings more
    ∙ ap (λ (cs : List ℕ). with_each l (leave k) cs more)
    (chosen_alike (is_to_leave (holds hs k) (is_inside_clause is k)) (is_to_leave (has (clause_numbers held)) (has (clause_numbers inside))) 1 f.rulings
    (λ c r. ap (λ (b : Bool). b && not (is_inside_clause is k c)) (h c) ∙ ap (λ (b : Bool). has (clause_numbers held) c && not b) (i c)) ∙ sym e)

begins : (f : Plan) (k : ℕ) (hs : List (ℕ × ℕ)) (l : ℕ) (ns : List ℕ) (more : Queue) → (ns ≡ [] → ⊥)
    → owed_by f k hs l ns more ≡ owed_waits f k l ns (owed_enters hs k l ns (clauses f) (with_all l (at k) ns more))
begins f k hs l [] more ne = absurd (ne refl)
begins f k hs l (n ∷ ns) more ne = refl

ends : (f : Plan) (k : ℕ) (hs : List (ℕ × ℕ)) (fs : List OpenFrame) (l : ℕ) (ns : List ℕ) (more : Queue) → (ns ≡ [] → ⊥)
    → owed_past f k hs fs l ns more ≡ with_all l (past k) ns (owed_posts f k l ns (owed_leaves hs (all_inside (in_frame (completed k ns) fs)) k l (clauses f) more))
ends f k hs fs l [] more ne = absurd (ne refl)
ends f k hs fs l (n ∷ ns) more ne = refl

pub before_is : (f : Plan) (k : ℕ) (hs : List (ℕ × ℕ)) (l : ℕ) (events : EventSet) (held : ClauseSet) (b : Before) (more : Queue) → (event_numbers events ≡ [] → ⊥)
    → HoldsThese hs k held → event_numbers b.waits ≡ filter (waits f) (event_numbers events)
    → clause_numbers b.enters ≡ numbers_where (is_to_enter (event_numbers events) (has (clause_numbers held))) 1 f.rulings → event_numbers b.at ≡ event_numbers events
    → owed_by f k hs l (event_numbers events) more ≡ queue_before k l b more
before_is f k hs l events held b more ne h w e a =
    let ns : List ℕ = event_numbers events in
    begins f k hs l ns more ne
    ∙ (waits_are f k l ns (owed_enters hs k l ns (clauses f) (with_all l (at k) ns more))
    ∙ (ap (λ (q : Queue). with_each l (wait k) (filter (waits f) ns) q) (enters_kept f hs k l ns held b.enters (with_all l (at k) ns more) h e)
    ∙ (ap (λ (xs : List ℕ). with_each l (wait k) xs (with_each l (enters k) (clause_numbers b.enters) (with_all l (at k) ns more))) (sym w)
    ∙ ap (λ (xs : List ℕ). with_each l (wait k) (event_numbers b.waits) (with_each l (enters k) (clause_numbers b.enters) (with_all l (at k) xs more))) (sym a))))

pub behind_is : (f : Plan) (k : ℕ) (hs : List (ℕ × ℕ)) (fs : List OpenFrame) (l : ℕ) (events : EventSet) (b : Behind) (more : Queue) → (event_numbers events ≡ [] → ⊥)
    → event_numbers b.past ≡ event_numbers events → event_numbers b.posts ≡ filter (posts f) (event_numbers events)
    → owed_leaves hs (all_inside (in_frame (completed k (event_numbers events)) fs)) k l (clauses f) more ≡ queue_leaves k l b.leaves more
    → owed_past f k hs fs l (event_numbers events) more ≡ queue_behind k l b more
behind_is f k hs fs l events b more ne a w e =
    let ns : List ℕ = event_numbers events in
    let rest : Queue = owed_leaves hs (all_inside (in_frame (completed k ns) fs)) k l (clauses f) more in
    ends f k hs fs l ns more ne
    ∙ (ap (λ (q : Queue). with_all l (past k) ns q) (posts_are f k l ns rest)
    ∙ (ap (λ (q : Queue). with_all l (past k) ns (with_each l (post k) (filter (posts f) ns) q)) e
    ∙ (ap (λ (xs : List ℕ). with_all l (past k) ns (with_each l (post k) xs (queue_leaves k l b.leaves more))) (sym w)
    ∙ ap (λ (xs : List ℕ). with_all l (past k) xs (with_each l (post k) (event_numbers b.posts) (queue_leaves k l b.leaves more))) (sym a))))

-- where no event begins

pub before_none : (f : Plan) (k : ℕ) (hs : List (ℕ × ℕ)) (l : ℕ) (ns : List ℕ) (b : Before) (more : Queue) → ns ≡ []
    → event_numbers b.waits ≡ [] → clause_numbers b.enters ≡ [] → event_numbers b.at ≡ [] → owed_by f k hs l ns more ≡ queue_before k l b more
before_none f k hs l ns b more e w c a =
    ap (λ (xs : List ℕ). owed_by f k hs l xs more) e
    ∙ (ap (λ (xs : List ℕ). with_all l (at k) xs more) (sym a)
    ∙ (ap (λ (xs : List ℕ). with_each l (enters k) xs (with_all l (at k) (event_numbers b.at) more)) (sym c)
    ∙ ap (λ (xs : List ℕ). with_each l (wait k) xs (with_each l (enters k) (clause_numbers b.enters) (with_all l (at k) (event_numbers b.at) more))) (sym w)))

pub behind_none : (f : Plan) (k : ℕ) (hs : List (ℕ × ℕ)) (fs : List OpenFrame) (l : ℕ) (ns : List ℕ) (b : Behind) (more : Queue) → ns ≡ []
    → event_numbers b.past ≡ [] → event_numbers b.posts ≡ [] → clause_numbers b.leaves ≡ [] → owed_past f k hs fs l ns more ≡ queue_behind k l b more
behind_none f k hs fs l ns b more e a w c =
    ap (λ (xs : List ℕ). owed_past f k hs fs l xs more) e
    ∙ (ap (λ (xs : List ℕ). with_each l (leave k) xs more) (sym c)
    ∙ (ap (λ (xs : List ℕ). with_each l (post k) xs (with_each l (leave k) (clause_numbers b.leaves) more)) (sym w)
    ∙ ap (λ (xs : List ℕ). with_all l (past k) xs (with_each l (post k) (event_numbers b.posts) (with_each l (leave k) (clause_numbers b.leaves) more))) (sym a)))
