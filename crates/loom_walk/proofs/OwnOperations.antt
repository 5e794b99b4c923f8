-- What is owed is of the filters that have rows, and a clause that is to be entered is one that a set can have.
use Rattle.std.proofs.Common.{ℕ, zero, suc, ◌+◌, ◌≤◌, ◌<◌, ◌≡◌, Bool, true, false, List, [], ◌∷◌, Option, Some, None, refl, sym, ap, subst, ◌∙◌, arith, if◌then◌else◌}
use Rattle.std.specs.List.{AllByRecursion}
use Rattle.loom_law.specs.Filter.{has}
use Rattle.loom_law.specs.Walk.{Operation, wait, enters, at, past, post, leave, Queue, Owes}
use Rattle.loom_plan.specs.Numbers.{select, is_bit, numbers_of, most_numbers}
use Rattle.loom_plan.specs.declared.sets.ClauseSet.{ClauseSet}
use Rattle.loom_plan.specs.Sets.{event_numbers, clause_numbers}
use Rattle.loom_plan.specs.Operations.{with_each, with_all}
use Rattle.loom_walk.specs.declared.owed.OwedRow.{OwedRow}
use Rattle.loom_walk.specs.declared.owed.OwedTick.{OwedTick}
use Rattle.loom_walk.specs.declared.owed.OwedOperation.{OwedOperation}
use Rattle.loom_walk.specs.Owed.{Owed, row_queue, rows_queue, back_queue, tick_queue, queue, filters_owed, operation_of}
use Rattle.loom_walk.specs.FilterWalk.{IsFirstOperation}

-- it is of one of these filters
abbrev pub IsOwnOperation : List ℕ → Operation → Type 0
IsOwnOperation ks (enters k c) = (has ks k ≡ true) × ((0 < c) × (c ≤ most_numbers))
IsOwnOperation ks (at k ns) = has ks k ≡ true
IsOwnOperation ks (past k ns) = has ks k ≡ true
IsOwnOperation ks _ = Unit {0}

abbrev AreOwn : List ℕ → Queue → Type 0
AreOwn ks [] = Unit {0}
AreOwn ks (x ∷ os) = IsOwnOperation ks x.1 × AreOwn ks os

-- Numbers of clauses

select_within : (test : ℕ → Bool) (k i low high : ℕ) → low ≤ i → i + k ≤ high → AllByRecursion (λ (c : ℕ). (low < c) × (c ≤ high)) (select test k i)
unfolding select
select_within test zero i low high a b = tt
select_within test (suc k) i low high a b = by (test i) (select_within test k (suc i) low high (omega arith) (omega arith))
  where
    by : (t : Bool) → AllByRecursion (λ (c : ℕ). (low < c) × (c ≤ high)) (select test k (suc i))
        → AllByRecursion (λ (c : ℕ). (low < c) × (c ≤ high)) (if t then suc i ∷ select test k (suc i) else select test k (suc i))
    by true rest = ((omega arith, omega arith), rest)
    by false rest = rest

clauses_within : (s : ClauseSet) → AllByRecursion (λ (c : ℕ). (0 < c) × (c ≤ most_numbers)) (clause_numbers s)
unfolding numbers_of
clauses_within s = select_within (is_bit s.numbers.bits) most_numbers 0 0 most_numbers (omega arith) (omega arith)

-- Queues

each_own : (ks : List ℕ) (l : ℕ) (o : ℕ → Operation) (ns : List ℕ) (more : Queue) → ((n : ℕ) → IsOwnOperation ks (o n)) → AreOwn ks more → AreOwn ks (with_each l o ns more)
each_own ks l o [] more own h = h
each_own ks l o (n ∷ ns) more own h = (own n, each_own ks l o ns more own h)

all_own : (ks : List ℕ) (l : ℕ) (o : List ℕ → Operation) (ns : List ℕ) (more : Queue) → ((ms : List ℕ) → IsOwnOperation ks (o ms)) → AreOwn ks more → AreOwn ks (with_all l o ns more)
all_own ks l o [] more own h = h
all_own ks l o (n ∷ ns) more own h = (own (n ∷ ns), h)

enters_own : (ks : List ℕ) (l k : ℕ) (cs : List ℕ) (more : Queue) → has ks k ≡ true → AllByRecursion (λ (c : ℕ). (0 < c) × (c ≤ most_numbers)) cs → AreOwn ks more
    → AreOwn ks (with_each l (enters k) cs more)
enters_own ks l k [] more own w h = h
enters_own ks l k (c ∷ cs) more own w h = ((own, w.0), enters_own ks l k cs more own w.1 h)

row_own : (ks : List ℕ) (l : ℕ) (r : OwedRow) (more : Queue) → has ks r.filter ≡ true → AreOwn ks more → AreOwn ks (row_queue l r more)
row_own ks l r more own h =
    let leaves = each_own ks l (leave r.filter) (clause_numbers r.behind.leaves) more (λ n. tt) h in
    let posts = each_own ks l (post r.filter) (event_numbers r.behind.posts) _ (λ n. tt) leaves in
    let behind_it = all_own ks l (past r.filter) (event_numbers r.behind.past) _ (λ ms. own) posts in
    let begun = all_own ks l (at r.filter) (event_numbers r.before.at) _ (λ ms. own) behind_it in
    let enters_it = enters_own ks l r.filter (clause_numbers r.before.enters) _ own (clauses_within r.before.enters) begun in
    each_own ks l (wait r.filter) (event_numbers r.before.waits) _ (λ n. tt) enters_it

rows_own : (ks : List ℕ) (l : ℕ) (rs : List OwedRow) (more : Queue) → AllByRecursion (λ (k : ℕ). has ks k ≡ true) (filters_owed rs) → AreOwn ks more
    → AreOwn ks (rows_queue l rs more)
rows_own ks l [] more own h = h
rows_own ks l (r ∷ rs) more own h = rows_own ks l rs (row_queue l r more) own.1 (row_own ks l r more own.0 h)

back_own : (ks : List ℕ) (b : Bool) (l : ℕ) (os : Queue) → AreOwn ks os → AreOwn ks (back_queue b l os)
back_own ks true l os h = (tt, h)
back_own ks false l os h = h

tick_own : (ks : List ℕ) (t : Option OwedTick) (os : Queue) → AreOwn ks os → AreOwn ks (tick_queue t os)
tick_own ks None os h = h
tick_own ks (Some t) os h = (tt, h)

first_own : (ks : List ℕ) (os : Queue) (y : OwedOperation) → AreOwn ks os → IsFirstOperation os (Some y) → IsOwnOperation ks (operation_of y)
first_own ks [] y own h = absurd h
first_own ks (x ∷ os) y own h = subst (IsOwnOperation ks) h own.0

pub own_operation : (ks : List ℕ) (x : Owed) (y : OwedOperation) → AllByRecursion (λ (k : ℕ). has ks k ≡ true) (filters_owed x.rows)
    → IsFirstOperation (queue x) (Some y) → IsOwnOperation ks (operation_of y)
own_operation ks x y own h =
    first_own ks (queue x) y (tick_own ks x.tick _ (back_own ks x.back x.line _ (rows_own ks x.line x.rows [] own tt))) h

-- what is owed first is one operation
pub same_first : (os : Queue) (l : ℕ) (o : Operation) (y : OwedOperation) → Owes os l o → IsFirstOperation os (Some y) → operation_of y ≡ o
same_first [] l o y h g = absurd h
same_first (x ∷ os) l o y h g = sym g ∙ ap (λ (q : ℕ × Operation). q.1) h

pub no_first : (os : Queue) → IsFirstOperation os None → os ≡ []
no_first [] h = refl
no_first (x ∷ os) h = absurd h
