-- Rows of what filters make a thread do, as queues.
use Rattle.std.proofs.Common.{ℕ, suc, ◌≡◌, ◌<◌, ◌==◌, ◌-◌, inl, inr, Bool, true, false, not, if◌then◌else◌, List, [], ◌∷◌, ◌++◌, length, take, Option, Some, None, refl, sym, ap, subst, ◌∙◌, true≢false, ne_eqb, arith}
use Rattle.std.specs.Prelude.{zero, ◌↔◌, slice_get, option_map}
use Rattle.std.specs.List.{AllByRecursion, filter}
use Rattle.std.proofs.lemmas.List.{map-append}
use Rattle.loom_law.specs.Filter.{has}
use Rattle.loom_law.specs.FilterView.{is_empty}
use Rattle.loom_law.specs.Walk.{Operation, wait, enters, at, past, post, leave, back, tick, Queue, without_first, with_back, still_owed}
use Rattle.loom_law.proofs.Holdings.{pick}
use Rattle.loom_plan.specs.Sets.{event_numbers, clause_numbers}
use Rattle.loom_plan.specs.Operations.{with_each, with_all}
use Rattle.loom_walk.specs.declared.owed.OwedRow.{OwedRow}
use Rattle.loom_walk.specs.declared.owed.OwedTick.{OwedTick}
use Rattle.loom_walk.specs.declared.owed.OwedOperation.{OwedOperation}
use Rattle.loom_walk.specs.Owed.{row_queue, rows_queue, back_queue, tick_queue, has_operations, HasOperations, with_row, rows_of, filters_owed, IsOrHasMore, operation_of, IsFirstOf, TakesOperation}
use Rattle.loom_walk.proofs.OwedQueues.{row_gone, row_there, row_behind, taken_none}

-- Rows one behind the other

pub rows_both : (l : ℕ) (rs ss : List OwedRow) (more : Queue) → rows_queue l (rs ++ ss) more ≡ rows_queue l ss (rows_queue l rs more)
rows_both l [] ss more = refl
rows_both l (r ∷ rs) ss more = rows_both l rs ss (row_queue l r more)

pub rows_put : (l : ℕ) (rs : List OwedRow) (r : OwedRow) (more : Queue) → rows_queue l (with_row rs r) more ≡ row_queue l r (rows_queue l rs more)
rows_put l rs r more =
    pick (λ (z : List OwedRow). rows_queue l z more ≡ row_queue l r (rows_queue l rs more)) (has_operations r) (rs ++ r ∷ []) rs
    (λ e. rows_both l rs (r ∷ []) more) (λ e. sym (row_gone l r (rows_queue l rs more) e))

all_more : (rs : List OwedRow) (r : OwedRow) → AllByRecursion HasOperations rs → HasOperations r → AllByRecursion HasOperations (rs ++ r ∷ [])
all_more [] r h g = (g, tt)
all_more (x ∷ xs) r h g = (h.0, all_more xs r h.1 g)

all_front : (rs ss : List OwedRow) → AllByRecursion HasOperations (rs ++ ss) → AllByRecursion HasOperations rs
all_front [] ss h = tt
all_front (r ∷ rs) ss h = (h.0, all_front rs ss h.1)

all_last : (rs : List OwedRow) (r : OwedRow) → AllByRecursion HasOperations (rs ++ r ∷ []) → HasOperations r
all_last [] r h = h.0
all_last (x ∷ xs) r h = all_last xs r h.1

pub all_put : (rs : List OwedRow) (r : OwedRow) → AllByRecursion HasOperations rs → AllByRecursion HasOperations (with_row rs r)
all_put rs r h = pick (AllByRecursion HasOperations) (has_operations r) (rs ++ r ∷ []) rs (λ e. all_more rs r h e) (λ e. h)

pub all_of : (ks : List ℕ) (rs : List OwedRow) → AllByRecursion HasOperations rs → AllByRecursion HasOperations (rows_of ks rs)
all_of ks [] h = tt
all_of ks (r ∷ rs) h =
    let ih : AllByRecursion HasOperations (rows_of ks rs) = all_of ks rs h.1 in
    pick (AllByRecursion HasOperations) (has ks r.filter) (r ∷ rows_of ks rs) (rows_of ks rs) (λ e. (h.0, ih)) (λ e. ih)

abbrev filter_of : OwedRow → ℕ
filter_of r = r.filter

filters_more : (rs : List OwedRow) (r : OwedRow) → filters_owed (rs ++ r ∷ []) ≡ filters_owed rs ++ r.filter ∷ []
filters_more rs r = map-append filter_of rs (r ∷ [])

pub filters_put : (rs : List OwedRow) (r : OwedRow) → IsOrHasMore (filters_owed rs) r.filter (filters_owed (with_row rs r))
filters_put rs r =
    pick (λ (z : List OwedRow). IsOrHasMore (filters_owed rs) r.filter (filters_owed z)) (has_operations r) (rs ++ r ∷ []) rs (λ e. inr (filters_more rs r)) (λ e. inl refl)

-- the filters of the rows of some filters
pub filters_of_rows : (ks : List ℕ) (rs : List OwedRow) → filters_owed (rows_of ks rs) ≡ filter (has ks) (filters_owed rs)
filters_of_rows ks [] = refl
filters_of_rows ks (r ∷ rs) = by (has ks r.filter) (filters_of_rows ks rs)
  where
    by : (b : Bool) → filters_owed (rows_of ks rs) ≡ filter (has ks) (filters_owed rs)
        → filters_owed (if b then r ∷ rows_of ks rs else rows_of ks rs) ≡ (if b then r.filter ∷ filter (has ks) (filters_owed rs) else filter (has ks) (filters_owed rs))
    by true ih = ap (λ (ns : List ℕ). r.filter ∷ ns) ih
    by false ih = ih

-- The first operation

last_taken : (l : ℕ) (rs front : List OwedRow) (row rest : OwedRow) (x : OwedOperation) → rs ≡ front ++ row ∷ [] → TakesOperation row rest (Some x)
    → rows_queue l rs [] ≡ (l, operation_of x) ∷ row_queue l rest (rows_queue l front [])
last_taken l rs front row rest x e t = ap (λ (z : List OwedRow). rows_queue l z []) e ∙ (rows_both l front (row ∷ []) [] ∙ t l (rows_queue l front []))

last_has : (rs front : List OwedRow) (row : OwedRow) → rs ≡ front ++ row ∷ [] → AllByRecursion HasOperations rs → HasOperations row
last_has rs front row e h = all_last front row (subst (AllByRecursion HasOperations) e h)

pub first_is : (l : ℕ) (rs front : List OwedRow) (row rest : OwedRow) (x : Option OwedOperation) → rs ≡ front ++ row ∷ [] → AllByRecursion HasOperations rs → TakesOperation row rest x
    → IsFirstOf (rows_queue l rs []) (option_map (λ (y : OwedOperation). (l, y)) x)
first_is l rs front row rest None e h t = absurd (true≢false (sym (last_has rs front row e h) ∙ sym (taken_none row rest t)))
first_is l rs front row rest (Some x) e h t = subst (λ (q : Queue). IsFirstOf q (Some (l, x))) (sym (last_taken l rs front row rest x e t)) refl

pub first_none : (l : ℕ) (rs : List OwedRow) → None ≡ slice_get rs (length rs - 1) → IsFirstOf (rows_queue l rs []) None
first_none l [] e = tt
first_none l (r ∷ rs) e = absurd (none_some (get_last r rs) (e ∙ is_last r rs (length (r ∷ rs) - 1) (omega arith)))
  where
    none_some : (x : OwedRow) → None ≡ Some x → ⊥
    none_some x e = cc

    get_last : OwedRow → List OwedRow → OwedRow
    get_last r [] = r
    get_last r (x ∷ xs) = get_last x xs

    is_last : (r : OwedRow) (rs : List OwedRow) (n : ℕ) → suc n ≡ length (r ∷ rs) → slice_get (r ∷ rs) n ≡ Some (get_last r rs)
    is_last r [] zero h = refl
    is_last r [] (suc n) h = absurd (omega arith)
    is_last r (x ∷ xs) zero h = absurd (omega arith)
    is_last r (x ∷ xs) (suc n) h = is_last x xs n (omega arith)

no_more : (rs : List OwedRow) → length rs ≡ 0 → rs ≡ []
no_more [] h = refl
no_more (r ∷ rs) h = absurd (omega arith)

some_same : (a b : OwedRow) → Some a ≡ Some b → a ≡ b
some_same a b e = cc

last_at : (rs : List OwedRow) (n : ℕ) (x : OwedRow) → suc n ≡ length rs → slice_get rs n ≡ Some x → rs ≡ take n rs ++ x ∷ []
last_at [] n x h e = absurd (omega arith)
last_at (r ∷ rs) zero x h e = ap (λ (z : List OwedRow). r ∷ z) (no_more rs (omega arith)) ∙ ap (λ (z : OwedRow). z ∷ []) (some_same r x e)
last_at (r ∷ rs) (suc n) x h e = ap (λ (z : List OwedRow). r ∷ z) (last_at rs n x (omega arith) e)

pub last_of : (rs : List OwedRow) (x : OwedRow) → Some x ≡ slice_get rs (length rs - 1) → rs ≡ take (length rs - 1) rs ++ x ∷ []
last_of [] x e = cc
last_of (r ∷ rs) x e = last_at (r ∷ rs) (length (r ∷ rs) - 1) x (omega arith) (sym e)

-- It is taken out.

pub pop_queue : (l : ℕ) (old front new : List OwedRow) (row rest : OwedRow) (x : Option OwedOperation) → old ≡ front ++ row ∷ [] → AllByRecursion HasOperations old → TakesOperation row rest x
    → new ≡ with_row front rest → rows_queue l new [] ≡ without_first (rows_queue l old [])
pop_queue l old front new row rest None e h t g = absurd (true≢false (sym (last_has old front row e h) ∙ sym (taken_none row rest t)))
pop_queue l old front new row rest (Some x) e h t g =
    ap (λ (z : List OwedRow). rows_queue l z []) g ∙ (rows_put l front rest [] ∙ sym (ap without_first (last_taken l old front row rest x e t)))

pub pop_all : (old front new : List OwedRow) (row rest : OwedRow) → old ≡ front ++ row ∷ [] → AllByRecursion HasOperations old → new ≡ with_row front rest → AllByRecursion HasOperations new
pop_all old front new row rest e h g =
    subst (AllByRecursion HasOperations) (sym g) (all_put front rest (all_front front (row ∷ []) (subst (AllByRecursion HasOperations) e h)))

abbrev FilterLost : List OwedRow → List OwedRow → Type 0
FilterLost old new = (k : ℕ) × IsOrHasMore (filters_owed new) k (filters_owed old)

pub pop_filters : (old front new : List OwedRow) (row rest : OwedRow) → old ≡ front ++ row ∷ [] → rest.filter ≡ row.filter → new ≡ with_row front rest
    → (k : ℕ) × IsOrHasMore (filters_owed new) k (filters_owed old)
pop_filters old front new row rest e f g =
    let was : filters_owed old ≡ filters_owed front ++ row.filter ∷ [] = ap filters_owed e ∙ filters_more front row in
    let same : filters_owed old ≡ filters_owed (front ++ rest ∷ [])
    = was ∙ (ap (λ (k : ℕ). filters_owed front ++ k ∷ []) (sym f) ∙ sym (filters_more front rest)) in
    subst (FilterLost old) (sym g)
    (pick (FilterLost old) (has_operations rest) (front ++ rest ∷ []) front (λ b. (row.filter, inl same)) (λ b. (row.filter, inr was)))

pub same_filters : (xs : List ℕ) → (k : ℕ) × IsOrHasMore xs k xs
same_filters xs = (0, inl refl)

-- where there is no row
pub pop_none : (l : ℕ) (old new : List OwedRow) → (0 < length old → ⊥) → new ≡ old → rows_queue l new [] ≡ without_first (rows_queue l old [])
pop_none l [] new h e = ap (λ (z : List OwedRow). rows_queue l z []) e
pop_none l (r ∷ rs) new h e = absurd (h (omega arith))

-- Whether there is something

behind_some : (l : ℕ) (rs : List OwedRow) (more : Queue) → is_empty more ≡ false → is_empty (rows_queue l rs more) ≡ false
behind_some l [] more h = h
behind_some l (r ∷ rs) more h = behind_some l rs (row_queue l r more) (row_behind l r more h)

rows_some : (l : ℕ) (r : OwedRow) (rs : List OwedRow) → AllByRecursion HasOperations (r ∷ rs) → is_empty (rows_queue l (r ∷ rs) []) ≡ false
rows_some l r rs h = behind_some l rs (row_queue l r []) (row_there l r [] h.0)

empty_is : (q : Queue) → q ≡ [] → is_empty q ≡ false → ⊥
empty_is q e h = true≢false (ap is_empty (sym e) ∙ h)

later : (n : ℕ) → (suc n == 0) ≡ false
later n = ne_eqb (suc n) 0 (λ e. omega (arith, e))

pub nothing_back : (b : Bool) (l : ℕ) (q : Queue) → b ≡ true → (false ≡ true) ↔ (back_queue b l q ≡ [])
nothing_back true l q e = (λ h. absurd (true≢false (sym h)), λ h. absurd (empty_is ((l, back) ∷ q) h refl))
nothing_back false l q e = absurd (true≢false (sym e))

pub nothing_rows : (b t : Bool) (l : ℕ) (rs : List OwedRow) → b ≡ false → AllByRecursion HasOperations rs → t ≡ (length rs == 0)
    → (t ≡ true) ↔ (back_queue b l (rows_queue l rs []) ≡ [])
nothing_rows true t l rs e h g = absurd (true≢false e)
nothing_rows false t l [] e h g = (λ p. refl, λ p. g)
nothing_rows false t l (r ∷ rs) e h g =
    (λ p. absurd (true≢false (sym p ∙ (g ∙ later (length rs)))), λ p. absurd (empty_is (rows_queue l (r ∷ rs) []) p (rows_some l r rs h)))

pub nothing_tick : (t : OwedTick) (q : Queue) → (false ≡ true) ↔ (tick_queue (Some t) q ≡ [])
nothing_tick t q = (λ h. absurd (true≢false (sym h)), λ h. absurd (empty_is ((t.line, tick t.place) ∷ q) h refl))

-- `Back`

with_some : (l : ℕ) (q : Queue) → is_empty q ≡ false → (l, back) ∷ q ≡ with_back l q
with_some l [] h = absurd (true≢false h)
with_some l (x ∷ q) h = refl

pub back_is : (l : ℕ) (rs : List OwedRow) → AllByRecursion HasOperations rs → back_queue (not (length rs == 0)) l (rows_queue l rs []) ≡ with_back l (rows_queue l rs [])
back_is l [] h = refl
back_is l (r ∷ rs) h =
    let q : Queue = rows_queue l (r ∷ rs) [] in
    ap (λ (b : Bool). back_queue (not b) l q) (later (length rs)) ∙ with_some l q (rows_some l r rs h)

-- What is still owed

each_stays : (ks : List ℕ) (l : ℕ) (f : ℕ → Operation) (ns : List ℕ) (more : Queue) → ((n : ℕ) (q : Queue) → still_owed ks ((l, f n) ∷ q) ≡ (l, f n) ∷ still_owed ks q)
    → still_owed ks (with_each l f ns more) ≡ with_each l f ns (still_owed ks more)
each_stays ks l f [] more h = refl
each_stays ks l f (n ∷ ns) more h = h n (with_each l f ns more) ∙ ap (λ (q : Queue). (l, f n) ∷ q) (each_stays ks l f ns more h)

all_stays : (ks : List ℕ) (l : ℕ) (f : List ℕ → Operation) (ns : List ℕ) (more : Queue) → ((m : List ℕ) (q : Queue) → still_owed ks ((l, f m) ∷ q) ≡ (l, f m) ∷ still_owed ks q)
    → still_owed ks (with_all l f ns more) ≡ with_all l f ns (still_owed ks more)
all_stays ks l f [] more h = refl
all_stays ks l f (n ∷ ns) more h = h (n ∷ ns) more

each_goes : (ks : List ℕ) (l : ℕ) (f : ℕ → Operation) (ns : List ℕ) (more : Queue) → ((n : ℕ) (q : Queue) → still_owed ks ((l, f n) ∷ q) ≡ still_owed ks q)
    → still_owed ks (with_each l f ns more) ≡ still_owed ks more
each_goes ks l f [] more h = refl
each_goes ks l f (n ∷ ns) more h = h n (with_each l f ns more) ∙ each_goes ks l f ns more h

all_goes : (ks : List ℕ) (l : ℕ) (f : List ℕ → Operation) (ns : List ℕ) (more : Queue) → ((m : List ℕ) (q : Queue) → still_owed ks ((l, f m) ∷ q) ≡ still_owed ks q)
    → still_owed ks (with_all l f ns more) ≡ still_owed ks more
all_goes ks l f [] more h = refl
all_goes ks l f (n ∷ ns) more h = h (n ∷ ns) more

-- an operation before the rest, or the rest alone
abbrev either : Bool → (ℕ × Operation) → Queue → Queue
either b x q = if b then x ∷ q else q

row_stays : (ks : List ℕ) (l : ℕ) (r : OwedRow) (more : Queue) → has ks r.filter ≡ true → still_owed ks (row_queue l r more) ≡ row_queue l r (still_owed ks more)
row_stays ks l r more h =
    let k : ℕ = r.filter in
    let w : List ℕ = event_numbers r.before.waits in
    let e : List ℕ = clause_numbers r.before.enters in
    let a : List ℕ = event_numbers r.before.at in
    let p : List ℕ = event_numbers r.behind.past in
    let s : List ℕ = event_numbers r.behind.posts in
    let v : List ℕ = clause_numbers r.behind.leaves in
    let lq : Queue = with_each l (leave k) v more in
    let sq : Queue = with_each l (post k) s lq in
    let pq : Queue = with_all l (past k) p sq in
    let aq : Queue = with_all l (at k) a pq in
    let eq : Queue = with_each l (enters k) e aq in
    each_stays ks l (wait k) w eq (λ n q. ap (λ (b : Bool). either b (l, wait k n) (still_owed ks q)) h)
    ∙ ap (λ (q : Queue). with_each l (wait k) w q)
    (each_stays ks l (enters k) e aq (λ n q. ap (λ (b : Bool). either b (l, enters k n) (still_owed ks q)) h)
    ∙ ap (λ (q : Queue). with_each l (enters k) e q)
    (all_stays ks l (at k) a pq (λ m q. ap (λ (b : Bool). either b (l, at k m) (still_owed ks q)) h)
    ∙ ap (λ (q : Queue). with_all l (at k) a q)
    (all_stays ks l (past k) p sq (λ m q. ap (λ (b : Bool). either b (l, past k m) (still_owed ks q)) h)
    ∙ ap (λ (q : Queue). with_all l (past k) p q)
    (each_stays ks l (post k) s lq (λ n q. ap (λ (b : Bool). either b (l, post k n) (still_owed ks q)) h)
    ∙ ap (λ (q : Queue). with_each l (post k) s q) (each_stays ks l (leave k) v more (λ n q. ap (λ (b : Bool). either b (l, leave k n) (still_owed ks q)) h))))))

row_goes : (ks : List ℕ) (l : ℕ) (r : OwedRow) (more : Queue) → has ks r.filter ≡ false → still_owed ks (row_queue l r more) ≡ still_owed ks more
row_goes ks l r more h =
    let k : ℕ = r.filter in
    let w : List ℕ = event_numbers r.before.waits in
    let e : List ℕ = clause_numbers r.before.enters in
    let a : List ℕ = event_numbers r.before.at in
    let p : List ℕ = event_numbers r.behind.past in
    let s : List ℕ = event_numbers r.behind.posts in
    let v : List ℕ = clause_numbers r.behind.leaves in
    let lq : Queue = with_each l (leave k) v more in
    let sq : Queue = with_each l (post k) s lq in
    let pq : Queue = with_all l (past k) p sq in
    let aq : Queue = with_all l (at k) a pq in
    let eq : Queue = with_each l (enters k) e aq in
    each_goes ks l (wait k) w eq (λ n q. ap (λ (b : Bool). either b (l, wait k n) (still_owed ks q)) h)
    ∙ (each_goes ks l (enters k) e aq (λ n q. ap (λ (b : Bool). either b (l, enters k n) (still_owed ks q)) h)
    ∙ (all_goes ks l (at k) a pq (λ m q. ap (λ (b : Bool). either b (l, at k m) (still_owed ks q)) h)
    ∙ (all_goes ks l (past k) p sq (λ m q. ap (λ (b : Bool). either b (l, past k m) (still_owed ks q)) h)
    ∙ (each_goes ks l (post k) s lq (λ n q. ap (λ (b : Bool). either b (l, post k n) (still_owed ks q)) h)
    ∙ each_goes ks l (leave k) v more (λ n q. ap (λ (b : Bool). either b (l, leave k n) (still_owed ks q)) h)))))

pub rows_still : (ks : List ℕ) (l : ℕ) (rs : List OwedRow) (more : Queue) → still_owed ks (rows_queue l rs more) ≡ rows_queue l (rows_of ks rs) (still_owed ks more)
rows_still ks l [] more = refl
rows_still ks l (r ∷ rs) more =
    let ih : still_owed ks (rows_queue l rs (row_queue l r more)) ≡ rows_queue l (rows_of ks rs) (still_owed ks (row_queue l r more)) = rows_still ks l rs (row_queue l r more) in
    pick (λ (z : List OwedRow). still_owed ks (rows_queue l rs (row_queue l r more)) ≡ rows_queue l z (still_owed ks more)) (has ks r.filter) (r ∷ rows_of ks rs) (rows_of ks rs)
    (λ b. ih ∙ ap (λ (q : Queue). rows_queue l (rows_of ks rs) q) (row_stays ks l r more b))
    (λ b. ih ∙ ap (λ (q : Queue). rows_queue l (rows_of ks rs) q) (row_goes ks l r more b))

abbrev still_back : Bool → ℕ → Queue → Queue
still_back true l q = with_back l q
still_back false l q = q

back_still : (ks : List ℕ) (b : Bool) (l : ℕ) (q : Queue) → still_owed ks (back_queue b l q) ≡ still_back b l (still_owed ks q)
back_still ks true l q = refl
back_still ks false l q = refl

tick_still : (ks : List ℕ) (t : Option OwedTick) (q : Queue) → still_owed ks (tick_queue t q) ≡ tick_queue t (still_owed ks q)
tick_still ks None q = refl
tick_still ks (Some t) q = refl

none_back : (b : Bool) (l : ℕ) → [] ≡ still_back b l []
none_back true l = refl
none_back false l = refl

some_back : (b : Bool) (l : ℕ) (q : Queue) → is_empty q ≡ false → back_queue b l q ≡ still_back b l q
some_back true l q h = with_some l q h
some_back false l q h = refl

-- `Back` stays where a row stays.
back_stays : (l : ℕ) (b new : Bool) (rs : List OwedRow) → AllByRecursion HasOperations rs → ((length rs == 0) ≡ true → new ≡ false) → ((length rs == 0) ≡ false → new ≡ b)
    → back_queue new l (rows_queue l rs []) ≡ still_back b l (rows_queue l rs [])
back_stays l b new [] h f g = ap (λ (z : Bool). back_queue z l []) (f refl) ∙ none_back b l
back_stays l b new (r ∷ rs) h f g =
    let q : Queue = rows_queue l (r ∷ rs) [] in
    ap (λ (z : Bool). back_queue z l q) (g (later (length rs))) ∙ some_back b l q (rows_some l r rs h)

pub keep_queue : (ks : List ℕ) (t : Option OwedTick) (l : ℕ) (b new : Bool) (rs rest : List OwedRow) → AllByRecursion HasOperations rs → rest ≡ rows_of ks rs
    → ((length rest == 0) ≡ true → new ≡ false) → ((length rest == 0) ≡ false → new ≡ b)
    → tick_queue t (back_queue new l (rows_queue l rest [])) ≡ still_owed ks (tick_queue t (back_queue b l (rows_queue l rs [])))
keep_queue ks t l b new rs rest h e f g =
    let all : AllByRecursion HasOperations rest = subst (AllByRecursion HasOperations) (sym e) (all_of ks rs h) in
    let rows : rows_queue l rest [] ≡ still_owed ks (rows_queue l rs []) = ap (λ (z : List OwedRow). rows_queue l z []) e ∙ sym (rows_still ks l rs []) in
    ap (tick_queue t) (back_stays l b new rest all f g ∙ (ap (still_back b l) rows ∙ sym (back_still ks b l (rows_queue l rs []))))
    ∙ sym (tick_still ks t (back_queue b l (rows_queue l rs [])))

-- More behind all

each_append : (l : ℕ) (f : ℕ → Operation) (ns : List ℕ) (q more : Queue) → with_each l f ns (q ++ more) ≡ with_each l f ns q ++ more
each_append l f [] q more = refl
each_append l f (n ∷ ns) q more = ap (λ (z : Queue). (l, f n) ∷ z) (each_append l f ns q more)

all_append : (l : ℕ) (f : List ℕ → Operation) (ns : List ℕ) (q more : Queue) → with_all l f ns (q ++ more) ≡ with_all l f ns q ++ more
all_append l f [] q more = refl
all_append l f (n ∷ ns) q more = refl

row_append : (l : ℕ) (r : OwedRow) (q more : Queue) → row_queue l r (q ++ more) ≡ row_queue l r q ++ more
row_append l r q more =
    let k : ℕ = r.filter in
    let w : List ℕ = event_numbers r.before.waits in
    let e : List ℕ = clause_numbers r.before.enters in
    let a : List ℕ = event_numbers r.before.at in
    let p : List ℕ = event_numbers r.behind.past in
    let s : List ℕ = event_numbers r.behind.posts in
    let v : List ℕ = clause_numbers r.behind.leaves in
    let lq : Queue = with_each l (leave k) v q in
    let sq : Queue = with_each l (post k) s lq in
    let pq : Queue = with_all l (past k) p sq in
    let aq : Queue = with_all l (at k) a pq in
    let eq : Queue = with_each l (enters k) e aq in
    ap (λ (z : Queue). with_each l (wait k) w z)
    (ap (λ (z : Queue). with_each l (enters k) e z)
    (ap (λ (z : Queue). with_all l (at k) a z)
    (ap (λ (z : Queue). with_all l (past k) p z)
    (ap (λ (z : Queue). with_each l (post k) s z) (each_append l (leave k) v q more) ∙ each_append l (post k) s lq more)
    ∙ all_append l (past k) p sq more)
    ∙ all_append l (at k) a pq more)
    ∙ each_append l (enters k) e aq more)
    ∙ each_append l (wait k) w eq more

rows_append : (l : ℕ) (rs : List OwedRow) (q more : Queue) → rows_queue l rs (q ++ more) ≡ rows_queue l rs q ++ more
rows_append l [] q more = refl
rows_append l (r ∷ rs) q more = ap (λ (z : Queue). rows_queue l rs z) (row_append l r q more) ∙ rows_append l rs (row_queue l r q) more

back_append : (b : Bool) (l : ℕ) (q more : Queue) → back_queue b l (q ++ more) ≡ back_queue b l q ++ more
back_append true l q more = refl
back_append false l q more = refl

tick_append : (t : Option OwedTick) (q more : Queue) → tick_queue t (q ++ more) ≡ tick_queue t q ++ more
tick_append None q more = refl
tick_append (Some t) q more = refl

pub append_queue : (t : Option OwedTick) (b : Bool) (l : ℕ) (ms rs : List OwedRow)
    → tick_queue t (back_queue b l (rows_queue l (ms ++ rs) [])) ≡ tick_queue t (back_queue b l (rows_queue l rs [])) ++ rows_queue l ms []
append_queue t b l ms rs =
    let more : Queue = rows_queue l ms [] in
    let q : Queue = rows_queue l rs [] in
    ap (λ (z : Queue). tick_queue t (back_queue b l z)) (rows_both l ms rs [] ∙ rows_append l rs [] more)
    ∙ (ap (tick_queue t) (back_append b l q more) ∙ tick_append t (back_queue b l q) more)
