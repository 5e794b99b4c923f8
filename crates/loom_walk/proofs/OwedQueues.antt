-- What a filter makes a thread do, as a queue: what there is, and what is taken out first.
use Rattle.std.proofs.Common.{ℕ, ◌≡◌, Bool, true, false, not, ◌&&◌, List, [], ◌∷◌, Option, Some, None, refl, sym, ap, ◌∙◌, true≢false}
use Rattle.std.proofs.lemmas.Bool.{and_parts}
use Rattle.loom_law.specs.FilterView.{is_empty}
use Rattle.loom_law.specs.Walk.{Operation, wait, enters, at, past, post, leave, Queue}
use Rattle.loom_plan.specs.declared.sets.EventSet.{EventSet}
use Rattle.loom_plan.specs.declared.sets.ClauseSet.{ClauseSet}
use Rattle.loom_plan.specs.declared.operations.Before.{Before}
use Rattle.loom_plan.specs.declared.operations.Behind.{Behind}
use Rattle.loom_plan.specs.Sets.{event_numbers, clause_numbers}
use Rattle.loom_plan.specs.Operations.{with_each, with_all, queue_before, queue_behind}
use Rattle.loom_walk.specs.declared.owed.OwedRow.{OwedRow}
use Rattle.loom_walk.specs.declared.owed.OwedOperation.{OwedOperation}
use Rattle.loom_walk.specs.declared.owed.OwedOperation.TheVariants as o
use Rattle.loom_walk.specs.Owed.{row_of, row_queue, has_operations, HasOperations, operation_of, TakesBefore, TakesBehind, TakesOperation}

-- Operations of one kind

each_none : (l : ℕ) (f : ℕ → Operation) (ns : List ℕ) (more : Queue) → ns ≡ [] → with_each l f ns more ≡ more
each_none l f ns more e = ap (λ (z : List ℕ). with_each l f z more) e

each_first : (l : ℕ) (f : ℕ → Operation) (n : ℕ) (xs ys : List ℕ) (more : Queue) → xs ≡ n ∷ ys → with_each l f xs more ≡ (l, f n) ∷ with_each l f ys more
each_first l f n xs ys more e = ap (λ (z : List ℕ). with_each l f z more) e

all_none : (l : ℕ) (f : List ℕ → Operation) (ns : List ℕ) (more : Queue) → ns ≡ [] → with_all l f ns more ≡ more
all_none l f ns more e = ap (λ (z : List ℕ). with_all l f z more) e

all_some : (l : ℕ) (f : List ℕ → Operation) (ns : List ℕ) (more : Queue) → (ns ≡ [] → ⊥) → with_all l f ns more ≡ (l, f ns) ∷ more
all_some l f [] more ne = absurd (ne refl)
all_some l f (n ∷ ns) more ne = refl

-- At a beginning

pub before_gone : (k l : ℕ) (b : Before) (more : Queue) → event_numbers b.waits ≡ [] → clause_numbers b.enters ≡ [] → event_numbers b.at ≡ [] → queue_before k l b more ≡ more
before_gone k l b more w e a =
    each_none l (wait k) (event_numbers b.waits) (with_each l (enters k) (clause_numbers b.enters) (with_all l (at k) (event_numbers b.at) more)) w
    ∙ (each_none l (enters k) (clause_numbers b.enters) (with_all l (at k) (event_numbers b.at) more) e ∙ all_none l (at k) (event_numbers b.at) more a)

pub before_wait : (k : ℕ) (b : Before) (ws : EventSet) (n : ℕ) → event_numbers b.waits ≡ n ∷ event_numbers ws
    → TakesBefore k b (record { waits = ws; enters = b.enters; at = b.at }) (Some (o.Wait k n))
before_wait k b ws n w l more =
    each_first l (wait k) n (event_numbers b.waits) (event_numbers ws) (with_each l (enters k) (clause_numbers b.enters) (with_all l (at k) (event_numbers b.at) more)) w

pub before_enter : (k : ℕ) (b : Before) (ws : EventSet) (es : ClauseSet) (n : ℕ) → event_numbers b.waits ≡ [] → event_numbers ws ≡ [] → clause_numbers b.enters ≡ n ∷ clause_numbers es
    → TakesBefore k b (record { waits = ws; enters = es; at = b.at }) (Some (o.Enter k n))
before_enter k b ws es n w v e l more =
    let rest : Queue = with_all l (at k) (event_numbers b.at) more in
    each_none l (wait k) (event_numbers b.waits) (with_each l (enters k) (clause_numbers b.enters) rest) w
    ∙ (each_first l (enters k) n (clause_numbers b.enters) (clause_numbers es) rest e
    ∙ ap (λ (q : Queue). (l, enters k n) ∷ q) (sym (each_none l (wait k) (event_numbers ws) (with_each l (enters k) (clause_numbers es) rest) v)))

pub before_at : (k : ℕ) (b : Before) (ws : EventSet) (es : ClauseSet) (ns : EventSet) → event_numbers b.waits ≡ [] → event_numbers ws ≡ [] → clause_numbers b.enters ≡ [] → clause_numbers es ≡ []
    → (event_numbers b.at ≡ [] → ⊥) → event_numbers ns ≡ [] → TakesBefore k b (record { waits = ws; enters = es; at = ns }) (Some (o.At k b.at))
before_at k b ws es ns w v e d a z l more =
    let rest : Queue = with_all l (at k) (event_numbers b.at) more in
    each_none l (wait k) (event_numbers b.waits) (with_each l (enters k) (clause_numbers b.enters) rest) w
    ∙ (each_none l (enters k) (clause_numbers b.enters) rest e
    ∙ (all_some l (at k) (event_numbers b.at) more a
    ∙ ap (λ (q : Queue). (l, at k (event_numbers b.at)) ∷ q) (sym (before_gone k l (record { waits = ws; enters = es; at = ns }) more v d z))))

pub before_nothing : (k : ℕ) (b : Before) (ws : EventSet) (es : ClauseSet) → event_numbers b.waits ≡ [] → event_numbers ws ≡ [] → clause_numbers b.enters ≡ [] → clause_numbers es ≡ []
    → event_numbers b.at ≡ [] → TakesBefore k b (record { waits = ws; enters = es; at = b.at }) None
before_nothing k b ws es w v e d a l more = (before_gone k l b more w e a, before_gone k l (record { waits = ws; enters = es; at = b.at }) more v d a)

-- Behind a statement, a frame or a trap

pub behind_gone : (k l : ℕ) (d : Behind) (more : Queue) → event_numbers d.past ≡ [] → event_numbers d.posts ≡ [] → clause_numbers d.leaves ≡ [] → queue_behind k l d more ≡ more
behind_gone k l d more p s v =
    all_none l (past k) (event_numbers d.past) (with_each l (post k) (event_numbers d.posts) (with_each l (leave k) (clause_numbers d.leaves) more)) p
    ∙ (each_none l (post k) (event_numbers d.posts) (with_each l (leave k) (clause_numbers d.leaves) more) s ∙ each_none l (leave k) (clause_numbers d.leaves) more v)

pub behind_past : (k : ℕ) (d : Behind) (ns : EventSet) → (event_numbers d.past ≡ [] → ⊥) → event_numbers ns ≡ []
    → TakesBehind k d (record { past = ns; posts = d.posts; leaves = d.leaves }) (Some (o.Past k d.past))
behind_past k d ns p z l more =
    let rest : Queue = with_each l (post k) (event_numbers d.posts) (with_each l (leave k) (clause_numbers d.leaves) more) in
    all_some l (past k) (event_numbers d.past) rest p
    ∙ ap (λ (q : Queue). (l, past k (event_numbers d.past)) ∷ q) (sym (all_none l (past k) (event_numbers ns) rest z))

pub behind_post : (k : ℕ) (d : Behind) (ps : EventSet) (n : ℕ) → event_numbers d.past ≡ [] → event_numbers d.posts ≡ n ∷ event_numbers ps
    → TakesBehind k d (record { past = d.past; posts = ps; leaves = d.leaves }) (Some (o.Post k n))
behind_post k d ps n p s l more =
    let rest : Queue = with_each l (leave k) (clause_numbers d.leaves) more in
    all_none l (past k) (event_numbers d.past) (with_each l (post k) (event_numbers d.posts) rest) p
    ∙ (each_first l (post k) n (event_numbers d.posts) (event_numbers ps) rest s
    ∙ ap (λ (q : Queue). (l, post k n) ∷ q) (sym (all_none l (past k) (event_numbers d.past) (with_each l (post k) (event_numbers ps) rest) p)))

pub behind_leave : (k : ℕ) (d : Behind) (ps : EventSet) (cs : ClauseSet) (n : ℕ) → event_numbers d.past ≡ [] → event_numbers d.posts ≡ [] → event_numbers ps ≡ [] → clause_numbers d.leaves ≡ n ∷ clause_numbers cs
    → TakesBehind k d (record { past = d.past; posts = ps; leaves = cs }) (Some (o.Leave k n))
behind_leave k d ps cs n p s t v l more =
    let rest : Queue = with_each l (leave k) (clause_numbers cs) more in
    all_none l (past k) (event_numbers d.past) (with_each l (post k) (event_numbers d.posts) (with_each l (leave k) (clause_numbers d.leaves) more)) p
    ∙ (each_none l (post k) (event_numbers d.posts) (with_each l (leave k) (clause_numbers d.leaves) more) s
    ∙ (each_first l (leave k) n (clause_numbers d.leaves) (clause_numbers cs) more v
    ∙ ap (λ (q : Queue). (l, leave k n) ∷ q)
    (sym (all_none l (past k) (event_numbers d.past) (with_each l (post k) (event_numbers ps) rest) p ∙ each_none l (post k) (event_numbers ps) rest t))))

pub behind_nothing : (k : ℕ) (d new : Behind) → event_numbers d.past ≡ [] → event_numbers d.posts ≡ [] → clause_numbers d.leaves ≡ [] → TakesBehind k d new None
behind_nothing k d new p s v l more = behind_gone k l d more p s v

-- Rows

pub row_begins : (k : ℕ) (b c : Before) (d : Behind) (x : OwedOperation) → TakesBefore k b c (Some x) → TakesOperation (row_of k b d) (row_of k c d) (Some x)
row_begins k b c d x h l more = h l (queue_behind k l d more)

pub row_ends : (k : ℕ) (b c : Before) (d e : Behind) (x : Option OwedOperation) → TakesBefore k b c None → TakesBehind k d e x → TakesOperation (row_of k b d) (row_of k c e) x
row_ends k b c d e None h g = λ l more. (h l (queue_behind k l d more)).0 ∙ g l more
row_ends k b c d e (Some x) h g = λ l more.
    (h l (queue_behind k l d more)).0 ∙ (g l more ∙ ap (λ (q : Queue). (l, operation_of x) ∷ q) (sym ((h l (queue_behind k l e more)).1)))

-- Whether there is something

abbrev none : List ℕ → Bool
none [] = true
none (n ∷ ns) = false

none_is : (ns : List ℕ) → none ns ≡ true → ns ≡ []
none_is [] e = refl
none_is (n ∷ ns) e = cc

each_empty : (l : ℕ) (f : ℕ → Operation) (ns : List ℕ) (more : Queue) → is_empty (with_each l f ns more) ≡ (none ns && is_empty more)
each_empty l f [] more = refl
each_empty l f (n ∷ ns) more = refl

all_empty : (l : ℕ) (f : List ℕ → Operation) (ns : List ℕ) (more : Queue) → is_empty (with_all l f ns more) ≡ (none ns && is_empty more)
all_empty l f [] more = refl
all_empty l f (n ∷ ns) more = refl

abbrev nones : OwedRow → Bool
nones r =
    none (event_numbers r.before.waits) && (none (clause_numbers r.before.enters) && (none (event_numbers r.before.at)
    && (none (event_numbers r.behind.past) && (none (event_numbers r.behind.posts) && none (clause_numbers r.behind.leaves)))))

six : (a b c d e f m : Bool) → (a && (b && (c && (d && (e && (f && m)))))) ≡ ((a && (b && (c && (d && (e && f))))) && m)
six true true true true true f m = refl
six true true true true false f m = refl
six true true true false e f m = refl
six true true false d e f m = refl
six true false c d e f m = refl
six false b c d e f m = refl

row_empty : (l : ℕ) (r : OwedRow) (more : Queue) → is_empty (row_queue l r more) ≡ (nones r && is_empty more)
row_empty l r more =
    let k : ℕ = r.filter in
    let w : List ℕ = event_numbers r.before.waits in
    let e : List ℕ = clause_numbers r.before.enters in
    let a : List ℕ = event_numbers r.before.at in
    let p : List ℕ = event_numbers r.behind.past in
    let s : List ℕ = event_numbers r.behind.posts in
    let v : List ℕ = clause_numbers r.behind.leaves in
    let lq : Queue = with_each l (leave k) v more in
    let sq : Queue = with_each l (post k) s lq in
    let pq : Queue = with_all l (past k) p sq in
    let aq : Queue = with_all l (at k) a pq in
    let eq : Queue = with_each l (enters k) e aq in
    each_empty l (wait k) w eq
    ∙ (ap (λ (b : Bool). none w && b)
    (each_empty l (enters k) e aq
    ∙ ap (λ (b : Bool). none e && b)
    (all_empty l (at k) a pq
    ∙ ap (λ (b : Bool). none a && b)
    (all_empty l (past k) p sq
    ∙ ap (λ (b : Bool). none p && b) (each_empty l (post k) s lq ∙ ap (λ (b : Bool). none s && b) (each_empty l (leave k) v more)))))
    ∙ six (none w) (none e) (none a) (none p) (none s) (none v) (is_empty more))

and_true : (a : Bool) → (a && true) ≡ a
and_true true = refl
and_true false = refl

has_is : (r : OwedRow) → has_operations r ≡ not (nones r)
has_is r = ap not (row_empty 0 r [] ∙ and_true (nones r))

other_way : (a b : Bool) → a ≡ not b → a ≡ false → b ≡ true
other_way a true h e = refl
other_way a false h e = absurd (true≢false (sym h ∙ e))

this_way : (a b : Bool) → a ≡ not b → a ≡ true → b ≡ false
this_way a true h e = absurd (true≢false (sym e ∙ h))
this_way a false h e = refl

row_of_nones : (l : ℕ) (r : OwedRow) (more : Queue) → nones r ≡ true → row_queue l r more ≡ more
row_of_nones l r more h =
    let a = and_parts (none (event_numbers r.before.waits)) _ h in
    let b = and_parts (none (clause_numbers r.before.enters)) _ a.1 in
    let c = and_parts (none (event_numbers r.before.at)) _ b.1 in
    let d = and_parts (none (event_numbers r.behind.past)) _ c.1 in
    let e = and_parts (none (event_numbers r.behind.posts)) _ d.1 in
    before_gone r.filter l r.before (queue_behind r.filter l r.behind more) (none_is (event_numbers r.before.waits) a.0) (none_is (clause_numbers r.before.enters) b.0)
    (none_is (event_numbers r.before.at) c.0)
    ∙ behind_gone r.filter l r.behind more (none_is (event_numbers r.behind.past) d.0) (none_is (event_numbers r.behind.posts) e.0) (none_is (clause_numbers r.behind.leaves) e.1)

-- A row that has nothing changes no queue, and one that has something makes each begin with it.

pub row_gone : (l : ℕ) (r : OwedRow) (more : Queue) → has_operations r ≡ false → row_queue l r more ≡ more
row_gone l r more h = row_of_nones l r more (other_way (has_operations r) (nones r) (has_is r) h)

pub row_there : (l : ℕ) (r : OwedRow) (more : Queue) → HasOperations r → is_empty (row_queue l r more) ≡ false
row_there l r more h = row_empty l r more ∙ ap (λ (b : Bool). b && is_empty more) (this_way (has_operations r) (nones r) (has_is r) h)

pub row_behind : (l : ℕ) (r : OwedRow) (more : Queue) → is_empty more ≡ false → is_empty (row_queue l r more) ≡ false
row_behind l r more h = row_empty l r more ∙ (ap (λ (b : Bool). nones r && b) h ∙ and_false (nones r))
  where
    and_false : (a : Bool) → (a && false) ≡ false
    and_false true = refl
    and_false false = refl

-- what is taken out of a row tells whether it has something

pub taken_none : (r new : OwedRow) → TakesOperation r new None → false ≡ has_operations r
taken_none r new h = ap (λ (q : Queue). not (is_empty q)) (sym (h 0 []))

pub taken_some : (r new : OwedRow) (x : OwedOperation) → TakesOperation r new (Some x) → true ≡ has_operations r
taken_some r new x h = ap (λ (q : Queue). not (is_empty q)) (sym (h 0 []))
