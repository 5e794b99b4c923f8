-- Which events a thread owes to begin and to complete: facts of each operation of a queue, and what stands in it.
use Rattle.std.proofs.Common.{ℕ, ◌≡◌, ◌==◌, ◌⊎◌, inl, inr, Bool, true, false, not, ◌&&◌, List, [], ◌∷◌, ◌++◌, refl, sym, ap, subst, ◌∙◌, if◌then◌else◌}
use Rattle.std.specs.List.{Contains}
use Rattle.loom_tree.specs.Tree.{Source}
use Rattle.loom_lang.specs.Places.{Place}
use Rattle.loom_lang.specs.Trace.{Locals}
use Rattle.loom_law.specs.Filter.{Site, Ruling, Plan, matching, has, waits, posts, clauses}
use Rattle.loom_law.specs.Walk.{Plans, Operation, wait, enters, at, past, post, leave, back, tick, cross, blocked, Inside, OpenFrame, Queue, tick_after, holds, begins_in, owed_waits, owed_enters, owed_by, owed_at, is_inside_clause, all_inside, completed, in_frame, owed_posts, owed_leaves, events_of_filter, owed_past, owed_behind, all_leaves, with_back, with_tick, without_first, operation_filter, stays, still_owed, Owes}
use Rattle.loom_law.proofs.Holdings.{or_cases, pick, same_number}
use Rattle.loom_law.proofs.ActiveFilters.{first_in, others_in}
use Rattle.loom_law.proofs.Course.{no_member}

-- Of each operation

abbrev pub AllOwed : (Operation → Type 0) → Queue → Type 0
AllOwed Q [] = Unit {0}
AllOwed Q (x ∷ os) = Q x.1 × AllOwed Q os

-- operations that begin and complete nothing
pub record ChangesNoEvents (Q : Operation → Type 0) : Type 0 where
  pub waits : (k n : ℕ) → Q (wait k n)
  pub enters : (k c : ℕ) → Q (enters k c)
  pub posts : (k n : ℕ) → Q (post k n)
  pub leaves : (k c : ℕ) → Q (leave k c)
  pub back : Q back
  pub ticks : (x : ℕ) → Q (tick x)

waits_all : (Q : Operation → Type 0) (f : Plan) (k l : ℕ) (ns : List ℕ) (more : Queue) → ChangesNoEvents Q → AllOwed Q more → AllOwed Q (owed_waits f k l ns more)
waits_all Q f k l [] more e h = h
waits_all Q f k l (n ∷ ns) more e h =
    let ih : AllOwed Q (owed_waits f k l ns more) = waits_all Q f k l ns more e h in
    pick (AllOwed Q) (waits f n) _ _ (λ b. (e.waits k n, ih)) (λ b. ih)

posts_all : (Q : Operation → Type 0) (f : Plan) (k l : ℕ) (ns : List ℕ) (more : Queue) → ChangesNoEvents Q → AllOwed Q more → AllOwed Q (owed_posts f k l ns more)
posts_all Q f k l [] more e h = h
posts_all Q f k l (n ∷ ns) more e h =
    let ih : AllOwed Q (owed_posts f k l ns more) = posts_all Q f k l ns more e h in
    pick (AllOwed Q) (posts f n) _ _ (λ b. (e.posts k n, ih)) (λ b. ih)

enters_all : (Q : Operation → Type 0) (hs : List (ℕ × ℕ)) (k l : ℕ) (ns : List ℕ) (cs : List (ℕ × Ruling)) (more : Queue) → ChangesNoEvents Q → AllOwed Q more
    → AllOwed Q (owed_enters hs k l ns cs more)
enters_all Q hs k l ns [] more e h = h
enters_all Q hs k l ns (c ∷ cs) more e h =
    let ih : AllOwed Q (owed_enters hs k l ns cs more) = enters_all Q hs k l ns cs more e h in
    pick (AllOwed Q) (begins_in c.1 ns && not (holds hs k c.0)) _ _ (λ b. (e.enters k c.0, ih)) (λ b. ih)

leaves_all : (Q : Operation → Type 0) (hs : List (ℕ × ℕ)) (is : List Inside) (k l : ℕ) (cs : List (ℕ × Ruling)) (more : Queue) → ChangesNoEvents Q → AllOwed Q more
    → AllOwed Q (owed_leaves hs is k l cs more)
leaves_all Q hs is k l [] more e h = h
leaves_all Q hs is k l (c ∷ cs) more e h =
    let ih : AllOwed Q (owed_leaves hs is k l cs more) = leaves_all Q hs is k l cs more e h in
    pick (AllOwed Q) (holds hs k c.0 && not (is_inside_clause is k c.0)) _ _ (λ b. (e.leaves k c.0, ih)) (λ b. ih)

by_all : (Q : Operation → Type 0) (f : Plan) (k : ℕ) (hs : List (ℕ × ℕ)) (l : ℕ) (ns : List ℕ) (more : Queue) → ChangesNoEvents Q → Q (at k ns) → AllOwed Q more
    → AllOwed Q (owed_by f k hs l ns more)
by_all Q f k hs l [] more e q h = h
by_all Q f k hs l (n ∷ ns) more e q h = waits_all Q f k l (n ∷ ns) _ e (enters_all Q hs k l (n ∷ ns) (clauses f) ((l, at k (n ∷ ns)) ∷ more) e (q, h))

-- at a beginning
pub at_all : (Q : Operation → Type 0) (plans : Plans) (hs : List (ℕ × ℕ)) (l : ℕ) (site : Site) (env : Locals) (js : List ℕ) → ChangesNoEvents Q
    → ((j : ℕ) → has js j ≡ true → Q (at j (matching (plans j) site env))) → AllOwed Q (owed_at plans hs l site env js)
at_all Q plans hs l site env [] e q = tt
at_all Q plans hs l site env (j ∷ js) e q =
    by_all Q (plans j) j hs l (matching (plans j) site env) (owed_at plans hs l site env js) e (q j (first_in j js (j ∷ js) (λ k g. g)))
    (at_all Q plans hs l site env js e (λ k g. q k (others_in j js (j ∷ js) (λ m w. w) k g)))

past_all : (Q : Operation → Type 0) (f : Plan) (k : ℕ) (hs : List (ℕ × ℕ)) (fs : List OpenFrame) (l : ℕ) (ns : List ℕ) (more : Queue) → ChangesNoEvents Q → Q (past k ns)
    → AllOwed Q more → AllOwed Q (owed_past f k hs fs l ns more)
past_all Q f k hs fs l [] more e q h = h
past_all Q f k hs fs l (n ∷ ns) more e q h =
    (q, posts_all Q f k l (n ∷ ns) _ e (leaves_all Q hs (all_inside (in_frame (completed k (n ∷ ns)) fs)) k l (clauses f) more e h))

-- behind a statement
pub behind_all : (Q : Operation → Type 0) (plans : Plans) (hs : List (ℕ × ℕ)) (fs : List OpenFrame) (l : ℕ) (xs : List (ℕ × List ℕ)) (js : List ℕ) → ChangesNoEvents Q
    → ((j : ℕ) (ns : List ℕ) → Q (past j ns)) → AllOwed Q (owed_behind plans hs fs l xs js)
behind_all Q plans hs fs l xs [] e q = tt
behind_all Q plans hs fs l xs (j ∷ js) e q =
    past_all Q (plans j) j hs fs l (events_of_filter j xs) (owed_behind plans hs fs l xs js) e (q j (events_of_filter j xs)) (behind_all Q plans hs fs l xs js e q)

-- behind a frame, and behind a trap
pub all_leaves_all : (Q : Operation → Type 0) (plans : Plans) (hs : List (ℕ × ℕ)) (is : List Inside) (l : ℕ) (js : List ℕ) → ChangesNoEvents Q → AllOwed Q (all_leaves plans hs is l js)
all_leaves_all Q plans hs is l [] e = tt
all_leaves_all Q plans hs is l (j ∷ js) e = leaves_all Q hs is j l (clauses (plans j)) (all_leaves plans hs is l js) e (all_leaves_all Q plans hs is l js e)

pub back_all : (Q : Operation → Type 0) (l : ℕ) (os : Queue) → ChangesNoEvents Q → AllOwed Q os → AllOwed Q (with_back l os)
back_all Q l [] e h = tt
back_all Q l (o ∷ os) e h = (e.back, h)

pub tick_all : (Q : Operation → Type 0) (p : Source) (x : Place) (n : ℕ) (os : Queue) → ChangesNoEvents Q → AllOwed Q os → AllOwed Q (with_tick p x n os)
tick_all Q p x n os e h = pick (AllOwed Q) (n == tick_after) _ _ (λ b. (e.ticks _, h)) (λ b. h)

pub both_all : (Q : Operation → Type 0) (os more : Queue) → AllOwed Q os → AllOwed Q more → AllOwed Q (os ++ more)
both_all Q [] more h g = g
both_all Q (o ∷ os) more h g = (h.0, both_all Q os more h.1 g)

pub less_all : (Q : Operation → Type 0) (os : Queue) → AllOwed Q os → AllOwed Q (without_first os)
less_all Q [] h = tt
less_all Q (o ∷ os) h = h.1

-- what is owed first
pub first_all : (Q : Operation → Type 0) (os : Queue) (l : ℕ) (o : Operation) → Owes os l o → AllOwed Q os → Q o
first_all Q [] l o is h = absurd is
first_all Q (x ∷ os) l o is h = subst Q (ap (λ (q : ℕ × Operation). q.1) is) h.0

-- in a new version
abbrev Stays : (Operation → Type 0) → (Operation → Type 0) → List ℕ → Type 0
Stays Q R ks = (o : Operation) → stays ks (operation_filter o) ≡ true → Q o → R o

one_kept : (Q R : Operation → Type 0) (ks : List ℕ) (l : ℕ) (o : Operation) (os : Queue) → Stays Q R ks → Q o → AllOwed R os
    → AllOwed R (if stays ks (operation_filter o) then (l, o) ∷ os else os)
one_kept Q R ks l o os g q h = pick (AllOwed R) (stays ks (operation_filter o)) _ _ (λ b. (g o b q, h)) (λ b. h)

pub still_all : (Q R : Operation → Type 0) (ks : List ℕ) (os : Queue) → ChangesNoEvents R → ((o : Operation) → stays ks (operation_filter o) ≡ true → Q o → R o) → AllOwed Q os
    → AllOwed R (still_owed ks os)
still_all Q R ks [] e g h = tt
still_all Q R ks ((l, back) ∷ os) e g h = back_all R l (still_owed ks os) e (still_all Q R ks os e g h.1)
still_all Q R ks ((l, wait k n) ∷ os) e g h = one_kept Q R ks l (wait k n) (still_owed ks os) g h.0 (still_all Q R ks os e g h.1)
still_all Q R ks ((l, enters k n) ∷ os) e g h = one_kept Q R ks l (enters k n) (still_owed ks os) g h.0 (still_all Q R ks os e g h.1)
still_all Q R ks ((l, at k n) ∷ os) e g h = one_kept Q R ks l (at k n) (still_owed ks os) g h.0 (still_all Q R ks os e g h.1)
still_all Q R ks ((l, past k n) ∷ os) e g h = one_kept Q R ks l (past k n) (still_owed ks os) g h.0 (still_all Q R ks os e g h.1)
still_all Q R ks ((l, post k n) ∷ os) e g h = one_kept Q R ks l (post k n) (still_owed ks os) g h.0 (still_all Q R ks os e g h.1)
still_all Q R ks ((l, leave k n) ∷ os) e g h = one_kept Q R ks l (leave k n) (still_owed ks os) g h.0 (still_all Q R ks os e g h.1)
still_all Q R ks ((l, tick x) ∷ os) e g h = one_kept Q R ks l (tick x) (still_owed ks os) g h.0 (still_all Q R ks os e g h.1)
still_all Q R ks ((l, cross x v n) ∷ os) e g h = one_kept Q R ks l (cross x v n) (still_owed ks os) g h.0 (still_all Q R ks os e g h.1)
still_all Q R ks ((l, blocked what) ∷ os) e g h = one_kept Q R ks l (blocked what) (still_owed ks os) g h.0 (still_all Q R ks os e g h.1)

-- What is there

-- this operation is owed
abbrev pub IsInQueue : Queue → Operation → Type 0
IsInQueue [] o = ⊥
IsInQueue (x ∷ os) o = (x.1 ≡ o) ⊎ IsInQueue os o

pub owed_left : (os more : Queue) (o : Operation) → IsInQueue os o → IsInQueue (os ++ more) o
owed_left [] more o h = absurd h
owed_left (x ∷ os) more o (inl e) = inl e
owed_left (x ∷ os) more o (inr h) = inr (owed_left os more o h)

pub owed_right : (os more : Queue) (o : Operation) → IsInQueue more o → IsInQueue (os ++ more) o
owed_right [] more o h = h
owed_right (x ∷ os) more o h = inr (owed_right os more o h)

if_owed : (b : Bool) (x : ℕ × Operation) (os : Queue) (o : Operation) → IsInQueue os o → IsInQueue (if b then x ∷ os else os) o
if_owed true x os o h = inr h
if_owed false x os o h = h

waits_owed : (f : Plan) (k l : ℕ) (ns : List ℕ) (more : Queue) (o : Operation) → IsInQueue more o → IsInQueue (owed_waits f k l ns more) o
waits_owed f k l [] more o h = h
waits_owed f k l (n ∷ ns) more o h = if_owed (waits f n) (l, wait k n) (owed_waits f k l ns more) o (waits_owed f k l ns more o h)

posts_owed : (f : Plan) (k l : ℕ) (ns : List ℕ) (more : Queue) (o : Operation) → IsInQueue more o → IsInQueue (owed_posts f k l ns more) o
posts_owed f k l [] more o h = h
posts_owed f k l (n ∷ ns) more o h = if_owed (posts f n) (l, post k n) (owed_posts f k l ns more) o (posts_owed f k l ns more o h)

enters_owed : (hs : List (ℕ × ℕ)) (k l : ℕ) (ns : List ℕ) (cs : List (ℕ × Ruling)) (more : Queue) (o : Operation) → IsInQueue more o → IsInQueue (owed_enters hs k l ns cs more) o
enters_owed hs k l ns [] more o h = h
enters_owed hs k l ns (c ∷ cs) more o h =
    if_owed (begins_in c.1 ns && not (holds hs k c.0)) (l, enters k c.0) (owed_enters hs k l ns cs more) o (enters_owed hs k l ns cs more o h)

leaves_owed : (hs : List (ℕ × ℕ)) (is : List Inside) (k l : ℕ) (cs : List (ℕ × Ruling)) (more : Queue) (o : Operation) → IsInQueue more o → IsInQueue (owed_leaves hs is k l cs more) o
leaves_owed hs is k l [] more o h = h
leaves_owed hs is k l (c ∷ cs) more o h =
    if_owed (holds hs k c.0 && not (is_inside_clause is k c.0)) (l, leave k c.0) (owed_leaves hs is k l cs more) o (leaves_owed hs is k l cs more o h)

by_first : (f : Plan) (k : ℕ) (hs : List (ℕ × ℕ)) (l : ℕ) (ns : List ℕ) (more : Queue) (n : ℕ) → Contains ns n → IsInQueue (owed_by f k hs l ns more) (at k ns)
by_first f k hs l [] more n c = absurd (no_member n c)
by_first f k hs l (m ∷ ns) more n c =
    waits_owed f k l (m ∷ ns) _ (at k (m ∷ ns)) (enters_owed hs k l (m ∷ ns) (clauses f) ((l, at k (m ∷ ns)) ∷ more) (at k (m ∷ ns)) (inl refl))

by_later : (f : Plan) (k : ℕ) (hs : List (ℕ × ℕ)) (l : ℕ) (ns : List ℕ) (more : Queue) (o : Operation) → IsInQueue more o → IsInQueue (owed_by f k hs l ns more) o
by_later f k hs l [] more o h = h
by_later f k hs l (m ∷ ns) more o h =
    waits_owed f k l (m ∷ ns) _ o (enters_owed hs k l (m ∷ ns) (clauses f) ((l, at k (m ∷ ns)) ∷ more) o (inr h))

-- events that match here are owed
pub at_owed : (plans : Plans) (hs : List (ℕ × ℕ)) (l : ℕ) (site : Site) (env : Locals) (js : List ℕ) (k n : ℕ) → has js k ≡ true → Contains (matching (plans k) site env) n
    → IsInQueue (owed_at plans hs l site env js) (at k (matching (plans k) site env))
at_owed plans hs l site env [] k n h c = cc
at_owed plans hs l site env (j ∷ js) k n h c =
    by_cases (λ g. at_owed plans hs l site env js k n g c) (or_cases (j == k) (has js k) h)
  where
    by_cases : (has js k ≡ true → IsInQueue (owed_at plans hs l site env js) (at k (matching (plans k) site env))) → ((j == k) ≡ true) ⊎ (has js k ≡ true)
        → IsInQueue (owed_at plans hs l site env (j ∷ js)) (at k (matching (plans k) site env))
    by_cases ih (inl e) =
        let P : ℕ → Type 0 = λ i. IsInQueue (owed_by (plans i) i hs l (matching (plans i) site env) (owed_at plans hs l site env js)) (at k (matching (plans k) site env)) in
        subst P (sym (same_number j k e)) (by_first (plans k) k hs l (matching (plans k) site env) (owed_at plans hs l site env js) n c)
    by_cases ih (inr g) = by_later (plans j) j hs l (matching (plans j) site env) (owed_at plans hs l site env js) _ (ih g)

past_first : (f : Plan) (k : ℕ) (hs : List (ℕ × ℕ)) (fs : List OpenFrame) (l : ℕ) (ns : List ℕ) (more : Queue) (n : ℕ) → Contains ns n → IsInQueue (owed_past f k hs fs l ns more) (past k ns)
past_first f k hs fs l [] more n c = absurd (no_member n c)
past_first f k hs fs l (m ∷ ns) more n c = inl refl

past_later : (f : Plan) (k : ℕ) (hs : List (ℕ × ℕ)) (fs : List OpenFrame) (l : ℕ) (ns : List ℕ) (more : Queue) (o : Operation) → IsInQueue more o → IsInQueue (owed_past f k hs fs l ns more) o
past_later f k hs fs l [] more o h = h
past_later f k hs fs l (m ∷ ns) more o h =
    inr (posts_owed f k l (m ∷ ns) _ o (leaves_owed hs (all_inside (in_frame (completed k (m ∷ ns)) fs)) k l (clauses f) more o h))

-- so is the completion of those that began with the statement
pub past_owed : (plans : Plans) (hs : List (ℕ × ℕ)) (fs : List OpenFrame) (l : ℕ) (xs : List (ℕ × List ℕ)) (js : List ℕ) (k n : ℕ) → has js k ≡ true
    → Contains (events_of_filter k xs) n → IsInQueue (owed_behind plans hs fs l xs js) (past k (events_of_filter k xs))
past_owed plans hs fs l xs [] k n h c = cc
past_owed plans hs fs l xs (j ∷ js) k n h c = by_cases (λ g. past_owed plans hs fs l xs js k n g c) (or_cases (j == k) (has js k) h)
  where
    by_cases : (has js k ≡ true → IsInQueue (owed_behind plans hs fs l xs js) (past k (events_of_filter k xs))) → ((j == k) ≡ true) ⊎ (has js k ≡ true)
        → IsInQueue (owed_behind plans hs fs l xs (j ∷ js)) (past k (events_of_filter k xs))
    by_cases ih (inl e) =
        let P : ℕ → Type 0 = λ i. IsInQueue (owed_past (plans i) i hs fs l (events_of_filter i xs) (owed_behind plans hs fs l xs js)) (past k (events_of_filter k xs)) in
        subst P (sym (same_number j k e)) (past_first (plans k) k hs fs l (events_of_filter k xs) (owed_behind plans hs fs l xs js) n c)
    by_cases ih (inr g) = past_later (plans j) j hs fs l (events_of_filter j xs) (owed_behind plans hs fs l xs js) _ (ih g)

-- what stays in a new version

back_owed : (l : ℕ) (os : Queue) (o : Operation) → IsInQueue os o → IsInQueue (with_back l os) o
back_owed l [] o h = absurd h
back_owed l (x ∷ os) o h = inr h

pub never_both : (b : Bool) → b ≡ true → b ≡ false → ⊥
never_both true h g = cc
never_both false h g = cc

one_owed : (ks : List ℕ) (l : ℕ) (x o : Operation) (os : Queue) → stays ks (operation_filter o) ≡ true → (x ≡ o) ⊎ IsInQueue os o
    → IsInQueue (if stays ks (operation_filter x) then (l, x) ∷ os else os) o
one_owed ks l x o os b (inl e) =
    pick (λ (q : Queue). IsInQueue q o) (stays ks (operation_filter x)) ((l, x) ∷ os) os (λ g. inl e)
    (λ g. absurd (never_both (stays ks (operation_filter x)) (ap (λ z. stays ks (operation_filter z)) e ∙ b) g))
one_owed ks l x o os b (inr h) = if_owed (stays ks (operation_filter x)) (l, x) os o h

later : {A B C : Type 0} → (B → C) → A ⊎ B → A ⊎ C
later f (inl a) = inl a
later f (inr b) = inr (f b)

pub still_owed_there : (ks : List ℕ) (os : Queue) (o : Operation) → (back ≡ o → ⊥) → stays ks (operation_filter o) ≡ true → IsInQueue os o → IsInQueue (still_owed ks os) o
still_owed_there ks [] o n b h = h
still_owed_there ks ((l, back) ∷ os) o n b (inl e) = absurd (n e)
still_owed_there ks ((l, back) ∷ os) o n b (inr h) = back_owed l (still_owed ks os) o (still_owed_there ks os o n b h)
still_owed_there ks ((l, wait k m) ∷ os) o n b h = one_owed ks l (wait k m) o (still_owed ks os) b (later (still_owed_there ks os o n b) h)
still_owed_there ks ((l, enters k m) ∷ os) o n b h = one_owed ks l (enters k m) o (still_owed ks os) b (later (still_owed_there ks os o n b) h)
still_owed_there ks ((l, at k m) ∷ os) o n b h = one_owed ks l (at k m) o (still_owed ks os) b (later (still_owed_there ks os o n b) h)
still_owed_there ks ((l, past k m) ∷ os) o n b h = one_owed ks l (past k m) o (still_owed ks os) b (later (still_owed_there ks os o n b) h)
still_owed_there ks ((l, post k m) ∷ os) o n b h = one_owed ks l (post k m) o (still_owed ks os) b (later (still_owed_there ks os o n b) h)
still_owed_there ks ((l, leave k m) ∷ os) o n b h = one_owed ks l (leave k m) o (still_owed ks os) b (later (still_owed_there ks os o n b) h)
still_owed_there ks ((l, tick x) ∷ os) o n b h = one_owed ks l (tick x) o (still_owed ks os) b (later (still_owed_there ks os o n b) h)
still_owed_there ks ((l, cross x v m) ∷ os) o n b h = one_owed ks l (cross x v m) o (still_owed ks os) b (later (still_owed_there ks os o n b) h)
still_owed_there ks ((l, blocked w) ∷ os) o n b h = one_owed ks l (blocked w) o (still_owed ks os) b (later (still_owed_there ks os o n b) h)
