-- A thread holds each clause whose regions it is inside, along each full part.
use Rattle.std.proofs.Common.{ℕ, ◌≡◌, ◌==◌, ◌⊎◌, inl, inr, Bool, true, false, not, ◌&&◌, ◌||◌, List, [], ◌∷◌, ◌++◌, flat_map, refl, sym, ap, subst, ◌∙◌, if◌then◌else◌, arith}
use Rattle.std.specs.List.{filter, list_any}
use Rattle.std.proofs.lemmas.Bool.{and_parts}
use Rattle.loom_lang.specs.Trace.{Locals}
use Rattle.loom_law.specs.Filter.{Site, Range, Ruling, Plan, matching, share, entry_events, ranges_of, clauses, waits, posts}
use Rattle.loom_law.specs.Walk.{Plans, Operation, enters, at, past, leave, back, Inside, OpenFrame, Queue, holds, begins_in, owed_waits, owed_enters, owed_by, owed_at, is_inside_clause, all_inside, is_left_with, completed, in_frame, owed_posts, owed_leaves, events_of_filter, owed_past, owed_behind, all_leaves, with_back, entered_ranges, entered_regions, without_clause, without_first, Owes}

-- Bool

pub or_cases : (a b : Bool) → (a || b) ≡ true → (a ≡ true) ⊎ (b ≡ true)
or_cases true b h = inl refl
or_cases false b h = inr h

pub or_left : (a b : Bool) → a ≡ true → (a || b) ≡ true
or_left true b h = refl
or_left false b h = cc

pub or_right : (a b : Bool) → b ≡ true → (a || b) ≡ true
or_right true b h = refl
or_right false b h = h

and_both : (a b : Bool) → a ≡ true → b ≡ true → (a && b) ≡ true
and_both true b h g = g
and_both false b h g = cc

pub either_of : {A B C : Type 0} → A ⊎ B → (A → C) → (B → C) → C
either_of (inl a) f g = f a
either_of (inr b) f g = g b

-- by cases on a test
pub pick : {A : Type 0} (P : A → Type 0) (b : Bool) (x y : A) → (b ≡ true → P x) → (b ≡ false → P y) → P (if b then x else y)
pick P true x y f g = f refl
pick P false x y f g = g refl

-- What is held

-- each clause of these regions is held
abbrev pub HeldAll : List (ℕ × ℕ) → List Inside → Type 0
HeldAll hs is = (k c : ℕ) → is_inside_clause is k c ≡ true → holds hs k c ≡ true

abbrev pub HeldEach : List (ℕ × ℕ) → List (List Inside) → Type 0
HeldEach hs [] = Unit {0}
HeldEach hs (is ∷ iss) = HeldAll hs is × HeldEach hs iss

abbrev pub AllHeld : List (ℕ × ℕ) → List (List Inside) → List Inside → Type 0
AllHeld hs iss lv = HeldEach hs iss × HeldAll hs lv

-- hs are among hs'
abbrev pub Sub : List (ℕ × ℕ) → List (ℕ × ℕ) → Type 0
Sub hs hs' = (k c : ℕ) → holds hs k c ≡ true → holds hs' k c ≡ true

each_more : (hs hs' : List (ℕ × ℕ)) (iss : List (List Inside)) → Sub hs hs' → HeldEach hs iss → HeldEach hs' iss
each_more hs hs' [] s h = tt
each_more hs hs' (is ∷ iss) s h = ((λ k c m. s k c (h.0 k c m)), each_more hs hs' iss s h.1)

all_more : (hs hs' : List (ℕ × ℕ)) (iss : List (List Inside)) (lv : List Inside) → Sub hs hs' → AllHeld hs iss lv → AllHeld hs' iss lv
all_more hs hs' iss lv s h = (each_more hs hs' iss s h.0, λ k c m. s k c (h.1 k c m))

-- What the operations do to this

abbrev pub op_held : Operation → List (ℕ × ℕ) → List (ℕ × ℕ)
op_held (enters k c) hs = (k, c) ∷ hs
op_held (leave k c) hs = without_clause k c hs
op_held _ hs = hs

abbrev pub in_first : (List Inside → List Inside) → List (List Inside) → List (List Inside)
in_first f [] = []
in_first f (is ∷ iss) = f is ∷ iss

abbrev pub op_inside : Plans → Operation → List (List Inside) → List (List Inside)
op_inside plans (at k ns) iss = in_first (λ is. entered_regions (plans k) k ns ++ is) iss
op_inside plans (past k ns) iss = in_first (λ is. filter (λ (i : Inside). not (is_left_with k ns i)) is) iss
op_inside plans _ iss = iss

abbrev pub op_leaving : Operation → List Inside → List Inside
op_leaving back lv = []
op_leaving _ lv = lv

-- each clause of these that begins is held
abbrev pub Covers : List (ℕ × ℕ) → ℕ → List ℕ → List (ℕ × Ruling) → Type 0
Covers hs k ns [] = Unit {0}
Covers hs k ns (c ∷ cs) = (begins_in c.1 ns ≡ true → holds hs k c.0 ≡ true) × Covers hs k ns cs

-- events begin where each clause that begins with them is held
abbrev pub Needs : Plans → Operation → List (ℕ × ℕ) → Type 0
Needs plans (at k ns) hs = Covers hs k ns (clauses (plans k))
Needs plans _ hs = Unit {0}

-- all is held now, and behind each operation that is owed
abbrev pub Safe : Plans → List (ℕ × ℕ) → List (List Inside) → List Inside → Queue → Type 0
Safe plans hs iss lv [] = AllHeld hs iss lv
Safe plans hs iss lv (x ∷ os) = AllHeld hs iss lv × Needs plans x.1 hs × Safe plans (op_held x.1 hs) (op_inside plans x.1 iss) (op_leaving x.1 lv) os

pub safe_now : (plans : Plans) (hs : List (ℕ × ℕ)) (iss : List (List Inside)) (lv : List Inside) (os : Queue) → Safe plans hs iss lv os → AllHeld hs iss lv
safe_now plans hs iss lv [] h = h
safe_now plans hs iss lv (x ∷ os) h = h.0

pub safe_op : (plans : Plans) (hs : List (ℕ × ℕ)) (iss : List (List Inside)) (lv : List Inside) (os : Queue) (l : ℕ) (o : Operation) → Owes os l o
    → Safe plans hs iss lv os → Safe plans (op_held o hs) (op_inside plans o iss) (op_leaving o lv) (without_first os)
safe_op plans hs iss lv [] l o is h = absurd is
safe_op plans hs iss lv (x ∷ os) l o is h =
    let P : Operation → Type 0 = λ q. Safe plans (op_held q hs) (op_inside plans q iss) (op_leaving q lv) os in
    let same : x.1 ≡ o = ap (λ (q : ℕ × Operation). q.1) is in
    subst P same h.2

pub safe_needs : (plans : Plans) (hs : List (ℕ × ℕ)) (iss : List (List Inside)) (lv : List Inside) (os : Queue) (l : ℕ) (o : Operation) → Owes os l o
    → Safe plans hs iss lv os → Needs plans o hs
safe_needs plans hs iss lv [] l o is h = absurd is
safe_needs plans hs iss lv (x ∷ os) l o is h =
    let P : Operation → Type 0 = λ q. Needs plans q hs in
    let same : x.1 ≡ o = ap (λ (q : ℕ × Operation). q.1) is in
    subst P same h.1

-- Waits and posts change nothing

pub waits_safe : (plans : Plans) (hs : List (ℕ × ℕ)) (iss : List (List Inside)) (lv : List Inside) (f : Plan) (k l : ℕ) (ns : List ℕ) (more : Queue)
    → Safe plans hs iss lv more → Safe plans hs iss lv (owed_waits f k l ns more)
waits_safe plans hs iss lv f k l [] more h = h
waits_safe plans hs iss lv f k l (n ∷ ns) more h =
    let ih : Safe plans hs iss lv (owed_waits f k l ns more) = waits_safe plans hs iss lv f k l ns more h in
    pick (Safe plans hs iss lv) (waits f n) _ _ (λ b. (safe_now plans hs iss lv _ ih, tt, ih)) (λ b. ih)

pub posts_safe : (plans : Plans) (hs : List (ℕ × ℕ)) (iss : List (List Inside)) (lv : List Inside) (f : Plan) (k l : ℕ) (ns : List ℕ) (more : Queue)
    → Safe plans hs iss lv more → Safe plans hs iss lv (owed_posts f k l ns more)
posts_safe plans hs iss lv f k l [] more h = h
posts_safe plans hs iss lv f k l (n ∷ ns) more h =
    let ih : Safe plans hs iss lv (owed_posts f k l ns more) = posts_safe plans hs iss lv f k l ns more h in
    pick (Safe plans hs iss lv) (posts f n) _ _ (λ b. (safe_now plans hs iss lv _ ih, tt, ih)) (λ b. ih)

-- Enters

eq_same : (n : ℕ) → (n == n) ≡ true
eq_same n = grind arith

pub holds_first : (hs : List (ℕ × ℕ)) (k c : ℕ) → holds ((k, c) ∷ hs) k c ≡ true
holds_first hs k c = or_left ((k == k) && (c == c)) (holds hs k c) (and_both (k == k) (c == c) (eq_same k) (eq_same c))

sub_first : (hs : List (ℕ × ℕ)) (j d : ℕ) → Sub hs ((j, d) ∷ hs)
sub_first hs j d k c h = or_right ((j == k) && (d == c)) (holds hs k c) h

and_not : (a b : Bool) → (a && not b) ≡ false → a ≡ true → b ≡ true
and_not true true h g = refl
and_not true false h g = cc
and_not false b h g = cc

pub enters_safe : (plans : Plans) (hs0 hs : List (ℕ × ℕ)) (iss : List (List Inside)) (lv : List Inside) (k l : ℕ) (ns : List ℕ) (cs : List (ℕ × Ruling)) (more : Queue)
    → ((hs' : List (ℕ × ℕ)) → Sub hs hs' → AllHeld hs' iss lv → Covers hs' k ns cs → Safe plans hs' iss lv more)
    → AllHeld hs iss lv → Sub hs0 hs → Safe plans hs iss lv (owed_enters hs0 k l ns cs more)
enters_safe plans hs0 hs iss lv k l ns [] more go h s = go hs (λ j d m. m) h tt
enters_safe plans hs0 hs iss lv k l ns (c ∷ cs) more go h s =
    let hs1 : List (ℕ × ℕ) = (k, c.0) ∷ hs in
    let h1 : AllHeld hs1 iss lv = all_more hs hs1 iss lv (sub_first hs k c.0) h in
    pick (Safe plans hs iss lv) (begins_in c.1 ns && not (holds hs0 k c.0)) _ _
    (λ b. (
      h,
      tt,
      enters_safe plans hs0 hs1 iss lv k l ns cs more
          (λ hs' sub all cov. go hs' (λ j d m. sub j d (sub_first hs k c.0 j d m)) all ((λ m. sub k c.0 (holds_first hs k c.0)), cov)) h1
          (λ j d m. sub_first hs k c.0 j d (s j d m)),
    ))
    (λ b. enters_safe plans hs0 hs iss lv k l ns cs more
    (λ hs' sub all cov. go hs' sub all ((λ m. sub k c.0 (s k c.0 (and_not (begins_in c.1 ns) (holds hs0 k c.0) b m))), cov)) h s)

-- At: the regions that begin are held

pub same_number : (m n : ℕ) → (m == n) ≡ true → m ≡ n
same_number m n h = grind arith

pub among_append : (a b : List Inside) (k c : ℕ) → is_inside_clause (a ++ b) k c ≡ true → (is_inside_clause a k c ≡ true) ⊎ (is_inside_clause b k c ≡ true)
among_append [] b k c h = inr h
among_append (i ∷ a) b k c h =
    either_of (or_cases ((i.filter == k) && (i.clause == c)) (is_inside_clause (a ++ b) k c) h)
    (λ m. inl (or_left ((i.filter == k) && (i.clause == c)) (is_inside_clause a k c) m))
    (λ m. either_of (among_append a b k c m) (λ n. inl (or_right ((i.filter == k) && (i.clause == c)) (is_inside_clause a k c) n)) (λ n. inr n))

append_left : (a b : List Inside) (k c : ℕ) → is_inside_clause a k c ≡ true → is_inside_clause (a ++ b) k c ≡ true
append_left [] b k c h = cc
append_left (i ∷ a) b k c h =
    either_of (or_cases ((i.filter == k) && (i.clause == c)) (is_inside_clause a k c) h)
    (λ m. or_left ((i.filter == k) && (i.clause == c)) (is_inside_clause (a ++ b) k c) m)
    (λ m. or_right ((i.filter == k) && (i.clause == c)) (is_inside_clause (a ++ b) k c) (append_left a b k c m))

append_right : (a b : List Inside) (k c : ℕ) → is_inside_clause b k c ≡ true → is_inside_clause (a ++ b) k c ≡ true
append_right [] b k c h = h
append_right (i ∷ a) b k c h = or_right ((i.filter == k) && (i.clause == c)) (is_inside_clause (a ++ b) k c) (append_right a b k c h)

pub held_append : (hs : List (ℕ × ℕ)) (a b : List Inside) → HeldAll hs a → HeldAll hs b → HeldAll hs (a ++ b)
held_append hs a b h g k c m = by_part (among_append a b k c m)
  where
    by_part : (is_inside_clause a k c ≡ true) ⊎ (is_inside_clause b k c ≡ true) → holds hs k c ≡ true
    by_part (inl n) = h k c n
    by_part (inr n) = g k c n

-- the clause of regions that are entered begins, and has their filter and number
abbrev pub Entered : ℕ → List ℕ → ℕ → List Range → ℕ → ℕ → Type 0
Entered k ns c rs j d = (list_any (λ (x : Range). share (entry_events x) ns) rs ≡ true) × ((k ≡ j) × (c ≡ d))

later_entered : (k : ℕ) (ns : List ℕ) (c : ℕ) (x : Range) (xs : List Range) (j d : ℕ) → Entered k ns c xs j d → Entered k ns c (x ∷ xs) j d
later_entered k ns c x xs j d r = (or_right (share (entry_events x) ns) (list_any (λ (y : Range). share (entry_events y) ns) xs) r.0, r.1)

first_entered : (k : ℕ) (ns : List ℕ) (c : ℕ) (x : Range) (xs : List Range) (j d : ℕ) → share (entry_events x) ns ≡ true → ((k == j) && (c == d)) ≡ true
    → Entered k ns c (x ∷ xs) j d
first_entered k ns c x xs j d b m =
    let parts = and_parts (k == j) (c == d) m in
    (or_left (share (entry_events x) ns) (list_any (λ (y : Range). share (entry_events y) ns) xs) b, (same_number k j parts.0, same_number c d parts.1))

ranges_among : (k : ℕ) (ns : List ℕ) (c : ℕ) (rs : List Range) (j d : ℕ) → is_inside_clause (entered_ranges k ns c rs) j d ≡ true → Entered k ns c rs j d
ranges_among k ns c [] j d h = cc
ranges_among k ns c (x ∷ xs) j d h =
    pick (λ is. is_inside_clause is j d ≡ true → Entered k ns c (x ∷ xs) j d) (share (entry_events x) ns)
    (record { filter = k; clause = c; range = x } ∷ entered_ranges k ns c xs) (entered_ranges k ns c xs)
    (λ b m. either_of (or_cases ((k == j) && (c == d)) (is_inside_clause (entered_ranges k ns c xs) j d) m) (λ n. first_entered k ns c x xs j d b n)
    (λ n. later_entered k ns c x xs j d (ranges_among k ns c xs j d n)))
    (λ b m. later_entered k ns c x xs j d (ranges_among k ns c xs j d m)) h

one_held : (hs : List (ℕ × ℕ)) (k c j d : ℕ) → k ≡ j → c ≡ d → holds hs k c ≡ true → holds hs j d ≡ true
one_held hs k c j d e g h =
    let P : ℕ → Type 0 = λ a. holds hs a c ≡ true in
    let Q : ℕ → Type 0 = λ a. holds hs j a ≡ true in
    subst Q g (subst P e h)

regions_held : (hs : List (ℕ × ℕ)) (k : ℕ) (ns : List ℕ) (cs : List (ℕ × Ruling)) → Covers hs k ns cs
    → HeldAll hs (flat_map (λ (c : ℕ × Ruling). entered_ranges k ns c.0 (ranges_of c.1)) cs)
regions_held hs k ns [] cov j d m = cc
regions_held hs k ns (c ∷ cs) cov j d m =
    either_of (among_append (entered_ranges k ns c.0 (ranges_of c.1)) _ j d m)
    (λ n. let r = ranges_among k ns c.0 (ranges_of c.1) j d n in one_held hs k c.0 j d r.1.0 r.1.1 (cov.0 r.0))
    (λ n. regions_held hs k ns cs cov.1 j d n)

at_held : (plans : Plans) (hs : List (ℕ × ℕ)) (iss : List (List Inside)) (lv : List Inside) (k : ℕ) (ns : List ℕ) → Covers hs k ns (clauses (plans k))
    → AllHeld hs iss lv → AllHeld hs (op_inside plans (at k ns) iss) lv
at_held plans hs [] lv k ns cov h = h
at_held plans hs (is ∷ iss) lv k ns cov h = ((held_append hs (entered_regions (plans k) k ns) is (regions_held hs k ns (clauses (plans k)) cov) h.0.0, h.0.1), h.1)

pub by_safe : (plans : Plans) (hs0 hs : List (ℕ × ℕ)) (iss : List (List Inside)) (lv : List Inside) (k l : ℕ) (ns : List ℕ) (more : Queue)
    → ((hs' : List (ℕ × ℕ)) (iss' : List (List Inside)) → Sub hs hs' → AllHeld hs' iss' lv → Safe plans hs' iss' lv more)
    → AllHeld hs iss lv → Sub hs0 hs → Safe plans hs iss lv (owed_by (plans k) k hs0 l ns more)
by_safe plans hs0 hs iss lv k l [] more go h s = go hs iss (λ j d m. m) h
by_safe plans hs0 hs iss lv k l (n ∷ ns) more go h s =
    waits_safe plans hs iss lv (plans k) k l (n ∷ ns) _
    (enters_safe plans hs0 hs iss lv k l (n ∷ ns) (clauses (plans k)) ((l, at k (n ∷ ns)) ∷ more)
    (λ hs' sub all cov. (all, cov, go hs' (op_inside plans (at k (n ∷ ns)) iss) sub (at_held plans hs' iss lv k (n ∷ ns) cov all))) h s)

pub beginning_safe : (plans : Plans) (hs0 hs : List (ℕ × ℕ)) (iss : List (List Inside)) (lv : List Inside) (l : ℕ) (site : Site) (env : Locals) (ks : List ℕ)
    → AllHeld hs iss lv → Sub hs0 hs → Safe plans hs iss lv (owed_at plans hs0 l site env ks)
beginning_safe plans hs0 hs iss lv l site env [] h s = h
beginning_safe plans hs0 hs iss lv l site env (k ∷ ks) h s =
    by_safe plans hs0 hs iss lv k l (matching (plans k) site env) (owed_at plans hs0 l site env ks)
    (λ hs' iss' sub all. beginning_safe plans hs0 hs' iss' lv l site env ks all (λ j d m. sub j d (s j d m))) h s

-- Leaves

-- each of these regions is of a clause of those
abbrev pub Within : List Inside → List Inside → Type 0
Within is js = (k c : ℕ) → is_inside_clause js k c ≡ true → is_inside_clause is k c ≡ true

abbrev pub WithinEach : List Inside → List (List Inside) → Type 0
WithinEach is [] = Unit {0}
WithinEach is (js ∷ jss) = Within is js × WithinEach is jss

true_of : (b : Bool) → not b ≡ false → b ≡ true
true_of true e = refl
true_of false e = cc

both_same : (a b k c j d : ℕ) → not ((a == k) && (b == c)) ≡ false → ((a == j) && (b == d)) ≡ true → ((k == j) && (c == d)) ≡ true
both_same a b k c j d n m =
    let one = and_parts (a == k) (b == c) (true_of ((a == k) && (b == c)) n) in
    let two = and_parts (a == j) (b == d) m in
    and_both (k == j) (c == d) (subst (λ (x : ℕ). (x == j) ≡ true) (same_number a k one.0) two.0)
    (subst (λ (x : ℕ). (x == d) ≡ true) (same_number b c one.1) two.1)

holds_without : (hs : List (ℕ × ℕ)) (k c j d : ℕ) → holds hs j d ≡ true → ((k == j) && (c == d)) ≡ false → holds (without_clause k c hs) j d ≡ true
holds_without [] k c j d h o = cc
holds_without (g ∷ hs) k c j d h o =
    pick (λ gs. holds gs j d ≡ true) (not ((g.0 == k) && (g.1 == c))) (g ∷ without_clause k c hs) (without_clause k c hs)
    (λ b. either_of (or_cases ((g.0 == j) && (g.1 == d)) (holds hs j d) h)
    (λ m. or_left ((g.0 == j) && (g.1 == d)) (holds (without_clause k c hs) j d) m)
    (λ m. or_right ((g.0 == j) && (g.1 == d)) (holds (without_clause k c hs) j d) (holds_without hs k c j d m o)))
    (λ b. either_of (or_cases ((g.0 == j) && (g.1 == d)) (holds hs j d) h)
    (λ m. let both : ((k == j) && (c == d)) ≡ true = both_same g.0 g.1 k c j d b m in cc)
    (λ m. holds_without hs k c j d m o))

not_same : (is : List Inside) (k c j d : ℕ) → is_inside_clause is k c ≡ false → is_inside_clause is j d ≡ true → (b : Bool) → ((k == j) && (c == d)) ≡ b → b ≡ false
not_same is k c j d none among false e = refl
not_same is k c j d none among true e =
    let parts = and_parts (k == j) (c == d) e in
    let P : ℕ → Type 0 = λ n. is_inside_clause is n c ≡ false in
    let Q : ℕ → Type 0 = λ n. is_inside_clause is j n ≡ false in
    let away : is_inside_clause is j d ≡ false = subst Q (same_number c d parts.1) (subst P (same_number k j parts.0) none) in
    cc

less_all : (hs : List (ℕ × ℕ)) (is js : List Inside) (k c : ℕ) → is_inside_clause is k c ≡ false → Within is js → HeldAll hs js → HeldAll (without_clause k c hs) js
less_all hs is js k c none w h j d m = holds_without hs k c j d (h j d m) (not_same is k c j d none (w j d m) ((k == j) && (c == d)) refl)

less_each : (hs : List (ℕ × ℕ)) (is : List Inside) (iss : List (List Inside)) (k c : ℕ) → is_inside_clause is k c ≡ false → WithinEach is iss → HeldEach hs iss
    → HeldEach (without_clause k c hs) iss
less_each hs is [] k c none w h = tt
less_each hs is (js ∷ jss) k c none w h = (less_all hs is js k c none w.0 h.0, less_each hs is jss k c none w.1 h.1)

not_true : (b : Bool) → not b ≡ true → b ≡ false
not_true true h = cc
not_true false h = refl

pub leaves_safe : (plans : Plans) (hs0 : List (ℕ × ℕ)) (is : List Inside) (hs : List (ℕ × ℕ)) (iss : List (List Inside)) (lv : List Inside) (k l : ℕ)
    (cs : List (ℕ × Ruling)) (more : Queue) → ((hs' : List (ℕ × ℕ)) → AllHeld hs' iss lv → Safe plans hs' iss lv more) → AllHeld hs iss lv
    → WithinEach is iss → Within is lv → Safe plans hs iss lv (owed_leaves hs0 is k l cs more)
leaves_safe plans hs0 is hs iss lv k l [] more go h w v = go hs h
leaves_safe plans hs0 is hs iss lv k l (c ∷ cs) more go h w v =
    pick (Safe plans hs iss lv) (holds hs0 k c.0 && not (is_inside_clause is k c.0)) _ _
    (λ b. (h, tt, leaves_safe plans hs0 is (without_clause k c.0 hs) iss lv k l cs more go (lessened b) w v))
    (λ b. leaves_safe plans hs0 is hs iss lv k l cs more go h w v)
  where
    lessened : (holds hs0 k c.0 && not (is_inside_clause is k c.0)) ≡ true → AllHeld (without_clause k c.0 hs) iss lv
    lessened b =
        let parts = and_parts (holds hs0 k c.0) (not (is_inside_clause is k c.0)) b in
        let none : is_inside_clause is k c.0 ≡ false = not_true (is_inside_clause is k c.0) parts.1 in
        (less_each hs is iss k c.0 none w h.0, less_all hs is lv k c.0 none v h.1)

pub all_leaves_safe : (plans : Plans) (hs0 : List (ℕ × ℕ)) (is : List Inside) (hs : List (ℕ × ℕ)) (iss : List (List Inside)) (lv : List Inside) (l : ℕ)
    (ks : List ℕ) → AllHeld hs iss lv → WithinEach is iss → Within is lv → Safe plans hs iss lv (all_leaves plans hs0 is l ks)
all_leaves_safe plans hs0 is hs iss lv l [] h w v = h
all_leaves_safe plans hs0 is hs iss lv l (k ∷ ks) h w v =
    leaves_safe plans hs0 is hs iss lv k l (clauses (plans k)) (all_leaves plans hs0 is l ks) (λ hs' all. all_leaves_safe plans hs0 is hs' iss lv l ks all w v) h w v

pub back_safe : (plans : Plans) (hs : List (ℕ × ℕ)) (iss : List (List Inside)) (lv : List Inside) (l : ℕ) (os : Queue) → AllHeld hs iss lv → Safe plans hs iss [] os
    → Safe plans hs iss lv (with_back l os)
back_safe plans hs iss lv l [] h g = h
back_safe plans hs iss lv l (o ∷ os) h g = (h, tt, g)

-- Past: what is left is inside no more

-- each of these regions is one of those
abbrev pub Under : List Inside → List Inside → Type 0
Under a b = (q : Inside → Bool) → list_any q a ≡ true → list_any q b ≡ true

abbrev pub UnderEach : List (List Inside) → List OpenFrame → Type 0
UnderEach [] fs = Unit {0}
UnderEach (a ∷ iss) [] = ⊥
UnderEach (a ∷ iss) (x ∷ xs) = Under a x.inside × UnderEach iss xs

pick_any : (b : Bool) (q : Inside → Bool) (i : Inside) (a : List Inside) (rest : Bool) → list_any q a ≡ rest
    → list_any q (if b then i ∷ a else a) ≡ ((b && q i) || rest)
pick_any true q i a rest e = ap (λ x. q i || x) e
pick_any false q i a rest e = e

any_filter : (r q : Inside → Bool) (a : List Inside) → list_any q (filter r a) ≡ list_any (λ i. r i && q i) a
any_filter r q [] = refl
any_filter r q (i ∷ a) = pick_any (r i) q i (filter r a) _ (any_filter r q a)

under_filter : (r : Inside → Bool) (a b : List Inside) → Under a b → Under (filter r a) (filter r b)
under_filter r a b u q h = any_filter r q b ∙ u (λ i. r i && q i) (sym (any_filter r q a) ∙ h)

any_more : (r q : Inside → Bool) (a : List Inside) → list_any (λ i. r i && q i) a ≡ true → list_any q a ≡ true
any_more r q [] h = h
any_more r q (i ∷ a) h =
    either_of (or_cases (r i && q i) (list_any (λ j. r j && q j) a) h)
    (λ m. or_left (q i) (list_any q a) (and_parts (r i) (q i) m).1) (λ m. or_right (q i) (list_any q a) (any_more r q a m))

filter_under : (r : Inside → Bool) (a b : List Inside) → Under a b → Under (filter r a) b
filter_under r a b u q h = u q (any_more r q a (sym (any_filter r q a) ∙ h))

abbrev pub of_clause : ℕ → ℕ → Inside → Bool
of_clause k c i = (i.filter == k) && (i.clause == c)

held_filter : (hs : List (ℕ × ℕ)) (r : Inside → Bool) (is : List Inside) → HeldAll hs is → HeldAll hs (filter r is)
held_filter hs r is h k c m = h k c (any_more r (of_clause k c) is (sym (any_filter r (of_clause k c) is) ∙ m))

held_first : (hs : List (ℕ × ℕ)) (r : Inside → Bool) (iss : List (List Inside)) → HeldEach hs iss → HeldEach hs (in_first (λ is. filter r is) iss)
held_first hs r [] h = h
held_first hs r (is ∷ iss) h = (held_filter hs r is h.0, h.1)

pub within_frames : (is : List Inside) (iss : List (List Inside)) (fs : List OpenFrame) → Within is (all_inside fs) → UnderEach iss fs → WithinEach is iss
within_frames is [] fs w u = tt
within_frames is (a ∷ iss) [] w u = absurd u
within_frames is (a ∷ iss) (x ∷ xs) w u = (
  (λ k c m. w k c (append_left x.inside (all_inside xs) k c (u.0 (of_clause k c) m))),
  within_frames is iss xs (λ k c m. w k c (append_right x.inside (all_inside xs) k c m)) u.1,
)

abbrev pub stays : ℕ → List ℕ → Inside → Bool
stays k ns i = not (is_left_with k ns i)

under_completed : (k : ℕ) (ns : List ℕ) (iss : List (List Inside)) (fs : List OpenFrame) → UnderEach iss fs
    → UnderEach (in_first (λ is. filter (stays k ns) is) iss) (in_frame (completed k ns) fs)
under_completed k ns [] fs u = tt
under_completed k ns (a ∷ iss) [] u = absurd u
under_completed k ns (a ∷ iss) (x ∷ xs) u = (under_filter (stays k ns) a x.inside u.0, u.1)

under_still : (k : ℕ) (ns : List ℕ) (iss : List (List Inside)) (fs : List OpenFrame) → UnderEach iss fs
    → UnderEach (in_first (λ is. filter (stays k ns) is) iss) fs
under_still k ns [] fs u = tt
under_still k ns (a ∷ iss) [] u = absurd u
under_still k ns (a ∷ iss) (x ∷ xs) u = (filter_under (stays k ns) a x.inside u.0, u.1)

pub past_safe : (plans : Plans) (hs0 hs : List (ℕ × ℕ)) (iss : List (List Inside)) (fs : List OpenFrame) (k l : ℕ) (ns : List ℕ) (more : Queue)
    → ((hs' : List (ℕ × ℕ)) (iss' : List (List Inside)) → AllHeld hs' iss' [] → UnderEach iss' fs → Safe plans hs' iss' [] more)
    → AllHeld hs iss [] → UnderEach iss fs → Safe plans hs iss [] (owed_past (plans k) k hs0 fs l ns more)
past_safe plans hs0 hs iss fs k l [] more go h u = go hs iss h u
past_safe plans hs0 hs iss fs k l (n ∷ ns) more go h u =
    let iss1 : List (List Inside) = in_first (λ is. filter (stays k (n ∷ ns)) is) iss in
    let h1 : AllHeld hs iss1 [] = (held_first hs (stays k (n ∷ ns)) iss h.0, h.1) in
    let js : List Inside = all_inside (in_frame (completed k (n ∷ ns)) fs) in (
      h,
      tt,
      posts_safe plans hs iss1 [] (plans k) k l (n ∷ ns) _
          (leaves_safe plans hs0 js hs iss1 [] k l (clauses (plans k)) more (λ hs' all. go hs' iss1 all (under_still k (n ∷ ns) iss fs u)) h1
          (within_frames js iss1 (in_frame (completed k (n ∷ ns)) fs) (λ j d m. m) (under_completed k (n ∷ ns) iss fs u)) (λ j d m. cc)),
    )

pub behind_safe : (plans : Plans) (hs0 hs : List (ℕ × ℕ)) (iss : List (List Inside)) (fs : List OpenFrame) (l : ℕ) (xs : List (ℕ × List ℕ)) (ks : List ℕ)
    → AllHeld hs iss [] → UnderEach iss fs → Safe plans hs iss [] (owed_behind plans hs0 fs l xs ks)
behind_safe plans hs0 hs iss fs l xs [] h u = h
behind_safe plans hs0 hs iss fs l xs (k ∷ ks) h u =
    past_safe plans hs0 hs iss fs k l (events_of_filter k xs) (owed_behind plans hs0 fs l xs ks) (λ hs' iss' all under. behind_safe plans hs0 hs' iss' fs l xs ks all under) h u
