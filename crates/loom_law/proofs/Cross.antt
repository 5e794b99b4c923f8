-- What is owed stays safe where a thread takes a new version.
use Rattle.std.proofs.Common.{ℕ, ◌≡◌, ◌==◌, Bool, true, false, not, ◌&&◌, List, [], ◌∷◌, ◌++◌, flat_map, refl, sym, ap, subst, ◌∙◌, if◌then◌else◌}
use Rattle.std.specs.List.{filter}
use Rattle.std.proofs.lemmas.Bool.{and_parts}
use Rattle.std.proofs.lemmas.List.Elements.{filter-append}
use Rattle.loom_law.specs.Filter.{Range, Ruling, has, share, entry_events, ranges_of, clauses}
use Rattle.loom_law.specs.Walk.{Plans, wait, enters, at, past, post, leave, back, tick, cross, blocked, Inside, Queue, holds, is_inside_clause, is_left_with, with_back, entered_ranges, entered_regions, without_clause, without_filters, still_owed}
use Rattle.loom_law.proofs.Holdings.{or_cases, or_left, or_right, either_of, pick, same_number, HeldAll, HeldEach, AllHeld, Covers, Safe, op_inside}

abbrev pub held_in : List ℕ → List (ℕ × ℕ) → List (ℕ × ℕ)
held_in ks hs = filter (λ (h : ℕ × ℕ). has ks h.0) hs

abbrev pub each_in : List ℕ → List (List Inside) → List (List Inside)
each_in ks [] = []
each_in ks (is ∷ iss) = without_filters ks is ∷ each_in ks iss

-- Filters of lists

pub if_true : {A : Type 0} (b : Bool) (x y : A) → b ≡ true → (if b then x else y) ≡ x
if_true true x y e = refl
if_true false x y e = cc

pub if_false : {A : Type 0} (b : Bool) (x y : A) → b ≡ false → (if b then x else y) ≡ y
if_false true x y e = cc
if_false false x y e = refl

filter_if : {A : Type 0} (p : A → Bool) (d : Bool) (x : A) (ys : List A)
    → filter p (if d then x ∷ ys else ys) ≡ (if d then (if p x then x ∷ filter p ys else filter p ys) else filter p ys)
filter_if p true x ys = refl
filter_if p false x ys = refl

both_ifs : {A : Type 0} (b d : Bool) (x : A) (as' bs : List A) → as' ≡ bs
    → (if d then (if b then x ∷ as' else as') else as') ≡ (if b then (if d then x ∷ bs else bs) else bs)
both_ifs true true x as' bs e = ap (◌∷◌ x) e
both_ifs true false x as' bs e = e
both_ifs false true x as' bs e = e
both_ifs false false x as' bs e = e

pub filters_commute : {A : Type 0} (p q : A → Bool) (xs : List A) → filter p (filter q xs) ≡ filter q (filter p xs)
filters_commute p q [] = refl
filters_commute p q (x ∷ xs) =
    filter_if p (q x) x (filter q xs) ∙ both_ifs (p x) (q x) x (filter p (filter q xs)) (filter q (filter p xs)) (filters_commute p q xs) ∙ sym (filter_if q (p x) x (filter p xs))

absorbed_if : {A : Type 0} (b d : Bool) (x : A) (as' bs : List A) → as' ≡ bs → (d ≡ false → b ≡ false)
    → (if d then (if b then x ∷ as' else as') else as') ≡ (if b then x ∷ bs else bs)
absorbed_if true true x as' bs e f = ap (◌∷◌ x) e
absorbed_if true false x as' bs e f = let bad : true ≡ false = f refl in cc
absorbed_if false true x as' bs e f = e
absorbed_if false false x as' bs e f = e

filter_absorbs : {A : Type 0} (p q : A → Bool) → ((x : A) → q x ≡ false → p x ≡ false) → (xs : List A) → filter p (filter q xs) ≡ filter p xs
filter_absorbs p q f [] = refl
filter_absorbs p q f (x ∷ xs) =
    filter_if p (q x) x (filter q xs) ∙ absorbed_if (p x) (q x) x (filter p (filter q xs)) (filter p xs) (filter_absorbs p q f xs) (f x)

-- What is held and inside, by the filters that stay

same_has : (ks : List ℕ) (j k : ℕ) (b : Bool) → (j == k) ≡ true → has ks k ≡ b → has ks j ≡ b
same_has ks j k b e h =
    let P : ℕ → Type 0 = λ n. has ks n ≡ b in
    subst P (sym (same_number j k e)) h

differ : (a b : Bool) → a ≡ true → a ≡ false → b ≡ true
differ a b e f = cc

holds_in : (ks : List ℕ) (hs : List (ℕ × ℕ)) (k c : ℕ) → has ks k ≡ true → holds hs k c ≡ true → holds (held_in ks hs) k c ≡ true
holds_in ks [] k c i h = h
holds_in ks (g ∷ hs) k c i h =
    pick (λ gs. holds gs k c ≡ true) (has ks g.0) (g ∷ held_in ks hs) (held_in ks hs)
    (λ b. either_of (or_cases ((g.0 == k) && (g.1 == c)) (holds hs k c) h) (λ m. or_left ((g.0 == k) && (g.1 == c)) (holds (held_in ks hs) k c) m)
    (λ m. or_right ((g.0 == k) && (g.1 == c)) (holds (held_in ks hs) k c) (holds_in ks hs k c i m)))
    (λ b. either_of (or_cases ((g.0 == k) && (g.1 == c)) (holds hs k c) h)
    (λ m. differ (has ks g.0) (holds (held_in ks hs) k c) (same_has ks g.0 k true (and_parts (g.0 == k) (g.1 == c) m).0 i) b) (λ m. holds_in ks hs k c i m))

among_in : (ks : List ℕ) (is : List Inside) (k c : ℕ) → is_inside_clause (without_filters ks is) k c ≡ true → (has ks k ≡ true) × (is_inside_clause is k c ≡ true)
among_in ks [] k c h = cc
among_in ks (i ∷ is) k c h =
    pick (λ js. is_inside_clause js k c ≡ true → (has ks k ≡ true) × (is_inside_clause (i ∷ is) k c ≡ true)) (has ks i.filter) (i ∷ without_filters ks is) (without_filters ks is)
    (λ b m. either_of (or_cases ((i.filter == k) && (i.clause == c)) (is_inside_clause (without_filters ks is) k c) m)
    (λ n. (other i.filter k b (and_parts (i.filter == k) (i.clause == c) n).0, or_left ((i.filter == k) && (i.clause == c)) (is_inside_clause is k c) n))
    (λ n. let r = among_in ks is k c n in (r.0, or_right ((i.filter == k) && (i.clause == c)) (is_inside_clause is k c) r.1)))
    (λ b m. let r = among_in ks is k c m in (r.0, or_right ((i.filter == k) && (i.clause == c)) (is_inside_clause is k c) r.1)) h
  where
    other : (j n : ℕ) → has ks j ≡ true → (j == n) ≡ true → has ks n ≡ true
    other j n b e = subst (λ (a : ℕ). has ks a ≡ true) (same_number j n e) b

all_in : (ks : List ℕ) (hs : List (ℕ × ℕ)) (is : List Inside) → HeldAll hs is → HeldAll (held_in ks hs) (without_filters ks is)
all_in ks hs is h k c m = let r = among_in ks is k c m in holds_in ks hs k c r.0 (h k c r.1)

each_all_in : (ks : List ℕ) (hs : List (ℕ × ℕ)) (iss : List (List Inside)) → HeldEach hs iss → HeldEach (held_in ks hs) (each_in ks iss)
each_all_in ks hs [] h = tt
each_all_in ks hs (is ∷ iss) h = (all_in ks hs is h.0, each_all_in ks hs iss h.1)

pub all_held_in : (ks : List ℕ) (hs : List (ℕ × ℕ)) (iss : List (List Inside)) (lv : List Inside) → AllHeld hs iss lv
    → AllHeld (held_in ks hs) (each_in ks iss) (without_filters ks lv)
all_held_in ks hs iss lv h = (each_all_in ks hs iss h.0, all_in ks hs lv h.1)

covers_in : (ks : List ℕ) (hs : List (ℕ × ℕ)) (k : ℕ) (ns : List ℕ) (cs : List (ℕ × Ruling)) → has ks k ≡ true → Covers hs k ns cs → Covers (held_in ks hs) k ns cs
covers_in ks hs k ns [] i h = tt
covers_in ks hs k ns (c ∷ cs) i h = ((λ m. holds_in ks hs k c.0 i (h.0 m)), covers_in ks hs k ns cs i h.1)

-- regions that a filter enters stay with it, or go with it

abbrev pub stays_in : List ℕ → Inside → Bool
stays_in ks i = has ks i.filter

if_kept : {A : Type 0} (d b : Bool) (x : A) (ys zs : List A) → b ≡ true → ys ≡ zs → (if d then (if b then x ∷ ys else ys) else ys) ≡ (if d then x ∷ zs else zs)
if_kept true true x ys zs e f = ap (◌∷◌ x) f
if_kept false true x ys zs e f = f
if_kept true false x ys zs e f = cc
if_kept false false x ys zs e f = cc

ranges_stay : (ks : List ℕ) (k : ℕ) (ns : List ℕ) (c : ℕ) (xs : List Range) → has ks k ≡ true → without_filters ks (entered_ranges k ns c xs) ≡ entered_ranges k ns c xs
ranges_stay ks k ns c [] i = refl
ranges_stay ks k ns c (x ∷ xs) i =
    filter_if (stays_in ks) (share (entry_events x) ns) (record { filter = k; clause = c; range = x }) (entered_ranges k ns c xs)
    ∙ if_kept (share (entry_events x) ns) (has ks k) _ _ _ i (ranges_stay ks k ns c xs i)

if_gone : {A : Type 0} (d b : Bool) (x : A) (ys : List A) → b ≡ false → ys ≡ [] → (if d then (if b then x ∷ ys else ys) else ys) ≡ []
if_gone true true x ys e f = cc
if_gone false true x ys e f = f
if_gone true false x ys e f = f
if_gone false false x ys e f = f

ranges_go : (ks : List ℕ) (k : ℕ) (ns : List ℕ) (c : ℕ) (xs : List Range) → has ks k ≡ false → without_filters ks (entered_ranges k ns c xs) ≡ []
ranges_go ks k ns c [] i = refl
ranges_go ks k ns c (x ∷ xs) i =
    filter_if (stays_in ks) (share (entry_events x) ns) (record { filter = k; clause = c; range = x }) (entered_ranges k ns c xs)
    ∙ if_gone (share (entry_events x) ns) (has ks k) _ _ i (ranges_go ks k ns c xs i)

abbrev pub regions_from : ℕ → List ℕ → List (ℕ × Ruling) → List Inside
regions_from k ns cs = flat_map (λ (c : ℕ × Ruling). entered_ranges k ns c.0 (ranges_of c.1)) cs

regions_stay : (ks : List ℕ) (k : ℕ) (ns : List ℕ) (cs : List (ℕ × Ruling)) → has ks k ≡ true → without_filters ks (regions_from k ns cs) ≡ regions_from k ns cs
regions_stay ks k ns [] i = refl
regions_stay ks k ns (c ∷ cs) i =
    filter-append (stays_in ks) (entered_ranges k ns c.0 (ranges_of c.1)) (regions_from k ns cs)
    ∙ ap (λ is. is ++ without_filters ks (regions_from k ns cs)) (ranges_stay ks k ns c.0 (ranges_of c.1) i)
    ∙ ap (λ is. entered_ranges k ns c.0 (ranges_of c.1) ++ is) (regions_stay ks k ns cs i)

regions_go : (ks : List ℕ) (k : ℕ) (ns : List ℕ) (cs : List (ℕ × Ruling)) → has ks k ≡ false → without_filters ks (regions_from k ns cs) ≡ []
regions_go ks k ns [] i = refl
regions_go ks k ns (c ∷ cs) i =
    filter-append (stays_in ks) (entered_ranges k ns c.0 (ranges_of c.1)) (regions_from k ns cs)
    ∙ ap (λ is. is ++ without_filters ks (regions_from k ns cs)) (ranges_go ks k ns c.0 (ranges_of c.1) i)
    ∙ regions_go ks k ns cs i

at_stays : (ks : List ℕ) (plans : Plans) (k : ℕ) (ns : List ℕ) (iss : List (List Inside)) → has ks k ≡ true
    → each_in ks (op_inside plans (at k ns) iss) ≡ op_inside plans (at k ns) (each_in ks iss)
at_stays ks plans k ns [] i = refl
at_stays ks plans k ns (is ∷ iss) i =
    ap (λ js. js ∷ each_in ks iss) (filter-append (stays_in ks) (entered_regions (plans k) k ns) is
    ∙ ap (λ js. js ++ without_filters ks is) (regions_stay ks k ns (clauses (plans k)) i))

at_goes : (ks : List ℕ) (plans : Plans) (k : ℕ) (ns : List ℕ) (iss : List (List Inside)) → has ks k ≡ false
    → each_in ks (op_inside plans (at k ns) iss) ≡ each_in ks iss
at_goes ks plans k ns [] i = refl
at_goes ks plans k ns (is ∷ iss) i =
    ap (λ js. js ∷ each_in ks iss) (filter-append (stays_in ks) (entered_regions (plans k) k ns) is
    ∙ ap (λ js. js ++ without_filters ks is) (regions_go ks k ns (clauses (plans k)) i))

past_stays : (ks : List ℕ) (plans : Plans) (k : ℕ) (ns : List ℕ) (iss : List (List Inside))
    → each_in ks (op_inside plans (past k ns) iss) ≡ op_inside plans (past k ns) (each_in ks iss)
past_stays ks plans k ns [] = refl
past_stays ks plans k ns (is ∷ iss) = ap (λ js. js ∷ each_in ks iss) (filters_commute (stays_in ks) (λ (i : Inside). not (is_left_with k ns i)) is)

not_false : (b : Bool) → not b ≡ false → b ≡ true
not_false true e = refl
not_false false e = cc

past_goes : (ks : List ℕ) (plans : Plans) (k : ℕ) (ns : List ℕ) (iss : List (List Inside)) → has ks k ≡ false
    → each_in ks (op_inside plans (past k ns) iss) ≡ each_in ks iss
past_goes ks plans k ns [] i = refl
past_goes ks plans k ns (is ∷ iss) i =
    ap (λ js. js ∷ each_in ks iss) (filter_absorbs (stays_in ks) (λ (x : Inside). not (is_left_with k ns x))
    (λ x e. same_has ks x.filter k false (and_parts (x.filter == k) _ (not_false (is_left_with k ns x) e)).0 i) is)

pub leave_goes : (ks : List ℕ) (k c : ℕ) (hs : List (ℕ × ℕ)) → has ks k ≡ false → held_in ks (without_clause k c hs) ≡ held_in ks hs
leave_goes ks k c hs i =
    filter_absorbs (λ (h : ℕ × ℕ). has ks h.0) (λ (h : ℕ × ℕ). not ((h.0 == k) && (h.1 == c)))
    (λ x e. same_has ks x.0 k false (and_parts (x.0 == k) (x.1 == c) (not_false ((x.0 == k) && (x.1 == c)) e)).0 i) hs

-- What stays of what is owed, with `more` behind it

abbrev pub Then : Plans → List ℕ → List (ℕ × ℕ) → List (List Inside) → List Inside → Queue → Queue → Type 0
Then plans ks hs iss lv more os = Safe plans (held_in ks hs) (each_in ks iss) (without_filters ks lv) (os ++ more)

unless_empty : (plans : Plans) (hs : List (ℕ × ℕ)) (iss : List (List Inside)) (lv : List Inside) (l : ℕ) (os more : Queue) → AllHeld hs iss lv
    → Safe plans hs iss lv more → Safe plans hs iss [] (os ++ more) → Safe plans hs iss lv (with_back l os ++ more)
unless_empty plans hs iss lv l [] more h m g = m
unless_empty plans hs iss lv l (o ∷ os) more h m g = (h, tt, g)

pub kept_safe : (plans : Plans) (ks : List ℕ) (more : Queue)
    → ((hs : List (ℕ × ℕ)) (iss : List (List Inside)) (lv : List Inside) → AllHeld hs iss lv → Safe plans hs iss lv more)
    → (hs : List (ℕ × ℕ)) (iss : List (List Inside)) (lv : List Inside) (os : Queue) → Safe plans hs iss lv os → Then plans ks hs iss lv more (still_owed ks os)
kept_safe plans ks more go hs iss lv [] h = go _ _ _ (all_held_in ks hs iss lv h)
kept_safe plans ks more go hs iss lv ((l, wait k n) ∷ os) h =
    let ih = kept_safe plans ks more go hs iss lv os h.2 in
    pick (Then plans ks hs iss lv more) (has ks k) _ _ (λ b. (all_held_in ks hs iss lv h.0, tt, ih)) (λ b. ih)
kept_safe plans ks more go hs iss lv ((l, post k n) ∷ os) h =
    let ih = kept_safe plans ks more go hs iss lv os h.2 in
    pick (Then plans ks hs iss lv more) (has ks k) _ _ (λ b. (all_held_in ks hs iss lv h.0, tt, ih)) (λ b. ih)
kept_safe plans ks more go hs iss lv ((l, tick x) ∷ os) h = (all_held_in ks hs iss lv h.0, tt, kept_safe plans ks more go hs iss lv os h.2)
kept_safe plans ks more go hs iss lv ((l, cross x v n) ∷ os) h = (all_held_in ks hs iss lv h.0, tt, kept_safe plans ks more go hs iss lv os h.2)
kept_safe plans ks more go hs iss lv ((l, blocked w) ∷ os) h = (all_held_in ks hs iss lv h.0, tt, kept_safe plans ks more go hs iss lv os h.2)
kept_safe plans ks more go hs iss lv ((l, back) ∷ os) h =
    let all : AllHeld (held_in ks hs) (each_in ks iss) (without_filters ks lv) = all_held_in ks hs iss lv h.0 in
    unless_empty plans _ _ _ l (still_owed ks os) more all (go _ _ _ all) (kept_safe plans ks more go hs iss [] os h.2)
kept_safe plans ks more go hs iss lv ((l, enters k c) ∷ os) h =
    let ih = kept_safe plans ks more go ((k, c) ∷ hs) iss lv os h.2 in
    let P : List (ℕ × ℕ) → Type 0 = λ gs. Safe plans gs (each_in ks iss) (without_filters ks lv) (still_owed ks os ++ more) in
    pick (Then plans ks hs iss lv more) (has ks k) _ _
    (λ b. (all_held_in ks hs iss lv h.0, tt, subst P (if_true (has ks k) ((k, c) ∷ held_in ks hs) (held_in ks hs) b) ih))
    (λ b. subst P (if_false (has ks k) ((k, c) ∷ held_in ks hs) (held_in ks hs) b) ih)
kept_safe plans ks more go hs iss lv ((l, leave k c) ∷ os) h =
    let ih = kept_safe plans ks more go (without_clause k c hs) iss lv os h.2 in
    let P : List (ℕ × ℕ) → Type 0 = λ gs. Safe plans gs (each_in ks iss) (without_filters ks lv) (still_owed ks os ++ more) in
    pick (Then plans ks hs iss lv more) (has ks k) _ _
    (λ b. (all_held_in ks hs iss lv h.0, tt, subst P (filters_commute (λ (x : ℕ × ℕ). has ks x.0) (λ (x : ℕ × ℕ). not ((x.0 == k) && (x.1 == c))) hs) ih))
    (λ b. subst P (leave_goes ks k c hs b) ih)
kept_safe plans ks more go hs iss lv ((l, at k ns) ∷ os) h =
    let ih = kept_safe plans ks more go hs (op_inside plans (at k ns) iss) lv os h.2 in
    let P : List (List Inside) → Type 0 = λ jss. Safe plans (held_in ks hs) jss (without_filters ks lv) (still_owed ks os ++ more) in
    pick (Then plans ks hs iss lv more) (has ks k) _ _
    (λ b. (all_held_in ks hs iss lv h.0, covers_in ks hs k ns (clauses (plans k)) b h.1, subst P (at_stays ks plans k ns iss b) ih))
    (λ b. subst P (at_goes ks plans k ns iss b) ih)
kept_safe plans ks more go hs iss lv ((l, past k ns) ∷ os) h =
    let ih = kept_safe plans ks more go hs (op_inside plans (past k ns) iss) lv os h.2 in
    let P : List (List Inside) → Type 0 = λ jss. Safe plans (held_in ks hs) jss (without_filters ks lv) (still_owed ks os ++ more) in
    pick (Then plans ks hs iss lv more) (has ks k) _ _
    (λ b. (all_held_in ks hs iss lv h.0, tt, subst P (past_stays ks plans k ns iss) ih))
    (λ b. subst P (past_goes ks plans k ns iss b) ih)
