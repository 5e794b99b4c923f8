-- What stands before an entry of a lawful journal is lawful.
use Rattle.std.proofs.Common.{ℕ, zero, suc, ◌≤◌, ◌≡◌, ◌==◌, Bool, true, false, ◌&&◌, List, [], ◌∷◌, ◌++◌, ℤ, length, map, take, drop, Option, Some, None, slice_get, refl, sym, ap, subst, ◌∙◌, if◌then◌else◌, arith}
use Rattle.std.proofs.lemmas.List.{take-append-drop}
use Rattle.loom_tree.specs.Tree.{Source}
use Rattle.loom_trace.specs.declared.entry.Entry.{Entry}
use Rattle.loom_trace.specs.declared.entry.Entry.TheVariants as e
use Rattle.loom_trace.specs.declared.entry.What.{What}
use Rattle.loom_trace.specs.declared.entry.What.TheVariants as w
use Rattle.loom_lang.specs.Places.{Place}
use Rattle.loom_lang.specs.Trace.{Act, begin, end, trap, read, write, lock, unlock, down, up, spawn, join, print, Item, made, begins, done, edge, enter, out, Outcome, Open, IsTrace}
use Rattle.loom_lang.specs.Acts.{Deed, acts}
use Rattle.loom_lang.proofs.Broken.{broken_trace, trace_begins}
use Rattle.loom_event.specs.TargetEvent.{TargetEvent, entry_by, entry_of, is_target, targets, deeds}
use Rattle.loom_event.specs.Entries.{thread_of, is_thread}
use Rattle.loom_event.specs.Replay.{ThreadState, Store, start, thread_at, AwaitsBegin, IsRunning, IsAllowedAct, with_thread, after_act, replay, AreAllowed}
use Rattle.loom_event.specs.Replay as law
use Rattle.loom_event.specs.Run.{IsTraced, IsThreadTraced, AreRun}
use Rattle.loom_law.specs.Walk.{Version, Plans, Operation, wait, enters, at, past, post, leave, back, tick, cross, blocked, PartStep, goes, makes, items, filter_entries, entry_of_operation, Queue, Walk, unborn, behind_entry, crossing, walk_behind, walk_from, place_of_item, place_of_next, Acts, AsksFor, MayCross, MayBlock, MayStand, AreWoven}
use Rattle.loom_law.specs.ThreadPart.{Own, IsPart}
use Rattle.loom_law.specs.Control.{Command, Control, first_control, after_entry, control_after, takes_version, versions_from, versions_of, entries_of}
use Rattle.loom_law.specs.Lawful.{Setting, Front, front_of, plans, own, HasPart}
use Rattle.loom_law.proofs.Strict.{Stands, IsStrict}

-- Lists

pub append_assoc : {A : Type 0} (xs ys zs : List A) → (xs ++ ys) ++ zs ≡ xs ++ (ys ++ zs)
append_assoc [] ys zs = refl
append_assoc (x ∷ xs) ys zs = ap (◌∷◌ x) (append_assoc xs ys zs)

front_empty : {A : Type 0} (xs ys : List A) → xs ++ ys ≡ [] → xs ≡ []
front_empty [] ys h = refl
front_empty (x ∷ xs) ys h = cc

pub take_again : {A : Type 0} (m n : ℕ) (xs : List A) → m ≤ n → take m (take n xs) ≡ take m xs
take_again zero n xs h = refl
take_again (suc m) zero xs h = let no : ⊥ = omega arith in absurd no
take_again (suc m) (suc n) [] h = refl
take_again (suc m) (suc n) (x ∷ xs) h = ap (◌∷◌ x) (take_again m n xs (omega arith))

pub map_front : {A B : Type 0} (f : A → B) (xs : List A) (ys zs : List B) → map f xs ≡ ys ++ zs → map f (take (length ys) xs) ≡ ys
map_front f xs [] zs h = refl
map_front f [] (y ∷ ys) zs h = cc
map_front f (x ∷ xs) (y ∷ ys) zs h =
    let first : f x ≡ y = cc in
    let others : map f xs ≡ ys ++ zs = cc in
    ap (λ z. z ∷ map f (take (length ys) xs)) first ∙ ap (◌∷◌ y) (map_front f xs ys zs others)

-- one more or not, before a second list
more_append : {A : Type 0} (b : Bool) (x : A) (xs ys : List A) → ((if b then x ∷ xs else xs) ++ ys) ≡ (if b then x ∷ (xs ++ ys) else (xs ++ ys))
more_append true x xs ys = refl
more_append false x xs ys = refl

pub targets_append : (es fs : List Entry) → targets (es ++ fs) ≡ targets es ++ targets fs
targets_append [] fs = refl
targets_append (x ∷ es) fs =
    ap (λ zs. if is_target x then x ∷ zs else zs) (targets_append es fs) ∙ sym (more_append (is_target x) x (targets es) (targets fs))

pub length_append : {A : Type 0} (xs ys : List A) → length xs ≤ length (xs ++ ys)
length_append [] ys = omega arith
length_append (x ∷ xs) ys = let ih : length xs ≤ length (xs ++ ys) = length_append xs ys in omega arith

pub entries_append : (t : ℕ) (es fs : List Entry) → entries_of t (es ++ fs) ≡ entries_of t es ++ entries_of t fs
entries_append t [] fs = refl
entries_append t (x ∷ es) fs =
    ap (λ zs. if is_thread t (thread_of x) then x ∷ zs else zs) (entries_append t es fs)
    ∙ sym (more_append (is_thread t (thread_of x)) x (entries_of t es) (entries_of t fs))

pub taken_append : (cs : List Command) (t : ℕ) (c : Control) (es fs : List Entry)
    → versions_from cs t c (es ++ fs) ≡ versions_from cs t c es ++ versions_from cs t (control_after cs c es) fs
taken_append cs t c [] fs = refl
taken_append cs t c (x ∷ es) fs =
    ap (λ zs. if takes_version t x then c.version ∷ zs else zs) (taken_append cs t (after_entry cs c x) es fs)
    ∙ sym (more_append (takes_version t x) c.version (versions_from cs t (after_entry cs c x) es) (versions_from cs t (control_after cs (after_entry cs c x) es) fs))

pub deeds_append : (t : ℕ) (xs ys : List TargetEvent) → deeds t (xs ++ ys) ≡ deeds t xs ++ deeds t ys
deeds_append t [] ys = refl
deeds_append t (x ∷ xs) ys =
    let d : Deed = record { line = x.line; act = x.act } in
    ap (λ zs. if x.thread == t then d ∷ zs else zs) (deeds_append t xs ys) ∙ sym (more_append (x.thread == t) d (deeds t xs) (deeds t ys))

-- Threads stay

-- the same thread, if it is there
abbrev pub IsOf : Option ThreadState → Option ThreadState → Type 0
IsOf None o = Unit {0}
IsOf (Some x) None = ⊥
IsOf (Some x) (Some y) = (x.func ≡ y.func) × (x.args ≡ y.args)

pub of_same : (o : Option ThreadState) → IsOf o o
of_same None = tt
of_same (Some x) = (refl, refl)

of_both : (o o' o'' : Option ThreadState) → IsOf o o' → IsOf o' o'' → IsOf o o''
of_both None o' o'' h g = tt
of_both (Some x) None o'' h g = absurd h
of_both (Some x) (Some y) None h g = g
of_both (Some x) (Some y) (Some z) h g = (h.0 ∙ g.0, h.1 ∙ g.1)

of_append : (xs ys : List ThreadState) (i : ℕ) → IsOf (slice_get xs i) (slice_get (xs ++ ys) i)
of_append [] ys i = tt
of_append (x ∷ xs) ys zero = (refl, refl)
of_append (x ∷ xs) ys (suc i) = of_append xs ys i

of_changed : (s : Store) (f : ThreadState → ThreadState) → ((x : ThreadState) → IsOf (Some x) (Some (f x))) → (xs : List ThreadState) (n i : ℕ)
    → IsOf (slice_get xs i) (slice_get (Store.spawned (with_thread (record s { spawned = xs }) (suc n) f)) i)
of_changed s f k [] n i = tt
of_changed s f k (x ∷ xs) zero zero = k x
of_changed s f k (x ∷ xs) zero (suc i) = of_same (slice_get xs i)
of_changed s f k (x ∷ xs) (suc n) zero = (refl, refl)
of_changed s f k (x ∷ xs) (suc n) (suc i) = of_changed s f k xs n i

with_thread_keeps : (s : Store) (u : ℕ) (f : ThreadState → ThreadState) → ((x : ThreadState) → IsOf (Some x) (Some (f x))) → (t : ℕ)
    → IsOf (thread_at s t) (thread_at (with_thread s u f) t)
with_thread_keeps s u f k zero = tt
with_thread_keeps s zero f k (suc i) = of_same (slice_get s.spawned i)
with_thread_keeps s (suc n) f k (suc i) = of_changed s f k s.spawned n i

pub act_keeps : (s : Store) (u : ℕ) (a : Act) (t : ℕ) → IsOf (thread_at s t) (thread_at (after_act s u a) t)
act_keeps s u a zero = tt
act_keeps s u begin (suc i) = with_thread_keeps s u (λ x. record x { begun = true }) (λ x. (refl, refl)) (suc i)
act_keeps s u end (suc i) = with_thread_keeps s u (λ x. record x { ended = true }) (λ x. (refl, refl)) (suc i)
act_keeps s u (trap c) (suc i) = of_same (slice_get s.spawned i)
act_keeps s u (read x v) (suc i) = of_same (slice_get s.spawned i)
act_keeps s u (write x v) (suc i) = of_same (slice_get s.spawned i)
act_keeps s u (lock m) (suc i) = of_same (slice_get s.spawned i)
act_keeps s u (unlock m) (suc i) = of_same (slice_get s.spawned i)
act_keeps s u (down m) (suc i) = of_same (slice_get s.spawned i)
act_keeps s u (up m) (suc i) = of_same (slice_get s.spawned i)
act_keeps s u (spawn c f vs) (suc i) = of_append s.spawned _ i
act_keeps s u (join c) (suc i) = of_same (slice_get s.spawned i)
act_keeps s u (print v) (suc i) = of_same (slice_get s.spawned i)

pub replay_keeps : (s : Store) (xs : List TargetEvent) (t : ℕ) → IsOf (thread_at s t) (thread_at (replay s xs) t)
replay_keeps s [] t = of_same (thread_at s t)
replay_keeps s (x ∷ xs) t = of_both _ _ _ (act_keeps s x.thread x.act t) (replay_keeps (law.after_event s x) xs t)

pub replay_append : (s : Store) (xs ys : List TargetEvent) → replay s (xs ++ ys) ≡ replay (replay s xs) ys
replay_append s [] ys = refl
replay_append s (x ∷ xs) ys = replay_append (law.after_event s x) xs ys

-- A thread that isn't there has done nothing

running_there : (s : Store) (t : ℕ) → IsRunning s t → (y : ThreadState) × (thread_at s t ≡ Some y)
running_there s t r = (r.state, r.is)

unborn_there : (s : Store) (t : ℕ) → AwaitsBegin s t → (y : ThreadState) × (thread_at s t ≡ Some y)
unborn_there s t r = (r.state, r.is)

pub allowed_there : (s : Store) (t : ℕ) (a : Act) → IsAllowedAct s t a → (y : ThreadState) × (thread_at s t ≡ Some y)
allowed_there s t begin h = unborn_there s t h
allowed_there s t end h = running_there s t h.0
allowed_there s t (trap c) h = running_there s t h.0
allowed_there s t (read x v) h = running_there s t h.0
allowed_there s t (write x v) h = running_there s t h.0
allowed_there s t (lock m) h = running_there s t h.0
allowed_there s t (unlock m) h = running_there s t h.0
allowed_there s t (down m) h = running_there s t h.0
allowed_there s t (up m) h = running_there s t h.0
allowed_there s t (spawn c f vs) h = running_there s t h.0
allowed_there s t (join c) h = running_there s t h.0
allowed_there s t (print v) h = running_there s t h.0

not_lost : (o o' : Option ThreadState) (y : ThreadState) → IsOf o o' → o ≡ Some y → o' ≡ None → ⊥
not_lost o o' y h is none =
    let P : Option ThreadState → Type 0 = λ z. IsOf z o' in
    let Q : Option ThreadState → Type 0 = λ z. IsOf (Some y) z in
    subst Q none (subst P is h)

pub same_number : (t u : ℕ) → (t == u) ≡ true → t ≡ u
same_number t u h = grind arith

pub by_test : (b : Bool) (P : Type 0) → (b ≡ true → P) → (b ≡ false → P) → P
by_test true P f g = f refl
by_test false P f g = g refl

pub if_false : {A : Type 0} (b : Bool) (x y : A) → b ≡ false → (if b then x else y) ≡ y
if_false true x y h = cc
if_false false x y h = refl

pub if_true : {A : Type 0} (b : Bool) (x y : A) → b ≡ true → (if b then x else y) ≡ x
if_true true x y h = refl
if_true false x y h = cc

pub nothing_done : (s : Store) (t : ℕ) (xs : List TargetEvent) → AreAllowed s xs → thread_at (replay s xs) t ≡ None → deeds t xs ≡ []
nothing_done s t [] h none = refl
nothing_done s t (x ∷ xs) h none =
    by_test (x.thread == t) (deeds t (x ∷ xs) ≡ [])
    (λ y.
    let there = allowed_there s x.thread x.act h.0 in
    let at_t : thread_at s t ≡ Some there.0 = subst (λ u. thread_at s u ≡ Some there.0) (same_number x.thread t y) there.1 in
    absurd (not_lost (thread_at s t) (thread_at (replay s (x ∷ xs)) t) there.0 (replay_keeps s (x ∷ xs) t) at_t none))
    (λ y. if_false (x.thread == t) (record { line = x.line; act = x.act } ∷ deeds t xs) (deeds t xs) y ∙ nothing_done (law.after_event s x) t xs h.1 none)

-- Fronts of runs

pub allowed_front : (s : Store) (xs ys : List TargetEvent) → AreAllowed s (xs ++ ys) → AreAllowed s xs
allowed_front s [] ys h = tt
allowed_front s (x ∷ xs) ys h = (h.0, allowed_front (law.after_event s x) xs ys h.1)

pub record Cut (is : List Item) (ds : List Deed) : Type 0 where
  pub before : List Item
  pub behind : List Item
  pub whole : is ≡ before ++ behind
  pub same : acts before ≡ ds

with_mark : (i : Item) (is : List Item) (ds : List Deed) → ((js : List Item) → acts (i ∷ js) ≡ acts js) → Cut is ds → Cut (i ∷ is) ds
with_mark i is ds skips h = record { before = i ∷ h.before; behind = h.behind; whole = ap (◌∷◌ i) h.whole; same = skips h.before ∙ h.same }

cut_acts : (is : List Item) (ds fs : List Deed) → acts is ≡ ds ++ fs → Cut is ds
cut_acts is [] fs h = record { before = []; behind = is; whole = refl; same = refl }
cut_acts [] (d ∷ ds) fs h = cc
cut_acts (made l a ∷ is) (d ∷ ds) fs h =
    let x : Deed = record { line = l; act = a } in
    let first : x ≡ d = cc in
    let others : acts is ≡ ds ++ fs = cc in
    let c : Cut is ds = cut_acts is ds fs others in
    record { before = made l a ∷ c.before; behind = c.behind; whole = ap (◌∷◌ (made l a)) c.whole; same = ap (λ z. z ∷ acts c.before) first ∙ ap (◌∷◌ d) c.same }
cut_acts (begins l env ∷ is) (d ∷ ds) fs h = with_mark (begins l env) is (d ∷ ds) (λ js. refl) (cut_acts is (d ∷ ds) fs h)
cut_acts (done l ∷ is) (d ∷ ds) fs h = with_mark (done l) is (d ∷ ds) (λ js. refl) (cut_acts is (d ∷ ds) fs h)
cut_acts (edge l ∷ is) (d ∷ ds) fs h = with_mark (edge l) is (d ∷ ds) (λ js. refl) (cut_acts is (d ∷ ds) fs h)
cut_acts (enter f env ∷ is) (d ∷ ds) fs h = with_mark (enter f env) is (d ∷ ds) (λ js. refl) (cut_acts is (d ∷ ds) fs h)
cut_acts (out f ∷ is) (d ∷ ds) fs h = with_mark (out f) is (d ∷ ds) (λ js. refl) (cut_acts is (d ∷ ds) fs h)

traced_front : (p : Source) (f : ℕ) (vs : List ℤ) (ds fs : List Deed) → IsTraced p f vs (ds ++ fs) → IsTraced p f vs ds
traced_front p f vs ds fs h =
    let c : Cut h.items ds = cut_acts h.items ds fs h.same in
    record { items = c.before; outcome = Open; trace = broken_trace p f vs c.before c.behind h.outcome (subst (λ z. IsTrace p f vs z h.outcome) c.whole h.trace); same = c.same }

-- of the thread as it was, from what it is in the end
thread_front : (p : Source) (xs ys : List TargetEvent) (t : ℕ) (o o' : Option ThreadState) → IsOf o o' → (o ≡ None → deeds t xs ≡ []) → IsThreadTraced p (xs ++ ys) t o'
    → IsThreadTraced p xs t o
thread_front p xs ys t None o' is none h = none refl
thread_front p xs ys t (Some x) None is none h = absurd is
thread_front p xs ys t (Some x) (Some y) is none h =
    let all : IsTraced p y.func y.args (deeds t xs ++ deeds t ys) = subst (IsTraced p y.func y.args) (deeds_append t xs ys) h in
    let front : IsTraced p y.func y.args (deeds t xs) = traced_front p y.func y.args (deeds t xs) (deeds t ys) all in
    subst (λ f. IsTraced p f x.args (deeds t xs)) (sym is.0) (subst (λ vs. IsTraced p y.func vs (deeds t xs)) (sym is.1) front)

pub stays : (p : Source) (most : ℕ) (xs ys : List TargetEvent) (t : ℕ) → IsOf (thread_at (replay (start p most) xs) t) (thread_at (replay (start p most) (xs ++ ys)) t)
stays p most xs ys t = subst (λ s. IsOf (thread_at (replay (start p most) xs) t) (thread_at s t)) (sym (replay_append (start p most) xs ys)) (replay_keeps (replay (start p most) xs) ys t)

pub run_front : (p : Source) (most : ℕ) (xs ys : List TargetEvent) → AreRun p most (xs ++ ys) → AreRun p most xs
run_front p most xs ys h =
    let ok : AreAllowed (start p most) xs = allowed_front (start p most) xs ys h.allowed in
    record {
      traced = λ t. thread_front p xs ys t (thread_at (replay (start p most) xs) t) (thread_at (replay (start p most) (xs ++ ys)) t) (stays p most xs ys t)
          (λ none. nothing_done (start p most) t xs ok none) (h.traced t);
      allowed = ok;
    }

-- Fronts of parts

-- by these entries a version is taken
abbrev pub is_taking : Entry → Bool
is_taking (e.Begin t l) = true
is_taking (e.Cross t l x v n) = true
is_taking _ = false

abbrev pub takings : List Entry → ℕ
takings [] = 0
takings (x ∷ es) = if is_taking x then suc (takings es) else takings es

pub takes_is : (t : ℕ) (x : Entry) → takes_version t x ≡ (is_taking x && is_thread t (thread_of x))
takes_is t (e.Begin u l) = refl
takes_is t (e.Cross u l x v n) = refl
takes_is t _ = refl

count_one : (b th : Bool) (x : Entry) (v : Version) (es : List Entry) (vs : List Version) → is_taking x ≡ b → takings es ≡ length vs
    → takings (if th then x ∷ es else es) ≡ length (if b && th then v ∷ vs else vs)
count_one true true x v es vs is h = if_true (is_taking x) (suc (takings es)) (takings es) is ∙ ap suc h
count_one false true x v es vs is h = if_false (is_taking x) (suc (takings es)) (takings es) is ∙ h
count_one true false x v es vs is h = h
count_one false false x v es vs is h = h

pub takings_taken : (cs : List Command) (t : ℕ) (c : Control) (es : List Entry) → takings (entries_of t es) ≡ length (versions_from cs t c es)
takings_taken cs t c [] = refl
takings_taken cs t c (x ∷ es) =
    let vs : List Version = versions_from cs t (after_entry cs c x) es in
    subst (λ (b : Bool). takings (if is_thread t (thread_of x) then x ∷ entries_of t es else entries_of t es) ≡ length (if b then c.version ∷ vs else vs))
    (sym (takes_is t x))
    (count_one (is_taking x) (is_thread t (thread_of x)) x c.version (entries_of t es) vs refl (takings_taken cs t (after_entry cs c x) es))

-- the walk that has these versions still to take
abbrev pub to_take : Walk → List Version → Walk
to_take z vs = record z { coming = vs }

place_same : (z : Walk) (vs us : List Version) (os : Queue) (is : List Item) (y : Place) → place_of_next (to_take z vs) os is ≡ Some y → place_of_next (to_take z us) os is ≡ Some y
place_same z vs us (o ∷ os) is y h = h
place_same z vs us [] [] y h = h
place_same z vs us [] (made l begin ∷ is) y h = h
place_same z vs us [] (made l end ∷ is) y h = h
place_same z vs us [] (made l (trap c) ∷ is) y h = h
place_same z vs us [] (made l (read x v) ∷ is) y h = h
place_same z vs us [] (made l (write x v) ∷ is) y h = h
place_same z vs us [] (made l (lock x) ∷ is) y h = h
place_same z vs us [] (made l (unlock x) ∷ is) y h = h
place_same z vs us [] (made l (down x) ∷ is) y h = h
place_same z vs us [] (made l (up x) ∷ is) y h = h
place_same z vs us [] (made l (spawn c f ws) ∷ is) y h = h
place_same z vs us [] (made l (join c) ∷ is) y h = h
place_same z vs us [] (made l (print v) ∷ is) y h = h
place_same z vs us [] (begins l env ∷ is) y h = h
place_same z vs us [] (done l ∷ is) y h = h
place_same z vs us [] (edge l ∷ is) y h = h
place_same z vs us [] (enter f env ∷ is) y h = h
place_same z vs us [] (out f ∷ is) y h = h

asks_same : (z : Walk) (vs us : List Version) (is : List Item) (l : ℕ) (what : What) → AsksFor (to_take z vs) is l what → AsksFor (to_take z us) is l what
asks_same z vs us is l (w.Lock m) h = h
asks_same z vs us is l (w.Down m) h = h
asks_same z vs us is l (w.Join c) h = h
asks_same z vs us is l (w.Enter k c) h = h
asks_same z vs us is l (w.Wait k n) h = h

-- with fewer versions to come, as many as are taken
abbrev pub IsFront : Source → Plans → Walk → List Version → List PartStep → List Item → Type 0
IsFront p plans z vs ss ahead = AreWoven p plans (to_take z vs) ss ahead × (Walk.coming (walk_from p plans (to_take z vs) ss) ≡ [])

pub none_left : (vs : List Version) → 0 ≡ length vs → vs ≡ []
none_left [] h = refl
none_left (v ∷ vs) h = let no : ⊥ = omega arith in absurd no

pub fewer : (p : Source) (plans : Plans) (t : ℕ) (z : Walk) (vs us : List Version) (ss : List PartStep) (ahead : List Item) → AreWoven p plans (to_take z (vs ++ us)) ss ahead
    → takings (filter_entries t ss) ≡ length vs → IsFront p plans z vs ss ahead
fewer p plans t z vs us [] ahead h n = (tt, none_left vs n)
fewer p plans t z [] us (goes (made l begin) ∷ ss) ahead h n = let no : ⊥ = omega arith in absurd no
fewer p plans t z (v ∷ vs) us (goes (made l begin) ∷ ss) ahead h n =
    let ih = fewer p plans t (record (behind_entry z) { active = v.active }) vs us ss ahead h.1 (omega arith) in
    (((h.0.0, tt), ih.0), ih.1)
fewer p plans t z vs us (goes (made l end) ∷ ss) ahead h n =
    let ih = fewer p plans t (walk_behind p plans z (goes (made l end))) vs us ss ahead h.1 n in ((h.0, ih.0), ih.1)
fewer p plans t z vs us (goes (made l (trap c)) ∷ ss) ahead h n =
    let ih = fewer p plans t (walk_behind p plans z (goes (made l (trap c)))) vs us ss ahead h.1 n in ((h.0, ih.0), ih.1)
fewer p plans t z vs us (goes (made l (read x v)) ∷ ss) ahead h n =
    let ih = fewer p plans t (walk_behind p plans z (goes (made l (read x v)))) vs us ss ahead h.1 n in ((h.0, ih.0), ih.1)
fewer p plans t z vs us (goes (made l (write x v)) ∷ ss) ahead h n =
    let ih = fewer p plans t (walk_behind p plans z (goes (made l (write x v)))) vs us ss ahead h.1 n in ((h.0, ih.0), ih.1)
fewer p plans t z vs us (goes (made l (lock x)) ∷ ss) ahead h n =
    let ih = fewer p plans t (walk_behind p plans z (goes (made l (lock x)))) vs us ss ahead h.1 n in ((h.0, ih.0), ih.1)
fewer p plans t z vs us (goes (made l (unlock x)) ∷ ss) ahead h n =
    let ih = fewer p plans t (walk_behind p plans z (goes (made l (unlock x)))) vs us ss ahead h.1 n in ((h.0, ih.0), ih.1)
fewer p plans t z vs us (goes (made l (down x)) ∷ ss) ahead h n =
    let ih = fewer p plans t (walk_behind p plans z (goes (made l (down x)))) vs us ss ahead h.1 n in ((h.0, ih.0), ih.1)
fewer p plans t z vs us (goes (made l (up x)) ∷ ss) ahead h n =
    let ih = fewer p plans t (walk_behind p plans z (goes (made l (up x)))) vs us ss ahead h.1 n in ((h.0, ih.0), ih.1)
fewer p plans t z vs us (goes (made l (spawn c f ws)) ∷ ss) ahead h n =
    let ih = fewer p plans t (walk_behind p plans z (goes (made l (spawn c f ws)))) vs us ss ahead h.1 n in ((h.0, ih.0), ih.1)
fewer p plans t z vs us (goes (made l (join c)) ∷ ss) ahead h n =
    let ih = fewer p plans t (walk_behind p plans z (goes (made l (join c)))) vs us ss ahead h.1 n in ((h.0, ih.0), ih.1)
fewer p plans t z vs us (goes (made l (print v)) ∷ ss) ahead h n =
    let ih = fewer p plans t (walk_behind p plans z (goes (made l (print v)))) vs us ss ahead h.1 n in ((h.0, ih.0), ih.1)
fewer p plans t z vs us (goes (begins l env) ∷ ss) ahead h n =
    let ih = fewer p plans t (walk_behind p plans z (goes (begins l env))) vs us ss ahead h.1 n in ((h.0, ih.0), ih.1)
fewer p plans t z vs us (goes (done l) ∷ ss) ahead h n =
    let ih = fewer p plans t (walk_behind p plans z (goes (done l))) vs us ss ahead h.1 n in ((h.0, ih.0), ih.1)
fewer p plans t z vs us (goes (edge l) ∷ ss) ahead h n =
    let ih = fewer p plans t (walk_behind p plans z (goes (edge l))) vs us ss ahead h.1 n in ((h.0, ih.0), ih.1)
fewer p plans t z vs us (goes (enter f env) ∷ ss) ahead h n =
    let ih = fewer p plans t (walk_behind p plans z (goes (enter f env))) vs us ss ahead h.1 n in ((h.0, ih.0), ih.1)
fewer p plans t z vs us (goes (out f) ∷ ss) ahead h n =
    let ih = fewer p plans t (walk_behind p plans z (goes (out f))) vs us ss ahead h.1 n in ((h.0, ih.0), ih.1)
fewer p plans t z vs us (makes l (wait k n') ∷ ss) ahead h n =
    let ih = fewer p plans t (walk_behind p plans z (makes l (wait k n'))) vs us ss ahead h.1 n in ((h.0, ih.0), ih.1)
fewer p plans t z vs us (makes l (enters k c) ∷ ss) ahead h n =
    let ih = fewer p plans t (walk_behind p plans z (makes l (enters k c))) vs us ss ahead h.1 n in ((h.0, ih.0), ih.1)
fewer p plans t z vs us (makes l (at k ns) ∷ ss) ahead h n =
    let ih = fewer p plans t (walk_behind p plans z (makes l (at k ns))) vs us ss ahead h.1 n in ((h.0, ih.0), ih.1)
fewer p plans t z vs us (makes l (past k ns) ∷ ss) ahead h n =
    let ih = fewer p plans t (walk_behind p plans z (makes l (past k ns))) vs us ss ahead h.1 n in ((h.0, ih.0), ih.1)
fewer p plans t z vs us (makes l (post k n') ∷ ss) ahead h n =
    let ih = fewer p plans t (walk_behind p plans z (makes l (post k n'))) vs us ss ahead h.1 n in ((h.0, ih.0), ih.1)
fewer p plans t z vs us (makes l (leave k c) ∷ ss) ahead h n =
    let ih = fewer p plans t (walk_behind p plans z (makes l (leave k c))) vs us ss ahead h.1 n in ((h.0, ih.0), ih.1)
fewer p plans t z vs us (makes l back ∷ ss) ahead h n =
    let ih = fewer p plans t (walk_behind p plans z (makes l back)) vs us ss ahead h.1 n in ((h.0, ih.0), ih.1)
fewer p plans t z vs us (makes l (tick x) ∷ ss) ahead h n =
    let ih = fewer p plans t (walk_behind p plans z (makes l (tick x))) vs us ss ahead h.1 n in ((h.0, ih.0), ih.1)
fewer p plans t z [] us (makes l (cross x m k) ∷ ss) ahead h n = let no : ⊥ = omega arith in absurd no
fewer p plans t z (v ∷ vs) us (makes l (cross x m k) ∷ ss) ahead h n =
    let ih = fewer p plans t (crossing p plans z (v ∷ [])) vs us ss ahead h.1 (omega arith) in
    let c : MayCross p (to_take z ((v ∷ vs) ++ us)) (items ss ++ ahead) l x m k = h.0 in
    let d : MayCross p (to_take z (v ∷ vs)) (items ss ++ ahead) l x m k = record {
      place = c.place;
      next = place_same z ((v ∷ vs) ++ us) (v ∷ vs) z.owed (items ss ++ ahead) c.place c.next;
      number = c.number;
      line = c.line;
      version = c.version;
      passed = c.passed;
    } in
    ((d, ih.0), ih.1)
fewer p plans t z vs us (makes l (blocked what) ∷ ss) ahead h n =
    let ih = fewer p plans t (walk_behind p plans z (makes l (blocked what))) vs us ss ahead h.1 n in
    let c : MayBlock (to_take z (vs ++ us)) (items ss ++ ahead) l what = h.0 in
    let d : MayBlock (to_take z vs) (items ss ++ ahead) l what = record { asks = asks_same z (vs ++ us) vs (items ss ++ ahead) l what c.asks; not_yet = c.not_yet } in
    ((d, ih.0), ih.1)

-- the steps that tell the first entries
pub record CutSteps (t : ℕ) (ss : List PartStep) (es : List Entry) : Type 0 where
  pub before : List PartStep
  pub behind : List PartStep
  pub whole : ss ≡ before ++ behind
  pub same : filter_entries t before ≡ es

with_step : (t : ℕ) (s : PartStep) (ss : List PartStep) (es : List Entry) → ((us : List PartStep) → filter_entries t (s ∷ us) ≡ filter_entries t us) → CutSteps t ss es → CutSteps t (s ∷ ss) es
with_step t s ss es skips h = record { before = s ∷ h.before; behind = h.behind; whole = ap (◌∷◌ s) h.whole; same = skips h.before ∙ h.same }

with_told : (t : ℕ) (s : PartStep) (ss : List PartStep) (x y : Entry) (es fs : List Entry) → ((us : List PartStep) → filter_entries t (s ∷ us) ≡ x ∷ filter_entries t us) → x ∷ filter_entries t ss ≡ (y ∷ es) ++ fs
    → (filter_entries t ss ≡ es ++ fs → CutSteps t ss es) → CutSteps t (s ∷ ss) (y ∷ es)
with_told t s ss x y es fs tells h go =
    let first : x ≡ y = cc in
    let others : filter_entries t ss ≡ es ++ fs = cc in
    let c : CutSteps t ss es = go others in
    record { before = s ∷ c.before; behind = c.behind; whole = ap (◌∷◌ s) c.whole; same = tells c.before ∙ (ap (λ z. z ∷ filter_entries t c.before) first ∙ ap (◌∷◌ y) c.same) }

cut_steps : (t : ℕ) (ss : List PartStep) (es fs : List Entry) → filter_entries t ss ≡ es ++ fs → CutSteps t ss es
cut_steps t ss [] fs h = record { before = []; behind = ss; whole = refl; same = refl }
cut_steps t [] (x ∷ es) fs h = cc
cut_steps t (goes (made l a) ∷ ss) (x ∷ es) fs h = with_told t (goes (made l a)) ss (entry_by t l a) x es fs (λ us. refl) h (λ g. cut_steps t ss es fs g)
cut_steps t (makes l o ∷ ss) (x ∷ es) fs h = with_told t (makes l o) ss (entry_of_operation t l o) x es fs (λ us. refl) h (λ g. cut_steps t ss es fs g)
cut_steps t (goes (begins l env) ∷ ss) (x ∷ es) fs h = with_step t (goes (begins l env)) ss (x ∷ es) (λ us. refl) (cut_steps t ss (x ∷ es) fs h)
cut_steps t (goes (done l) ∷ ss) (x ∷ es) fs h = with_step t (goes (done l)) ss (x ∷ es) (λ us. refl) (cut_steps t ss (x ∷ es) fs h)
cut_steps t (goes (edge l) ∷ ss) (x ∷ es) fs h = with_step t (goes (edge l)) ss (x ∷ es) (λ us. refl) (cut_steps t ss (x ∷ es) fs h)
cut_steps t (goes (enter f env) ∷ ss) (x ∷ es) fs h = with_step t (goes (enter f env)) ss (x ∷ es) (λ us. refl) (cut_steps t ss (x ∷ es) fs h)
cut_steps t (goes (out f) ∷ ss) (x ∷ es) fs h = with_step t (goes (out f)) ss (x ∷ es) (λ us. refl) (cut_steps t ss (x ∷ es) fs h)

pub items_append : (us vs : List PartStep) → items (us ++ vs) ≡ items us ++ items vs
items_append [] vs = refl
items_append (goes i ∷ us) vs = ap (◌∷◌ i) (items_append us vs)
items_append (makes l o ∷ us) vs = items_append us vs

pub items_ahead : (us vs : List PartStep) (ahead : List Item) → items (us ++ vs) ++ ahead ≡ items us ++ (items vs ++ ahead)
items_ahead us vs ahead = ap (λ z. z ++ ahead) (items_append us vs) ∙ append_assoc (items us) (items vs) ahead

pub woven_front : (p : Source) (plans : Plans) (z : Walk) (us vs : List PartStep) (ahead : List Item) → AreWoven p plans z (us ++ vs) ahead → AreWoven p plans z us (items vs ++ ahead)
woven_front p plans z [] vs ahead h = tt
woven_front p plans z (u ∷ us) vs ahead h =
    (subst (MayStand p z u) (items_ahead us vs ahead) h.0, woven_front p plans (walk_behind p plans z u) us vs ahead h.1)

abbrev pub an_own : ℕ → ℕ → List ℤ → List Version → List Entry → Own
an_own t f args vs es = record { thread = t; func = f; args = args; versions = vs; entries = es }

pub part_front : (p : Source) (plans : Plans) (t f : ℕ) (args : List ℤ) (vs us : List Version) (es fs : List Entry) → takings es ≡ length vs
    → IsPart p plans (an_own t f args (vs ++ us) (es ++ fs)) → IsPart p plans (an_own t f args vs es)
part_front p plans t f args vs us es fs n h =
    let c : CutSteps t h.steps es = cut_steps t h.steps es fs h.tells in
    let woven : AreWoven p plans (unborn (vs ++ us)) (c.before ++ c.behind) h.ahead = subst (λ ss. AreWoven p plans (unborn (vs ++ us)) ss h.ahead) c.whole h.woven in
    let front : AreWoven p plans (unborn (vs ++ us)) c.before (items c.behind ++ h.ahead) = woven_front p plans (unborn (vs ++ us)) c.before c.behind h.ahead woven in
    let both : IsFront p plans (unborn []) vs c.before (items c.behind ++ h.ahead) =
    fewer p plans t (unborn []) vs us c.before (items c.behind ++ h.ahead) front (ap takings c.same ∙ n) in
    let trace : IsTrace p f args (items (c.before ++ c.behind) ++ h.ahead) h.outcome = subst (λ ss. IsTrace p f args (items ss ++ h.ahead) h.outcome) c.whole h.trace in
    record {
      steps = c.before;
      ahead = items c.behind ++ h.ahead;
      outcome = h.outcome;
      trace = subst (λ z. IsTrace p f args z h.outcome) (items_ahead c.before c.behind h.ahead) trace;
      woven = both.0;
      tells = c.same;
      taken = both.1;
    }

-- The first entry of a thread is its begin

abbrev pub IsBegin : Entry → Type 0
IsBegin y = (t : ℕ) × ((l : ℕ) × (y ≡ e.Begin t l))

-- these items begin with a begin, if there are any
abbrev pub BeginsSo : List Item → Type 0
BeginsSo [] = Unit {0}
BeginsSo (i ∷ is) = (l : ℕ) × (i ≡ made l begin)

pub begins_so : (p : Source) (f : ℕ) (args : List ℤ) (is : List Item) (r : Outcome) → IsTrace p f args is r → BeginsSo is
begins_so p f args [] r h = tt
begins_so p f args (i ∷ is) r h = trace_begins p f args i is r h

no_place_yet : (z : Walk) (is : List Item) (y : Place) → BeginsSo is → place_of_item z is ≡ Some y → ⊥
no_place_yet z [] y b h = cc
no_place_yet z (i ∷ is) y b h =
    let P : Item → Type 0 = λ j. place_of_item z (j ∷ is) ≡ Some y in
    let no : None ≡ Some y = subst P b.1 h in
    cc

no_act_yet : (is : List Item) (l : ℕ) (a : Act) → BeginsSo is → (begin ≡ a → ⊥) → Acts [] is l a → ⊥
no_act_yet [] l a b other h = h
no_act_yet (i ∷ is) l a b other h =
    let same : made b.0 begin ≡ made l a = sym b.1 ∙ h in
    other cc

not_asked : (vs : List Version) (is : List Item) (l : ℕ) (what : What) → BeginsSo is → AsksFor (unborn vs) is l what → ⊥
not_asked vs is l (w.Lock m) b h = no_act_yet is l (lock m) b (λ g. cc) h
not_asked vs is l (w.Down m) b h = no_act_yet is l (down m) b (λ g. cc) h
not_asked vs is l (w.Join c) b h = no_act_yet is l (join c) b (λ g. cc) h
not_asked vs is l (w.Enter k c) b h = h
not_asked vs is l (w.Wait k n) b h = h

pub no_operation : (p : Source) (vs : List Version) (is : List Item) (l : ℕ) (o : Operation) → BeginsSo is → MayStand p (unborn vs) (makes l o) is → ⊥
no_operation p vs is l (wait k n) b h = h
no_operation p vs is l (enters k c) b h = h
no_operation p vs is l (at k ns) b h = h
no_operation p vs is l (past k ns) b h = h
no_operation p vs is l (post k n) b h = h
no_operation p vs is l (leave k c) b h = h
no_operation p vs is l back b h = h
no_operation p vs is l (tick x) b h = h
no_operation p vs is l (cross x m n) b h = let c : MayCross p (unborn vs) is l x m n = h in no_place_yet (unborn vs) is c.place b c.next
no_operation p vs is l (blocked what) b h = let c : MayBlock (unborn vs) is l what = h in not_asked vs is l what b c.asks

-- the entry that the first step of a part tells
pub first_begins : (p : Source) (plans : Plans) (t f : ℕ) (args : List ℤ) (vs : List Version) (ss : List PartStep) (ahead : List Item) (r : Outcome) (y : Entry) (ys : List Entry)
    → IsTrace p f args (items ss ++ ahead) r → AreWoven p plans (unborn vs) ss ahead → filter_entries t ss ≡ y ∷ ys → IsBegin y
first_begins p plans t f args vs [] ahead r y ys trace h g = cc
first_begins p plans t f args vs (makes l o ∷ ss) ahead r y ys trace h g =
    absurd (no_operation p vs (items ss ++ ahead) l o (begins_so p f args (items ss ++ ahead) r trace) h.0)
first_begins p plans t f args vs (goes i ∷ ss) ahead r y ys trace h g =
    let b = trace_begins p f args i (items ss ++ ahead) r trace in
    let P : Item → Type 0 = λ j. filter_entries t (goes j ∷ ss) ≡ y ∷ ys in
    let so : e.Begin t b.0 ∷ filter_entries t ss ≡ y ∷ ys = subst P b.1 g in
    (t, (b.0, cc))

-- A thread that begins has done something

pub entry_thread : (t l : ℕ) (a : Act) → thread_of (entry_by t l a) ≡ Some t
entry_thread t l begin = refl
entry_thread t l end = refl
entry_thread t l (trap c) = refl
entry_thread t l (read x v) = refl
entry_thread t l (write x v) = refl
entry_thread t l (lock m) = refl
entry_thread t l (unlock m) = refl
entry_thread t l (down m) = refl
entry_thread t l (up m) = refl
entry_thread t l (spawn c f vs) = refl
entry_thread t l (join c) = refl
entry_thread t l (print v) = refl

pub idle_entries : (t : ℕ) (xs : List TargetEvent) → deeds t xs ≡ [] → entries_of t (map entry_of xs) ≡ []
idle_entries t [] h = refl
idle_entries t (x ∷ xs) h =
    by_test (x.thread == t) (entries_of t (entry_of x ∷ map entry_of xs) ≡ [])
    (λ b. let no : record { line = x.line; act = x.act } ∷ deeds t xs ≡ [] = sym (if_true (x.thread == t) (record { line = x.line; act = x.act } ∷ deeds t xs) (deeds t xs) b) ∙ h in cc)
    (λ b.
    let others : deeds t xs ≡ [] = sym (if_false (x.thread == t) (record { line = x.line; act = x.act } ∷ deeds t xs) (deeds t xs) b) ∙ h in
    let away : is_thread t (thread_of (entry_of x)) ≡ false = ap (is_thread t) (entry_thread x.thread x.line x.act) ∙ b in
    if_false (is_thread t (thread_of (entry_of x))) (entry_of x ∷ entries_of t (map entry_of xs)) (entries_of t (map entry_of xs)) away ∙ idle_entries t xs others)

one_idle : (t : ℕ) (x y : Entry) (th tg : Bool) (ts es ys : List Entry) → is_thread t (thread_of x) ≡ th → is_target x ≡ tg
    → entries_of t (if tg then x ∷ ts else ts) ≡ [] → (if th then x ∷ es else es) ≡ y ∷ ys → (entries_of t ts ≡ [] → es ≡ y ∷ ys → is_target y ≡ false) → is_target y ≡ false
one_idle t x y true true ts es ys a b h g go =
    let no : x ∷ entries_of t ts ≡ [] = sym (if_true (is_thread t (thread_of x)) (x ∷ entries_of t ts) (entries_of t ts) a) ∙ h in cc
one_idle t x y true false ts es ys a b h g go = let same : x ≡ y = cc in subst (λ z. is_target z ≡ false) same b
one_idle t x y false true ts es ys a b h g go = go (sym (if_false (is_thread t (thread_of x)) (x ∷ entries_of t ts) (entries_of t ts) a) ∙ h) g
one_idle t x y false false ts es ys a b h g go = go h g

-- a thread of which no target entry is among these: its first entry is none
idle_first : (t : ℕ) (es : List Entry) (y : Entry) (ys : List Entry) → entries_of t (targets es) ≡ [] → entries_of t es ≡ y ∷ ys → is_target y ≡ false
idle_first t [] y ys h g = cc
idle_first t (x ∷ es) y ys h g =
    one_idle t x y (is_thread t (thread_of x)) (is_target x) (targets es) (entries_of t es) ys refl refl h g (λ a b. idle_first t es y ys a b)

nothing_yet : (t : ℕ) (es : List Entry) (fs : List Entry) → entries_of t (targets es) ≡ [] → entries_of t es ≡ fs → ((y : Entry) (ys : List Entry) → fs ≡ y ∷ ys → IsBegin y) → fs ≡ []
nothing_yet t es [] h g first = refl
nothing_yet t es (y ∷ ys) h g first =
    let b = first y ys refl in
    let P : Entry → Type 0 = λ z. is_target z ≡ false in
    let no : true ≡ false = subst P b.1.1 (idle_first t es y ys h g) in
    cc

-- Fronts of journals

cut_first : (p : Source) (plans : Plans) (t f : ℕ) (args : List ℤ) (vs : List Version) (es fs : List Entry) → IsPart p plans (an_own t f args vs (es ++ fs))
    → (y : Entry) (ys : List Entry) → es ≡ y ∷ ys → IsBegin y
cut_first p plans t f args vs es fs h y ys is =
    first_begins p plans t f args vs h.steps h.ahead h.outcome y (ys ++ fs) h.trace h.woven (h.tells ∙ ap (λ z. z ++ fs) is)

part_of_front : (s : Setting) (front rest : List Entry) (t : ℕ) (x y : ThreadState) → x.func ≡ y.func → x.args ≡ y.args
    → IsPart s.program (plans s) (own s (front ++ rest) t y) → IsPart s.program (plans s) (own s front t x)
part_of_front s front rest t x y f a h =
    let cs : List Command = s.commands in
    let behind : List Version = versions_from cs t (control_after cs first_control front) rest in
    let more : IsPart s.program (plans s) (an_own t y.func y.args (versions_of cs t front ++ behind) (entries_of t front ++ entries_of t rest)) =
    subst (λ vs. IsPart s.program (plans s) (an_own t y.func y.args vs (entries_of t front ++ entries_of t rest))) (taken_append cs t first_control front rest)
    (subst (λ es. IsPart s.program (plans s) (an_own t y.func y.args (versions_of cs t (front ++ rest)) es)) (entries_append t front rest) h) in
    let cut : IsPart s.program (plans s) (an_own t y.func y.args (versions_of cs t front) (entries_of t front)) =
    part_front s.program (plans s) t y.func y.args (versions_of cs t front) behind (entries_of t front) (entries_of t rest) (takings_taken cs t first_control front) more in
    subst (λ g. IsPart s.program (plans s) (an_own t g x.args (versions_of cs t front) (entries_of t front))) (sym f)
    (subst (λ vs. IsPart s.program (plans s) (an_own t y.func vs (versions_of cs t front) (entries_of t front))) (sym a) cut)

pub has_part_front : (s : Setting) (front rest : List Entry) (t : ℕ) (o o' : Option ThreadState) → IsOf o o' → (o ≡ None → entries_of t (targets front) ≡ [])
    → HasPart s (front ++ rest) t o' → HasPart s front t o
has_part_front s front rest t None None is idle h = front_empty (entries_of t front) (entries_of t rest) (sym (entries_append t front rest) ∙ h)
has_part_front s front rest t None (Some y) is idle h =
    nothing_yet t front (entries_of t front) (idle refl) refl
    (cut_first s.program (plans s) t y.func y.args (versions_of s.commands t (front ++ rest)) (entries_of t front) (entries_of t rest)
    (subst (λ es. IsPart s.program (plans s) (an_own t y.func y.args (versions_of s.commands t (front ++ rest)) es)) (entries_append t front rest) h))
has_part_front s front rest t (Some x) None is idle h = absurd is
has_part_front s front rest t (Some x) (Some y) is idle h = part_of_front s front rest t x y is.0 is.1 h

pub less_behind : (s : Setting) (f : Front) (x : Entry) (more rest : List Entry) → Stands s f x (more ++ rest) → Stands s f x more
less_behind s f (e.Finish k) more rest h = (front_empty more rest h.0, h.1)
less_behind s f _ more rest h = h

pub fronts : (s : Setting) (front rest : List Entry) → IsStrict s (front ++ rest) → IsStrict s front
fronts s front rest h =
    let n : ℕ = length (targets front) in
    let xs : List TargetEvent = take n h.events in
    let ys : List TargetEvent = drop n h.events in
    let whole : xs ++ ys ≡ h.events = take-append-drop n h.events in
    let tells : map entry_of xs ≡ targets front = map_front entry_of h.events (targets front) (targets rest) (h.tells ∙ targets_append front rest) in
    let run : AreRun s.program s.threads (xs ++ ys) = subst (AreRun s.program s.threads) (sym whole) h.run in
    record {
      events = xs;
      tells = tells;
      run = run_front s.program s.threads xs ys run;
      parts = λ t.
          has_part_front s front rest t (thread_at (replay (start s.program s.threads) xs) t) (thread_at (replay (start s.program s.threads) (xs ++ ys)) t) (stays s.program s.threads xs ys t)
          (λ none. subst (λ es. entries_of t es ≡ []) tells
          (idle_entries t xs (nothing_done (start s.program s.threads) t xs (allowed_front (start s.program s.threads) xs ys run.allowed) none)))
          (subst (λ zs. HasPart s (front ++ rest) t (thread_at (replay (start s.program s.threads) zs) t)) (sym whole) (h.parts t));
      stands = λ earlier x more is.
          let m : ℕ = length (targets earlier) in
          let longer : targets front ≡ targets earlier ++ targets (x ∷ more) = ap targets is ∙ targets_append earlier (x ∷ more) in
          let few : m ≤ n = subst (λ zs. m ≤ length zs) (sym longer) (length_append (targets earlier) (targets (x ∷ more))) in
          let again : take m xs ≡ take m h.events = take_again m n h.events few in
          let there : front ++ rest ≡ earlier ++ x ∷ (more ++ rest) = ap (λ zs. zs ++ rest) is ∙ append_assoc earlier (x ∷ more) rest in
          subst (λ zs. Stands s (front_of s earlier zs) x more) (sym again)
          (less_behind s (front_of s earlier (take m h.events)) x more rest (h.stands earlier x (more ++ rest) there));
    }
