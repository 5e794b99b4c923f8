-- What the walk notes of a filter fits the course, behind each item.
use Rattle.std.proofs.Common.{ℕ, suc, ◌≡◌, ◌==◌, ◌⊎◌, inl, inr, Bool, true, false, ◌&&◌, List, [], ◌∷◌, length, Option, Some, None, refl, sym, ap, subst}
use Rattle.std.specs.List.{Contains}
use Rattle.loom_tree.specs.Tree.{Body, Function, Source}
use Rattle.loom_lang.specs.Places as place
use Rattle.loom_lang.specs.Trace.{Locals, begin, end, trap, read, write, lock, unlock, down, up, spawn, join, print, Item, made, begins, done, edge, enter, out}
use Rattle.loom_law.specs.Filter.{statement, function, Plan, matching, has, share, exit_events}
use Rattle.loom_law.specs.Walk.{Version, Plans, Operation, at, past, Inside, OpenStatement, OpenFrame, Spot, elsewhere, beginning, entered, complete, left, trapped, Queue, Walk, in_frame, open_statement, close_statement, is_left_with, owed_at, events_of_filter, begun_with, owed_behind, all_inside, inside_first, without_first, function_line, taking, behind_entry, after_item}
use Rattle.loom_law.specs.FilterView.{FilterView, settled, seen_item}
use Rattle.loom_law.specs.ThreadPart.{leaving}
use Rattle.loom_law.specs.OneRegion.{inside_by_frame}
use Rattle.loom_law.specs.Paths.{Node, Begins, watch_at, IsExit}
use Rattle.loom_law.specs.Paths as path
use Rattle.loom_law.proofs.Course.{Level, Course, AreNone, OnFirst, Follows, moved, Runs, no_member}
use Rattle.loom_law.proofs.Matches.{is_same, shared_one, one_shared, untested_matches}
use Rattle.loom_law.proofs.Sight.{FitsRange, one_line, range_moves}
use Rattle.loom_law.proofs.Sound.{SameFrames, SameLines, Is}
use Rattle.loom_law.proofs.OwedEvents.{never_both, AllOwed, ChangesNoEvents, at_all, behind_all, all_leaves_all, back_all, tick_all, IsInQueue, at_owed, past_owed}
use Rattle.loom_law.proofs.RegionNests.{only, Noted, OnPaths, FitFrames, AnyOf, inside_each, AreOneRegion}

-- What is owed

-- these are the events that match here
abbrev pub HereAt : Plan → Spot → List ℕ → Type 0
HereAt f elsewhere ns = ⊥
HereAt f (beginning l env) ns = ns ≡ matching f (statement l) env
HereAt f (entered g env) ns = ns ≡ matching f (function (Some g)) env
HereAt f (complete l) ns = ⊥
HereAt f (left g is) ns = ⊥
HereAt f (trapped l) ns = ⊥

abbrev pub IsDone : Spot → Type 0
IsDone elsewhere = ⊥
IsDone (beginning l env) = ⊥
IsDone (entered g env) = ⊥
IsDone (complete l) = Unit {0}
IsDone (left g is) = ⊥
IsDone (trapped l) = ⊥

-- of filter k, active among these, events begin where they match, and are complete behind a statement
abbrev pub AsksEvents : Plan → ℕ → List ℕ → Spot → Operation → Type 0
AsksEvents f k ks t (at j ns) = j ≡ k → (has ks k ≡ true) × HereAt f t ns
AsksEvents f k ks t (past j ns) = j ≡ k → IsDone t
AsksEvents f k ks t _ = Unit {0}

pub plain : (f : Plan) (k : ℕ) (ks : List ℕ) (t : Spot) → ChangesNoEvents (AsksEvents f k ks t)
plain f k ks t = record { waits = (λ a b. tt); enters = (λ a b. tt); posts = (λ a b. tt); leaves = (λ a b. tt); back = tt; ticks = (λ a. tt) }

-- events of the filter are still to begin here
abbrev pub Pending : ℕ → Queue → Type 0
Pending k os = (ns : List ℕ) × IsInQueue os (at k ns)

-- the region is left with events that are still to be told as complete
abbrev pub Leaving : ℕ → Queue → Inside → Type 0
Leaving k os i = (ns : List ℕ) × (IsInQueue os (past k ns) × (is_left_with k ns i ≡ true))

abbrev pub NoneInside : ℕ → List OpenFrame → Type 0
NoneInside k zs = (i : Inside) → AnyOf (inside_each zs) i → i.filter ≡ k → ⊥

-- what is noted of the filter while it is active, and while it isn't
abbrev pub Live : Plan → ℕ → Bool → Queue → List Level → List OpenFrame → Type 0
Live f k true os ls zs = FitFrames f k (λ n. Pending k os) (Leaving k os) ls zs
Live f k false os ls zs = NoneInside k zs

-- the same where nothing is owed
abbrev pub FitsAtRest : Plan → ℕ → Bool → List Level → List OpenFrame → Type 0
FitsAtRest f k true ls zs = FitFrames f k (λ n. ⊥) (λ i. ⊥) ls zs
FitsAtRest f k false ls zs = NoneInside k zs

abbrev pub IsCalled : List Level → Spot → Type 0
IsCalled ls elsewhere = Unit {0}
IsCalled ls (beginning l env) = Unit {0}
IsCalled ls (entered g env) = OnFirst ls (λ (x : Level) xs. x.func ≡ g)
IsCalled ls (complete l) = Unit {0}
IsCalled ls (left g is) = Unit {0}
IsCalled ls (trapped l) = Unit {0}

pub record FitsCourse (f : Plan) (k : ℕ) (ls : List Level) (z : Walk) : Type 0 where
  pub asks : AllOwed (AsksEvents f k z.active z.spot) z.owed
  pub live : Live f k (has z.active k) z.owed ls z.frames
  pub called : IsCalled ls z.spot

-- Other things that are owed

pub more_noted : (f : Plan) (k : ℕ) (E E' : ℕ → Type 0) (bs : List Body) (ss : List OpenStatement) → ((n : ℕ) → E n → E' n) → Noted f k E bs ss → Noted f k E' bs ss
more_noted f k E E' [] ss e h = tt
more_noted f k E E' (b ∷ bs) [] e h = tt
more_noted f k E E' (b ∷ bs) (s ∷ ss) e h = ((λ l n a u. by_cases n (h.0 l n a u)), h.1)
  where
    by_cases : (n : ℕ) → Contains (events_of_filter k s.events) n ⊎ E n → Contains (events_of_filter k s.events) n ⊎ E' n
    by_cases n (inl c) = inl c
    by_cases n (inr c) = inr (e n c)

pub more_paths : (f : Plan) (k : ℕ) (X X' : Inside → Type 0) (x : Level) (is : List Inside) → ((i : Inside) → X i → X' i) → OnPaths f k X x is → OnPaths f k X' x is
more_paths f k X X' x is e h i c ik = ((h i c ik).0, by_cases (h i c ik).1)
  where
    by_cases : FitsRange f x i.range ⊎ X i → FitsRange f x i.range ⊎ X' i
    by_cases (inl a) = inl a
    by_cases (inr a) = inr (e i a)

pub more_fit : (f : Plan) (k : ℕ) (E E' : ℕ → Type 0) (X X' : Inside → Type 0) (ls : List Level) (zs : List OpenFrame) → ((n : ℕ) → E n → E' n)
    → ((i : Inside) → X i → X' i) → FitFrames f k E X ls zs → FitFrames f k E' X' ls zs
more_fit f k E E' X X' [] zs e d h = tt
more_fit f k E E' X X' (x ∷ xs) [] e d h = tt
more_fit f k E E' X X' (x ∷ xs) (z ∷ zs) e d h = ((more_noted f k E E' x.opened z.statements e h.0.0, more_paths f k X X' x z.inside d h.0.1), h.1)

pub rests : (f : Plan) (k : ℕ) (b : Bool) (os : Queue) (ls : List Level) (zs : List OpenFrame) → os ≡ [] → Live f k b os ls zs → FitsAtRest f k b ls zs
rests f k true os ls zs is h =
    let P : Queue → Type 0 = λ q. FitFrames f k (λ n. Pending k q) (Leaving k q) ls zs in
    more_fit f k (λ n. Pending k []) (λ n. ⊥) (Leaving k []) (λ i. ⊥) ls zs (λ n a. a.1) (λ i a. a.1.0) (subst P is h)
rests f k false os ls zs is h = h

pub lives : (f : Plan) (k : ℕ) (b : Bool) (os : Queue) (ls : List Level) (zs : List OpenFrame) → FitsAtRest f k b ls zs → Live f k b os ls zs
lives f k true os ls zs h = more_fit f k (λ n. ⊥) (λ n. Pending k os) (λ i. ⊥) (Leaving k os) ls zs (λ n a. absurd a) (λ i a. absurd a) h
lives f k false os ls zs h = h

none_live : (f : Plan) (k : ℕ) (b : Bool) (os : Queue) (zs : List OpenFrame) → SameFrames [] zs → Live f k b os [] zs
none_live f k true os zs h = tt
none_live f k false os [] h = λ i m. absurd m
none_live f k false os (z ∷ zs) h = absurd h

none_same : (ls : List Level) (zs : List OpenFrame) → AreNone ls → SameFrames ls zs → SameFrames [] zs
none_same [] zs n h = h
none_same (x ∷ xs) zs n h = absurd n

nothing_owed : (Q : Operation → Type 0) (os : Queue) → os ≡ [] → AllOwed Q os
nothing_owed Q os is = subst (AllOwed Q) (sym is) tt

abbrev lv : ℕ → Function → Option Node → List Body → Level
lv g fn m os = record { func = g; function = fn; node = m; opened = os }

abbrev fr : ℕ → List OpenStatement → List Inside → OpenFrame
fr g ss is = record { func = g; statements = ss; inside = is }

-- Items

begin_fits : (f : Plan) (k : ℕ) (z : Walk) (vs : List Version) → z.owed ≡ [] → SameFrames [] z.frames → FitsCourse f k [] (taking (behind_entry z) vs)
begin_fits f k z [] is same = record { asks = nothing_owed _ z.owed is; live = none_live f k (has z.active k) z.owed z.frames same; called = tt }
begin_fits f k z (v ∷ vs) is same = record { asks = nothing_owed _ z.owed is; live = none_live f k (has v.active k) z.owed z.frames same; called = tt }

act_fits : (f : Plan) (k : ℕ) (ls : List Level) (z : Walk) → z.owed ≡ [] → FitsCourse f k ls z → FitsCourse f k ls (behind_entry z)
act_fits f k ls z is h = record { asks = nothing_owed _ z.owed is; live = h.live; called = tt }

begins_live : (plans : Plans) (k : ℕ) (b : Bool) (ks : List ℕ) (hs : List (ℕ × ℕ)) (x : Level) (xs : List Level) (zs : List OpenFrame) (l : ℕ) (env : Locals) (y : Body)
    → has ks k ≡ b → Begins y l → Follows x.function x.node (path.begins l) → FitsAtRest (plans k) k b (x ∷ xs) zs
    → Live (plans k) k b (owed_at plans hs l (statement l) env ks) (moved x (path.begins l) (y ∷ x.opened) ∷ xs) (in_frame (open_statement l) zs)
begins_live plans k true ks hs x xs [] l env y active begun fol h = tt
begins_live plans k true ks hs x xs (z ∷ zs) l env y active begun fol h = (
  (
    ((λ m n first is. inr (matching (plans k) (statement l) env, at_owed plans hs l (statement l) env ks k n active (untested_matches (plans k) l env n (on_line m n first is)))), h.0.0),
    (λ i c ik. ((h.0.1 i c ik).0, inl (range_moves (plans k) x (path.begins l) (y ∷ x.opened) i.range fol (λ e. e) (only (h.0.1 i c ik).1)))),
  ),
  h.1,
)
  where
    on_line : (m n : ℕ) → Begins y m → watch_at (plans k) n ≡ Some (record { site = statement m; test = None }) → watch_at (plans k) n ≡ Some (record { site = statement l; test = None })
    on_line m n first is =
        let P : ℕ → Type 0 = λ q. watch_at (plans k) n ≡ Some (record { site = statement q; test = None }) in
        subst P (one_line y m l first begun) is
begins_live plans k false ks hs x xs [] l env y active begun fol h = h
begins_live plans k false ks hs x xs (z ∷ zs) l env y active begun fol h = h

pub by_bool : {A : Type 0} (b : Bool) → (b ≡ true → A) → (b ≡ false → A) → A
by_bool true f g = f refl
by_bool false f g = g refl

both_true : (a b : Bool) → a ≡ true → b ≡ true → (a && b) ≡ true
both_true true b h g = g
both_true false b h g = cc

is_filter : (j k : ℕ) → j ≡ k → (j == k) ≡ true
is_filter j k e = subst (λ m. (j == m) ≡ true) e (is_same j)

done_live : (plans : Plans) (k : ℕ) (b : Bool) (ks : List ℕ) (hs : List (ℕ × ℕ)) (g : ℕ) (fn : Function) (m : Option Node) (y : Body) (ys : List Body) (xs : List Level)
    (u : ℕ) (ss : List OpenStatement) (is : List Inside) (zs : List OpenFrame) (l : ℕ) → has ks k ≡ b → Begins y l → Follows fn m (path.complete l) → SameLines (y ∷ ys) ss
    → FitsAtRest (plans k) k b (lv g fn m (y ∷ ys) ∷ xs) (fr u ss is ∷ zs)
    → Live (plans k) k b (owed_behind plans hs (fr u ss is ∷ zs) l (begun_with (fr u ss is ∷ zs)) ks) (lv g fn (Some (path.complete l)) ys ∷ xs) (fr u (without_first ss) is ∷ zs)
done_live plans k true ks hs g fn m y ys xs u [] is zs l active begun fol same h = absurd same
done_live plans k true ks hs g fn m y ys xs u (s ∷ ss) is zs l active begun fol same h =
    ((more_noted (plans k) k (λ n. ⊥) (λ n. Pending k os) ys ss (λ n a. absurd a) h.0.0.1, (λ i c ik. ((h.0.1 i c ik).0, left_or_stays i ik (only (h.0.1 i c ik).1)))), h.1)
  where
    os : Queue
    os = owed_behind plans hs (fr u (s ∷ ss) is ∷ zs) l (begun_with (fr u (s ∷ ss) is ∷ zs)) ks

    ns : List ℕ
    ns = events_of_filter k s.events

    left_or_stays : (i : Inside) → i.filter ≡ k → FitsRange (plans k) (lv g fn m (y ∷ ys)) i.range
        → FitsRange (plans k) (lv g fn (Some (path.complete l)) ys) i.range ⊎ Leaving k os i
    left_or_stays i ik a =
        by_bool (share (exit_events i.range) ns)
        (λ e. let one = shared_one (exit_events i.range) ns e in
        inr (ns, (past_owed plans hs (fr u (s ∷ ss) is ∷ zs) l s.events ks k one.0 active one.1.1, both_true (i.filter == k) (share (exit_events i.range) ns) (is_filter i.filter k ik) e)))
        (λ e. inl (range_moves (plans k) (lv g fn m (y ∷ ys)) (path.complete l) ys i.range fol
        (λ (x : IsExit (plans k) (exit_events i.range) l). never_both (share (exit_events i.range) ns)
        (one_shared (exit_events i.range) ns x.event x.one (only (h.0.0.0 l x.event begun x.is))) e) a))
done_live plans k false ks hs g fn m y ys xs u ss is zs l active begun fol same h = h

edge_live : (f : Plan) (k : ℕ) (b : Bool) (os : Queue) (x : Level) (xs : List Level) (zs : List OpenFrame) (l : ℕ) → Follows x.function x.node (path.turns l)
    → FitsAtRest f k b (x ∷ xs) zs → Live f k b os (moved x (path.turns l) x.opened ∷ xs) zs
edge_live f k true os x xs [] l fol h = tt
edge_live f k true os x xs (z ∷ zs) l fol h = (
  (
    more_noted f k (λ n. ⊥) (λ n. Pending k os) x.opened z.statements (λ n a. absurd a) h.0.0,
    (λ i c ik. ((h.0.1 i c ik).0, inl (range_moves f x (path.turns l) x.opened i.range fol (λ e. e) (only (h.0.1 i c ik).1)))),
  ),
  h.1,
)
edge_live f k false os x xs zs l fol h = h

enter_live : (f : Plan) (k : ℕ) (b : Bool) (os : Queue) (g : ℕ) (fn : Function) (ls : List Level) (zs : List OpenFrame) → FitsAtRest f k b ls zs
    → Live f k b os (lv g fn None [] ∷ ls) (fr g [] [] ∷ zs)
enter_live f k true os g fn ls zs h = ((tt, (λ i c ik. absurd (no_member i c))), h)
enter_live f k false os g fn ls zs h = λ i m ik. by_cases i ik m
  where
    by_cases : (i : Inside) → i.filter ≡ k → Contains [] i ⊎ AnyOf (inside_each zs) i → ⊥
    by_cases i ik (inl c) = no_member i c
    by_cases i ik (inr m) = h i m ik

out_live : (f : Plan) (k : ℕ) (b : Bool) (os : Queue) (x : Level) (xs : List Level) (zs : List OpenFrame) → SameFrames (x ∷ xs) zs → FitsAtRest f k b (x ∷ xs) zs
    → Live f k b os xs (without_first zs)
out_live f k b os x xs [] same h = absurd same
out_live f k true os x xs (z ∷ zs) same h = lives f k true os xs zs h.1
out_live f k false os x xs (z ∷ zs) same h = λ i m ik. h i (inr m) ik

begins_fits : (p : Source) (plans : Plans) (k : ℕ) (z : Walk) (l : ℕ) (env : Locals) (x : Level) (xs : List Level) (y : Body) → Begins y l
    → Follows x.function x.node (path.begins l) → FitsAtRest (plans k) k (has z.active k) (x ∷ xs) z.frames
    → FitsCourse (plans k) k (moved x (path.begins l) (y ∷ x.opened) ∷ xs) (after_item p plans z (begins l env))
begins_fits p plans k z l env x xs y begun fol h = record {
  asks = at_all (AsksEvents (plans k) k z.active (beginning l env)) plans z.held l (statement l) env z.active (plain (plans k) k z.active (beginning l env))
      (λ j g e. (subst (λ m. has z.active m ≡ true) e g, ap (λ m. matching (plans m) (statement l) env) e));
  live = begins_live plans k (has z.active k) z.active z.held x xs z.frames l env y refl begun fol h;
  called = tt;
}

done_fits : (p : Source) (plans : Plans) (k : ℕ) (z : Walk) (l : ℕ) (g : ℕ) (fn : Function) (m : Option Node) (y : Body) (ys : List Body) (xs : List Level) → Begins y l
    → Follows fn m (path.complete l) → SameFrames (lv g fn m (y ∷ ys) ∷ xs) z.frames → FitsAtRest (plans k) k (has z.active k) (lv g fn m (y ∷ ys) ∷ xs) z.frames
    → FitsCourse (plans k) k (lv g fn (Some (path.complete l)) ys ∷ xs) (after_item p plans z (done l))
done_fits p plans k z l g fn m y ys xs begun fol same h = record {
  asks = behind_all (AsksEvents (plans k) k z.active (complete l)) plans z.held z.frames l (begun_with z.frames) z.active (plain (plans k) k z.active (complete l)) (λ j ns e. tt);
  live = on_frames z.frames same h;
  called = tt;
}
  where
    on_frames : (zs : List OpenFrame) → SameFrames (lv g fn m (y ∷ ys) ∷ xs) zs → FitsAtRest (plans k) k (has z.active k) (lv g fn m (y ∷ ys) ∷ xs) zs
        → Live (plans k) k (has z.active k) (owed_behind plans z.held zs l (begun_with zs) z.active) (lv g fn (Some (path.complete l)) ys ∷ xs) (in_frame close_statement zs)
    on_frames [] same' h' = absurd same'
    on_frames (w ∷ ws) same' h' =
        done_live plans k (has z.active k) z.active z.held g fn m y ys xs w.func w.statements w.inside ws l refl begun fol same'.1.0 h'

pub item_fits : (p : Source) (plans : Plans) (k : ℕ) (s : Course) (z : Walk) (w : FilterView) (i : Item) (P : Course → Type 0) → Is p (plans k) s z w → z.owed ≡ []
    → FitsCourse (plans k) k s.levels z → Runs p s i P → Runs p s i (λ s'. P s' × FitsCourse (plans k) k s'.levels (after_item p plans z i))
item_fits p plans k s z w (made l begin) P is o h r = (r.0, (r.1.0, (r.1.1, begin_fits (plans k) k z z.coming o (none_same s.levels z.frames r.0 is.frames))))
item_fits p plans k s z w (made l end) P is o h r =
    (r.0, (r.1, record { asks = nothing_owed _ z.owed o; live = none_live (plans k) k (has z.active k) z.owed z.frames (none_same s.levels z.frames r.0 is.frames); called = tt }))
item_fits p plans k s z w (made l (trap c)) P is o h r = (
  r.0,
  (
    r.1,
    record {
      asks = all_leaves_all (AsksEvents (plans k) k z.active (trapped l)) plans z.held [] l z.active (plain (plans k) k z.active (trapped l));
      live = none_live (plans k) k (has z.active k) _ [] tt;
      called = tt;
    },
  ),
)
item_fits p plans k s z w (made l (read x v)) P is o h r = (r.0, (r.1, act_fits (plans k) k s.levels z o h))
item_fits p plans k s z w (made l (write x v)) P is o h r = (r.0, (r.1, act_fits (plans k) k s.levels z o h))
item_fits p plans k s z w (made l (lock m)) P is o h r = (r.0, (r.1, act_fits (plans k) k s.levels z o h))
item_fits p plans k s z w (made l (unlock m)) P is o h r = (r.0, (r.1, act_fits (plans k) k s.levels z o h))
item_fits p plans k s z w (made l (down x)) P is o h r = (r.0, (r.1, act_fits (plans k) k s.levels z o h))
item_fits p plans k s z w (made l (up x)) P is o h r = (r.0, (r.1, act_fits (plans k) k s.levels z o h))
item_fits p plans k s z w (made l (spawn c g vs)) P is o h r = (r.0, (r.1, act_fits (plans k) k s.levels z o h))
item_fits p plans k s z w (made l (join c)) P is o h r = (r.0, (r.1, act_fits (plans k) k s.levels z o h))
item_fits p plans k s z w (made l (print v)) P is o h r = (r.0, (r.1, act_fits (plans k) k s.levels z o h))
item_fits p plans k s z w (begins l env) P is o h r = on_levels s.levels (rests (plans k) k (has z.active k) z.owed s.levels z.frames o h.live) r
  where
    on_levels : (ls : List Level) → FitsAtRest (plans k) k (has z.active k) ls z.frames → Runs p (record { levels = ls; gone = [] }) (begins l env) P
        → Runs p (record { levels = ls; gone = [] }) (begins l env) (λ s'. P s' × FitsCourse (plans k) k s'.levels (after_item p plans z (begins l env)))
    on_levels [] h' r' = absurd r'
    on_levels (x ∷ xs) h' (b, (begun, (there, (fol, goes)))) = (b, (begun, (there, (fol, (goes, begins_fits p plans k z l env x xs b begun fol h')))))
item_fits p plans k s z w (done l) P is o h r = on_levels s.levels is.frames (rests (plans k) k (has z.active k) z.owed s.levels z.frames o h.live) r
  where
    on_opened : (g : ℕ) (fn : Function) (m : Option Node) (os : List Body) (xs : List Level) → SameFrames (lv g fn m os ∷ xs) z.frames → FitsAtRest (plans k) k (has z.active k) (lv g fn m os ∷ xs) z.frames
        → Runs p (record { levels = lv g fn m os ∷ xs; gone = [] }) (done l) P
        → Runs p (record { levels = lv g fn m os ∷ xs; gone = [] }) (done l) (λ s'. P s' × FitsCourse (plans k) k s'.levels (after_item p plans z (done l)))
    on_opened g fn m [] xs same h' r' = absurd r'
    on_opened g fn m (b ∷ bs) xs same h' r' = (r'.0, (r'.1.0, (r'.1.1, done_fits p plans k z l g fn m b bs xs r'.0 r'.1.0 same h')))

    on_levels : (ls : List Level) → SameFrames ls z.frames → FitsAtRest (plans k) k (has z.active k) ls z.frames → Runs p (record { levels = ls; gone = [] }) (done l) P
        → Runs p (record { levels = ls; gone = [] }) (done l) (λ s'. P s' × FitsCourse (plans k) k s'.levels (after_item p plans z (done l)))
    on_levels [] same h' r' = absurd r'
    on_levels (x ∷ xs) same h' r' = on_opened x.func x.function x.node x.opened xs same h' r'
item_fits p plans k s z w (edge l) P is o h r = on_levels s.levels (rests (plans k) k (has z.active k) z.owed s.levels z.frames o h.live) r
  where
    on_opened : (g : ℕ) (fn : Function) (m : Option Node) (os : List Body) (xs : List Level) → FitsAtRest (plans k) k (has z.active k) (lv g fn m os ∷ xs) z.frames
        → Runs p (record { levels = lv g fn m os ∷ xs; gone = [] }) (edge l) P
        → Runs p (record { levels = lv g fn m os ∷ xs; gone = [] }) (edge l) (λ s'. P s' × FitsCourse (plans k) k s'.levels (after_item p plans z (edge l)))
    on_opened g fn m [] xs h' r' = absurd r'
    on_opened g fn m (b ∷ bs) xs h' r' = (
      r'.0,
      (
        r'.1.0,
        (
          r'.1.1,
          record {
            asks = tick_all (AsksEvents (plans k) k z.active elsewhere) p (place.back_edge l) (suc (length z.passed)) [] (plain (plans k) k z.active elsewhere) tt;
            live = edge_live (plans k) k (has z.active k) _ (lv g fn m (b ∷ bs)) xs z.frames l r'.1.0 h';
            called = tt;
          },
        ),
      ),
    )

    on_levels : (ls : List Level) → FitsAtRest (plans k) k (has z.active k) ls z.frames → Runs p (record { levels = ls; gone = [] }) (edge l) P
        → Runs p (record { levels = ls; gone = [] }) (edge l) (λ s'. P s' × FitsCourse (plans k) k s'.levels (after_item p plans z (edge l)))
    on_levels [] h' r' = absurd r'
    on_levels (x ∷ xs) h' r' = on_opened x.func x.function x.node x.opened xs h' r'
item_fits p plans k s z w (enter g env) P is o h r = (
  r.0,
  (
    r.1.0,
    (
      r.1.1.0,
      (
        r.1.1.1,
        record {
          asks = tick_all (AsksEvents (plans k) k z.active (entered g env)) p (place.entry g) (suc (length z.passed)) _ (plain (plans k) k z.active (entered g env))
              (at_all (AsksEvents (plans k) k z.active (entered g env)) plans z.held (function_line p g) (function (Some g)) env z.active (plain (plans k) k z.active (entered g env))
              (λ j q e. (subst (λ m. has z.active m ≡ true) e q, ap (λ m. matching (plans m) (function (Some g)) env) e)));
          live = enter_live (plans k) k (has z.active k) _ g r.1.0 s.levels z.frames (rests (plans k) k (has z.active k) z.owed s.levels z.frames o h.live);
          called = refl;
        },
      ),
    ),
  ),
)
item_fits p plans k s z w (out g) P is o h r = on_levels s.levels is.frames (rests (plans k) k (has z.active k) z.owed s.levels z.frames o h.live) r
  where
    on_levels : (ls : List Level) → SameFrames ls z.frames → FitsAtRest (plans k) k (has z.active k) ls z.frames → Runs p (record { levels = ls; gone = [] }) (out g) P
        → Runs p (record { levels = ls; gone = [] }) (out g) (λ s'. P s' × FitsCourse (plans k) k s'.levels (after_item p plans z (out g)))
    on_levels [] same h' r' = absurd r'
    on_levels (x ∷ xs) same h' r' = (
      r'.0,
      (
        r'.1.0,
        (
          r'.1.1.0,
          (
            r'.1.1.1,
            record {
              asks = back_all (AsksEvents (plans k) k z.active (left g (inside_first z.frames))) (function_line p g) _ (plain (plans k) k z.active (left g (inside_first z.frames)))
                  (all_leaves_all (AsksEvents (plans k) k z.active (left g (inside_first z.frames))) plans z.held (all_inside (without_first z.frames)) (function_line p g) z.active
                  (plain (plans k) k z.active (left g (inside_first z.frames))));
              live = out_live (plans k) k (has z.active k) _ x xs z.frames same h';
              called = tt;
            },
          ),
        ),
      ),
    )

-- Regions of a clause stay one

pub less_leaving : (k : ℕ) (is : List Inside) (iss : List (List Inside)) → AreOneRegion k (is ∷ iss) → AreOneRegion k ([] ∷ iss)
less_leaving k is iss h = (((λ i j c. absurd (no_member i c)), (λ i j c. absurd (no_member i c))), h.1)

taking_one : (k : ℕ) (z : Walk) (vs : List Version) → AreOneRegion k (inside_by_frame z) → AreOneRegion k (inside_by_frame (taking (behind_entry z) vs))
taking_one k z [] h = less_leaving k (leaving z.spot) (inside_each z.frames) h
taking_one k z (v ∷ vs) h = less_leaving k (leaving z.spot) (inside_each z.frames) h

same_inside : (g : OpenFrame → OpenFrame) (k : ℕ) (zs : List OpenFrame) → ((x : OpenFrame) → OpenFrame.inside (g x) ≡ x.inside) → AreOneRegion k ([] ∷ inside_each zs)
    → AreOneRegion k ([] ∷ inside_each (in_frame g zs))
same_inside g k [] e h = h
same_inside g k (z ∷ zs) e h =
    let P : List Inside → Type 0 = λ is. AreOneRegion k ([] ∷ is ∷ inside_each zs) in
    subst P (sym (e z)) h

out_one : (k : ℕ) (zs : List OpenFrame) → AreOneRegion k (inside_each zs) → AreOneRegion k (inside_first zs ∷ inside_each (without_first zs))
out_one k [] h = (((λ i j c. absurd (no_member i c)), (λ i j c. absurd (no_member i c))), tt)
out_one k (z ∷ zs) h = h

pub item_one : (p : Source) (plans : Plans) (k : ℕ) (z : Walk) (i : Item) → AreOneRegion k (inside_by_frame z) → AreOneRegion k (inside_by_frame (after_item p plans z i))
item_one p plans k z (made l begin) h = taking_one k z z.coming h
item_one p plans k z (made l end) h = less_leaving k (leaving z.spot) (inside_each z.frames) h
item_one p plans k z (made l (trap c)) h = (((λ i j c'. absurd (no_member i c')), (λ i j c'. absurd (no_member i c'))), tt)
item_one p plans k z (made l (read x v)) h = less_leaving k (leaving z.spot) (inside_each z.frames) h
item_one p plans k z (made l (write x v)) h = less_leaving k (leaving z.spot) (inside_each z.frames) h
item_one p plans k z (made l (lock m)) h = less_leaving k (leaving z.spot) (inside_each z.frames) h
item_one p plans k z (made l (unlock m)) h = less_leaving k (leaving z.spot) (inside_each z.frames) h
item_one p plans k z (made l (down x)) h = less_leaving k (leaving z.spot) (inside_each z.frames) h
item_one p plans k z (made l (up x)) h = less_leaving k (leaving z.spot) (inside_each z.frames) h
item_one p plans k z (made l (spawn c g vs)) h = less_leaving k (leaving z.spot) (inside_each z.frames) h
item_one p plans k z (made l (join c)) h = less_leaving k (leaving z.spot) (inside_each z.frames) h
item_one p plans k z (made l (print v)) h = less_leaving k (leaving z.spot) (inside_each z.frames) h
item_one p plans k z (begins l env) h = same_inside (open_statement l) k z.frames (λ x. refl) (less_leaving k (leaving z.spot) (inside_each z.frames) h)
item_one p plans k z (done l) h = same_inside close_statement k z.frames (λ x. refl) (less_leaving k (leaving z.spot) (inside_each z.frames) h)
item_one p plans k z (edge l) h = less_leaving k (leaving z.spot) (inside_each z.frames) h
item_one p plans k z (enter g env) h =
    (((λ i j c. absurd (no_member i c)), (λ i j c. absurd (no_member i c))), (((λ i j c. absurd (no_member i c)), (λ i j c. absurd (no_member i c))), h.1))
item_one p plans k z (out g) h = out_one k z.frames h.1

-- Events that match here are those of a beginning

abbrev pub IsCalm : Spot → List ℕ → Type 0
IsCalm elsewhere ns = ns ≡ []
IsCalm (beginning l env) ns = Unit {0}
IsCalm (entered g env) ns = Unit {0}
IsCalm (complete l) ns = ns ≡ []
IsCalm (left g is) ns = ns ≡ []
IsCalm (trapped l) ns = ns ≡ []

taking_calm : (z : Walk) (vs : List Version) → IsCalm (Walk.spot (taking (behind_entry z) vs)) []
taking_calm z [] = refl
taking_calm z (v ∷ vs) = refl

pub item_calm : (p : Source) (plans : Plans) (f : Plan) (z : Walk) (w : FilterView) (i : Item)
    → IsCalm (Walk.spot (after_item p plans z i)) (FilterView.here (seen_item f (after_item p plans z i) (settled f w) i))
item_calm p plans f z w (made l begin) = taking_calm z z.coming
item_calm p plans f z w (made l end) = refl
item_calm p plans f z w (made l (trap c)) = refl
item_calm p plans f z w (made l (read x v)) = refl
item_calm p plans f z w (made l (write x v)) = refl
item_calm p plans f z w (made l (lock m)) = refl
item_calm p plans f z w (made l (unlock m)) = refl
item_calm p plans f z w (made l (down x)) = refl
item_calm p plans f z w (made l (up x)) = refl
item_calm p plans f z w (made l (spawn c g vs)) = refl
item_calm p plans f z w (made l (join c)) = refl
item_calm p plans f z w (made l (print v)) = refl
item_calm p plans f z w (begins l env) = tt
item_calm p plans f z w (done l) = refl
item_calm p plans f z w (edge l) = refl
item_calm p plans f z w (enter g env) = tt
item_calm p plans f z w (out g) = refl
